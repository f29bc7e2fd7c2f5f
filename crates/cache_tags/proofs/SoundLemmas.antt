-- Each change leaves a set sound.
use Rattle.std.proofs.Common.{◌≡◌, ℕ, suc, ◌+◌, ◌-◌, ◌<◌, ◌≤◌, ◌==◌, Bool, true, false, not, cond, List, [], ◌∷◌, length, get_or, take, map, refl, ◌∙◌, ap, subst, arith, Option, Some, None, zero, ◌⊎◌, inl, inr}
use Rattle.std.specs.Prelude.{count_by, slice_get}
use Rattle.std.specs.Option.{option_map_or}
use Rattle.std.specs.List.Sorted.{IsPermutation}
use Rattle.std.proofs.lemmas.Bool.{cases_eq, eq-eqb, ne_eqb}
use Rattle.std.proofs.lemmas.List.{length-map, length-take, length-append, length-drop}
use Rattle.std.proofs.lemmas.List.Sums.{sum_by-cons, sum_by-take-le}
use Rattle.std.proofs.lemmas.List.Elements.{All-nil, All-cons, All-take, All-map, All-weaker}
use Rattle.std.proofs.lemmas.List.Sorted.{IsPermutation-filter_both, All-permutation, length_permutation, sum_by-IsPermutation}
use Rattle.std.proofs.lemmas.Option.{slice_get_within, get_or_from_slice_get}
use Rattle.cache_tags.specs.Line.{Line, put_at, rewritten}
use Rattle.cache_tags.specs.Held.{Held, CacheSet, of_address, used, write_in, written_in, with_line, IsSoundSet}
use Rattle.cache_tags.proofs.Counts.{bit, count_by-map, count_by-none, count_by-not_found, count_by-before}

-- nothing stands from a place on
pub past : {X : Type 0} (xs : List X) (i : ℕ) → slice_get xs i ≡ None → length xs ≤ i
past [] i e = omega arith
past (x ∷ xs) zero e = absurd cc
past (x ∷ xs) (suc i) e = omega (arith, past xs i e)

-- a set of which all that is asked is what it holds
abbrev with_held : CacheSet → List Held → CacheSet
with_held s hs = record s { held = hs }

pub empty_sound : (ways line : ℕ) → IsSoundSet (record { ways = ways; line = line; held = [] })
empty_sound ways line =
    record {
      few = omega arith;
      whole = All-nil (λ h. length h.line.bytes ≡ line);
      one_line = λ a. omega arith;
      one_way = λ w. omega arith;
      within = All-nil (λ h. h.way < 0);
    }

-- the same lines in another order
pub moved_sound : (s : CacheSet) (hs : List Held) → IsPermutation s.held hs → IsSoundSet s → IsSoundSet (with_held s hs)
moved_sound s hs perm ok =
    let same : length hs ≡ length s.held = length_permutation s.held hs perm in
    record {
      few = omega (arith, same, ok.few);
      whole = All-permutation (λ h. length h.line.bytes ≡ s.line) s.held hs perm ok.whole;
      one_line = λ a. omega (arith, sum_by-IsPermutation (λ (h : Held). cond (h.line.address == a) 1 0) s.held hs perm, ok.one_line a);
      one_way = λ w. omega (arith, sum_by-IsPermutation (λ (h : Held). cond (h.way == w) 1 0) s.held hs perm, ok.one_way w);
      within = All-weaker (λ h. h.way < length s.held) (λ h. h.way < length hs) (λ h k. omega (arith, same)) hs
          (All-permutation (λ h. h.way < length s.held) s.held hs perm ok.within);
    }

-- a line is used
pub used_permutes : (w : ℕ) (hs : List Held) → IsPermutation hs (used w hs)
used_permutes w hs = IsPermutation-filter_both (λ h. h.way == w) (λ h. not (h.way == w)) (λ h. refl) hs

pub used_sound : (s : CacheSet) (w : ℕ) → IsSoundSet s → IsSoundSet (with_held s (used w s.held))
used_sound s w ok = moved_sound s (used w s.held) (used_permutes w s.held) ok

-- bytes are written to a line
pub length-put_at : (bytes : List ℕ) (offset : ℕ) (others : List ℕ) → offset + length others ≤ length bytes → length (put_at bytes offset others) ≡ length bytes
length-put_at bytes offset others h = simp (length-append, length-take, length-drop) (omega arith)

pub write_way : (w offset : ℕ) (bytes : List ℕ) (h : Held) → (write_in w offset bytes h).way ≡ h.way
write_way w offset bytes h = by (h.way == w) where
  by : (b : Bool) → (cond b (record h { line = rewritten h.line offset bytes }) h).way ≡ h.way
  by true = refl
  by false = refl

pub write_address : (w offset : ℕ) (bytes : List ℕ) (h : Held) → (write_in w offset bytes h).line.address ≡ h.line.address
write_address w offset bytes h = by (h.way == w) where
  by : (b : Bool) → (cond b (record h { line = rewritten h.line offset bytes }) h).line.address ≡ h.line.address
  by true = refl
  by false = refl

write_whole : (w offset : ℕ) (bytes : List ℕ) (size : ℕ) (h : Held) → offset + length bytes ≤ size → length h.line.bytes ≡ size
    → length (write_in w offset bytes h).line.bytes ≡ size
write_whole w offset bytes size h fits e = by (h.way == w) where
  by : (b : Bool) → length (cond b (record h { line = rewritten h.line offset bytes }) h).line.bytes ≡ size
  by true = length-put_at h.line.bytes offset bytes (omega arith) ∙ e
  by false = e

pub written_sound : (s : CacheSet) (w offset : ℕ) (bytes : List ℕ) → offset + length bytes ≤ s.line → IsSoundSet s
    → IsSoundSet (with_held s (written_in w offset bytes s.held))
written_sound s w offset bytes fits ok =
    let g : Held → Held = write_in w offset bytes in
    let same : length (map g s.held) ≡ length s.held = length-map s.held g in
    record {
      few = omega (arith, same, ok.few);
      whole = All-map (λ h. length h.line.bytes ≡ s.line) g s.held
          (All-weaker (λ h. length h.line.bytes ≡ s.line) (λ h. length (g h).line.bytes ≡ s.line) (λ h e. write_whole w offset bytes s.line h fits e) s.held ok.whole);
      one_line = λ a. omega (arith, ok.one_line a, count_by-map (λ h. h.line.address == a) g (λ h. ap (λ x. x == a) (write_address w offset bytes h)) s.held);
      one_way = λ v. omega (arith, ok.one_way v, count_by-map (λ h. h.way == v) g (λ h. ap (λ x. x == v) (write_way w offset bytes h)) s.held);
      within = All-map (λ h. h.way < length (map g s.held)) g s.held
          (All-weaker (λ h. h.way < length s.held) (λ h. (g h).way < length (map g s.held)) (λ h e. omega (arith, same, write_way w offset bytes h)) s.held ok.within);
    }

-- a line comes
module _ (s : CacheSet) (l : Line) (some : 0 < s.ways) (absent : of_address l.address s.held ≡ None) (whole : length l.bytes ≡ s.line) (ok : IsSoundSet s) where
  count-coming : (p : Held → Bool) (w : ℕ)
      → count_by p (record { way = w; line = l } ∷ take (s.ways - 1) s.held)
      ≡ cond (p (record { way = w; line = l })) 1 0 + count_by p (take (s.ways - 1) s.held)
  count-coming p w = sum_by-cons (λ (h : Held). cond (p h) 1 0) (record { way = w; line = l }) (take (s.ways - 1) s.held)

  one_line : (w a : ℕ) → count_by (λ h. h.line.address == a) (record { way = w; line = l } ∷ take (s.ways - 1) s.held) ≤ 1
  one_line w a = by (cases_eq l.address a) where
    part : count_by (λ h. h.line.address == a) (take (s.ways - 1) s.held) ≤ count_by (λ h. h.line.address == a) s.held
    part = sum_by-take-le (λ (h : Held). cond (h.line.address == a) 1 0) s.held (s.ways - 1)

    by : (l.address ≡ a) ⊎ (l.address ≡ a → ⊥) → count_by (λ h. h.line.address == a) (record { way = w; line = l } ∷ take (s.ways - 1) s.held) ≤ 1
    by (inl e) =
        let none : count_by (λ h. h.line.address == a) s.held ≡ 0 = count_by-not_found (λ (h : Held). h.line.address == a) s.held (subst (λ x. of_address x s.held ≡ None) e absent) in
        let one : bit (l.address == a) ≡ 1 = rw (eq-eqb l.address a e) refl in
        omega (arith, one, none, part, count-coming (λ h. h.line.address == a) w)
    by (inr n) =
        let none : bit (l.address == a) ≡ 0 = rw (ne_eqb l.address a n) refl in
        omega (arith, none, part, ok.one_line a, count-coming (λ h. h.line.address == a) w)

  -- where a way is free
  free_way : (v : ℕ) → length s.held ≤ s.ways - 1 → count_by (λ h. h.way == v) (record { way = length s.held; line = l } ∷ take (s.ways - 1) s.held) ≤ 1
  free_way v room = by (cases_eq (length s.held) v) where
    part : count_by (λ h. h.way == v) (take (s.ways - 1) s.held) ≤ count_by (λ h. h.way == v) s.held
    part = sum_by-take-le (λ (h : Held). cond (h.way == v) 1 0) s.held (s.ways - 1)

    by : (length s.held ≡ v) ⊎ (length s.held ≡ v → ⊥) → count_by (λ h. h.way == v) (record { way = length s.held; line = l } ∷ take (s.ways - 1) s.held) ≤ 1
    by (inl e) =
        let none : count_by (λ h. h.way == v) s.held ≡ 0 = count_by-none (λ (h : Held). h.way == v) s.held
        (All-weaker (λ h. h.way < length s.held) (λ h. (h.way == v) ≡ false) (λ h k. ne_eqb h.way v (λ q. omega arith)) s.held ok.within) in
        let one : bit (length s.held == v) ≡ 1 = rw (eq-eqb (length s.held) v e) refl in
        omega (arith, one, none, part, count-coming (λ h. h.way == v) (length s.held))
    by (inr n) =
        let none : bit (length s.held == v) ≡ 0 = rw (ne_eqb (length s.held) v n) refl in
        omega (arith, none, part, ok.one_way v, count-coming (λ h. h.way == v) (length s.held))

  -- where a line leaves
  left_way : (v : ℕ) (h : Held) → slice_get s.held (s.ways - 1) ≡ Some h
      → count_by (λ h. h.way == v) (record { way = h.way; line = l } ∷ take (s.ways - 1) s.held) ≤ 1
  left_way v h e = by (cases_eq h.way v) where
    part : count_by (λ h. h.way == v) (take (s.ways - 1) s.held) ≤ count_by (λ h. h.way == v) s.held
    part = sum_by-take-le (λ (h : Held). cond (h.way == v) 1 0) s.held (s.ways - 1)

    by : (h.way ≡ v) ⊎ (h.way ≡ v → ⊥) → count_by (λ h. h.way == v) (record { way = h.way; line = l } ∷ take (s.ways - 1) s.held) ≤ 1
    by (inl q) =
        let one : bit (h.way == v) ≡ 1 = rw (eq-eqb h.way v q) refl in
        omega (arith, one, ok.one_way v, count_by-before (λ (h : Held). h.way == v) s.held (s.ways - 1) h e (eq-eqb h.way v q), count-coming (λ h. h.way == v) h.way)
    by (inr n) =
        let none : bit (h.way == v) ≡ 0 = rw (ne_eqb h.way v n) refl in
        omega (arith, none, part, ok.one_way v, count-coming (λ h. h.way == v) h.way)

  with_way_sound : (w : ℕ) → ((v : ℕ) → count_by (λ h. h.way == v) (record { way = w; line = l } ∷ take (s.ways - 1) s.held) ≤ 1)
      → w < suc (length (take (s.ways - 1) s.held)) → length s.held ≤ suc (length (take (s.ways - 1) s.held))
      → IsSoundSet (with_held s (record { way = w; line = l } ∷ take (s.ways - 1) s.held))
  with_way_sound w one below more =
      record {
        few = omega (arith, length-take (s.ways - 1) s.held);
        whole = All-cons (λ h. length h.line.bytes ≡ s.line) (record { way = w; line = l }) (take (s.ways - 1) s.held) whole
            (All-take (λ h. length h.line.bytes ≡ s.line) (s.ways - 1) s.held ok.whole);
        one_line = one_line w;
        one_way = one;
        within = All-cons (λ h. h.way < suc (length (take (s.ways - 1) s.held))) (record { way = w; line = l }) (take (s.ways - 1) s.held) below
            (All-take (λ h. h.way < suc (length (take (s.ways - 1) s.held))) (s.ways - 1) s.held
            (All-weaker (λ h. h.way < length s.held) (λ h. h.way < suc (length (take (s.ways - 1) s.held))) (λ h k. omega arith) s.held ok.within));
      }

  pub with_line_sound : IsSoundSet (with_held s (with_line s.ways l s.held))
  with_line_sound = by (slice_get s.held (s.ways - 1)) refl where
    by : (o : Option Held) → slice_get s.held (s.ways - 1) ≡ o
        → IsSoundSet (with_held s (record { way = option_map_or (λ h. h.way) o (length s.held); line = l } ∷ take (s.ways - 1) s.held))
    by None e =
        let room : length s.held ≤ s.ways - 1 = past s.held (s.ways - 1) e in
        with_way_sound (length s.held) (λ v. free_way v room) (omega (arith, length-take (s.ways - 1) s.held)) (omega (arith, length-take (s.ways - 1) s.held))
    by (Some h) e =
        let within : s.ways - 1 < length s.held = slice_get_within s.held (s.ways - 1) h e in
        let at : get_or s.held (s.ways - 1) h ≡ h = get_or_from_slice_get s.held (s.ways - 1) h h e in
        let below : (get_or s.held (s.ways - 1) h).way < length s.held = ok.within (s.ways - 1) h within in
        let low : h.way < length s.held = subst (λ (x : Held). x.way < length s.held) at below in
        with_way_sound h.way (λ v. left_way v h e) (omega (arith, ok.few, length-take (s.ways - 1) s.held)) (omega (arith, ok.few, length-take (s.ways - 1) s.held))
