-- How a cache's calls change what is stored.
use Rattle.std.proofs.Common.{◌≡◌, ℕ, suc, zero, ◌-◌, ◌/◌, ◌%◌, ◌^◌, ◌<◌, ◌≤◌, true, false, List, [], ◌∷◌, ◌++◌, length, get_or, set, take, drop, map, replicate, ◌↔◌, refl, sym, ◌∙◌, ap, subst, arith, mod-lt, bit_and, Option, Some, None, ◌⊎◌, inl, inr}
use Rattle.std.specs.Prelude.{All, is_some, slice_get}
use Rattle.std.specs.Option.{option_map}
use Rattle.std.proofs.lemmas.Bool.{cases_eq, cases_lt}
use Rattle.std.proofs.Math.Nat.{one-le-pow}
use Rattle.std.proofs.lemmas.Nat.{and_mask}
use Rattle.std.proofs.lemmas.List.{append-nil, take_all, drop_all, length-replicate, length-map, length-set, map-set, get_or-map, get_or_past, get_or-set_same, get_or-set_other}
use Rattle.std.proofs.lemmas.List.Elements.{All-same, All-replicate, All-set, All-nil, All-cons, All-take, All-map, All-weaker}
use Rattle.std.proofs.lemmas.List.Sorted.{All-permutation}
use Rattle.std.proofs.lemmas.Option.{slice_get_past, slice_get-map}
use Rattle.cache_tags.specs.declared.place.Place.{Place}
use Rattle.cache_tags.specs.declared.place.Victim.{Victim}
use Rattle.cache_tags.specs.Line.{Line, victim}
use Rattle.cache_tags.specs.Held.{Held, CacheSet, leaving, of_address, in_way, used, write_in, written_in, with_line, IsSoundSet}
use Rattle.cache_tags.specs.Kept.{Kept, empty, found, installed, victim_of, lines_at, base_of, set_of, set_at, with_set, line_at, BelongsTo, IsSoundCache}
use Rattle.cache_tags.specs.Store.{stored_cache, IsStoredCache}
use Rattle.cache_tags.proofs.SoundLemmas.{past, empty_sound, used_permutes, write_address}

-- a set that changes, and the others
pub set-same : (t : Kept) (s : ℕ) (hs : List Held) → s < length t.sets → set_at (with_set t s hs) s ≡ hs
set-same t s hs h = get_or-set_same t.sets s hs [] h

pub set-other : (t : Kept) (s : ℕ) (hs : List Held) (r : ℕ) → (r ≡ s → ⊥) → set_at (with_set t s hs) r ≡ set_at t r
set-other t s hs r n = get_or-set_other t.sets s r hs [] n

-- where there is a line there is a set
pub place_within : (t : Kept) (at : Place) → is_some (line_at t at) ≡ true → at.set < length t.sets
place_within t p e = by (cases_lt p.set (length t.sets)) where
  by : (p.set < length t.sets) ⊎ (length t.sets ≤ p.set) → p.set < length t.sets
  by (inl h) = h
  by (inr h) = let none : set_at t p.set ≡ [] = get_or_past t.sets p.set [] h in absurd (both none e) where
    both : set_at t p.set ≡ [] → is_some (line_at t p) ≡ true → ⊥
    both none e = let some : is_some (option_map (λ (h : Held). h.line) (in_way p.way [])) ≡ true = rw none at e in cc

-- a cache stays sound where the set that changes does
pub changed_sound : (t : Kept) (s : ℕ) (hs : List Held) → s < length t.sets → IsSoundCache t → IsSoundSet (record { ways = t.ways; line = t.line; held = hs })
    → All (BelongsTo t s) hs → IsSoundCache (with_set t s hs)
changed_sound t s hs within ok sound own =
    record {
      sound = λ r. sound_at r (cases_eq r s);
      own = λ r. own_at r (cases_eq r s);
    } where
      at_same : (r : ℕ) → r ≡ s → set_at (with_set t s hs) r ≡ hs
      at_same r e = ap (set_at (with_set t s hs)) e ∙ set-same t s hs within

      sound_at : (r : ℕ) → (r ≡ s) ⊎ (r ≡ s → ⊥) → IsSoundSet (record { ways = t.ways; line = t.line; held = set_at (with_set t s hs) r })
      sound_at r (inl e) = rw (at_same r e) sound
      sound_at r (inr n) = rw (set-other t s hs r n) (ok.sound r)

      belongs : (r : ℕ) (h : Held) → BelongsTo t r h → BelongsTo (with_set t s hs) r h
      belongs r h b = (ap (λ n. (h.line.address / t.line) % n) (length-set t.sets s hs) ∙ b.0, b.1)

      own_at : (r : ℕ) → (r ≡ s) ⊎ (r ≡ s → ⊥) → All (BelongsTo (with_set t s hs) r) (set_at (with_set t s hs) r)
      own_at r (inl e) =
          All-same (BelongsTo (with_set t s hs) r) (set_at (with_set t s hs) r) hs (at_same r e)
          (All-weaker (BelongsTo t r) (BelongsTo (with_set t s hs) r) (belongs r) hs (subst (λ x. All (BelongsTo t x) hs) (sym e) own))
      own_at r (inr n) =
          All-same (BelongsTo (with_set t s hs) r) (set_at (with_set t s hs) r) (set_at t r) (set-other t s hs r n)
          (All-weaker (BelongsTo t r) (BelongsTo (with_set t s hs) r) (belongs r) (set_at t r) (ok.own r))

-- the lines of a set belong to it after each call
pub used_own : (t : Kept) (s w : ℕ) → IsSoundCache t → All (BelongsTo t s) (used w (set_at t s))
used_own t s w ok = All-permutation (BelongsTo t s) (set_at t s) (used w (set_at t s)) (used_permutes w (set_at t s)) (ok.own s)

pub written_own : (t : Kept) (s w offset : ℕ) (bytes : List ℕ) → IsSoundCache t → All (BelongsTo t s) (written_in w offset bytes (set_at t s))
written_own t s w offset bytes ok =
    let g : Held → Held = write_in w offset bytes in
    All-map (BelongsTo t s) g (set_at t s)
    (All-weaker (BelongsTo t s) (λ h. BelongsTo t s (g h))
    (λ h b. let e = write_address w offset bytes h in (ap (set_of t) e ∙ b.0, ap (λ a. a % t.line) e ∙ b.1)) (set_at t s) (ok.own s))

pub with_line_own : (t : Kept) (l : Line) → l.address % t.line ≡ 0 → IsSoundCache t
    → All (BelongsTo t (set_of t l.address)) (with_line t.ways l (set_at t (set_of t l.address)))
with_line_own t l base ok =
    let s : ℕ = set_of t l.address in
    All-cons (BelongsTo t s) _ (take (t.ways - 1) (set_at t s)) (refl, base) (All-take (BelongsTo t s) (t.ways - 1) (set_at t s) (ok.own s))

-- no line leaves where a way is free, and there alone
pub none_leaves : (ways : ℕ) (hs : List Held) → 0 < ways → (r : Option Victim) → r ≡ option_map (λ (h : Held). victim h.line) (leaving ways hs)
    → (is_some r ≡ false) ↔ (length hs < ways)
none_leaves ways hs some r e = (λ none. free (leaving ways hs) refl (ap is_some (sym e) ∙ none), λ room. ap is_some (e ∙ ap (option_map (λ (h : Held). victim h.line)) (slice_get_past hs (ways - 1) (omega arith)))) where
  free : (o : Option Held) → leaving ways hs ≡ o → is_some (option_map (λ (h : Held). victim h.line) o) ≡ false → length hs < ways
  free None q k = omega (arith, past hs (ways - 1) q)
  free (Some h) q k = absurd cc

module _ (ways size shift mask : ℕ) (sets : List CacheSet) (ok : IsStoredCache ways size shift mask sets) where
  -- shift and mask pick the set
  pub set_picked : (a : ℕ) → bit_and (a / 2 ^ shift) mask ≡ set_of (stored_cache ways size sets) a
  set_picked a =
      let k : ℕ = ok.power.0 in
      let ones : mask ≡ 2 ^ k - 1 = omega (arith, ok.last, ok.power.1) in
      let count : 2 ^ k ≡ length (map (λ (s : CacheSet). s.held) sets) = sym (length-map sets (λ (s : CacheSet). s.held) ∙ ok.power.1) in
      ap (λ m. bit_and (a / 2 ^ shift) m) ones ∙ (and_mask (a / 2 ^ shift) k ∙ (ap (λ n. (a / n) % 2 ^ k) ok.bits ∙ ap (λ n. (a / size) % n) count))

  pub base_picked : (a : ℕ) → a - bit_and a (size - 1) ≡ base_of (stored_cache ways size sets) a
  base_picked a = ap (λ n. a - n) (ap (λ n. bit_and a (n - 1)) (sym ok.bits) ∙ (and_mask a shift ∙ ap (λ n. a % n) ok.bits))

  pub picked_within : (a : ℕ) → set_of (stored_cache ways size sets) a < length sets
  picked_within a =
      let long : length (map (λ (s : CacheSet). s.held) sets) ≡ length sets = length-map sets (λ (s : CacheSet). s.held) in
      omega (arith, mod-lt (a / size) {m = length (map (λ (s : CacheSet). s.held) sets)} (omega (arith, long, ok.last)), long)

  -- the set that is read at its number
  pub set_read : (i : ℕ) (s : CacheSet) → i < length sets → s ≡ get_or sets i s → set_at (stored_cache ways size sets) i ≡ s.held
  set_read i s h e = get_or-map (λ (s : CacheSet). s.held) sets i s [] h ∙ ap (λ (s : CacheSet). s.held) (sym e)

  pub place_stored : (p : Place) → is_some (line_at (stored_cache ways size sets) p) ≡ true → p.set < length sets
  place_stored p e = omega (arith, place_within (stored_cache ways size sets) p e, length-map sets (λ (s : CacheSet). s.held))

  -- it is as large as the others
  pub alike_read : (i : ℕ) (s : CacheSet) → i < length sets → s ≡ get_or sets i s → (s.ways ≡ ways) × (s.line ≡ size)
  alike_read i s within read =
      let there : ((get_or sets i s).ways ≡ ways) × ((get_or sets i s).line ≡ size) = ok.alike i s within in
      (ap (λ (x : CacheSet). x.ways) read ∙ there.0, ap (λ (x : CacheSet). x.line) read ∙ there.1)

  -- a set that changes
  module _ (i : ℕ) (s s' : CacheSet) (hs : List Held) (within : i < length sets) (read : s ≡ get_or sets i s) (is : s' ≡ record s { held = hs }) where
    pub set_stored : stored_cache ways size (set sets i s') ≡ with_set (stored_cache ways size sets) i hs
    set_stored =
        let f : CacheSet → List Held = λ s. s.held in
        ap (λ xs. let t : Kept = record { ways = ways; line = size; sets = xs } in t) (map-set f sets i s' ∙ ap (λ x. set (map f sets) i x) (ap f is))

    pub set_kept : IsSoundSet s' → All (BelongsTo (stored_cache ways size sets) i) hs → IsStoredCache ways size shift mask (set sets i s')
    set_kept sound own =
        let t : Kept = stored_cache ways size sets in
        let there = alike_read i s within read in
        let alike : (s'.ways ≡ ways) × (s'.line ≡ size) = (ap (λ (x : CacheSet). x.ways) is ∙ there.0, ap (λ (x : CacheSet). x.line) is ∙ there.1) in
        let whole : s' ≡ record { ways = ways; line = size; held = hs } =
        ap (λ n. let y : CacheSet = record { ways = n; line = s'.line; held = s'.held } in y) alike.0
        ∙ (ap (λ n. let y : CacheSet = record { ways = ways; line = n; held = s'.held } in y) alike.1
        ∙ ap (λ xs. let y : CacheSet = record { ways = ways; line = size; held = xs } in y) (ap (λ (x : CacheSet). x.held) is)) in
        record {
          some = ok.some;
          bits = ok.bits;
          low = ok.low;
          power = (ok.power.0, length-set sets i s' ∙ ok.power.1);
          last = ok.last ∙ sym (length-set sets i s');
          few = omega (arith, ok.few, length-set sets i s');
          alike = All-set (λ s. (s.ways ≡ ways) × (s.line ≡ size)) sets i s' alike ok.alike;
          sound = rw set_stored (changed_sound t i hs (omega (arith, within, length-map sets (λ (s : CacheSet). s.held))) ok.sound (subst IsSoundSet whole sound) own);
        }

  pub held_at : (b a i : ℕ) (s : CacheSet) → i ≡ set_of (stored_cache ways size sets) a → s ≡ get_or sets i s
      → of_address b s.held ≡ of_address b (set_at (stored_cache ways size sets) (set_of (stored_cache ways size sets) a))
  held_at b a i s number read =
      let within : i < length sets = omega (arith, number, picked_within a) in
      ap (of_address b) (sym (set_read i s within read) ∙ ap (set_at (stored_cache ways size sets)) number)

  -- the place of what is found in the set
  pub found_stored : (a i base : ℕ) (s : CacheSet) (r : Option ℕ) → i ≡ set_of (stored_cache ways size sets) a
      → base ≡ base_of (stored_cache ways size sets) a → s ≡ get_or sets i s
      → r ≡ option_map (λ h. h.way) (of_address base s.held) → option_map (λ w. let p : Place = record { set = i; way = w } in p) r ≡ found (stored_cache ways size sets) a
  found_stored a i base s r number start read e =
      let t : Kept = stored_cache ways size sets in
      let there : of_address base s.held ≡ of_address (base_of t a) (set_at t (set_of t a)) = ap (λ b. of_address b s.held) start ∙ held_at (base_of t a) a i s number read in
      ap (option_map (λ w. let p : Place = record { set = i; way = w } in p)) (e ∙ ap (option_map (λ (h : Held). h.way)) there)
      ∙ (by (of_address (base_of t a) (set_at t (set_of t a))) ∙ ap (λ n. option_map (λ (h : Held). let p : Place = record { set = n; way = h.way } in p) (of_address (base_of t a) (set_at t (set_of t a)))) number) where
        by : (o : Option Held)
            → option_map (λ w. let p : Place = record { set = i; way = w } in p) (option_map (λ (h : Held). h.way) o)
            ≡ option_map (λ (h : Held). let p : Place = record { set = i; way = h.way } in p) o
        by None = refl
        by (Some h) = refl

  -- a line comes into the set of its address
  module _ (l : Line) (i : ℕ) (s s' : CacheSet) (number : i ≡ set_of (stored_cache ways size sets) l.address) (read : s ≡ get_or sets i s)
      (is : s' ≡ record s { held = with_line s.ways l s.held }) where
    within : i < length sets
    within = omega (arith, number, picked_within l.address)

    line_in : with_line s.ways l s.held ≡ with_line ways l (set_at (stored_cache ways size sets) (set_of (stored_cache ways size sets) l.address))
    line_in =
        ap (λ n. with_line n l s.held) (alike_read i s within read).0
        ∙ ap (with_line ways l) (sym (set_read i s within read) ∙ ap (set_at (stored_cache ways size sets)) number)

    pub installed_stored : stored_cache ways size (set sets i s') ≡ installed (stored_cache ways size sets) l
    installed_stored =
        set_stored i s s' (with_line s.ways l s.held) within read is
        ∙ (ap (λ n. with_set (stored_cache ways size sets) n (with_line s.ways l s.held)) number
        ∙ ap (with_set (stored_cache ways size sets) (set_of (stored_cache ways size sets) l.address)) line_in)

    pub installed_kept : l.address % size ≡ 0 → IsSoundSet s' → IsStoredCache ways size shift mask (set sets i s')
    installed_kept base sound =
        let t : Kept = stored_cache ways size sets in
        set_kept i s s' (with_line s.ways l s.held) within read is sound
        (subst (λ n. All (BelongsTo t n) (with_line s.ways l s.held)) (sym number)
        (subst (λ hs. All (BelongsTo t (set_of t l.address)) hs) (sym line_in) (with_line_own t l base ok.sound)))

    there : set_at (stored_cache ways size sets) (set_of (stored_cache ways size sets) l.address) ≡ s.held
    there = sym (ap (set_at (stored_cache ways size sets)) number) ∙ set_read i s within read

    -- what leaves is the last line of a full set
    pub left_stored : (r : Option Victim) → r ≡ option_map (λ h. victim h.line) (leaving s.ways s.held) → r ≡ victim_of (stored_cache ways size sets) l.address
    left_stored r e =
        e ∙ (ap (λ n. option_map (λ (h : Held). victim h.line) (leaving n s.held)) (alike_read i s within read).0
        ∙ (by (leaving ways s.held) ∙ ap (option_map victim) (sym (slice_get-map (λ (h : Held). h.line) s.held (ways - 1))
        ∙ ap (λ hs. slice_get (map (λ (h : Held). h.line) hs) (ways - 1)) (sym there)))) where
          by : (o : Option Held) → option_map (λ (h : Held). victim h.line) o ≡ option_map victim (option_map (λ (h : Held). h.line) o)
          by None = refl
          by (Some h) = refl

    pub free_leaves_none : (r : Option Victim) → r ≡ option_map (λ h. victim h.line) (leaving s.ways s.held)
        → (is_some r ≡ false) ↔ (length (lines_at (stored_cache ways size sets) (set_of (stored_cache ways size sets) l.address)) < ways)
    free_leaves_none r e =
        rw (length-map (set_at (stored_cache ways size sets) (set_of (stored_cache ways size sets) l.address)) (λ (h : Held). h.line), there)
        (none_leaves ways s.held ok.some r (e ∙ ap (λ n. option_map (λ (h : Held). victim h.line) (leaving n s.held)) (alike_read i s within read).0))

-- all sets lose their lines
abbrev pub without_lines : CacheSet → CacheSet
without_lines s = record { ways = s.ways; line = s.line; held = [] }

pub held-without_lines : (sets : List CacheSet) → map (λ s. s.held) (map without_lines sets) ≡ replicate (length (map (λ (s : CacheSet). s.held) sets)) []
held-without_lines [] = refl
held-without_lines (s ∷ sets) = ap (λ xs. [] ∷ xs) (held-without_lines sets)

pub held-replicate : (n : ℕ) (s : CacheSet) → map (λ (s : CacheSet). s.held) (replicate n s) ≡ replicate n s.held
held-replicate zero s = refl
held-replicate (suc n) s = ap (λ xs. s.held ∷ xs) (held-replicate n s)

-- no set holds a line
none_held : (n r : ℕ) → get_or {A = List Held} (replicate n []) r [] ≡ []
none_held zero r = refl
none_held (suc n) zero = refl
none_held (suc n) (suc r) = none_held n r

pub empty_cache_sound : (n ways line : ℕ) → IsSoundCache (empty n ways line)
empty_cache_sound n ways line =
    record {
      sound = λ r. rw (none_held n r) (empty_sound ways line);
      own = λ r. All-same (BelongsTo (empty n ways line) r) (set_at (empty n ways line) r) [] (none_held n r) (All-nil (BelongsTo (empty n ways line) r));
    }

-- the loop over the sets ends with all of them
pub all_cleared : (i : ℕ) (sets : List CacheSet) → length sets ≤ i → map without_lines (take i sets) ++ drop i sets ≡ map without_lines sets
all_cleared i sets h = rw (take_all i sets h, drop_all i sets h) (append-nil (map without_lines sets))

pub cleared_kept : (ways size shift mask : ℕ) (sets : List CacheSet) → IsStoredCache ways size shift mask sets
    → IsStoredCache ways size shift mask (map without_lines sets)
cleared_kept ways size shift mask sets ok =
    let long : length (map without_lines sets) ≡ length sets = length-map sets without_lines in
    record {
      some = ok.some;
      bits = ok.bits;
      low = ok.low;
      power = (ok.power.0, long ∙ ok.power.1);
      last = ok.last ∙ sym long;
      few = omega (arith, ok.few, long);
      alike = All-map (λ s. (s.ways ≡ ways) × (s.line ≡ size)) without_lines sets ok.alike;
      sound = rw (held-without_lines sets) (empty_cache_sound (length (map (λ (s : CacheSet). s.held) sets)) ways size);
    }

pub built_kept : (n ways size shift : ℕ) → 0 < ways → 2 ^ shift ≡ size → shift ≤ 6 → n < 2 ^ 32 → (k : ℕ) × (n ≡ 2 ^ k)
    → IsStoredCache ways size shift (n - 1) (replicate n (record { ways = ways; line = size; held = [] }))
built_kept n ways size shift some bits low few power =
    let s : CacheSet = record { ways = ways; line = size; held = [] } in
    let long : length (replicate n s) ≡ n = length-replicate n s in
    record {
      some = some;
      bits = bits;
      low = low;
      power = (power.0, long ∙ power.1);
      last = omega (arith, long, power.1, one-le-pow power.0 2 (omega arith));
      few = omega (arith, few, long);
      alike = All-replicate (λ s. (s.ways ≡ ways) × (s.line ≡ size)) n s (refl, refl);
      sound = rw (held-replicate n s) (empty_cache_sound n ways size);
    }
