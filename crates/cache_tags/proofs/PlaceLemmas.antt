-- What the calls do to the lines of a cache, and to what stands at its places.
use Rattle.std.proofs.Common.{◌≡◌, ℕ, suc, ◌-◌, ◌%◌, ◌<◌, ◌≤◌, ◌==◌, Bool, true, List, ◌∷◌, ◌++◌, length, take, drop, refl, sym, ◌∙◌, ap, arith, Option, Some, None, ◌⊎◌, inl, inr}
use Rattle.std.specs.Prelude.{find, count_by, is_some, IfSome, slice_get}
use Rattle.std.specs.Option.{option_map}
use Rattle.std.proofs.lemmas.Bool.{cases_eq, eq-eqb, ne_eqb}
use Rattle.std.proofs.lemmas.List.{map-set, take-map}
use Rattle.std.proofs.lemmas.List.Folds.{find-append}
use Rattle.std.proofs.lemmas.Option.{slice_get-map}
use Rattle.cache_tags.specs.declared.place.Place.{Place}
use Rattle.cache_tags.specs.declared.place.LineAt.{LineAt}
use Rattle.cache_tags.specs.Line.{Line, rewritten, in_front, in_place, come_in}
use Rattle.cache_tags.specs.Held.{Held, CacheSet, of_address, in_way, used, write_in, written_in, with_line, line_info}
use Rattle.cache_tags.specs.Kept.{Kept, base_of, set_of, set_at, with_set, lines_at, lines_of, with_lines, line_of, line_at, found, touched, written, installed, nth_line, KeepsPlaces, KeepsOtherPlaces, IsSoundCache}
use Rattle.cache_tags.proofs.UsedLemmas.{others_fail, split_at}
use Rattle.cache_tags.proofs.PlainLemmas.{find-map, not_found-none, found-between, plain, way_is, used_lines, used_ways, written_lines, written_ways}
use Rattle.cache_tags.proofs.StoreLemmas.{set-same, set-other, place_within}

-- the one that passes is found
found_between : {X : Type 0} (p : X → Bool) (front back : List X) (x : X) → p x ≡ true → count_by p (front ++ x ∷ back) ≤ 1
    → find p (front ++ x ∷ back) ≡ Some x
found_between p front back x passes one =
    let none : find p front ≡ None = not_found-none p front (others_fail p front back x passes one).0 in
    find-append p front (x ∷ back) ∙ rw (none, passes) refl

-- the lines of a cache in which one set changes
changed_lines : (t : Kept) (s : ℕ) (hs : List Held) → lines_of (with_set t s hs) ≡ with_lines t s (plain hs)
changed_lines t s hs = map-set (λ (hs : List Held). plain hs) t.sets s hs

module _ (t : Kept) (ok : IsSoundCache t) where
  -- a set by its number
  abbrev the_set : ℕ → CacheSet
  the_set s = record { ways = t.ways; line = t.line; held = set_at t s }

  -- a line that stands in a set is at its place
  pub line_there : (s n : ℕ) (h : Held) → slice_get (set_at t s) n ≡ Some h → in_way h.way (set_at t s) ≡ Some h
  line_there s n h e =
      let split : set_at t s ≡ take n (set_at t s) ++ h ∷ drop (suc n) (set_at t s) = split_at (set_at t s) n h e in
      ap (in_way h.way) split
      ∙ found_between (λ k. k.way == h.way) (take n (set_at t s)) (drop (suc n) (set_at t s)) h (eq-eqb h.way h.way refl) (rw split at ((ok.sound s).one_way h.way))

  pub nth_there : (s n : ℕ) (r : Option LineAt) → r ≡ nth_line t s n
      → IfSome r (λ l. (is_some (line_at t l.at) ≡ true) × (line_at t l.at ≡ slice_get (lines_at t s) n))
  nth_there s n r e = rw e (by (slice_get (set_at t s) n) refl) where
    by : (o : Option Held) → slice_get (set_at t s) n ≡ o
        → IfSome (option_map (line_info s) o) (λ l. (is_some (line_at t l.at) ≡ true) × (line_at t l.at ≡ slice_get (lines_at t s) n))
    by None q = tt
    by (Some h) q =
        let here : line_at t (record { set = s; way = h.way }) ≡ Some h.line = ap (option_map (λ (h : Held). h.line)) (line_there s n h q) in
        (ap is_some here, here ∙ sym (slice_get-map (λ (h : Held). h.line) (set_at t s) n ∙ ap (option_map (λ (h : Held). h.line)) q))

  -- what is found is the line
  held_of : (a : ℕ) → line_of t a ≡ option_map (λ h. h.line) (of_address (base_of t a) (set_at t (set_of t a)))
  held_of a = find-map (λ (l : Line). l.address == base_of t a) (λ (h : Held). h.line) (set_at t (set_of t a))

  pub found_there : (a : ℕ) (r : Option Place) → r ≡ found t a → is_some r ≡ is_some (line_of t a)
  found_there a r e = ap is_some e ∙ (by (of_address (base_of t a) (set_at t (set_of t a))) ∙ ap is_some (sym (held_of a))) where
    by : (o : Option Held)
        → is_some (option_map (λ h. let p : Place = record { set = set_of t a; way = h.way } in p) o) ≡ is_some (option_map (λ (h : Held). h.line) o)
    by None = refl
    by (Some h) = refl

  pub found_none : (a : ℕ) (r : Option Place) → r ≡ found t a → r ≡ None → line_of t a ≡ None
  found_none a r e none = held_of a ∙ by (of_address (base_of t a) (set_at t (set_of t a))) (sym e ∙ none) where
    by : (o : Option Held) → option_map (λ h. let p : Place = record { set = set_of t a; way = h.way } in p) o ≡ None
        → option_map (λ (h : Held). h.line) o ≡ None
    by None k = refl
    by (Some h) k = absurd cc

  pub found_line : (a : ℕ) (r : Option Place) → r ≡ found t a → IfSome r (λ p. (is_some (line_at t p) ≡ true) × (line_at t p ≡ line_of t a))
  found_line a r e = rw e (by (of_address (base_of t a) (set_at t (set_of t a))) refl) where
    s : ℕ
    s = set_of t a

    by : (o : Option Held) → of_address (base_of t a) (set_at t (set_of t a)) ≡ o
        → IfSome (option_map (λ h. let p : Place = record { set = set_of t a; way = h.way } in p) o) (λ p. (is_some (line_at t p) ≡ true) × (line_at t p ≡ line_of t a))
    by None q = tt
    by (Some h) q =
        let b = found-between (λ (k : Held). k.line.address == base_of t a) (set_at t (set_of t a)) h q in
        let here : in_way h.way (set_at t (set_of t a)) ≡ Some h =
        ap (in_way h.way) b.whole ∙ found_between (λ k. k.way == h.way) b.front b.back h (eq-eqb h.way h.way refl) (rw b.whole at ((ok.sound (set_of t a)).one_way h.way)) in
        let stands : line_at t (record { set = set_of t a; way = h.way }) ≡ Some h.line = ap (option_map (λ (h : Held). h.line)) here in
        (ap is_some stands, stands ∙ sym (held_of a ∙ ap (option_map (λ (h : Held). h.line)) q))

  -- a line is used
  touched_lines : (p : Place) → IfSome (line_at t p) (λ l. lines_of (touched t p) ≡ with_lines t p.set (in_front l (lines_at t p.set)))
  touched_lines p = by (in_way p.way (set_at t p.set)) refl where
    by : (o : Option Held) → in_way p.way (set_at t p.set) ≡ o
        → IfSome (option_map (λ (h : Held). h.line) o) (λ l. lines_of (touched t p) ≡ with_lines t p.set (in_front l (lines_at t p.set)))
    by None q = tt
    by (Some h) q =
        changed_lines t p.set (used p.way (set_at t p.set)) ∙ ap (with_lines t p.set) (used_lines (the_set p.set) (ok.sound p.set) p.way h q)

  touched_places : (p : Place) → is_some (line_at t p) ≡ true → KeepsPlaces t (touched t p)
  touched_places p e q = ap (option_map (λ (h : Held). h.line)) (by (cases_eq q.set p.set)) where
    within : p.set < length t.sets
    within = place_within t p e

    here : (o : Option Held) → in_way p.way (set_at t p.set) ≡ o → is_some (option_map (λ (h : Held). h.line) o) ≡ true
        → in_way q.way (used p.way (set_at t p.set)) ≡ in_way q.way (set_at t p.set)
    here None k some = absurd cc
    here (Some h) k some = used_ways (the_set p.set) (ok.sound p.set) p.way h k q.way

    by : (q.set ≡ p.set) ⊎ (q.set ≡ p.set → ⊥) → in_way q.way (set_at (touched t p) q.set) ≡ in_way q.way (set_at t q.set)
    by (inl k) =
        ap (λ s. in_way q.way (set_at (touched t p) s)) k ∙ (ap (in_way q.way) (set-same t p.set (used p.way (set_at t p.set)) within)
        ∙ (here (in_way p.way (set_at t p.set)) refl e ∙ ap (λ s. in_way q.way (set_at t s)) (sym k)))
    by (inr n) = ap (in_way q.way) (set-other t p.set (used p.way (set_at t p.set)) q.set n)

  -- bytes are written
  wrote_lines : (p : Place) (offset : ℕ) (bytes : List ℕ)
      → IfSome (line_at t p) (λ l. lines_of (written t p offset bytes) ≡ with_lines t p.set (in_place (rewritten l offset bytes) (lines_at t p.set)))
  wrote_lines p offset bytes = by (in_way p.way (set_at t p.set)) refl where
    by : (o : Option Held) → in_way p.way (set_at t p.set) ≡ o
        → IfSome (option_map (λ (h : Held). h.line) o) (λ l. lines_of (written t p offset bytes) ≡ with_lines t p.set (in_place (rewritten l offset bytes) (lines_at t p.set)))
    by None q = tt
    by (Some h) q =
        changed_lines t p.set (written_in p.way offset bytes (set_at t p.set)) ∙ ap (with_lines t p.set) (written_lines (the_set p.set) (ok.sound p.set) p.way h q offset bytes)

  wrote_held : (p q : Place) (offset : ℕ) (bytes : List ℕ) → is_some (line_at t p) ≡ true → q.set ≡ p.set
      → in_way q.way (set_at (written t p offset bytes) q.set) ≡ option_map (write_in p.way offset bytes) (in_way q.way (set_at t q.set))
  wrote_held p q offset bytes e k =
      ap (λ s. in_way q.way (set_at (written t p offset bytes) s)) k
      ∙ (ap (in_way q.way) (set-same t p.set (written_in p.way offset bytes (set_at t p.set)) (place_within t p e))
      ∙ (written_ways p.way offset q.way bytes (set_at t p.set) ∙ ap (λ s. option_map (write_in p.way offset bytes) (in_way q.way (set_at t s))) (sym k)))

  wrote_line : (p : Place) (offset : ℕ) (bytes : List ℕ) → is_some (line_at t p) ≡ true
      → line_at (written t p offset bytes) p ≡ option_map (λ l. rewritten l offset bytes) (line_at t p)
  wrote_line p offset bytes e = ap (option_map (λ (h : Held). h.line)) (wrote_held p p offset bytes e refl) ∙ by (in_way p.way (set_at t p.set)) refl where
    by : (o : Option Held) → in_way p.way (set_at t p.set) ≡ o
        → option_map (λ (h : Held). h.line) (option_map (write_in p.way offset bytes) o) ≡ option_map (λ l. rewritten l offset bytes) (option_map (λ (h : Held). h.line) o)
    by None k = refl
    by (Some h) k = rw (eq-eqb h.way p.way (way_is (the_set p.set) (ok.sound p.set) p.way h k)) refl

  wrote_others : (p : Place) (offset : ℕ) (bytes : List ℕ) → is_some (line_at t p) ≡ true → KeepsOtherPlaces t (written t p offset bytes) p
  wrote_others p offset bytes e q other = by (cases_eq q.set p.set) where
    same : q.set ≡ p.set → q.way ≡ p.way → q ≡ p
    same s w = ap (λ n. let r : Place = record { set = n; way = q.way } in r) s ∙ ap (λ n. let r : Place = record { set = p.set; way = n } in r) w

    kept : q.set ≡ p.set → (o : Option Held) → in_way q.way (set_at t q.set) ≡ o
        → option_map (λ (h : Held). h.line) (option_map (write_in p.way offset bytes) o) ≡ option_map (λ (h : Held). h.line) o
    kept s None k = refl
    kept s (Some h) k = rw (ne_eqb h.way p.way (λ w. other (same s (sym (way_is (the_set q.set) (ok.sound q.set) q.way h k) ∙ w)))) refl

    by : (q.set ≡ p.set) ⊎ (q.set ≡ p.set → ⊥) → line_at (written t p offset bytes) q ≡ line_at t q
    by (inl s) = ap (option_map (λ (h : Held). h.line)) (wrote_held p q offset bytes e s) ∙ kept s (in_way q.way (set_at t q.set)) refl
    by (inr n) = ap (λ hs. option_map (λ (h : Held). h.line) (in_way q.way hs)) (set-other t p.set (written_in p.way offset bytes (set_at t p.set)) q.set n)

  -- a line comes
  installed_lines : (l : Line) → lines_of (installed t l) ≡ with_lines t (set_of t l.address) (come_in t.ways l (lines_at t (set_of t l.address)))
  installed_lines l =
      let s : ℕ = set_of t l.address in
      changed_lines t s (with_line t.ways l (set_at t s)) ∙ ap (λ ls. with_lines t s (l ∷ ls)) (sym (take-map (λ (h : Held). h.line) (t.ways - 1) (set_at t s)))

-- a line that isn't there is not held
pub absent_held : (t : Kept) (a : ℕ) → a % t.line ≡ 0 → line_of t a ≡ None → of_address a (set_at t (set_of t a)) ≡ None
absent_held t a base none =
    let here : base_of t a ≡ a = omega arith in
    by (of_address a (set_at t (set_of t a)))
    (sym (find-map (λ (l : Line). l.address == a) (λ (h : Held). h.line) (set_at t (set_of t a))) ∙ (ap (λ n. find (λ (l : Line). l.address == n) (lines_at t (set_of t a))) (sym here) ∙ none)) where
      by : (o : Option Held) → option_map (λ (h : Held). h.line) o ≡ None → o ≡ None
      by None k = refl
      by (Some h) k = absurd cc

-- the same of the cache that a call leaves
module _ (t t' : Kept) (ok : IsSoundCache t) where
  pub after_touch_lines : (p : Place) → t' ≡ touched t p → IfSome (line_at t p) (λ l. lines_of t' ≡ with_lines t p.set (in_front l (lines_at t p.set)))
  after_touch_lines p e = rw e (touched_lines t ok p)

  pub after_touch_places : (p : Place) → t' ≡ touched t p → is_some (line_at t p) ≡ true → KeepsPlaces t t'
  after_touch_places p e some = rw e (touched_places t ok p some)

  module _ (p : Place) (offset : ℕ) (bytes : List ℕ) (e : t' ≡ written t p offset bytes) where
    pub after_write_lines : IfSome (line_at t p) (λ l. lines_of t' ≡ with_lines t p.set (in_place (rewritten l offset bytes) (lines_at t p.set)))
    after_write_lines = rw e (wrote_lines t ok p offset bytes)

    pub after_write_line : is_some (line_at t p) ≡ true → line_at t' p ≡ option_map (λ l. rewritten l offset bytes) (line_at t p)
    after_write_line some = rw e (wrote_line t ok p offset bytes some)

    pub after_write_others : is_some (line_at t p) ≡ true → KeepsOtherPlaces t t' p
    after_write_others some = rw e (wrote_others t ok p offset bytes some)

  pub after_install_lines : (l : Line) → t' ≡ installed t l
      → lines_of t' ≡ with_lines t (set_of t l.address) (come_in t.ways l (lines_at t (set_of t l.address)))
  after_install_lines l e = ap lines_of e ∙ installed_lines t ok l
