-- What the calls do to the lines, whatever their ways.
use Rattle.std.proofs.Common.{◌≡◌, ℕ, ◌+◌, ◌==◌, Bool, true, false, cond, List, [], ◌∷◌, ◌++◌, map, refl, sym, ◌∙◌, ap, subst, arith, if◌then◌else◌, Some, None, ◌⊎◌, inl, inr}
use Rattle.std.specs.Prelude.{find, count_by}
use Rattle.std.specs.Option.{option_map, option_or}
use Rattle.std.proofs.lemmas.Bool.{cases_eq, eq-eqb, ne_eqb, eqb-true}
use Rattle.std.proofs.lemmas.List.{map-append}
use Rattle.std.proofs.lemmas.List.Sums.{sum_by-cons}
use Rattle.std.proofs.lemmas.List.Folds.{find-append}
use Rattle.cache_tags.specs.Line.{Line, rewritten, without_line, in_front, in_place}
use Rattle.cache_tags.specs.Held.{Held, CacheSet, in_way, used, write_in, written_in, IsSoundSet}
use Rattle.cache_tags.proofs.Counts.{bit}
use Rattle.cache_tags.proofs.SoundLemmas.{write_way}
use Rattle.cache_tags.proofs.UsedLemmas.{others_fail, used-between}

-- what is found among the results
pub find-map : {X Y : Type 0} (p : Y → Bool) (f : X → Y) (xs : List X) → find p (map f xs) ≡ option_map f (find (λ x. p (f x)) xs)
find-map p f [] = refl
find-map {X = X} {Y = Y} p f (x ∷ xs) = by (p (f x)) (find-map p f xs) where
  by : (b : Bool) → find p (map f xs) ≡ option_map f (find (λ x. p (f x)) xs)
      → cond b (Some (f x)) (find p (map f xs)) ≡ option_map f (cond b (Some x) (find (λ x. p (f x)) xs))
  by true more = refl
  by false more = more

-- none is found where none passes
pub not_found-none : {X : Type 0} (p : X → Bool) (xs : List X) → count_by p xs ≡ 0 → find p xs ≡ None
not_found-none p [] h = refl
not_found-none {X = X} p (x ∷ xs) h = by (not_found-none p xs) (p x) refl where
  all : count_by p (x ∷ xs) ≡ bit (p x) + count_by p xs
  all = sum_by-cons (λ (x : X). bit (p x)) x xs

  by : (count_by p xs ≡ 0 → find p xs ≡ None) → (b : Bool) → p x ≡ b → cond b (Some x) (find p xs) ≡ None
  by more true e = let one : bit (p x) ≡ 1 = ap (λ (b : Bool). bit b) e in absurd (omega (arith, one, all, h))
  by more false e = more (omega (arith, all, h))

-- what is found stands between others
pub record Between {X : Type 0} (p : X → Bool) (xs : List X) (x : X) : Type 0 where
  pub front : List X
  pub back : List X
  pub whole : xs ≡ front ++ x ∷ back
  pub passes : p x ≡ true

pub found-between : {X : Type 0} (p : X → Bool) (xs : List X) (x : X) → find p xs ≡ Some x → Between p xs x
found-between p [] x e = absurd cc
found-between {X = X} p (y ∷ ys) x e = by (found-between p ys x) (p y) refl e where
  by : (find p ys ≡ Some x → Between p ys x) → (b : Bool) → p y ≡ b → cond b (Some y) (find p ys) ≡ Some x → Between p (y ∷ ys) x
  by more true t k = let same : y ≡ x = cc in record { front = []; back = ys; whole = ap (λ z. z ∷ ys) same; passes = ap p (sym same) ∙ t }
  by more false t k = let b = more k in record { front = y ∷ b.front; back = b.back; whole = ap (λ zs. y ∷ zs) b.whole; passes = b.passes }

-- tests that agree find the same
pub find-agree : {X : Type 0} (p q : X → Bool) → ((x : X) → p x ≡ q x) → (xs : List X) → find p xs ≡ find q xs
find-agree p q same [] = refl
find-agree {X = X} p q same (x ∷ xs) = rw (same x, find-agree p q same xs) refl

-- a line, without its way
abbrev pub plain : List Held → List Line
plain hs = map (λ h. h.line) hs

-- none has the address
without-absent : (a : ℕ) (hs : List Held) (ls : List Line) → count_by (λ h. h.line.address == a) hs ≡ 0
    → without_line a (plain hs ++ ls) ≡ plain hs ++ without_line a ls
without-absent a [] ls none = refl
without-absent a (h ∷ hs) ls none = by (without-absent a hs ls) (cases_eq h.line.address a) where
  all : count_by (λ h. h.line.address == a) (h ∷ hs) ≡ bit (h.line.address == a) + count_by (λ h. h.line.address == a) hs
  all = sum_by-cons (λ (h : Held). bit (h.line.address == a)) h hs

  by : (count_by (λ h. h.line.address == a) hs ≡ 0 → without_line a (plain hs ++ ls) ≡ plain hs ++ without_line a ls)
      → (h.line.address ≡ a) ⊎ (h.line.address ≡ a → ⊥)
      → without_line a (plain (h ∷ hs) ++ ls) ≡ plain (h ∷ hs) ++ without_line a ls
  by more (inl e) = let one : bit (h.line.address == a) ≡ 1 = rw (eq-eqb h.line.address a e) refl in absurd (omega (arith, one, all, none))
  by more (inr n) = rw (ne_eqb h.line.address a n) (ap (λ ks. h.line ∷ ks) (more (omega (arith, all, none))))

in_place-absent : (l : Line) (hs : List Held) → count_by (λ h. h.line.address == l.address) hs ≡ 0 → in_place l (plain hs) ≡ plain hs
in_place-absent l [] none = refl
in_place-absent l (h ∷ hs) none = by (in_place-absent l hs) (cases_eq h.line.address l.address) where
  all : count_by (λ h. h.line.address == l.address) (h ∷ hs) ≡ bit (h.line.address == l.address) + count_by (λ h. h.line.address == l.address) hs
  all = sum_by-cons (λ (h : Held). bit (h.line.address == l.address)) h hs

  by : (count_by (λ h. h.line.address == l.address) hs ≡ 0 → in_place l (plain hs) ≡ plain hs) → (h.line.address ≡ l.address) ⊎ (h.line.address ≡ l.address → ⊥)
      → in_place l (plain (h ∷ hs)) ≡ plain (h ∷ hs)
  by more (inl e) = let one : bit (h.line.address == l.address) ≡ 1 = rw (eq-eqb h.line.address l.address e) refl in absurd (omega (arith, one, all, none))
  by more (inr n) = rw (ne_eqb h.line.address l.address n) (ap (λ ks. h.line ∷ ks) (more (omega (arith, all, none))))

in_place-append : (l : Line) (xs ys : List Line) → in_place l (xs ++ ys) ≡ in_place l xs ++ in_place l ys
in_place-append l [] ys = refl
in_place-append l (x ∷ xs) ys = ap (λ zs. (if x.address == l.address then l else x) ∷ zs) (in_place-append l xs ys)

-- none stands in the way
written-absent : (w offset : ℕ) (bytes : List ℕ) (hs : List Held) → count_by (λ h. h.way == w) hs ≡ 0 → written_in w offset bytes hs ≡ hs
written-absent w offset bytes [] none = refl
written-absent w offset bytes (h ∷ hs) none = by (written-absent w offset bytes hs) (cases_eq h.way w) where
  all : count_by (λ h. h.way == w) (h ∷ hs) ≡ bit (h.way == w) + count_by (λ h. h.way == w) hs
  all = sum_by-cons (λ (h : Held). bit (h.way == w)) h hs

  by : (count_by (λ h. h.way == w) hs ≡ 0 → written_in w offset bytes hs ≡ hs) → (h.way ≡ w) ⊎ (h.way ≡ w → ⊥) → written_in w offset bytes (h ∷ hs) ≡ h ∷ hs
  by more (inl e) = let one : bit (h.way == w) ≡ 1 = rw (eq-eqb h.way w e) refl in absurd (omega (arith, one, all, none))
  by more (inr n) = rw (ne_eqb h.way w n) (ap (λ ks. h ∷ ks) (more (omega (arith, all, none))))

-- the line that is found in a way
module _ (s : CacheSet) (ok : IsSoundSet s) (w : ℕ) (h : Held) (here : in_way w s.held ≡ Some h) where
  b : Between (λ h. h.way == w) s.held h
  b = found-between (λ h. h.way == w) s.held h here

  pub way_is : h.way ≡ w
  way_is = eqb-true h.way w b.passes

  no_way : (count_by (λ h. h.way == w) b.front ≡ 0) × (count_by (λ h. h.way == w) b.back ≡ 0)
  no_way = others_fail (λ h. h.way == w) b.front b.back h b.passes (rw b.whole at (ok.one_way w))

  no_line : (count_by (λ k. k.line.address == h.line.address) b.front ≡ 0) × (count_by (λ k. k.line.address == h.line.address) b.back ≡ 0)
  no_line = others_fail (λ k. k.line.address == h.line.address) b.front b.back h (eq-eqb h.line.address h.line.address refl) (rw b.whole at (ok.one_line h.line.address))

  used_is : used w s.held ≡ h ∷ (b.front ++ b.back)
  used_is = ap (used w) b.whole ∙ used-between w b.front b.back h way_is (rw b.whole at (ok.one_way w))

  pub used_lines : plain (used w s.held) ≡ in_front h.line (plain s.held)
  used_lines =
      let a : ℕ = h.line.address in
      let split : plain s.held ≡ plain b.front ++ (h.line ∷ plain b.back) = ap plain b.whole ∙ map-append (λ (h : Held). h.line) b.front (h ∷ b.back) in
      let out : without_line a (plain s.held) ≡ plain b.front ++ plain b.back =
      ap (without_line a) split ∙ (without-absent a b.front (h.line ∷ plain b.back) no_line.0 ∙ rw (eq-eqb a a refl) refl) in
      ap plain used_is ∙ ap (λ ls. h.line ∷ ls) (map-append (λ (h : Held). h.line) b.front b.back ∙ sym out)

  pub used_ways : (v : ℕ) → in_way v (used w s.held) ≡ in_way v s.held
  used_ways v =
      ap (in_way v) used_is ∙ (by (cases_eq h.way v) ∙ sym (ap (in_way v) b.whole ∙ find-append (λ h. h.way == v) b.front (h ∷ b.back))) where
        by : (h.way ≡ v) ⊎ (h.way ≡ v → ⊥) → in_way v (h ∷ (b.front ++ b.back)) ≡ option_or (in_way v b.front) (in_way v (h ∷ b.back))
        by (inl e) =
            let none : in_way v b.front ≡ None = not_found-none (λ (h : Held). h.way == v) b.front (subst (λ n. count_by (λ h. h.way == n) b.front ≡ 0) (sym way_is ∙ e) no_way.0) in
            rw (eq-eqb h.way v e, none) refl
        by (inr n) = rw (ne_eqb h.way v n) (find-append (λ h. h.way == v) b.front b.back)

  pub written_lines : (offset : ℕ) (bytes : List ℕ) → plain (written_in w offset bytes s.held) ≡ in_place (rewritten h.line offset bytes) (plain s.held)
  written_lines offset bytes =
      let g : Held → Held = write_in w offset bytes in
      let l : Line = rewritten h.line offset bytes in
      let split : plain s.held ≡ plain b.front ++ (h.line ∷ plain b.back) = ap plain b.whole ∙ map-append (λ (h : Held). h.line) b.front (h ∷ b.back) in
      let new : (g h).line ≡ l = rw (eq-eqb h.way w way_is) refl in
      let left : written_in w offset bytes s.held ≡ b.front ++ (g h ∷ b.back) =
      ap (map g) b.whole ∙ (map-append g b.front (h ∷ b.back) ∙ (ap (λ xs. xs ++ (g h ∷ map g b.back)) (written-absent w offset bytes b.front no_way.0)
      ∙ ap (λ xs. b.front ++ (g h ∷ xs)) (written-absent w offset bytes b.back no_way.1))) in
      let right : in_place l (plain s.held) ≡ plain b.front ++ (l ∷ plain b.back) =
      ap (in_place l) split ∙ (in_place-append l (plain b.front) (h.line ∷ plain b.back)
      ∙ rw (eq-eqb h.line.address l.address refl, in_place-absent l b.front no_line.0, in_place-absent l b.back no_line.1) refl) in
      ap plain left ∙ (map-append (λ (h : Held). h.line) b.front (g h ∷ b.back) ∙ (ap (λ k. plain b.front ++ (k ∷ plain b.back)) new ∙ sym right))

-- what stands in each way after bytes were written
pub written_ways : (w offset v : ℕ) (bytes : List ℕ) (hs : List Held)
    → in_way v (written_in w offset bytes hs) ≡ option_map (write_in w offset bytes) (in_way v hs)
written_ways w offset v bytes hs =
    let g : Held → Held = write_in w offset bytes in
    find-map (λ h. h.way == v) g hs ∙ ap (option_map g) (find-agree (λ h. (g h).way == v) (λ h. h.way == v) (λ h. ap (λ n. n == v) (write_way w offset bytes h)) hs)
