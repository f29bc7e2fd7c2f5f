-- A line that is used, and the list that it leaves.
use Rattle.std.proofs.Common.{◌≡◌, ℕ, suc, ◌+◌, ◌≤◌, ◌==◌, Bool, true, false, not, cond, List, [], ◌∷◌, ◌++◌, get_or, take, drop, refl, sym, ◌∙◌, ap, arith, Some, drop-cons}
use Rattle.std.specs.Prelude.{filter, count_by, slice_get}
use Rattle.std.specs.List.{sum_by}
use Rattle.std.proofs.lemmas.Bool.{eq-eqb}
use Rattle.std.proofs.lemmas.List.{nil_from_length, take-append-drop}
use Rattle.std.proofs.lemmas.List.Sums.{sum_by-cons, sum_by-append, length-filter}
use Rattle.std.proofs.lemmas.List.Elements.{filter-append}
use Rattle.std.proofs.lemmas.Option.{slice_get_within, get_or_from_slice_get}
use Rattle.cache_tags.specs.Held.{Held, used}
use Rattle.cache_tags.proofs.Counts.{bit}

module _ {X : Type 0} (p : X → Bool) where
  f : X → ℕ
  f x = cond (p x) 1 0

  -- none passes
  filter-none : (xs : List X) → count_by p xs ≡ 0 → filter p xs ≡ []
  filter-none xs h = nil_from_length (filter p xs) (length-filter p xs ∙ h)

  -- so all stay
  filter-all : (xs : List X) → count_by p xs ≡ 0 → filter (λ x. not (p x)) xs ≡ xs
  filter-all [] h = refl
  filter-all (x ∷ xs) h = by (filter-all xs) (p x) refl where
    by : (count_by p xs ≡ 0 → filter (λ x. not (p x)) xs ≡ xs) → (b : Bool) → p x ≡ b
        → cond (not (p x)) (x ∷ filter (λ x. not (p x)) xs) (filter (λ x. not (p x)) xs) ≡ x ∷ xs
    by more true e =
        let one : bit (p x) ≡ 1 = ap (λ (b : Bool). bit b) e in
        absurd (omega (arith, one, h, sum_by-cons (λ (x : X). cond (p x) 1 0) x xs))
    by more false e = rw e (ap (λ ys. x ∷ ys) (more (omega (arith, h, sum_by-cons (λ (x : X). cond (p x) 1 0) x xs))))

  -- the one that passes stands between those that don't
  module _ (front back : List X) (x : X) (passes : p x ≡ true) (one : count_by p (front ++ x ∷ back) ≤ 1) where
    pub others_fail : (count_by p front ≡ 0) × (count_by p back ≡ 0)
    others_fail =
        let g : X → ℕ = λ x. cond (p x) 1 0 in
        let is : g x ≡ 1 = ap (λ (b : Bool). bit b) passes in
        let all : count_by p (front ++ x ∷ back) ≡ count_by p front + (g x + count_by p back) = sum_by-append g front (x ∷ back) ∙ ap (λ n. sum_by g front + n) (sum_by-cons g x back) in
        (omega (arith, one, all, is), omega (arith, one, all, is))

    pub filter-one : filter p (front ++ x ∷ back) ≡ x ∷ []
    filter-one = rw (filter-append p front (x ∷ back), filter-none front others_fail.0) (rw (passes, filter-none back others_fail.1) refl)

    pub filter-others : filter (λ x. not (p x)) (front ++ x ∷ back) ≡ front ++ back
    filter-others = rw (filter-append (λ x. not (p x)) front (x ∷ back), filter-all front others_fail.0) (rw (passes, filter-all back others_fail.1) refl)

-- the line in a way, which stands between others, comes to the front
pub used-between : (w : ℕ) (front back : List Held) (h : Held) → h.way ≡ w → count_by (λ h. h.way == w) (front ++ h ∷ back) ≤ 1
    → used w (front ++ h ∷ back) ≡ h ∷ (front ++ back)
used-between w front back h e one =
    let p : Held → Bool = λ h. h.way == w in
    rw (filter-one p front back h (eq-eqb h.way w e) one, filter-others p front back h (eq-eqb h.way w e) one) refl

-- a list is what stands before a place, what stands there, and what stands behind it
pub split_at : {X : Type 0} (xs : List X) (i : ℕ) (x : X) → slice_get xs i ≡ Some x → xs ≡ take i xs ++ x ∷ drop (suc i) xs
split_at xs i x e =
    let at : x ≡ get_or xs i x = sym (get_or_from_slice_get xs i x x e) in
    sym (take-append-drop i xs) ∙ ap (λ ys. take i xs ++ ys) (drop-cons xs i x (slice_get_within xs i x e) ∙ ap (λ y. y ∷ drop (suc i) xs) (sym at))
