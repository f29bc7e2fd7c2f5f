-- Counting in lists.
use Rattle.std.proofs.Common.{◌≡◌, ℕ, ◌+◌, ◌≤◌, Bool, true, false, cond, List, [], ◌∷◌, get_or, take, map, refl, ◌∙◌, ap, subst, arith, Some, None}
use Rattle.std.specs.Prelude.{find, count_by, All, slice_get}
use Rattle.std.proofs.lemmas.List.Sums.{sum_by-cons, sum_by-take-drop, sum_by-drop_more}
use Rattle.std.proofs.lemmas.List.Elements.{All-head, All-tail}
use Rattle.std.proofs.lemmas.Option.{slice_get_within, get_or_from_slice_get}

-- what counts as one
abbrev pub bit : Bool → ℕ
bit b = cond b 1 0

-- a change that the test doesn't see
pub count_by-map : {X : Type 0} (p : X → Bool) (g : X → X) → ((x : X) → p (g x) ≡ p x) → (xs : List X) → count_by p (map g xs) ≡ count_by p xs
count_by-map p g same [] = refl
count_by-map {X = X} p g same (x ∷ xs) =
    let f : X → ℕ = λ x. cond (p x) 1 0 in
    let e : f (g x) ≡ f x = ap (λ (b : Bool). cond b 1 0) (same x) in
    omega (arith, e, sum_by-cons f (g x) (map g xs), sum_by-cons f x xs, count_by-map p g same xs)

-- none passes
pub count_by-none : {X : Type 0} (p : X → Bool) (xs : List X) → All (λ x. p x ≡ false) xs → count_by p xs ≡ 0
count_by-none p [] h = refl
count_by-none {X = X} p (x ∷ xs) h =
    let f : X → ℕ = λ x. cond (p x) 1 0 in
    let e : f x ≡ 0 = ap (λ (b : Bool). cond b 1 0) (All-head (λ (x : X). p x ≡ false) x xs h) in
    omega (arith, e, sum_by-cons f x xs, count_by-none p xs (All-tail (λ (x : X). p x ≡ false) x xs h))

-- none is found
pub count_by-not_found : {X : Type 0} (p : X → Bool) (xs : List X) → find p xs ≡ None → count_by p xs ≡ 0
count_by-not_found p [] h = refl
count_by-not_found {X = X} p (x ∷ xs) h = by (count_by-not_found p xs) (p x) refl h where
  by : (find p xs ≡ None → count_by p xs ≡ 0) → (b : Bool) → p x ≡ b → cond b (Some x) (find p xs) ≡ None → count_by p (x ∷ xs) ≡ 0
  by more true e k = absurd cc
  by more false e k =
      let f : X → ℕ = λ x. cond (p x) 1 0 in
      let z : f x ≡ 0 = ap (λ (b : Bool). cond b 1 0) e in
      omega (arith, z, sum_by-cons f x xs, more k)

-- one that passes, behind others
pub count_by-before : {X : Type 0} (p : X → Bool) (xs : List X) (i : ℕ) (x : X) → slice_get xs i ≡ Some x → p x ≡ true
    → count_by p (take i xs) + 1 ≤ count_by p xs
count_by-before {X = X} p xs i x e t =
    let f : X → ℕ = λ x. cond (p x) 1 0 in
    let at : get_or xs i x ≡ x = get_or_from_slice_get xs i x x e in
    let one : f (get_or xs i x) ≡ 1 = ap f at ∙ ap (λ (b : Bool). cond b 1 0) t in
    omega (arith, one, sum_by-take-drop f xs i, sum_by-drop_more f xs i x (slice_get_within xs i x e))

-- what holds of all holds of what is found
pub All-found : {X : Type 0} (P : X → Type 0) (p : X → Bool) (xs : List X) (x : X) → All P xs → find p xs ≡ Some x → P x
All-found P p [] x all e = absurd cc
All-found {X = X} P p (y ∷ ys) x all e = by (All-found P p ys x (All-tail P y ys all)) (p y) e where
  by : (find p ys ≡ Some x → P x) → (b : Bool) → cond b (Some y) (find p ys) ≡ Some x → P x
  by more true k = let same : y ≡ x = cc in subst P same (All-head P y ys all)
  by more false k = more k
