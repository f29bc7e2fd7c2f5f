-- Ports that stand in a list once are few.
use Rattle.std.proofs.Common.{◌≡◌, ◌≢◌, ℕ, ◌≤◌, ◌<◌, ◌==◌, ◌||◌, refl, sym, ◌∙◌, arith, subst, eq-eqb, ne_eqb, Bool, true, false, List, [], ◌∷◌, ◌++◌, length, slice_get, Some, ◌⊎◌, inl, inr, eqb}
use Rattle.std.proofs.lemmas.Bool.{cases_eq}
use Rattle.std.specs.List.{remove, IsDistinct, AllByRecursion, list_any}
use Rattle.std.proofs.lemmas.Map.Steps.{length-le_from_distinct_below}
use Rattle.gm_model.specs.Flows.{is_listed}
use Rattle.obj_xbar.specs.Waiting.{AreOnce}

clash : {A : Type 0} → true ≡ false → A
clash t = absurd (cc)

-- a port that doesn't stand in a list is none of those in it
other_first : (p q : ℕ) (qs : List ℕ) → is_listed p (q ∷ qs) ≡ false → q ≢ p
unfolding is_listed
other_first p q qs n e = clash (sym (rw (eq-eqb q p e) refl) ∙ n)

others : (p q : ℕ) (qs : List ℕ) → is_listed p (q ∷ qs) ≡ false → is_listed p qs ≡ false
unfolding is_listed
others p q qs n = by (q == p) n where
  by : (b : Bool) → (b || is_listed p qs) ≡ false → is_listed p qs ≡ false
  by true m = clash m
  by false m = m

unlisted : (p : ℕ) (qs : List ℕ) → is_listed p qs ≡ false → AllByRecursion (λ y. eqb p y ≡ false) qs
unlisted p [] n = tt
unlisted p (q ∷ qs) n = (ne_eqb p q (λ e. other_first p q qs n (sym e)), unlisted p qs (others p q qs n))

are_distinct : (ps : List ℕ) → AreOnce ps → IsDistinct eqb ps
unfolding IsDistinct
are_distinct [] h = tt
are_distinct (p ∷ ps) h = (unlisted p ps h.1, are_distinct ps h.2)

are_below : (ps : List ℕ) → AreOnce ps → (q : ℕ) → list_any (eqb q) ps ≡ true → q < 8
are_below [] h q e = clash (sym e)
are_below (p ∷ ps) h q e = by (cases_eq q p) e (are_below ps h.2 q) where
  by : (q ≡ p) ⊎ (q ≡ p → ⊥) → (eqb q p || list_any (eqb q) ps) ≡ true → (list_any (eqb q) ps ≡ true → q < 8) → q < 8
  by (inl s) f r = subst (λ n. n < 8) (sym s) h.0
  by (inr d) f r = r (sym (rw (ne_eqb q p d) refl) ∙ f)

pub at_most : (ps : List ℕ) → AreOnce ps → length ps ≤ 8
at_most ps h = length-le_from_distinct_below ps 8 (are_distinct ps h) (are_below ps h)

-- there is a place for another
pub room_for_another : (ps : List ℕ) (q : ℕ) → AreOnce ps → q < 8 → is_listed q ps ≡ false → length ps < 8
room_for_another ps q h l n = omega (arith, at_most (q ∷ ps) (l, n, h))

unlisted_end : (p q : ℕ) (ps : List ℕ) → is_listed p ps ≡ false → q ≢ p → is_listed p (ps ++ q ∷ []) ≡ false
unfolding is_listed
unlisted_end p q [] n d = rw (ne_eqb q p d) refl
unlisted_end p q (x ∷ xs) n d = rw (ne_eqb x p (other_first p x xs n)) (unlisted_end p q xs (others p x xs n) d)

pub joined_are_once : (ps : List ℕ) (q : ℕ) → AreOnce ps → q < 8 → is_listed q ps ≡ false → AreOnce (ps ++ q ∷ [])
unfolding is_listed
joined_are_once [] q h l n = (l, refl, tt)
joined_are_once (p ∷ ps) q h l n =
    (h.0, unlisted_end p q ps h.1 (λ e. other_first q p ps n (sym e)), joined_are_once ps q h.2 l (others q p ps n))

-- the first of a list, and the others
pub first_and_rest : (ps : List ℕ) (p : ℕ) → Some p ≡ slice_get ps 0 → ps ≡ p ∷ remove ps 0
first_and_rest [] p e = absurd (cc)
first_and_rest (q ∷ qs) p e = cc

pub rest_are_once : (ps : List ℕ) → AreOnce ps → AreOnce (remove ps 0)
rest_are_once [] h = tt
rest_are_once (p ∷ ps) h = h.2
