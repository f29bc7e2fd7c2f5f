-- What loops over the boxed parts find and leave.
use Rattle.std.proofs.Common.{◌≡◌, ℕ, suc, ◌+◌, ◌<◌, ◌≤◌, add-one, refl, sym, ◌∙◌, ap, subst, true, false, is_some, MatchOption, List, [], ◌∷◌, Option, Some, None, length, drop, take, map, get_or, option_map}
use Rattle.std.proofs.Math.ListN.{drop_of_length-le}
use Rattle.std.proofs.Math.Seq.{drop-cons}
use Rattle.std.proofs.lemmas.List.{get_or-map, length-map}
use Rattle.rv_step.specs.declared.arch.Arch.{Arch}
use Rattle.gm_model.specs.Command.{arch_of, own_bytes, with_own_bytes}
use Rattle.gm_model.specs.ObjState.{ObjState}
use Rattle.gm_model.specs.Stepped.{Commanded}
use Rattle.gm_model.specs.View.{Mind, mind_of, own_ram, parts_mind}
use Rattle.gm_system.proofs.ForKernel.{shown_hart}
use Rattle.kernel.specs.Load.{with_entry}

-- no part is left
pub none_left : {X : Type 0} (f : X → ObjState) (xs : List X) (i : ℕ) → length xs ≤ i → drop i (map f xs) ≡ []
none_left f xs i l = drop_of_length-le (map f xs) (rw length-map l)

module _ {X : Type 0} (f : X → ObjState) (xs : List X) (i : ℕ) (b : X) (here : i < length xs) (is : b ≡ get_or xs i b) where
  pub first_left : drop i (map f xs) ≡ f b ∷ drop (i + 1) (map f xs)
  first_left = rw add-one (drop-cons (map f xs) i (f b) (rw length-map here) ∙ ap (λ o. o ∷ drop (suc i) (map f xs)) (get_or-map f xs i b (f b) here ∙ sym (ap f is)))

  -- the first hart
  pub hart_here : (a : Arch) → Some a ≡ arch_of (f b) → parts_mind (drop i (map f xs)) ≡ parts_mind (map f xs) → a ≡ (parts_mind (map f xs)).arch
  hart_here a e h = by (mind_of (f b)) refl (shown_hart (f b)) (subst (λ os. parts_mind os ≡ parts_mind (map f xs)) first_left h) where
    by : (m : Option Mind) → mind_of (f b) ≡ m → option_map (λ (x : Mind). x.arch) (mind_of (f b)) ≡ arch_of (f b) → parts_mind (f b ∷ drop (i + 1) (map f xs)) ≡ parts_mind (map f xs) → a ≡ (parts_mind (map f xs)).arch
    by None r s k = let z : ◌≡◌ {A = Option Arch} None (Some a) = (rw r at s) ∙ sym e in cc
    by (Some m) r s k = let z : Some m.arch ≡ Some a = (rw r at s) ∙ sym e in let same : m.arch ≡ a = cc z in sym same ∙ ap (λ (x : Mind). x.arch) (rw (parts_mind, r) at k)

  pub hart_next : None ≡ arch_of (f b) → parts_mind (drop i (map f xs)) ≡ parts_mind (map f xs) → parts_mind (drop (i + 1) (map f xs)) ≡ parts_mind (map f xs)
  hart_next e h = by (mind_of (f b)) refl (shown_hart (f b)) (subst (λ os. parts_mind os ≡ parts_mind (map f xs)) first_left h) where
    by : (m : Option Mind) → mind_of (f b) ≡ m → option_map (λ (x : Mind). x.arch) (mind_of (f b)) ≡ arch_of (f b) → parts_mind (f b ∷ drop (i + 1) (map f xs)) ≡ parts_mind (map f xs) → parts_mind (drop (i + 1) (map f xs)) ≡ parts_mind (map f xs)
    by None r s k = rw (parts_mind, r) at k
    by (Some m) r s k = let z : ◌≡◌ {A = Option Arch} (Some m.arch) None = (rw r at s) ∙ sym e in cc

  -- the first bytes that a part keeps
  pub bytes_here : (at n : ℕ) (old new : List ℕ) → is_some (own_bytes (f b)) ≡ true → MatchOption (own_bytes (f b)) (new ≡ old) (λ m. new ≡ take n (drop at m))
      → own_ram (drop i (map f xs)) ≡ own_ram (map f xs) → new ≡ take n (drop at (own_ram (map f xs)))
  bytes_here at n old new some told h = by (own_bytes (f b)) refl some told (subst (λ os. own_ram os ≡ own_ram (map f xs)) first_left h) where
    by : (q : Option (List ℕ)) → own_bytes (f b) ≡ q → is_some q ≡ true → MatchOption q (new ≡ old) (λ m. new ≡ take n (drop at m)) → own_ram (f b ∷ drop (i + 1) (map f xs)) ≡ own_ram (map f xs)
        → new ≡ take n (drop at (own_ram (map f xs)))
    by None r s t k = cc
    by (Some m) r s t k = t ∙ ap (λ x. take n (drop at x)) (rw (own_ram, r) at k)

  pub bytes_next : (at n : ℕ) (old new : List ℕ) → is_some (own_bytes (f b)) ≡ false → MatchOption (own_bytes (f b)) (new ≡ old) (λ m. new ≡ take n (drop at m))
      → own_ram (drop i (map f xs)) ≡ own_ram (map f xs) → (new ≡ old) × (own_ram (drop (i + 1) (map f xs)) ≡ own_ram (map f xs))
  bytes_next at n old new none told h = by (own_bytes (f b)) refl none told (subst (λ os. own_ram os ≡ own_ram (map f xs)) first_left h) where
    by : (q : Option (List ℕ)) → own_bytes (f b) ≡ q → is_some q ≡ false → MatchOption q (new ≡ old) (λ m. new ≡ take n (drop at m)) → own_ram (f b ∷ drop (i + 1) (map f xs)) ≡ own_ram (map f xs)
        → (new ≡ old) × (own_ram (drop (i + 1) (map f xs)) ≡ own_ram (map f xs))
    by (Some m) r s t k = cc
    by None r s t k = (t, rw (own_ram, r) at k)

-- bytes are put into a part, and its hart is reset, as commands
abbrev pub put_command : ℕ → List ℕ → ObjState → Commanded
put_command at bytes o = record { state = with_own_bytes at bytes o; changes = [] }

abbrev pub enter_command : ℕ → ObjState → Commanded
enter_command entry o = record { state = with_entry entry o; changes = [] }
