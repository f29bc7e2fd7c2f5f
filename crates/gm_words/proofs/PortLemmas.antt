-- The ports that have a use, from the end on, and how many stand before the first destination.
use Rattle.std.proofs.Common.{◌≡◌, ℕ, zero, suc, ◌+◌, ◌≤◌, ◌<◌, refl, sym, ◌∙◌, ap, arith, Bool, true, false, if◌then◌else◌, List, [], ◌∷◌, ◌++◌, length, take, get_or}
use Rattle.std.proofs.lemmas.List.{take_more}
use Rattle.gm_words.specs.PortUses.{used, fore, is_unused, is_destination}
use Rattle.gm_words.specs.declared.port_use.PortUse.{PortUse}

-- a port with no use at the end doesn't count
unused_end : (us : List PortUse) (u : PortUse) → is_unused u ≡ true → used (us ++ u ∷ []) ≡ used us
unfolding used
unused_end [] u h = rw h refl
unused_end (v ∷ vs) u h = rw (unused_end vs u h) refl

-- one with a use keeps all before it
used_end : (us : List PortUse) (u : PortUse) → is_unused u ≡ false → used (us ++ u ∷ []) ≡ us ++ u ∷ []
unfolding used
used_end [] u h = rw h refl
used_end (v ∷ []) u h = rw h refl
used_end (v ∷ w ∷ ws) u h = rw (used_end (w ∷ ws) u h) refl

pub used_shorter : (us : List PortUse) (n : ℕ) (d : PortUse) → n < length us → is_unused (get_or us n d) ≡ true → used (take (n + 1) us) ≡ used (take n us)
used_shorter us n d l h = ap (λ xs. used xs) (take_more us n d l) ∙ unused_end (take n us) (get_or us n d) h

pub used_whole : (us : List PortUse) (n : ℕ) (d : PortUse) → n < length us → is_unused (get_or us n d) ≡ false → used (take (n + 1) us) ≡ take (n + 1) us
used_whole us n d l h =
    ap (λ xs. used xs) (take_more us n d l) ∙ used_end (take n us) (get_or us n d) h ∙ sym (take_more us n d l)

pub fore_most : (us : List PortUse) → fore us ≤ length us
unfolding fore
fore_most [] = omega arith
fore_most (u ∷ us) = more (is_destination u) (fore_most us) where
  more : (b : Bool) → fore us ≤ length us → (if b then 0 else suc (fore us)) ≤ suc (length us)
  more true h = omega arith
  more false h = omega (arith, h)

-- all, down to the first so many of them, of which the last has a use, or to none
pub used_down_to : (us : List PortUse) (n m : ℕ) (d : PortUse) → m + 1 ≡ n → n ≤ length us → is_unused (get_or us m d) ≡ false → used (take n us) ≡ take n us
used_down_to us n m d e l h = rw (sym e) (used_whole us m d (omega (arith, l, e)) h)

pub used_none : (us : List PortUse) (n : ℕ) → n ≡ 0 → used (take n us) ≡ take n us
unfolding used
used_none us zero h = refl
used_none us (suc n) h = absurd (omega (arith, h))
