-- What std's `strip_prefix` says, in the words of `without_front`.
use Rattle.std.proofs.Common.{◌≡◌, ℕ, ◌+◌, List, [], ◌∷◌, length, take, drop, true, false, ◌&&◌, eqb, Option, Some, None, refl, sym, ap, ◌∙◌, MatchOption, Bor}
use Rattle.std.specs.Cmp.Lexicographic.{pointwise}
use Rattle.std.specs.Prelude.{if◌then◌else◌}
use Rattle.std.specs.Option.{option_map}
use Rattle.rv_asm.specs.Bytes.{without_front}

-- a front is there where its bytes are the first ones
pub without_front_is : (p s : List ℕ) → without_front p s ≡ (if pointwise eqb (take (length p) s) p then Some (drop (length p) s) else None)
without_front_is [] s = refl
without_front_is (p ∷ ps) [] = refl
without_front_is (p ∷ ps) (c ∷ cs) =
    elim (eqb c p) as (λ b. (if b then without_front ps cs else None) ≡ (if (b && pointwise eqb (take (length ps) cs) ps) then Some (drop (length ps) cs) else None)) [
      | true ↦ without_front_is ps cs
      | false ↦ refl
    ]

-- what `strip_prefix` answers
pub stripped : (p s : List ℕ) (r : Option (Bor (List ℕ)))
    → MatchOption r (pointwise eqb (take (length p) s) p ≡ false) (λ x. (pointwise eqb (take (length p) s) p ≡ true) × (x.now ≡ drop (length p) s) × (length x.now + length p ≡ length s))
    → option_map (λ (x : Bor (List ℕ)). x.now) r ≡ without_front p s
stripped p s None h = sym (without_front_is p s ∙ ap (λ b. if b then Some (drop (length p) s) else None) h)
stripped p s (Some x) h = ap Some h.1 ∙ sym (without_front_is p s ∙ ap (λ b. if b then Some (drop (length p) s) else None) h.0)
