use Rattle.std.proofs.Common.{◌≡◌, ◌∙◌, ap, arith, ℕ, take, replicate}
use Rattle.std.proofs.lemmas.List.{take-replicate}
use Rattle.elf_image.proofs.piece.zeros.Goals as goal

pub returns : goal.returns
returns c =
    let zero : ℕ = 0 in
    let same : take c.min.result (replicate 256 zero) ≡ replicate c.min.result zero = take-replicate c.min.result 256 zero (omega (arith, c.min.ensures)) in
    same ∙ ap (λ (n : ℕ). replicate n zero) c.min.ensures
