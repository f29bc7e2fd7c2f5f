-- What a hole of a format writes, in the words of the disassembly.
use Rattle.std.proofs.Common.{◌≡◌, ℕ, ◌-◌, ◌^◌, List, [], ◌++◌, length, replicate, false, ap, ◌∙◌, arith}
use Rattle.std.proofs.lemmas.List.{append-nil}
use Rattle.std.specs.Fmt.{padded_integral, format_spec, char_count}

-- digits that are filled with zeros up to eight
pub padded-eight : (t : List ℕ) → padded_integral (format_spec 32 0 4 8 (2 ^ 64 - 1)) false [] t ≡ replicate (8 - length t) 48 ++ t
unfolding padded_integral char_count
padded-eight t =
    let e : 8 - length t - 0 - 0 ≡ 8 - length t = omega arith in
    ap (λ k. replicate k 48 ++ (t ++ [])) e ∙ ap (λ u. replicate (8 - length t) 48 ++ u) (append-nil t)
