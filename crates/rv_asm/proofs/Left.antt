-- What is left of a text that is read line by line.
use Rattle.std.proofs.Common.{◌≡◌, ℕ, ◌+◌, ◌-◌, ◌<◌, ◌≤◌, List, [], ◌∷◌, length, take, drop, Option, Some, None, Bor, sym, ap, ◌∙◌, arith}
use Rattle.std.proofs.lemmas.List.{take_rest}
use Rattle.std.proofs.lemmas.List.Splits.{slice_split_first, slice_split_none}
use Rattle.std.proofs.lemmas.List.Sums.{fails_before_first}
use Rattle.std.specs.List.{position_or_len}
use Rattle.gc_text.specs.LineReader.{is_line_feed, lines_of}
use Rattle.rv_asm.specs.Lines.{Line, source_lines}

-- the lines that are left
abbrev pub lines_left : Option (Bor (List ℕ)) → List Line
lines_left None = []
lines_left (Some rest) = source_lines rest.now

-- how many bytes are left, and one for the end
abbrev pub bytes_left : Option (Bor (List ℕ)) → ℕ
bytes_left None = 0
bytes_left (Some rest) = length rest.now + 1

-- an ended first line, at the place of its line feed
pub ended_at : (t : List ℕ) (end : ℕ) → end ≡ position_or_len is_line_feed t → end < length t → lines_of t ≡ take end t ∷ lines_of (take (length t - (end + 1)) (drop (end + 1) t))
ended_at t end e lt =
    let at : position_or_len is_line_feed t < length t = omega arith in
    slice_split_first is_line_feed t 0 at
    ∙ ap (λ k. take k t ∷ lines_of (drop (k + 1) t)) (sym e)
    ∙ ap (λ r. take end t ∷ lines_of r) (sym (take_rest t (end + 1)))

-- a text without a line feed
pub alone : (t : List ℕ) → length t ≤ position_or_len is_line_feed t → lines_of t ≡ t ∷ []
alone t le = slice_split_none is_line_feed t (λ k d lt. fails_before_first is_line_feed t k d (omega arith))
