-- Blanks at the front of what follows a name.
use Rattle.std.proofs.Common.{◌≡◌, ℕ, ◌+◌, List, ◌∷◌, length, get_or, drop, true, inl, inr, sym, ap, ◌∙◌, arith}
use Rattle.std.proofs.lemmas.Bool.{cases_lt}
use Rattle.std.proofs.lemmas.List.{drop_more, drop_all}
use Rattle.std.proofs.lemmas.List.Sums.{passes_at_first}
use Rattle.std.specs.List.{position_or_len, after_first}
use Rattle.std.specs.Prelude.{if◌then◌else◌}
use Rattle.rv_asm.specs.Bytes.{is_blank, without_blanks_before}

-- a blank in front goes with the others
pub blank_in_front : (c : ℕ) (cs : List ℕ) → is_blank c ≡ true → without_blanks_before (c ∷ cs) ≡ without_blanks_before cs
blank_in_front c cs is = ap (λ b. if b then without_blanks_before cs else c ∷ cs) is

-- what follows the first blank, with it or without
pub from_first_blank : (text : List ℕ) → without_blanks_before (drop (position_or_len is_blank text) text) ≡ without_blanks_before (after_first is_blank text)
from_first_blank text =
    elim (cases_lt (position_or_len is_blank text) (length text)) [
      | inl lt ↦
          ap without_blanks_before (drop_more text (position_or_len is_blank text) 0 lt)
          ∙ blank_in_front (get_or text (position_or_len is_blank text) 0) (after_first is_blank text) (passes_at_first is_blank text 0 lt)
      | inr ge ↦
          ap without_blanks_before (drop_all (position_or_len is_blank text) text ge ∙ sym (drop_all (position_or_len is_blank text + 1) text (omega arith)))
    ]
