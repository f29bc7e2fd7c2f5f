-- The words of a source's bytes, by whether they are UTF-8.
use Rattle.std.proofs.Common.{◌≡◌, ℕ, refl, sym, ◌∙◌, ap, subst, Bool, true, false, if◌then◌else◌, List, Result, Ok, Err}
use Rattle.std.specs.Str.{IsUtf8, is_utf8}
use Rattle.std.specs.Str.Lossy.{utf8_valid_len}
use Rattle.std.proofs.lemmas.Str.{IsUtf8-from_is_utf8, is_utf8-from_IsUtf8}
use Rattle.rv_asm.specs.Source.{words_of}
use Rattle.rv_asm.specs.declared.fault.AsmFault.{AsmFault}
use Rattle.rv_asm.specs.declared.fault.AsmFault.TheVariants.{Line}
use Rattle.rv_asm.specs.declared.fault.AsmKind.TheVariants.{Word}
use Rattle.session.specs.Sources.{line_of_byte, source_words}

pub words-utf8 : (text : List ℕ) → IsUtf8 text → source_words text ≡ words_of text
words-utf8 text h = rw (is_utf8-from_IsUtf8 text h) refl

pub words-other : (text : List ℕ) (place line : ℕ) → (IsUtf8 text → ⊥) → place ≡ utf8_valid_len text → line ≡ line_of_byte place text
    → source_words text ≡ Err (Line line Word)
words-other text place line other at is = by_test (is_utf8 text) refl where
  by_test : (b : Bool) → is_utf8 text ≡ b → source_words text ≡ Err (Line line Word)
  by_test true e = absurd (other (IsUtf8-from_is_utf8 text e))
  by_test false e = rw (e, is, at) refl
