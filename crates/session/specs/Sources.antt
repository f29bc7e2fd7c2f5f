-- Sources of the assembler: what is asked of their bytes. Source: this project's own rule.
use Rattle.std.specs.Prelude.{ℕ, ◌+◌, ◌==◌, if◌then◌else◌, List, length, filter, take, Result, Err}
use Rattle.std.specs.Str.{is_utf8}
use Rattle.std.specs.Str.Lossy.{utf8_valid_len}
use Rattle.rv_asm.specs.Source.{words_of}
use Rattle.rv_asm.specs.declared.fault.AsmFault.{AsmFault}
use Rattle.rv_asm.specs.declared.fault.AsmFault.TheVariants.{Line}
use Rattle.rv_asm.specs.declared.fault.AsmKind.TheVariants.{Word}

-- the number of the line in which a byte stands; lines count from 1
abbrev pub line_of_byte : ℕ → List ℕ → ℕ
line_of_byte place text = length (filter (λ b. b == 10) (take place text)) + 1

-- the words of a source's bytes, or its first fault; bytes that are no UTF-8 are no word of their line
abbrev pub source_words : List ℕ → Result (List ℕ) AsmFault
source_words text = if is_utf8 text then words_of text else Err (Line (line_of_byte (utf8_valid_len text) text) Word)
