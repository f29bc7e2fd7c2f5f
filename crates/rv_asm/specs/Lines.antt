-- this project's own rule: a line is blank, a label with a colon, or an instruction, each with an optional comment from #;
-- blanks may stand at both ends, before a comment and around a comma, and at least one between a name and its operands
use Rattle.std.specs.Prelude.{ℕ, ◌==◌, nat_le, Bool, false, ◌&&◌, ◌||◌, List, [], ◌∷◌, map, Option, Some, None, if◌then◌else◌}
use Rattle.std.specs.List.{before_first, after_first, slice_split, list_all}
use Rattle.gc_text.specs.LineReader.{lines_of}
use Rattle.rv_asm.specs.Bytes.{is_blank, trimmed, without_blanks_before, without_last}

-- what a line says: nothing, a label, or an instruction's name and operands
pub data Line : Type 0 where
  Blank : Line
  Label : List ℕ → Line
  Instruction : List ℕ → List (List ℕ) → Line

-- whether a byte begins a comment
abbrev pub is_hash : ℕ → Bool
is_hash c = c == 35

-- whether a byte stands between two operands
abbrev pub is_comma : ℕ → Bool
is_comma c = c == 44

-- whether a byte may begin a label: a letter of ASCII or _
abbrev pub begins_label : ℕ → Bool
begins_label c = (nat_le 65 c && nat_le c 90) || (nat_le 97 c && nat_le c 122) || c == 95

-- whether a byte may stand in a label: such a byte or a digit
abbrev pub is_in_label : ℕ → Bool
is_in_label c = begins_label c || (nat_le 48 c && nat_le c 57)

-- whether a text is a label's name
abbrev pub is_label : List ℕ → Bool
is_label [] = false
is_label (c ∷ cs) = begins_label c && list_all is_in_label cs

-- a line without its comment and the blanks at its ends
abbrev pub code_of : List ℕ → List ℕ
code_of line = trimmed (before_first is_hash line)

-- the operands, with commas between them
abbrev pub operands_of : List ℕ → List (List ℕ)
operands_of [] = []
operands_of (c ∷ cs) = map trimmed (slice_split is_comma (c ∷ cs))

-- a name, and behind a blank its operands
abbrev pub instruction_of : List ℕ → Line
instruction_of code = Instruction (before_first is_blank code) (operands_of (without_blanks_before (after_first is_blank code)))

-- what stands in front of a colon, where it is a label's name
abbrev pub label_before_colon : Option (List ℕ) → Option (List ℕ)
label_before_colon None = None
label_before_colon (Some name) = if is_label name then Some name else None

-- the label that a line gives: all of it but a colon at its end
abbrev pub label_in : List ℕ → Option (List ℕ)
label_in code = label_before_colon (without_last 58 code)

-- a label where there is one, else an instruction
abbrev pub labelled : Option (List ℕ) → List ℕ → Line
labelled (Some name) code = Label name
labelled None code = instruction_of code

-- a line without comment and blanks
abbrev pub line_of_code : List ℕ → Line
line_of_code [] = Blank
line_of_code (c ∷ cs) = labelled (label_in (c ∷ cs)) (c ∷ cs)

-- what a line says
abbrev pub line_of : List ℕ → Line
line_of line = line_of_code (code_of line)

-- what the lines of a text say, one after another
abbrev pub source_lines : List ℕ → List Line
source_lines text = map line_of (lines_of text)
