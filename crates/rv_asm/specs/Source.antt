-- this project's own rule: a source is read in two passes, first its labels and then its words; the first faulty line decides
use Rattle.std.specs.Prelude.{◌≡◌, ℕ, ◌+◌, ◌^◌, nat_lt, Bool, false, List, [], ◌∷◌, ℤ, pos, Option, Some, None, Result, Ok, Err, codes, if◌then◌else◌}
use Rattle.std.specs.Option.{ok_or}
use Rattle.std.specs.Str.{bytes_eq}
use Rattle.rv_table.specs.declared.op.Op.{Op}
use Rattle.rv_asm.specs.declared.fault.AsmFault.{AsmFault}
use Rattle.rv_asm.specs.declared.fault.AsmFault.TheVariants.{NoMemory, Line as FaultyLine}
use Rattle.rv_asm.specs.declared.fault.AsmKind.{AsmKind}
use Rattle.rv_asm.specs.declared.fault.AsmKind.TheVariants.{Word, Twice, Range}
use Rattle.rv_asm.specs.declared.place.Place.{Place}
use Rattle.rv_asm.specs.Forms.{form_of}
use Rattle.rv_asm.specs.Labels.{words_in, labels_from, place_of}
use Rattle.rv_asm.specs.Lines.{Line, Blank, Label, Instruction, source_lines}
use Rattle.rv_asm.specs.Names.{operation_named}
use Rattle.rv_asm.specs.Instructions.{fields_in}
use Rattle.rv_asm.specs.Operands.{chain, number, one}
use Rattle.rv_asm.specs.Targets.{Scope}
use Rattle.rv_asm.specs.Ranges.{encoded}

-- a number as a word of 32 bits
abbrev pub word_from : ℤ → Result ℕ AsmKind
word_from (pos n) = if nat_lt n (2 ^ 32) then Ok n else Err Range
word_from _ = Err Range

-- the word that a source gives as a number
abbrev pub plain_word : List (List ℕ) → Result ℕ AsmKind
plain_word operands = chain (one operands) (λ n. chain (number n) word_from)

-- the word of an operation with operands
abbrev pub operation_word : Scope → List (List ℕ) → Op → Result ℕ AsmKind
operation_word s operands o = chain (fields_in (form_of o) s o operands) encoded

-- the word of an instruction
abbrev pub instruction_word : Scope → List ℕ → List (List ℕ) → Result ℕ AsmKind
instruction_word s name operands =
    if bytes_eq name (codes ".word") then plain_word operands
    else chain (ok_or (operation_named name) Word) (operation_word s operands)

-- whether a label's first line is one before line n
abbrev pub is_given_before : ℕ → Option Place → Bool
is_given_before n None = false
is_given_before n (Some p) = nat_lt p.line n

-- the word of line n, if it takes one, where k words stand in front of it
abbrev pub line_word : (List ℕ → Option Place) → ℕ → ℕ → Line → Result (Option ℕ) AsmKind
line_word labels n k Blank = Ok None
line_word labels n k (Label name) = if is_given_before n (labels name) then Err Twice else Ok None
line_word labels n k (Instruction name operands) =
    chain (instruction_word (record { place = k; labels = labels }) name operands) (λ w. Ok (Some w))

-- a word in front of those that follow it
abbrev pub onto : ℕ → Result (List ℕ) AsmFault → Result (List ℕ) AsmFault
onto w (Ok ws) = Ok (w ∷ ws)
onto w (Err e) = Err e

-- what line n gives, in front of the words that follow it
abbrev pub then_words : ℕ → Result (Option ℕ) AsmKind → Result (List ℕ) AsmFault → Result (List ℕ) AsmFault
then_words n (Err kind) rest = Err (FaultyLine n kind)
then_words n (Ok None) rest = rest
then_words n (Ok (Some w)) rest = onto w rest

-- the words of the lines from number n on, where k words stand in front of them, or the fault of the first that has one
abbrev pub words_from : (List ℕ → Option Place) → ℕ → ℕ → List Line → Result (List ℕ) AsmFault
words_from labels n k [] = Ok []
words_from labels n k (l ∷ ls) = then_words n (line_word labels n k l) (words_from labels (n + 1) (k + words_in l) ls)

-- the words of some lines, or the fault of the first that has one; lines count from 1
abbrev pub words_of_lines : List Line → Result (List ℕ) AsmFault
words_of_lines lines = words_from (place_of (labels_from 1 0 lines)) 1 0 lines

-- the words of a source, or the fault of its first faulty line
unfoldable pub words_of : List ℕ → Result (List ℕ) AsmFault
words_of text = words_of_lines (source_lines text)

-- why the words aren't answered: want of memory, or the fault that is the result in their stead
abbrev pub Explains : Result (List ℕ) AsmFault → AsmFault → Type 0
Explains result NoMemory = Unit {0}
Explains result (FaultyLine line kind) = result ≡ Err (FaultyLine line kind)
