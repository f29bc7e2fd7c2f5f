-- The code's lines and labels as the definitions have them. No public clause cites this module.
use Rattle.std.specs.Prelude.{ℕ, nat_lt, Bool, List, length, Option, Result, Ok, Err, if◌then◌else◌}
use Rattle.std.specs.List.{before_first, after_first, position_or_len}
use Rattle.rv_asm.specs.declared.fault.AsmKind.{AsmKind}
use Rattle.rv_asm.specs.declared.fault.AsmKind.TheVariants.{Operand}
use Rattle.rv_asm.specs.Bytes.{trimmed}
use Rattle.rv_asm.specs.Lines.{Line, Blank, Label, Instruction, operands_of, is_comma}
use Rattle.std.specs.HashMap.{get_by}
use Rattle.std.specs.Str.{bytes_eq}
use Rattle.rv_asm.specs.declared.labels.Labels.{Labels as LabelsItem}
use Rattle.rv_asm.specs.declared.place.Place.{Place}
use Rattle.rv_asm.specs.declared.target.Scope.{Scope as ScopeItem}
use Rattle.rv_asm.specs.Targets.{Scope}
use Rattle.rv_asm.specs.declared.line.Line.{Line as LineSeen}
use Rattle.rv_asm.specs.declared.line.Line.TheVariants.{Blank as BlankSeen, Label as LabelSeen, Instruction as InstructionSeen}

-- a line of the code
abbrev pub line_seen : LineSeen → Line
line_seen BlankSeen = Blank
line_seen (LabelSeen name) = Label name.now
line_seen (InstructionSeen name operands) = Instruction name.now (operands_of operands.now)

-- where a label of the code is given first
abbrev pub labels_seen : LabelsItem → List ℕ → Option Place
labels_seen labels name = get_by (λ k. bytes_eq name k.now) labels.places

-- a line's place and the labels as the code has them
abbrev pub scope_seen : ScopeItem → Scope
scope_seen s = record { place = s.place; labels = labels_seen s.labels.now }

-- whether a comma stands in a text
abbrev pub has_comma : List ℕ → Bool
has_comma text = nat_lt (position_or_len is_comma text) (length text)

-- what stands in front of the first comma and what follows it
abbrev pub cut : List ℕ → Result (List ℕ × List ℕ) AsmKind
cut text = if has_comma text then Ok (trimmed (before_first is_comma text), after_first is_comma text) else Err Operand

-- a text without a comma
abbrev pub last : List ℕ → Result (List ℕ) AsmKind
last text = if has_comma text then Err Operand else Ok (trimmed text)
