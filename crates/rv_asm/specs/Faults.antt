-- this project's own rule: what is wrong with a line is told by one word
use Rattle.std.specs.Prelude.{ℕ, List, codes}
use Rattle.rv_asm.specs.declared.fault.AsmKind.{AsmKind}
use Rattle.rv_asm.specs.declared.fault.AsmKind.TheVariants.{Word, Operand, Twice, Label, Range}

-- the word of each kind
abbrev pub kind_name : AsmKind → List ℕ
kind_name Word = codes "word"
kind_name Operand = codes "operand"
kind_name Twice = codes "twice"
kind_name Label = codes "label"
kind_name Range = codes "range"
