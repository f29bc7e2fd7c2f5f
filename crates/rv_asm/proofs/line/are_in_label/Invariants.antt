use Rattle.std.proofs.Common.{◌≡◌, drop}
use Rattle.std.specs.List.{list_all}
use Rattle.rv_asm.specs.Lines.{is_in_label}
use Rattle.rv_asm.proofs.line.are_in_label.Given as goal

abbrev pub invariant-loop-c : goal.invariant-loop-c
invariant-loop-c l = list_all is_in_label (drop l.c-index l.name) ≡ list_all is_in_label l.name
