use Rattle.std.proofs.Common.{◌≡◌, drop}
use Rattle.rv_asm.specs.Bytes.{without_blanks_before}
use Rattle.rv_asm.proofs.bytes.without_blanks_before.Given as goal

abbrev pub invariant-loop-i : goal.invariant-loop-i
invariant-loop-i l = without_blanks_before (drop l.i l.text) ≡ without_blanks_before l.text
