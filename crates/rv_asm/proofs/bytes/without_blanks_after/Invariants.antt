use Rattle.std.proofs.Common.{◌≡◌, length}
use Rattle.rv_asm.specs.Bytes.{without_blanks_after}
use Rattle.rv_asm.proofs.bytes.without_blanks_after.Given as goal

abbrev pub invariant-loop-last : goal.invariant-loop-last
invariant-loop-last l = without_blanks_after l.front ≡ without_blanks_after l.text

abbrev pub decreases-loop-last : goal.decreases-loop-last
decreases-loop-last l = length l.front
