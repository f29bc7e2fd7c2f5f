use Rattle.std.proofs.Common.{◌≡◌, ◌+◌, ◌≤◌, ◌++◌, map, length}
use Rattle.rv_asm.specs.Lines.{source_lines}
use Rattle.rv_asm.specs.Seen.{line_seen}
use Rattle.rv_asm.proofs.Left.{lines_left, bytes_left}
use Rattle.rv_asm.proofs.assembling.lines_of.Given as goal

abbrev pub invariant-loop-rest : goal.invariant-loop-rest
invariant-loop-rest l = record {
  same : map line_seen l.lines.items ++ lines_left l.rest ≡ source_lines l.text;
  few : length l.lines.items + bytes_left l.rest ≤ length l.text + 1;
}

abbrev pub decreases-loop-rest : goal.decreases-loop-rest
decreases-loop-rest l = bytes_left l.rest
