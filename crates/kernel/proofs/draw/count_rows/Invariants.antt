use Rattle.std.proofs.Common.{◌≡◌, ◌≤◌, ◌+◌, map, drop}
use Rattle.gm_words.specs.Shown.{part_shown}
use Rattle.kernel.specs.Build.{rows_of}
use Rattle.kernel.proofs.draw.count_rows.Given as goal

-- what was counted, and what is still to be counted
abbrev pub invariant-loop-i : goal.invariant-loop-i
invariant-loop-i l = record {
  counted : l.count + rows_of l.kind (drop l.i (map part_shown l.rows)) ≡ rows_of l.kind (map part_shown l.rows);
  few : l.count ≤ l.i;
}
