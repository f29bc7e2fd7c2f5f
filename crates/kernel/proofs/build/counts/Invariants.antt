use Rattle.std.proofs.Common.{◌≡◌, ◌++◌, map, drop}
use Rattle.gm_words.specs.Shown.{part_shown}
use Rattle.kernel.specs.Build.{slot_counts}
use Rattle.kernel.proofs.build.counts.Given as goal

-- with the rows that are left, all are counted
abbrev pub invariant-loop-i : goal.invariant-loop-i
invariant-loop-i l = l.counts.items ++ slot_counts (drop l.i (map part_shown l.rows)) ≡ slot_counts (map part_shown l.rows)
