use Rattle.std.proofs.Common.{◌≡◌, length, drop, map}
use Rattle.gm_words.specs.Shown.{part_shown}
use Rattle.probe_stats.specs.Stats.{count_at}
use Rattle.probe_stats.proofs.counters.stats.count_at.Given as goal

-- the count in what is left is that in all
abbrev pub invariant-loop-part : goal.invariant-loop-part
invariant-loop-part l =
    count_at (map part_shown (drop (length l.yielded) l.parts)) (drop (length l.yielded) l.counts) l.path ≡ count_at (map part_shown l.parts) l.counts l.path
