use Rattle.std.proofs.Common.{◌≡◌, ◌-◌, ◌≤◌, [], length, map}
use Rattle.gc_outside.proofs.Lines.{HasWritten}
use Rattle.gc_outside.specs.Sinks.{sink_seen}
use Rattle.probe_stats.specs.Stats.{stats_line, stats_pairs}
use Rattle.session.proofs.script.stats.Given as goal

-- so far these lines were emitted
abbrev pub invariant-loop-now : goal.invariant-loop-now
invariant-loop-now g l = record {
  within : l.n ≤ length (stats_pairs l.counters l.now);
  empty : l.line ≡ [];
  written : HasWritten (map (λ p. stats_line p) (stats_pairs l.counters l.now)) l.n (sink_seen g.R.Sink l.initial.report) (sink_seen g.R.Sink l.report);
}

abbrev pub decreases-loop-now : goal.decreases-loop-now
decreases-loop-now g l = length (stats_pairs l.counters l.now) - l.n
