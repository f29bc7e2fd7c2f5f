use Rattle.std.proofs.Common.{◌≤◌, map}
use Rattle.gc_outside.proofs.Lines.{HasWritten}
use Rattle.gc_outside.specs.Sinks.{sink_seen}
use Rattle.kernel.specs.Shown.{named_of}
use Rattle.probe_stats.specs.Trace.{entry_line}
use Rattle.kernel.proofs.machine.Machine.write_entries.Given as goal

-- so far the lines of the entries before the place were emitted
abbrev pub invariant-loop-entry : goal.invariant-loop-entry
invariant-loop-entry g l = record {
  written : HasWritten (map (λ e. entry_line (named_of l.self).parts e) l.entries) l.entry-index (sink_seen g.R.Sink l.initial.report) (sink_seen g.R.Sink l.report);
  count : g.R.Sink.faults l.initial.report ≤ g.R.Sink.faults l.report;
}
