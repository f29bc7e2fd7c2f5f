use Rattle.gc_outside.specs.Sinks.{sink_seen}
use Rattle.gc_outside.proofs.InOrder.{not_ok}
use Rattle.gc_outside.proofs.Lines.{appended, first_cut, first_then}
use Rattle.kernel.proofs.machine.Machine.write_lines.Goals as goal

pub returns-in_err-emit-clause-emitted : goal.returns-in_err-emit-clause-emitted
returns-in_err-emit-clause-emitted g c =
    rw (not_ok c.from_residual.result c.from_residual.ensures.0)
    (first_cut _ _ _ (sink_seen g.R.Sink c.args.report.now) (sink_seen g.R.Sink c.emit.new.report) (appended _ _ _ c.trace_head.ensures c.new-line.ensures) c.in_err-emit.ensures.emitted)

pub returns-clause-emitted : goal.returns-clause-emitted
returns-clause-emitted g c =
    first_then _ _ _ _ (sink_seen g.R.Sink c.args.report.now) (sink_seen g.R.Sink c.emit.new.report) (sink_seen g.R.Sink c.write_entries.new.report)
    (appended _ _ _ c.trace_head.ensures c.new-line.ensures) c.in_ok-emit.ensures.emitted c.write_entries.ensures.emitted
