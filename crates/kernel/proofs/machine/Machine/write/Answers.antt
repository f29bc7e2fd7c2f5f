use Rattle.gc_outside.specs.Sinks.{sink_seen}
use Rattle.gc_outside.proofs.InOrder.{not_ok}
use Rattle.kernel.proofs.Emitted.{event_cut, event_then}
use Rattle.kernel.proofs.machine.Machine.write.Goals as goal

pub returns-in_err-write_byte-clause-emitted : goal.returns-in_err-write_byte-clause-emitted
returns-in_err-write_byte-clause-emitted g c =
    rw (not_ok c.from_residual.result c.from_residual.ensures.0)
    (event_cut _ _ _ (sink_seen g.C.Sink c.args.console.now) (sink_seen g.C.Sink c.write_byte.new.console) (sink_seen g.R.Sink c.args.report.now) c.requires.byte c.in_err-write_byte.ensures.emitted)

pub returns-clause-emitted : goal.returns-clause-emitted
returns-clause-emitted g c =
    event_then _ _ _ _ (sink_seen g.C.Sink c.args.console.now) (sink_seen g.C.Sink c.write_byte.new.console) (sink_seen g.R.Sink c.args.report.now) (sink_seen g.R.Sink c.write_trace.new.report)
    c.requires.byte c.in_ok-write_byte.ensures.emitted c.write_trace.ensures.emitted
