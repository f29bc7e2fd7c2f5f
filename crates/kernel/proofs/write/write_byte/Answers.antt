use Rattle.gc_outside.specs.Sinks.{sink_seen}
use Rattle.kernel.proofs.Emitted.{byte_wrote}
use Rattle.kernel.proofs.write.write_byte.Goals as goal

pub returns-in-Some-clause-emitted : goal.returns-in-Some-clause-emitted
returns-in-Some-clause-emitted g c =
    byte_wrote _ _ _ (sink_seen g.C.Sink c.args.console.now) (sink_seen g.C.Sink c.emit_byte.new.console) c.in-Some.is c.emit_byte.ensures.emitted
