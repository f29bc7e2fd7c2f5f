use Rattle.std.proofs.Common.{refl, inr, false}
use Rattle.gc_outside.specs.Sinks.{sink_seen}
use Rattle.gc_outside.proofs.InOrder.{order_report}
use Rattle.session.proofs.script.say_memory.Goals as goal

pub returns-in-Err : goal.returns-in-Err
returns-in-Err g c console = inr (refl, order_report _ false (sink_seen g.R.Sink c.args.report.now) (sink_seen g.R.Sink c.say.new.sink) c.in-Err.ensures console)
