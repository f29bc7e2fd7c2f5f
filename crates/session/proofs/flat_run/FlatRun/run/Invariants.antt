use Rattle.std.proofs.Common.{◌-◌, ◌≤◌, []}
use Rattle.session.specs.Run.{state_with}
use Rattle.session.proofs.RunLemmas.{Follows}
use Rattle.session.proofs.flat_run.FlatRun.run.Given as goal

abbrev pub invariant-loop-self : goal.invariant-loop-self
invariant-loop-self g l =
    (l.self.steps ≤ l.count)
    × Follows (state_with l.initial.self []) l.self (g.C.Sink.taken l.initial.console) (g.C.Sink.taken l.console) (g.C.Sink.faults l.initial.console) (g.C.Sink.faults l.console)

abbrev pub decreases-loop-self : goal.decreases-loop-self
decreases-loop-self g l = l.count - l.self.steps
