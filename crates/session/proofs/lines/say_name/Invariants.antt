use Rattle.std.proofs.Common.{◌-◌, ◌≤◌, ℕ, List, Option, length, take, true}
use Rattle.gc_outside.specs.Emits.{Emits}
use Rattle.session.specs.Names.{shown_name}
use Rattle.session.proofs.lines.say_name.Given as goal

-- so much of the name is said
pub record IsSaid (name : List ℕ) (done : ℕ) (old new : Option (List ℕ)) (before now : ℕ) : Type 0 where
  pub within : done ≤ length name
  pub said : Emits (shown_name (take done name)) true old new before now

abbrev pub invariant-loop-done : goal.invariant-loop-done
invariant-loop-done g l = IsSaid l.name l.done (g.R.Sink.taken l.initial.report) (g.R.Sink.taken l.report) (g.R.Sink.faults l.initial.report) (g.R.Sink.faults l.report)

abbrev pub decreases-loop-done : goal.decreases-loop-done
decreases-loop-done g l = length l.name - l.done
