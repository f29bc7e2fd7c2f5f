use Rattle.gm_system.proofs.AnyRuns.{runs_hold}
use Rattle.gm_system.proofs.laws.runs_are_replayed.Goals as goal

pub returns : goal.returns
returns c = runs_hold
