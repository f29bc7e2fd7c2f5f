use Rattle.gm_model.proofs.Examples.{wakes}
use Rattle.gm_model.proofs.laws.runs_as_the_timer_wakes.Goals as goal

pub returns : goal.returns
returns c = wakes
