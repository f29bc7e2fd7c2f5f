use Rattle.gm_model.proofs.Examples.{in_time}
use Rattle.gm_model.proofs.laws.runs_in_time.Goals as goal

pub returns : goal.returns
returns c = in_time
