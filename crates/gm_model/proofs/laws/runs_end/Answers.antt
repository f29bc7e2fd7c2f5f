use Rattle.gm_model.proofs.RunEnds.{runs_end}
use Rattle.gm_model.proofs.laws.runs_end.Goals as goal

pub returns : goal.returns
returns c = runs_end
