use Rattle.gm_model.proofs.Examples.{runs}
use Rattle.gm_model.proofs.laws.runs_store_and_exit.Goals as goal

pub returns : goal.returns
returns c = runs
