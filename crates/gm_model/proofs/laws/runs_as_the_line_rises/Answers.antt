use Rattle.gm_model.proofs.Examples.{as_the_line_rises}
use Rattle.gm_model.proofs.laws.runs_as_the_line_rises.Goals as goal

pub returns : goal.returns
returns c = as_the_line_rises
