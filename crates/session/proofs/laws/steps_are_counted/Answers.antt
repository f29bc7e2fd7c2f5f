use Rattle.std.proofs.Common.{refl}
use Rattle.session.specs.Run.{flat_start}
use Rattle.session.proofs.StepLemmas.{flat_run-steps}
use Rattle.session.proofs.laws.steps_are_counted.Goals as goal

pub returns : goal.returns
returns c = λ image count. flat_run-steps (flat_start image) count refl
