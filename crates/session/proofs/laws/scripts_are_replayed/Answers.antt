use Rattle.session.proofs.ReplayLemmas.{scripts_replayed}
use Rattle.session.proofs.laws.scripts_are_replayed.Goals as goal

pub returns : goal.returns
returns c = scripts_replayed
