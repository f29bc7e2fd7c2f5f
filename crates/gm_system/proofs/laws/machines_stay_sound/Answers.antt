use Rattle.gm_system.proofs.AllLaws.{stays_sound}
use Rattle.gm_system.proofs.laws.machines_stay_sound.Goals as goal

pub returns : goal.returns
returns c = stays_sound
