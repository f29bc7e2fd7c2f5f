use Rattle.gm_system.proofs.AllLaws.{starts_sound}
use Rattle.gm_system.proofs.laws.machines_start_sound.Goals as goal

pub returns : goal.returns
returns c = starts_sound
