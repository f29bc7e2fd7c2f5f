-- The registers of the timer in code, as the rule has them. This project's own rule.
use Rattle.gm_model.specs.Timer.{TimerRegister, Msip, Compare, Clock, Nowhere}
use Rattle.obj_timer.specs.declared.registers.Register.{Register as KeptRegister}
use Rattle.obj_timer.specs.declared.registers.Register.TheVariants as kept

abbrev pub register_of : KeptRegister → TimerRegister
register_of kept.Msip = Msip
register_of kept.Mtimecmp = Compare
register_of kept.Mtime = Clock
register_of kept.Nowhere = Nowhere
