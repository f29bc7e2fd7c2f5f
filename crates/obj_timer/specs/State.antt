-- The state that the timer shows. This project's own rule.
use Rattle.gm_model.specs.ObjState.{TimerState}
use Rattle.obj_timer.specs.declared.device.TimerDevice.{TimerDevice}

-- the device's state
abbrev pub timer_of : TimerDevice → TimerState
timer_of t = record { period = t.period; msip = t.msip; compare = t.mtimecmp; level = t.level }
