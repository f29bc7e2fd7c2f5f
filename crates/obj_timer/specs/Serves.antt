-- What a request to the timer gives, by its register. This project's own rule.
use Rattle.std.specs.Prelude.{ℕ}
use Rattle.pkt_pool.specs.declared.packet.Packet.{Packet}
use Rattle.gm_model.specs.Serve.{Served}
use Rattle.gm_model.specs.Timer.{timer_register, timer_read, timer_write}
use Rattle.obj_timer.specs.State.{timer_of}
use Rattle.obj_timer.specs.declared.device.TimerDevice.{TimerDevice}

-- a read
abbrev pub serves_read : TimerDevice → Packet → ℕ → Served
serves_read t p now = timer_read (timer_of t) p now (timer_register p.addr p.size)

-- a write
abbrev pub serves_write : TimerDevice → Packet → ℕ → Served
serves_write t p now = timer_write (timer_of t) p now (timer_register p.addr p.size)
