-- The rules of all kinds: what a wake does, and what becomes of a packet that is passed on. This project's own rules.
-- Each rule is total: where what it is asked for can't come, nothing happens.
use Rattle.std.specs.Prelude.{ℕ, []}
use Rattle.pkt_pool.specs.declared.packet.Packet.{Packet}
use Rattle.gm_words.specs.declared.wake.Wake.{Wake}
use Rattle.gm_words.specs.declared.wake.Wake.TheVariants as wakes
use Rattle.gm_words.specs.declared.way.Way.TheVariants as ways
use Rattle.gm_model.specs.ObjState.{ObjState, Blank, AtomicCpu, TimingCpu, Xbar, Server}
use Rattle.gm_model.specs.Stepped.{Stepped, Passed, stays, drops}
use Rattle.gm_model.specs.AtomicCpu.{atomic_cpu_step}
use Rattle.gm_model.specs.TimingCpu.{timing_cpu_step}
use Rattle.gm_model.specs.Xbar.{xbar_step, xbar_atomic, xbar_functional}
use Rattle.gm_model.specs.Server.{server_step, server_atomic, functional_read}

-- a part that isn't configured does nothing with what comes
abbrev pub blank_step : ObjState → ℕ → Wake → Stepped
blank_step s next (wakes.Event slot) = stays s next
blank_step s next (wakes.Offer port p) = drops s next p
blank_step s next (wakes.Taken port) = stays s next
blank_step s next (wakes.Refused port) = stays s next
blank_step s next (wakes.Retry port) = stays s next
blank_step s next (wakes.Line bit level) = stays s next
blank_step s next (wakes.AtomicDone p latency) = drops s next p

-- what a wake does to a part, with the next packet number, at a tick
unfoldable pub object_step : ObjState → ℕ → Wake → ℕ → Stepped
object_step (Blank k) next w now = blank_step (Blank k) next w
object_step (AtomicCpu s) next w now = atomic_cpu_step s next w now
object_step (TimingCpu s) next w now = timing_cpu_step s next w now
object_step (Xbar s) next w now = xbar_step s next w now
object_step (Server s) next w now = server_step s next w now

-- the packet is nobody's here
abbrev pub not_passed : ObjState → Packet → Passed
not_passed s p = record { state = s; packet = p; changes = []; acts = []; entries = []; way = ways.Done 0 }

-- what becomes of a packet that is passed to a part, at a tick
unfoldable pub atomic_step : ObjState → Packet → ℕ → Passed
atomic_step (Blank k) p now = not_passed (Blank k) p
atomic_step (AtomicCpu s) p now = not_passed (AtomicCpu s) p
atomic_step (TimingCpu s) p now = not_passed (TimingCpu s) p
atomic_step (Xbar s) p now = xbar_atomic s p
atomic_step (Server s) p now = server_atomic s p now

-- what becomes of a read that is passed to a part without time: memory answers it, or a write-back on its way there
abbrev pub functional_step : ObjState → Packet → Packet
functional_step (Blank k) p = p
functional_step (AtomicCpu s) p = p
functional_step (TimingCpu s) p = p
functional_step (Xbar s) p = xbar_functional s p
functional_step (Server s) p = functional_read s p s.device
