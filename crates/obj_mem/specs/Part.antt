-- A part that is memory. This project's own rule.
use Rattle.std.specs.Prelude.{ℕ, ◌==◌, ◌&&◌, Bool, true, false}
use Rattle.gm_model.specs.ObjState.{ObjState, Blank, AtomicCpu, TimingCpu, Xbar, Server, Device, Memory, Uart, Exit, Timer}

-- the device is memory
abbrev pub is_ram : Device → Bool
is_ram (Memory m) = true
is_ram (Uart u) = false
is_ram (Exit code) = false
is_ram (Timer t) = false

-- the part is memory that is configured, with this number
abbrev pub is_memory : ℕ → ObjState → Bool
is_memory n (Blank k) = false
is_memory n (AtomicCpu s) = false
is_memory n (TimingCpu s) = false
is_memory n (Xbar s) = false
is_memory n (Server s) = (s.common.object == n) && is_ram s.device
