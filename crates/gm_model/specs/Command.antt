-- What is asked of a part beside its wakes, for all kinds: to begin, to drain and go on, to change its mode, to give and get the
-- hart. This project's own rules.
use Rattle.std.specs.Prelude.{ℕ, ◌||◌, Bool, true, false, if◌then◌else◌, List, [], replicate, Option, None}
use Rattle.rv_step.specs.declared.arch.Arch.{Arch}
use Rattle.gm_words.specs.Kind.{kind_of_own}
use Rattle.gm_words.specs.declared.own.Own.{Own}
use Rattle.gm_words.specs.declared.own.Own.TheVariants as owns
use Rattle.gm_words.specs.declared.params.Params.{Params}
use Rattle.gm_model.specs.ObjState.{ObjState, Blank, AtomicCpu, TimingCpu, Xbar, Server, Common, Memory, Uart, Exit, Timer}
use Rattle.gm_model.specs.AtomicCpu.{atomic_cpu_start, is_resting, is_asleep, is_awake, cpu_drained, cpu_resumed, is_cpu_drained}
use Rattle.gm_model.specs.TimingCpu.{timing_cpu_start, is_between, tcpu_drained, tcpu_resumed, is_tcpu_drained}
use Rattle.gm_model.specs.Xbar.{xbar_start, xbar_draining, is_xbar_drained}
use Rattle.gm_model.specs.Server.{server_start, server_draining, is_server_drained, device_code, device_takes_input, device_with_input, device_bytes, device_with_bytes}
use Rattle.gm_model.specs.Stepped.{Commanded}
use Rattle.gm_model.specs.Timer.{timer_start}

-- a part at its start, by what it is configured with: a CPU is inactive, RAM is zero; other kinds come later
abbrev pub start_of : Params → Own → ObjState
start_of p (owns.AtomicCpu period) = atomic_cpu_start p period
start_of p (owns.Mem latency queue) = server_start p latency queue (Memory (replicate p.ram 0))
start_of p (owns.Uart latency chartime) =
    server_start p latency 1 (Uart (record { chartime = chartime; busy = false; input = [] }))
start_of p (owns.Exit latency) = server_start p latency 1 (Exit None)
start_of p (owns.Timer latency period) = server_start p latency 1 (Timer (timer_start period))
start_of p (owns.TimingCpu period) = timing_cpu_start p period
start_of p (owns.Xbar latency ports) = xbar_start p latency ports
start_of p (owns.Cache source sets ways mshrs targets writeq latency) = Blank (kind_of_own p.own)
start_of p (owns.Dma latency period window) = Blank (kind_of_own p.own)

-- the part with its common fields changed
abbrev pub with_common : (Common → Common) → ObjState → ObjState
with_common f (Blank k) = Blank k
with_common f (AtomicCpu s) = AtomicCpu (record s { common = f s.common })
with_common f (TimingCpu s) = TimingCpu (record s { common = f s.common })
with_common f (Xbar s) = Xbar (record s { common = f s.common })
with_common f (Server s) = Server (record s { common = f s.common })

-- the part in the timing mode, or in the atomic mode
abbrev pub with_mode : Bool → ObjState → ObjState
with_mode timing s = with_common (λ c. record c { timing = timing }) s

-- the part is asked to drain
abbrev pub drain_step : ObjState → Commanded
drain_step (Blank k) = record { state = Blank k; changes = [] }
drain_step (AtomicCpu s) = cpu_drained s (is_resting s.stage || is_asleep s.arch)
drain_step (TimingCpu s) = tcpu_drained s (is_between s.stage)
drain_step (Xbar s) = xbar_draining true s
drain_step (Server s) = server_draining true s

-- the part goes on after a drain, at a tick
abbrev pub resume_step : ObjState → ℕ → Commanded
resume_step (Blank k) now = record { state = Blank k; changes = [] }
resume_step (AtomicCpu s) now = cpu_resumed s now (is_awake s.arch)
resume_step (TimingCpu s) now = tcpu_resumed s now (is_awake s.arch)
resume_step (Xbar s) now = xbar_draining false s
resume_step (Server s) now = server_draining false s

-- the part holds no packet and no waiter, awaits no response, and has no event of a port or a CPU
abbrev pub is_drained : ObjState → Bool
is_drained (Blank k) = true
is_drained (AtomicCpu s) = is_cpu_drained s
is_drained (TimingCpu s) = is_tcpu_drained s
is_drained (Xbar s) = is_xbar_drained s
is_drained (Server s) = is_server_drained s

-- the caches' lines are forgotten; no other kind has any
abbrev pub invalidated : ObjState → ObjState
invalidated s = s

-- the hart's state, where the part is the active CPU
abbrev pub arch_of : ObjState → Option Arch
arch_of (Blank k) = None
arch_of (AtomicCpu s) = s.arch
arch_of (TimingCpu s) = s.arch
arch_of (Xbar s) = None
arch_of (Server s) = None

-- the part without the hart, or with it
abbrev pub with_arch : Option Arch → ObjState → ObjState
with_arch a (Blank k) = Blank k
with_arch a (AtomicCpu s) = AtomicCpu (record s { arch = a })
with_arch a (TimingCpu s) = TimingCpu (record s { arch = a })
with_arch a (Xbar s) = Xbar s
with_arch a (Server s) = Server s

-- the number with which the guest has exited, where the part keeps one
abbrev pub exit_code : ObjState → Option ℕ
exit_code (Blank k) = None
exit_code (AtomicCpu s) = None
exit_code (TimingCpu s) = None
exit_code (Xbar s) = None
exit_code (Server s) = device_code s.device

-- the part has a place for an input byte
abbrev pub takes_input : ObjState → Bool
takes_input (Blank k) = false
takes_input (AtomicCpu s) = false
takes_input (TimingCpu s) = false
takes_input (Xbar s) = false
takes_input (Server s) = device_takes_input s.device

-- the part after an input byte, which it takes where it has a place
abbrev pub with_input : ℕ → ObjState → ObjState
with_input b (Blank k) = Blank k
with_input b (AtomicCpu s) = AtomicCpu s
with_input b (TimingCpu s) = TimingCpu s
with_input b (Xbar s) = Xbar s
with_input b (Server s) =
    if device_takes_input s.device then Server (record s { device = device_with_input b s.device }) else Server s

-- the bytes that a part keeps, where it keeps any
abbrev pub own_bytes : ObjState → Option (List ℕ)
own_bytes (Blank k) = None
own_bytes (AtomicCpu s) = None
own_bytes (TimingCpu s) = None
own_bytes (Xbar s) = None
own_bytes (Server s) = device_bytes s.device

-- the part with other bytes from a place on
abbrev pub with_own_bytes : ℕ → List ℕ → ObjState → ObjState
with_own_bytes at bytes (Blank k) = Blank k
with_own_bytes at bytes (AtomicCpu s) = AtomicCpu s
with_own_bytes at bytes (TimingCpu s) = TimingCpu s
with_own_bytes at bytes (Xbar s) = Xbar s
with_own_bytes at bytes (Server s) = Server (record s { device = device_with_bytes at bytes s.device })

-- a line of a cache: its set, its address, whether it is dirty, and its bytes
pub record CacheLine : Type 0 where
  pub set : ℕ
  pub address : ℕ
  pub dirty : Bool
  pub bytes : List ℕ

-- the lines that a part keeps, by their sets, and in a set the most recently used first; no kind keeps any yet
abbrev pub lines_of : ObjState → List CacheLine
lines_of s = []
