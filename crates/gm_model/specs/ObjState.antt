-- The states of the parts: one record for each kind, with plain lists and numbers. This project's own rules.
use Rattle.std.specs.Prelude.{ℕ, Bool, true, false, List, [], Option}
use Rattle.rv_step.specs.declared.arch.Arch.{Arch}
use Rattle.gm_words.specs.Flow.{Flow, Lane}
use Rattle.gm_words.specs.Platform.{slot_classes}
use Rattle.gm_words.specs.PortUses.{xbar_classes}
use Rattle.pkt_pool.specs.declared.packet.Packet.{Packet}
use Rattle.gm_words.specs.declared.params.Params.{Params}
use Rattle.gm_words.specs.declared.kind.Kind.{Kind}
use Rattle.gm_words.specs.declared.kind.Kind.TheVariants as kinds
use Rattle.gm_words.specs.declared.port_use.PortUse.{PortUse}

-- what each part has: its number, the sizes of a line and of RAM, the mode, and whether it is draining
pub record Common : Type 0 where
  pub object : ℕ
  pub line : ℕ
  pub ram : ℕ
  pub timing : Bool
  pub draining : Bool

-- at its start a part is draining and in atomic mode
abbrev pub common_start : Params → Common
common_start p = record { object = p.object.0; line = p.line; ram = p.ram; timing = false; draining = true }

-- where an atomic CPU stands: between two instructions, or before the response to a fetch, or to the data access of the
-- word, with the latency of its fetch
pub data CpuStage : Type 0 where
  Rest : CpuStage
  AwaitFetch : CpuStage
  AwaitData : (word latency : ℕ) → CpuStage

-- an atomic CPU: the hart's state, where it is active, its stage, and whether its event is pending
pub record AtomicCpuState : Type 0 where
  pub common : Common
  pub period : ℕ
  pub arch : Option Arch
  pub stage : CpuStage
  pub due : Bool

-- what a timing CPU has of its packet: it is offered; it was refused and waits; it is away
pub data Hand : Type 0 where
  Asks : Packet → Hand
  Held : Packet → Hand
  Away : Hand

-- where a timing CPU stands: between two instructions; its fetch is made; the word was fetched and asks for an access; that is made
pub data TimingStage : Type 0 where
  Between : TimingStage
  Fetch : Hand → TimingStage
  Ready : (word : ℕ) → TimingStage
  Data : (word : ℕ) → Hand → TimingStage

-- a timing CPU: the hart's state, where it is active, its stage, and whether its event is pending
pub record TimingCpuState : Type 0 where
  pub common : Common
  pub period : ℕ
  pub arch : Option Arch
  pub stage : TimingStage
  pub due : Bool

-- the layer of a crossbar for addresses of no port: its packet, and how many ports are before it where it waits
pub record SideLayer : Type 0 where
  pub lane : Lane
  pub ahead : ℕ

-- a crossbar: how long a packet stays in a layer, what each port is for, the layer of each port, and that of addresses of no port
pub record XbarState : Type 0 where
  pub common : Common
  pub latency : ℕ
  pub ports : List PortUse
  pub lanes : List Lane
  pub side : SideLayer

-- a UART: whether a byte is being sent, which takes `chartime`, and the input, oldest byte first
pub record UartState : Type 0 where
  pub chartime : ℕ
  pub busy : Bool
  pub input : List ℕ

-- a timer: how long its clock's period is, the level of the software line, the number with which its clock is compared, and the level
-- of the clock's line
pub record TimerState : Type 0 where
  pub period : ℕ
  pub msip : Bool
  pub compare : ℕ
  pub level : Bool

-- what a server serves: RAM's bytes, a UART, an exit device with the number that it keeps, or a timer
pub data Device : Type 0 where
  Memory : (bytes : List ℕ) → Device
  Uart : UartState → Device
  Exit : (code : Option ℕ) → Device
  Timer : TimerState → Device

-- a server: how long one request takes, how many places its queue has, the queue, whether a requestor that was refused
-- waits, and the device
pub record ServerState : Type 0 where
  pub common : Common
  pub latency : ℕ
  pub places : ℕ
  pub flow : Flow
  pub waiter : Bool
  pub device : Device

-- a part that isn't configured yet has its kind alone
pub data ObjState : Type 0 where
  Blank : Kind → ObjState
  AtomicCpu : AtomicCpuState → ObjState
  TimingCpu : TimingCpuState → ObjState
  Xbar : XbarState → ObjState
  Server : ServerState → ObjState

-- the kind that serves a device
abbrev pub device_kind : Device → Kind
device_kind (Memory bytes) = kinds.Mem
device_kind (Uart u) = kinds.Uart
device_kind (Exit code) = kinds.Exit
device_kind (Timer t) = kinds.Timer

-- the kind of a part
abbrev pub kind_of : ObjState → Kind
kind_of (Blank k) = k
kind_of (AtomicCpu s) = kinds.AtomicCpu
kind_of (TimingCpu s) = kinds.TimingCpu
kind_of (Xbar s) = kinds.Xbar
kind_of (Server s) = device_kind s.device

-- the number of a part; a blank one has none yet
abbrev pub object_of : ObjState → ℕ
object_of (Blank k) = 0
object_of (AtomicCpu s) = s.common.object
object_of (TimingCpu s) = s.common.object
object_of (Xbar s) = s.common.object
object_of (Server s) = s.common.object

-- it isn't configured yet
abbrev pub IsBlank : ObjState → Type 0
IsBlank (Blank k) = Unit {0}
IsBlank (AtomicCpu s) = ⊥
IsBlank (TimingCpu s) = ⊥
IsBlank (Xbar s) = ⊥
IsBlank (Server s) = ⊥

-- the classes of its slots; a blank one has none yet
abbrev pub slots_of : ObjState → List ℕ
slots_of (Blank k) = []
slots_of (AtomicCpu s) = slot_classes kinds.AtomicCpu
slots_of (TimingCpu s) = slot_classes kinds.TimingCpu
slots_of (Xbar s) = xbar_classes s.ports
slots_of (Server s) = slot_classes (device_kind s.device)

-- how long it takes for a packet that is passed to it
abbrev pub latency_of : ObjState → ℕ
latency_of (Blank k) = 0
latency_of (AtomicCpu s) = 0
latency_of (TimingCpu s) = 0
latency_of (Xbar s) = s.latency
latency_of (Server s) = s.latency
