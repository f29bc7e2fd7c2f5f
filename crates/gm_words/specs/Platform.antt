-- The platform as one table: the parts in the order of their paths, their addresses, ports, slots and classes.
-- This project's own rules; RAM begins where RISC-V boards have it.
use Rattle.std.specs.Prelude.{ℕ, ◌+◌, ◌-◌, nat_le, ◌&&◌, Bool, List, [], ◌∷◌, codes, Option, Some, None}
use Rattle.rv_step.specs.FlatMem.{ram_base}
use Rattle.rv_step.specs.Flat.{uart_base, exit_base}
use Rattle.cfg_tree.specs.declared.config.Config.{Config}
use Rattle.gm_words.specs.PortUses.{last_address, used, xbar_classes}
use Rattle.gm_words.specs.declared.own.Own.{Own}
use Rattle.gm_words.specs.declared.own.Own.TheVariants as owns
use Rattle.gm_words.specs.declared.kind.Kind.{Kind}
use Rattle.gm_words.specs.declared.kind.Kind.TheVariants as kinds
use Rattle.gm_words.specs.declared.port_use.PortUse.{PortUse}
use Rattle.gm_words.specs.declared.port_use.PortUse.TheVariants as uses

-- classes of events: at one tick the lower one is served first; a crossbar's are lower still
abbrev pub device_class : ℕ
device_class = 30

abbrev pub cpu_class : ℕ
cpu_class = 50

-- a CPU's slot, in which it goes on
abbrev pub cpu_slot : ℕ
cpu_slot = 0

-- a server's slot, in which it serves, and its port
abbrev pub serve_slot : ℕ
serve_slot = 0

abbrev pub serve_port : ℕ
serve_port = 0

-- the slot of a device's own event: a UART can take a byte again, or a timer's clock comes to the number that it is compared with
abbrev pub own_slot : ℕ
own_slot = 1

-- the timer's addresses begin here
abbrev pub timer_base : ℕ
timer_base = 0x2000000

-- the hart's lines of the timer: by software, and by its clock
abbrev pub software_line : ℕ
software_line = 3

abbrev pub clock_line : ℕ
clock_line = 7

-- a CPU's ports
abbrev pub fetch_port : ℕ
fetch_port = 0

abbrev pub data_port : ℕ
data_port = 1

-- the sources of requests that are noted when they are served
abbrev pub fetch_source : ℕ
fetch_source = 0

abbrev pub data_source : ℕ
data_source = 1

abbrev pub dma_source : ℕ
dma_source = 2

-- the addresses from the first to the last
pub record Range : Type 0 where
  pub first : ℕ
  pub last : ℕ

-- the address is one of them
abbrev pub is_within : ℕ → Range → Bool
is_within address r = nat_le r.first address && nat_le address r.last

-- so many bytes from a first address on
abbrev pub range_of : ℕ → ℕ → Range
range_of first size = record { first = first; last = first + size - 1 }

-- a port of a part
pub record End : Type 0 where
  pub part : ℕ
  pub port : ℕ

-- a part: its path, what it is configured with, the addresses that it serves; for each of its ports the peer; and of a part whose
-- packets are passed at once the ports at which they come in
pub record Part : Type 0 where
  pub path : List ℕ
  pub own : Own
  pub range : Option Range
  pub peers : List End
  pub ways : List End

-- the classes of a kind's slots, from slot 0 on: a crossbar's go by its ports; other kinds come later
abbrev pub slot_classes : Kind → List ℕ
slot_classes kinds.AtomicCpu = cpu_class ∷ []
slot_classes kinds.TimingCpu = cpu_class ∷ []
slot_classes kinds.Mem = device_class ∷ []
slot_classes kinds.Uart = device_class ∷ device_class ∷ []
slot_classes kinds.Timer = device_class ∷ device_class ∷ []
slot_classes kinds.Exit = device_class ∷ []
slot_classes kinds.Xbar = []
slot_classes kinds.Cache = []
slot_classes kinds.Dma = []

-- the classes of the slots of a part that is so configured
abbrev pub own_classes : Own → List ℕ
own_classes (owns.Xbar latency ports) = xbar_classes (used ports)
own_classes (owns.AtomicCpu period) = slot_classes kinds.AtomicCpu
own_classes (owns.TimingCpu period) = slot_classes kinds.TimingCpu
own_classes (owns.Cache source sets ways mshrs targets writeq latency) = slot_classes kinds.Cache
own_classes (owns.Mem latency queue) = slot_classes kinds.Mem
own_classes (owns.Uart latency chartime) = slot_classes kinds.Uart
own_classes (owns.Timer latency period) = slot_classes kinds.Timer
own_classes (owns.Exit latency) = slot_classes kinds.Exit
own_classes (owns.Dma latency period window) = slot_classes kinds.Dma

-- the classes of a part's slots
abbrev pub part_classes : Part → List ℕ
part_classes p = own_classes p.own

-- requests to a range go out
abbrev pub out_to : Range → PortUse
out_to r = uses.Destination r.first r.last

-- a port whose requests have no address yet
abbrev pub out_to_nobody : PortUse
out_to_nobody = uses.Destination 1 0

-- the ports of `corebus`: fetches, data accesses, a DMA engine's, which there is none yet, and one for all addresses
abbrev pub corebus_ports : List PortUse
corebus_ports =
    uses.Source ∷ uses.Source ∷ uses.Unused ∷ uses.Destination 0 last_address ∷ uses.Unused ∷ uses.Unused ∷ uses.Unused ∷ uses.Unused ∷ []

-- the ports of `membus`: its source, memory, UART, timer, exit device, and a DMA engine's registers, which there are none yet
abbrev pub membus_ports : Config → List PortUse
membus_ports c =
    uses.Source ∷ out_to (range_of ram_base c.system_ram) ∷ out_to (range_of uart_base 0x1000) ∷ out_to (range_of timer_base 0x10000)
    ∷ out_to (range_of exit_base 0x1000) ∷ out_to_nobody ∷ uses.Unused ∷ uses.Unused ∷ []

-- a port of a part, by their numbers
abbrev pub port_at : ℕ → ℕ → End
port_at part port = record { part = part; port = port }

-- the parts of a machine in the order of their paths, which numbers them from 0 on; a port that has no peer is its own
abbrev pub platform : Config → List Part
platform c =
    record { path = codes "acpu"; own = owns.AtomicCpu c.cpu_period; range = None; peers = []; ways = port_at 1 0 ∷ port_at 1 1 ∷ [] }
    ∷ record { path = codes "corebus"; own = owns.Xbar c.corebus_latency corebus_ports; range = None; peers = port_at 5 0 ∷ port_at 5 1 ∷ port_at 1 2 ∷ port_at 4 0 ∷ []; ways = [] }
    ∷ record { path = codes "exit"; own = owns.Exit c.exit_latency; range = Some (range_of exit_base 0x1000); peers = port_at 4 4 ∷ []; ways = [] }
    ∷ record { path = codes "mem"; own = owns.Mem c.mem_latency c.mem_queue; range = Some (range_of ram_base c.system_ram); peers = port_at 4 1 ∷ []; ways = [] }
    ∷ record { path = codes "membus"; own = owns.Xbar c.membus_latency (membus_ports c); range = None; peers = port_at 1 3 ∷ port_at 3 0 ∷ port_at 7 0 ∷ port_at 6 0 ∷ port_at 2 0 ∷ port_at 4 5 ∷ []; ways = [] }
    ∷ record { path = codes "tcpu"; own = owns.TimingCpu c.cpu_period; range = None; peers = port_at 1 0 ∷ port_at 1 1 ∷ []; ways = [] }
    ∷ record { path = codes "timer"; own = owns.Timer c.timer_latency c.timer_period; range = Some (range_of timer_base 0x10000); peers = port_at 4 3 ∷ []; ways = [] }
    ∷ record { path = codes "uart"; own = owns.Uart c.uart_latency c.uart_chartime; range = Some (range_of uart_base 0x1000); peers = port_at 4 2 ∷ []; ways = [] }
    ∷ []

-- for each part, in order, the peers of its ports
abbrev pub wires_of : List Part → List (List End)
wires_of [] = []
wires_of (p ∷ ps) = p.peers ∷ wires_of ps

-- and where its packets come in that are passed at once
abbrev pub ways_of : List Part → List (List End)
ways_of [] = []
ways_of (p ∷ ps) = p.ways ∷ ways_of ps

-- so many bytes at an address lie in RAM of this size
abbrev pub is_in_ram : ℕ → ℕ → ℕ → Bool
is_in_ram ram address count = nat_le ram_base address && nat_le (address + count) (ram_base + ram)
