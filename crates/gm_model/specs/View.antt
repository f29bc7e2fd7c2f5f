-- What a load would see now, and the program's state in the middle of a machine. This project's own rules.
use Rattle.std.specs.Prelude.{ℕ, zero, suc, Bool, true, false, if◌then◌else◌, List, [], ◌∷◌, ◌++◌, Option, Some, None}
use Rattle.rv_step.specs.declared.arch.Arch.{Arch}
use Rattle.rv_step.specs.Arch.{reset}
use Rattle.rv_step.specs.FlatMem.{ram_byte}
use Rattle.pkt_pool.specs.Packet.{is_response}
use Rattle.gm_words.specs.Numbers.{carried_number, response_number}
use Rattle.gm_model.specs.ObjState.{ObjState, Blank, AtomicCpu, TimingCpu, Xbar, Server, CpuStage, Rest, AwaitFetch, AwaitData, TimingStage, Between, Fetch, Ready, Data, Hand, Asks, Held, Away, Device, Memory, Uart, Exit, Timer}
use Rattle.gm_words.specs.Flow.{Queued, Lane}
use Rattle.gm_words.specs.Routes.{Route, is_unmapped}
use Rattle.gm_model.specs.Command.{own_bytes}
use Rattle.gm_model.specs.Sys.{Sys}
use Rattle.gm_model.specs.Deliver.{Item, Sent, Done}
use Rattle.gm_words.specs.Replay.{Progress, AtBoundary, Fetched, Accessed, Faulted, ProgramState}
use Rattle.gm_words.specs.declared.act.Act.{Act}
use Rattle.gm_words.specs.declared.act.Act.TheVariants as acts
use Rattle.pkt_pool.specs.declared.packet.Packet.{Packet}

-- the packets of a queue
abbrev pub queued_packets : List Queued → List Packet
queued_packets [] = []
queued_packets (q ∷ qs) = q.packet ∷ queued_packets qs

-- of layers, and of a timing CPU
abbrev pub lane_packets : List Lane → List Packet
lane_packets [] = []
lane_packets (l ∷ ls) = queued_packets l.flow.items ++ lane_packets ls

abbrev pub hand_packets : Hand → List Packet
hand_packets (Asks x) = x ∷ []
hand_packets (Held x) = x ∷ []
hand_packets Away = []

abbrev pub stage_packets : TimingStage → List Packet
stage_packets Between = []
stage_packets (Fetch h) = hand_packets h
stage_packets (Ready w) = []
stage_packets (Data w h) = hand_packets h

-- the packets that a part holds
unfoldable pub packets_in : ObjState → List Packet
packets_in (Blank k) = []
packets_in (AtomicCpu s) = []
packets_in (TimingCpu s) = stage_packets s.stage
packets_in (Xbar s) = lane_packets (s.side.lane ∷ s.lanes)
packets_in (Server s) = queued_packets s.flow.items

abbrev pub part_packets : List ObjState → List Packet
part_packets [] = []
part_packets (o ∷ os) = packets_in o ++ part_packets os

-- a packet that is passed at once stands in what is to be delivered; one that is offered is still with who offers it
abbrev pub act_packets : Act → List Packet
act_packets (acts.Atomic port x) = x ∷ []
act_packets (acts.Offer port x) = []
act_packets (acts.CallRetry port) = []
act_packets (acts.SetLine bit level) = []

abbrev pub item_packets : List Item → List Packet
item_packets [] = []
item_packets (Sent i a ∷ is) = act_packets a ++ item_packets is
item_packets (Done i x latency ∷ is) = x ∷ item_packets is

-- all packets that are under way
abbrev pub all_packets : Sys → List Item → List Packet
all_packets s items = part_packets s.objects ++ item_packets items

-- the sources of the hart: fetches and data accesses
abbrev pub is_of_hart : ℕ → Bool
is_of_hart zero = true
is_of_hart (suc zero) = true
is_of_hart (suc (suc n)) = false

-- the first that the hart waits for
abbrev pub awaited : List Packet → Option Packet
awaited [] = None
awaited (x ∷ xs) = if is_of_hart x.src then Some x else awaited xs

-- where the hart stands, whichever CPU it is in: between two instructions; its fetch is under way; the word was fetched; and
-- the word's access is under way
pub data Doing : Type 0 where
  Boundary : Doing
  Fetching : Doing
  Decoded : (word : ℕ) → Doing
  Accessing : (word : ℕ) → Doing

abbrev pub atomic_doing : CpuStage → Doing
atomic_doing Rest = Boundary
atomic_doing AwaitFetch = Fetching
atomic_doing (AwaitData w latency) = Accessing w

abbrev pub timing_doing : TimingStage → Doing
timing_doing Between = Boundary
timing_doing (Fetch h) = Fetching
timing_doing (Ready w) = Decoded w
timing_doing (Data w h) = Accessing w

-- the hart, and where it stands
pub record Mind : Type 0 where
  pub arch : Arch
  pub doing : Doing

abbrev pub mind_with : Doing → Option Arch → Option Mind
mind_with d None = None
mind_with d (Some a) = Some (record { arch = a; doing = d })

-- those of the active CPU
unfoldable pub mind_of : ObjState → Option Mind
mind_of (Blank k) = None
mind_of (AtomicCpu s) = mind_with (atomic_doing s.stage) s.arch
mind_of (TimingCpu s) = mind_with (timing_doing s.stage) s.arch
mind_of (Xbar s) = None
mind_of (Server s) = None

-- the progress of a fetch
abbrev pub fetch_progress : Option Packet → Progress
fetch_progress None = AtBoundary
fetch_progress (Some p) = if is_response p.cmd then Fetched (carried_number p) else AtBoundary

-- the progress of the data access of the word w: at an address of no range nothing serves it
abbrev pub data_progress : List Route → ℕ → Option Packet → Progress
data_progress rs w None = Fetched w
data_progress rs w (Some p) =
    if is_response p.cmd
    then (if is_unmapped rs p.addr then Fetched w else if p.fault then Faulted w else Accessed w (response_number p p.cmd))
    else Fetched w

-- the progress of the current instruction, by where the hart stands and the packet that it waits for
abbrev pub progress_of : List Route → Doing → Option Packet → Progress
progress_of rs Boundary x = AtBoundary
progress_of rs Fetching x = fetch_progress x
progress_of rs (Decoded w) x = Fetched w
progress_of rs (Accessing w) x = data_progress rs w x

-- RAM's bytes, where the part is memory
abbrev pub device_view : Device → Option (List ℕ)
device_view (Memory m) = Some m
device_view (Uart u) = None
device_view (Exit code) = None
device_view (Timer t) = None

unfoldable pub memory_of : ObjState → Option (List ℕ)
memory_of (Blank k) = None
memory_of (AtomicCpu s) = None
memory_of (TimingCpu s) = None
memory_of (Xbar s) = None
memory_of (Server s) = device_view s.device

-- the first part's that shows any
abbrev pub parts_view : List ObjState → List ℕ
parts_view [] = []
parts_view (o ∷ os) = elim (memory_of o) [ Some m ↦ m | None ↦ parts_view os ]

-- RAM as a load would see it
abbrev pub view_ram : Sys → List ℕ
view_ram s = parts_view s.objects

-- the byte that a load would see at an address, if it is in RAM
abbrev pub view_byte : Sys → ℕ → Option ℕ
view_byte s address = ram_byte (view_ram s) address

-- the bytes that the first part keeps which keeps any: RAM's own
abbrev pub own_ram : List ObjState → List ℕ
own_ram [] = []
own_ram (o ∷ os) = elim (own_bytes o) [ Some m ↦ m | None ↦ own_ram os ]

-- the hart that is active; where there is none, a reset one stands for it
abbrev pub parts_mind : List ObjState → Mind
parts_mind [] = record { arch = reset 0; doing = Boundary }
parts_mind (o ∷ os) = elim (mind_of o) [ Some m ↦ m | None ↦ parts_mind os ]

-- the program's state: the active CPU's hart, its progress, and memory as it is seen
abbrev pub program_state : Sys → List Item → ProgramState
program_state s items = record {
  arch = (parts_mind s.objects).arch;
  progress = progress_of s.routes (parts_mind s.objects).doing (awaited (all_packets s items));
  memory = view_ram s;
}
