-- Each kind's face, and what holds of each part by itself. This project's own rules.
use Rattle.std.specs.Prelude.{◌≡◌, ℕ, ◌+◌, ◌<◌, ◌≤◌, ◌==◌, ◌&&◌, ◌||◌, nat_lt, Bool, true, false, not, if◌then◌else◌, List, [], ◌∷◌, length, sum_by, Option, Some, None}
use Rattle.rv_step.specs.FlatMem.{ram_base}
use Rattle.rv_step.specs.Flat.{uart_base, exit_base}
use Rattle.pkt_pool.specs.Packet.{is_response}
use Rattle.gm_words.specs.Flow.{Queued, OutState, Quiet, Due, Asked, Waits, Lane}
use Rattle.gm_words.specs.Platform.{Range, range_of, is_within, cpu_slot, serve_slot, own_slot, timer_base}
use Rattle.gm_words.specs.PortUses.{takes, is_source, is_destination, use_at, port_from, source_port, port_of_slot, is_side_slot, is_total, sides}
use Rattle.gm_words.specs.Routes.{Route, is_unmapped}
use Rattle.gm_words.specs.HartLine.{is_line}
use Rattle.gm_words.specs.Moves.{no_moves}
use Rattle.gm_model.specs.ObjState.{ObjState, Blank, AtomicCpu, TimingCpu, Xbar, Server, AtomicCpuState, CpuStage, Rest, AwaitFetch, AwaitData, TimingCpuState, TimingStage, Between, Fetch, Ready, Data, Hand, Asks, Held, Away, XbarState, ServerState, Device, Memory, Uart, Exit, Timer}
use Rattle.gm_model.specs.Flows.{asked_bit, waits_bit, is_due_out, head_of, has_room, is_some_port}
use Rattle.gm_model.specs.Server.{server_lane}
use Rattle.gm_model.specs.Timer.{is_awaited}
use Rattle.gm_model.specs.Xbar.{lane_at, layer_of}
use Rattle.gm_model.specs.Stepped.{Stepped}
use Rattle.gm_model.specs.View.{Mind, mind_with, atomic_doing, timing_doing, stage_packets, lane_packets, queued_packets, device_view}
use Rattle.gm_model.specs.Deliver.{Item, Sent, Done}
use Rattle.pkt_pool.specs.declared.packet.Packet.{Packet}
use Rattle.gm_words.specs.declared.port_use.PortUse.{PortUse}
use Rattle.gm_words.specs.declared.port_use.PortUse.TheVariants as uses
use Rattle.gm_words.specs.declared.act.Act.{Act}
use Rattle.gm_words.specs.declared.act.Act.TheVariants as acts
use Rattle.gm_words.specs.declared.wake.Wake.{Wake}
use Rattle.gm_laws.specs.Words.{only, told}
use Rattle.gm_laws.specs.Face.{Face, Law, TellsDue, Conserves, IsSame, passed_packets}
use Rattle.gm_laws.specs.Fuel.{Spends}
use Rattle.gm_laws.specs.Program.{MayThink, Mindless, Thinks}

-- lanes

-- how often a port waits
abbrev pub stood : ℕ → List ℕ → ℕ
stood p [] = 0
stood p (q ∷ qs) = only q p 1 + stood p qs

abbrev pub is_hungry : ℕ → Lane → Bool
is_hungry places l = has_room places l && is_some_port l.waiting

-- nothing is held exactly where the flow is quiet
abbrev pub IsFlow : List Queued → OutState → Type 0
IsFlow [] Quiet = Unit {0}
IsFlow [] Due = ⊥
IsFlow [] Asked = ⊥
IsFlow [] Waits = ⊥
IsFlow (x ∷ xs) Quiet = ⊥
IsFlow (x ∷ xs) Due = Unit {0}
IsFlow (x ∷ xs) Asked = Unit {0}
IsFlow (x ∷ xs) Waits = Unit {0}

abbrev pub IsLane : Lane → Type 0
IsLane l = IsFlow l.flow.items l.flow.out

-- each packet passes the test
abbrev pub AllMeet : (Packet → Bool) → List Queued → Type 0
AllMeet t [] = Unit {0}
AllMeet t (x ∷ xs) = (t x.packet ≡ true) × AllMeet t xs

-- what lanes show, one for each port, beside the rest of a face
abbrev pub lanes_face : Face → (Lane → Bool) → List Lane → (Packet → ℕ) → Face
lanes_face t eager lanes route = record t {
  ports = length lanes;
  asked = λ p. asked_bit (lane_at lanes p).flow.out;
  waits = λ p. waits_bit (lane_at lanes p).flow.out;
  head = λ p. head_of (lane_at lanes p).flow.items;
  listed = λ p. sum_by (λ (l : Lane). stood p l.waiting) lanes;
  stands = λ k p. stood p (lane_at lanes k).waiting;
  hungry = λ k. eager (lane_at lanes k);
  route = route;
}

-- a lane n beside them, whose own out-state isn't seen
abbrev pub with_side : ℕ → Face → Lane → (Packet → ℕ) → Face
with_side n f l route = record f {
  listed = λ p. f.listed p + stood p l.waiting;
  stands = λ k p. f.stands k p + only n k (stood p l.waiting);
  hungry = λ k. f.hungry k || (k == n && is_hungry 1 l);
  route = route;
}

-- a part with no port
abbrev pub bare_face : Face
bare_face = record {
  ports = 0;
  asked = λ p. 0;
  waits = λ p. 0;
  head = λ p. None;
  listed = λ p. 0;
  stands = λ k p. 0;
  hungry = λ k. false;
  route = λ x. 0;
  due = λ n. false;
  sends = λ p x. false;
  admits = λ p x. false;
  passes = λ p. false;
  packets = [];
  mind = None;
  cpu = false;
  instant = false;
  memory = None;
  caches = false;
  toil = 0;
}

-- atomic CPU

abbrev pub atomic_toil : CpuStage → ℕ
atomic_toil Rest = 0
atomic_toil AwaitFetch = 4
atomic_toil (AwaitData w latency) = 0

abbrev pub atomic_face : AtomicCpuState → Face
atomic_face s = record bare_face {
  due = λ n. s.due && (n == cpu_slot);
  mind = mind_with (atomic_doing s.stage) s.arch;
  cpu = true;
  instant = true;
  toil = atomic_toil s.stage;
}

-- timing CPU

abbrev pub hand_asked : Hand → ℕ
hand_asked (Asks x) = 1
hand_asked (Held x) = 0
hand_asked Away = 0

abbrev pub hand_waits : Hand → ℕ
hand_waits (Asks x) = 0
hand_waits (Held x) = 1
hand_waits Away = 0

abbrev pub hand_head : Hand → Option Packet
hand_head (Asks x) = Some x
hand_head (Held x) = Some x
hand_head Away = None

abbrev pub hand_of : TimingStage → Hand
hand_of Between = Away
hand_of (Fetch h) = h
hand_of (Ready w) = Away
hand_of (Data w h) = h

abbrev pub port_of : TimingStage → ℕ
port_of Between = 0
port_of (Fetch h) = 0
port_of (Ready w) = 1
port_of (Data w h) = 1

abbrev pub timing_face : TimingCpuState → Face
timing_face s = record {
  ports = 2;
  asked = λ p. only (port_of s.stage) p (hand_asked (hand_of s.stage));
  waits = λ p. only (port_of s.stage) p (hand_waits (hand_of s.stage));
  head = λ p. hand_head (hand_of s.stage);
  listed = λ p. 0;
  stands = λ k p. 0;
  hungry = λ k. false;
  route = λ x. 0;
  due = λ n. s.due && (n == cpu_slot);
  sends = λ p x. true;
  admits = λ p x. is_response x.cmd;
  passes = λ p. false;
  packets = stage_packets s.stage;
  mind = mind_with (timing_doing s.stage) s.arch;
  cpu = true;
  instant = false;
  memory = None;
  caches = false;
  toil = 0;
}

-- what it holds is its own, by the stage; and an inactive one does nothing
abbrev pub hand_core : ℕ → Hand → Type 0
hand_core n (Asks x) = x.src ≡ n
hand_core n (Held x) = x.src ≡ n
hand_core n Away = Unit {0}

abbrev pub StageOk : TimingStage → Type 0
StageOk Between = Unit {0}
StageOk (Fetch h) = hand_core 0 h
StageOk (Ready w) = Unit {0}
StageOk (Data w h) = hand_core 1 h

-- crossbar

-- the event of the layer of the port with this slot is pending; there are no slots but those of the layers
abbrev pub port_due : XbarState → ℕ → Bool
port_due s n = nat_lt n (length s.ports + sides s.ports) && is_due_out (lane_at s.lanes (port_of_slot s.ports n)).flow.out

abbrev pub layer_due : XbarState → ℕ → Bool
layer_due s n = if is_side_slot s.ports n then is_due_out s.side.lane.flow.out else port_due s n

-- what may be offered at a port: responses where requests come in, and requests to the addresses that go out there
abbrev pub goes_out : PortUse → Packet → Bool
goes_out uses.Source x = is_response x.cmd
goes_out (uses.Destination first last) x = not (is_response x.cmd) && takes (uses.Destination first last) x.addr
goes_out uses.Unused x = false

abbrev pub xbar_sends : XbarState → ℕ → Packet → Bool
xbar_sends s p x = goes_out (use_at s.ports p) x

abbrev pub xbar_rest : XbarState → Face
xbar_rest s = record bare_face {
  due = λ n. layer_due s n;
  sends = λ p x. xbar_sends s p x;
  admits = λ p x. true;
  passes = λ p. is_destination (use_at s.ports p);
  packets = lane_packets (s.side.lane ∷ s.lanes);
}

abbrev pub xbar_face : XbarState → Face
xbar_face s = with_side (length s.lanes) (lanes_face (xbar_rest s) (is_hungry 1) s.lanes (λ x. layer_of s x)) s.side.lane (λ x. layer_of s x)

-- of the layer of no port: its packet is of no range, and once it waits a response
abbrev pub SideOk : List Route → List Queued → OutState → Type 0
SideOk rs [] out = out ≡ Quiet
SideOk rs (x ∷ []) Quiet = ⊥
SideOk rs (x ∷ []) Due = (is_unmapped rs x.packet.addr ≡ true)
SideOk rs (x ∷ []) Asked = ⊥
SideOk rs (x ∷ []) Waits = is_response x.packet.cmd ≡ true
SideOk rs (x ∷ y ∷ ys) out = ⊥

pub record XbarOk (rs : List Route) (s : XbarState) : Type 0 where
  pub sources : (p : ℕ) → is_source (use_at s.ports (source_port s.ports p)) ≡ true
  pub long : length s.lanes ≡ length s.ports
  pub lanes : (p : ℕ) → IsLane (lane_at s.lanes p)
  pub one : (p : ℕ) → length (lane_at s.lanes p).flow.items ≤ 1
  pub sends : (p : ℕ) → AllMeet (λ x. xbar_sends s p x) (lane_at s.lanes p).flow.items
  pub side : SideOk rs s.side.lane.flow.items s.side.lane.flow.out
  pub sideless : is_total s.ports ≡ true → s.side.lane.flow.items ≡ []
  pub nobody : (address : ℕ) → port_from 0 s.ports address ≡ None → is_unmapped rs address ≡ true

-- server

abbrev pub device_due : Device → ℕ → Bool
device_due (Memory m) n = false
device_due (Uart u) n = u.busy && (n == own_slot)
device_due (Exit code) n = false
device_due (Timer t) n = is_awaited t && (n == own_slot)

-- the addresses that a server is shown: those of its range
abbrev pub device_range : ℕ → Device → Range
device_range ram (Memory m) = range_of ram_base ram
device_range ram (Uart u) = range_of uart_base 0x1000
device_range ram (Exit code) = range_of exit_base 0x1000
device_range ram (Timer t) = range_of timer_base 0x10000

abbrev pub server_admits : ServerState → Packet → Bool
server_admits s x = is_response x.cmd || is_within x.addr (device_range s.common.ram s.device)

abbrev pub server_due : ServerState → ℕ → Bool
server_due s n = if n == serve_slot then is_due_out s.flow.out else device_due s.device n

abbrev pub server_rest : ServerState → Face
server_rest s = record bare_face {
  due = λ n. server_due s n;
  sends = λ p x. is_response x.cmd;
  admits = λ p x. server_admits s x;
  packets = queued_packets s.flow.items;
  memory = device_view s.device;
}

abbrev pub server_face : ServerState → Face
server_face s = lanes_face (server_rest s) (is_hungry s.places) (server_lane s ∷ []) (λ x. 0)

-- what is offered passes the test
abbrev pub HeadMeets : (Packet → Bool) → List Queued → OutState → Type 0
HeadMeets t [] out = Unit {0}
HeadMeets t (x ∷ xs) Quiet = Unit {0}
HeadMeets t (x ∷ xs) Due = Unit {0}
HeadMeets t (x ∷ xs) Asked = t x.packet ≡ true
HeadMeets t (x ∷ xs) Waits = t x.packet ≡ true

pub record ServerOk (rs : List Route) (ram : ℕ) (s : ServerState) : Type 0 where
  pub places : 0 < s.places
  pub lane : IsFlow s.flow.items s.flow.out
  pub head : HeadMeets (λ x. is_response x.cmd) s.flow.items s.flow.out
  pub admits : AllMeet (λ x. server_admits s x) s.flow.items
  pub size : s.common.ram ≡ ram
  pub mapped : (address : ℕ) → is_within address (device_range ram s.device) ≡ true → is_unmapped rs address ≡ false

-- all kinds

unfoldable pub face_of : ObjState → Face
face_of (Blank k) = bare_face
face_of (AtomicCpu s) = atomic_face s
face_of (TimingCpu s) = timing_face s
face_of (Xbar s) = xbar_face s
face_of (Server s) = server_face s

pub record AtomicOk (ram : ℕ) (s : AtomicCpuState) : Type 0 where
  pub size : s.common.ram ≡ ram
  pub rests : s.arch ≡ None → s.stage ≡ Rest

pub record TimingOk (ram : ℕ) (s : TimingCpuState) : Type 0 where
  pub size : s.common.ram ≡ ram
  pub rests : s.arch ≡ None → s.stage ≡ Between
  pub stage : StageOk s.stage

-- what holds of a part by itself
unfoldable pub IsOk : List Route → ℕ → ObjState → Type 0
IsOk rs ram (Blank k) = Unit {0}
IsOk rs ram (AtomicCpu s) = AtomicOk ram s
IsOk rs ram (TimingCpu s) = TimingOk ram s
IsOk rs ram (Xbar s) = XbarOk rs s
IsOk rs ram (Server s) = ServerOk rs ram s

-- a packet that is passed at once is a request, and a line is one of the hart's
abbrev pub ActOk : Act → Type 0
ActOk (acts.Atomic p x) = is_response x.cmd ≡ false
ActOk (acts.SetLine b l) = is_line b ≡ true
ActOk (acts.Offer p x) = Unit {0}
ActOk (acts.CallRetry p) = Unit {0}

abbrev pub AllActsOk : List Act → Type 0
AllActsOk [] = Unit {0}
AllActsOk (a ∷ rest) = ActOk a × AllActsOk rest

-- and it is passed by a part whose packets are, from one of its two ports
abbrev pub PassOk : Face → Act → Type 0
PassOk f (acts.Atomic p x) = (f.instant ≡ true) × (p.0 < 2)
PassOk f (acts.SetLine b l) = Unit {0}
PassOk f (acts.Offer p x) = Unit {0}
PassOk f (acts.CallRetry p) = Unit {0}

abbrev pub AllPassOk : Face → List Act → Type 0
AllPassOk f [] = Unit {0}
AllPassOk f (a ∷ rest) = PassOk f a × AllPassOk f rest

-- and one that was served is a response
abbrev pub AllItemsOk : List Item → Type 0
AllItemsOk [] = Unit {0}
AllItemsOk (Sent i a ∷ rest) = ActOk a × AllItemsOk rest
AllItemsOk (Done i x l ∷ rest) = (is_response x.cmd ≡ true) × AllItemsOk rest

-- who is told what became of its offer does nothing but call and offer
pub record SaysNothing (f : Face) (r : Stepped) : Type 0 where
  pub entries : r.entries ≡ []
  pub moves : r.moves ≡ no_moves
  pub passed : passed_packets r.acts ≡ []
  pub mind : (face_of r.state).mind ≡ f.mind
  pub memory : (face_of r.state).memory ≡ f.memory

-- all that a wake of a part owes
pub record Keeps (rs : List Route) (ram : ℕ) (f : Face) (w : Wake) (r : Stepped) : Type 0 where
  pub ok : IsOk rs ram r.state
  pub law : Law f w (face_of r.state) r.answer r.acts
  pub due : TellsDue f w (face_of r.state) r.changes
  pub conserves : Conserves f w (face_of r.state) r.answer r.acts r.moves
  pub spends : Spends f w (face_of r.state) r.answer r.acts
  pub same : IsSame f (face_of r.state)
  pub quiet : (p : ℕ) → 1 ≤ told w p → SaysNothing f r
  pub acts : AllActsOk r.acts
  pub hops : AllPassOk f r.acts
  pub mindless : (m : Mind) → f.mind ≡ None → MayThink rs ram m f w → Mindless rs ram f (face_of r.state) r.acts r.entries r.moves
  pub thinks : (m : Mind) → f.mind ≡ Some m → MayThink rs ram m f w → Thinks ram m f (face_of r.state) r.acts r.entries r.moves
