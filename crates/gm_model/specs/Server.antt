-- The servers: a queue of requests and a device that serves them, one after another, each after a latency. This project's own rules.
use Rattle.std.specs.Prelude.{ℕ, ◌+◌, ◌==◌, ◌&&◌, Bool, true, false, not, if◌then◌else◌, List, [], ◌∷◌, ◌++◌, Option, Some, None}
use Rattle.rv_step.specs.FlatMem.{in_ram}
use Rattle.rv_step.specs.Flat.{in_uart, in_exit}
use Rattle.gm_words.specs.Flow.{Queued, OutState, Lane, quiet_flow}
use Rattle.gm_words.specs.Moves.{Moves, no_moves}
use Rattle.pkt_pool.specs.Packet.{read_response, is_write_back}
use Rattle.gm_words.specs.Platform.{serve_slot, serve_port, own_slot, device_class}
use Rattle.gm_words.specs.declared.act.Act.{Act}
use Rattle.gm_words.specs.declared.answer.Answer.{Answer}
use Rattle.gm_words.specs.declared.answer.Answer.TheVariants as answers
use Rattle.gm_words.specs.declared.entry.Entry.{Entry}
use Rattle.pkt_pool.specs.declared.packet.Packet.{Packet}
use Rattle.gm_words.specs.declared.params.Params.{Params}
use Rattle.gm_words.specs.declared.wake.Wake.{Wake}
use Rattle.gm_words.specs.declared.wake.Wake.TheVariants as wakes
use Rattle.gm_words.specs.declared.way.Way.TheVariants as ways
use Rattle.gm_model.specs.Flows.{Outlet, LaneMoved, ask_in, hold_in, again_in, gone_in, moved, opened, has_room, taken_in, is_some_port, answer_of, refusal_of}
use Rattle.gm_model.specs.ObjState.{ObjState, Server, ServerState, Device, Memory, Uart, Exit, Timer, common_start}
use Rattle.gm_model.specs.Serve.{Served}
use Rattle.gm_model.specs.Memory.{serve_memory, memory_bytes, queued_bytes, with_bytes_at}
use Rattle.gm_model.specs.Uart.{serve_uart, uart_sent, uart_takes_input, uart_with_input}
use Rattle.gm_model.specs.ExitDevice.{serve_exit}
use Rattle.gm_model.specs.Timer.{timer_register, serve_timer, timer_come, come_acts}
use Rattle.gm_model.specs.Stepped.{Stepped, Passed, Commanded, stays, drops}

-- Devices.

-- a device serves the request p at a tick
abbrev pub serve : Device → Packet → ℕ → Served
serve (Memory m) p now = serve_memory m p p.cmd (in_ram m p.addr p.size)
serve (Uart u) p now = serve_uart u p now p.cmd (in_uart p.addr p.size)
serve (Exit code) p now = serve_exit code p p.cmd (in_exit p.addr p.size)
serve (Timer t) p now = serve_timer t p now p.cmd (timer_register p.addr p.size)

-- the event of the device's own slot: a UART can send again, and a timer's clock has come to its number
abbrev pub device_after_event : Device → Device
device_after_event (Uart u) = Uart (uart_sent u)
device_after_event (Timer t) = Timer (timer_come t)
device_after_event (Memory m) = Memory m
device_after_event (Exit code) = Exit code

-- what is asked for at that event: the level of the timer's line
abbrev pub event_acts : Device → List Act
event_acts (Timer t) = come_acts t
event_acts (Uart u) = []
event_acts (Memory m) = []
event_acts (Exit code) = []

-- the number that an exit device keeps
abbrev pub device_code : Device → Option ℕ
device_code (Memory m) = None
device_code (Uart u) = None
device_code (Exit code) = code
device_code (Timer t) = None

-- a UART has a place for an input byte
abbrev pub device_takes_input : Device → Bool
device_takes_input (Memory m) = false
device_takes_input (Uart u) = uart_takes_input u
device_takes_input (Exit code) = false
device_takes_input (Timer t) = false

-- the device with an input byte more, behind the others
abbrev pub device_with_input : ℕ → Device → Device
device_with_input b (Memory m) = Memory m
device_with_input b (Uart u) = Uart (uart_with_input b u)
device_with_input b (Exit code) = Exit code
device_with_input b (Timer t) = Timer t

-- the bytes that a device keeps: RAM's
abbrev pub device_bytes : Device → Option (List ℕ)
device_bytes (Memory m) = Some m
device_bytes (Uart u) = None
device_bytes (Exit code) = None
device_bytes (Timer t) = None

-- the device with other bytes from a place on
abbrev pub device_with_bytes : ℕ → List ℕ → Device → Device
device_with_bytes at bytes (Memory m) = Memory (with_bytes_at m at bytes)
device_with_bytes at bytes (Uart u) = Uart u
device_with_bytes at bytes (Exit code) = Exit code
device_with_bytes at bytes (Timer t) = Timer t

-- Start.

-- a server at its start holds nothing
abbrev pub server_start : Params → ℕ → ℕ → Device → ObjState
server_start p latency places d = Server (record {
  common = common_start p;
  latency = latency;
  places = places;
  flow = quiet_flow;
  waiter = false;
  device = d;
})

-- The queue.

-- its one outlet
abbrev pub server_outlet : Outlet
server_outlet = record { port = serve_port; slot = serve_slot; class = device_class }

-- its queue as a lane, in whose list its port stands where a requestor waits
abbrev pub waiting_of : Bool → List ℕ
waiting_of false = []
waiting_of true = 0 ∷ []

abbrev pub server_lane : ServerState → Lane
server_lane s = record { flow = s.flow; waiting = waiting_of s.waiter }

-- the server after a step of its lane
abbrev pub server_with : ServerState → ℕ → Answer → List Entry → Moves → LaneMoved → Stepped
server_with s next answer es moves m = record {
  state = Server (record s { flow = m.lane.flow; waiter = is_some_port m.lane.waiting });
  next = next;
  changes = m.changes;
  acts = m.acts;
  entries = es;
  answer = answer;
  moves = moves;
}

-- Wakes.

-- the event of the device's own slot
abbrev pub server_event : ServerState → ℕ → Device → Stepped
server_event s next d = record (stays (Server (record s { device = device_after_event d })) next) { acts = event_acts d }

-- the first request was served: a write-back is gone, which has no response
abbrev pub server_absorbs : ServerState → ℕ → ℕ → Queued → List Queued → Served → Stepped
server_absorbs s next now x xs r =
    let m : LaneMoved = opened s.places (gone_in server_outlet (now + s.latency) (x ∷ xs)) (waiting_of s.waiter) in
    server_with (record s { device = r.device }) next answers.Nothing r.entries (record no_moves { absorbed = x.packet ∷ [] })
    (record m { changes = r.changes ++ m.changes; acts = r.acts ++ m.acts })

-- another's response is offered, behind what the device asks for
abbrev pub server_answers : ServerState → ℕ → Queued → List Queued → OutState → Served → Stepped
server_answers s next x xs out r =
    let m : LaneMoved = moved (server_lane s) (ask_in serve_port (record { packet = r.response; ready = x.ready } ∷ xs) out) in
    server_with (record s { device = r.device }) next answers.Nothing r.entries
    (record no_moves { served = record { request = x.packet; response = r.response } ∷ [] })
    (record m { changes = r.changes ++ m.changes; acts = r.acts ++ m.acts })

abbrev pub server_served : ServerState → ℕ → ℕ → Queued → List Queued → OutState → Served → Bool → Stepped
server_served s next now x xs out r true = server_absorbs s next now x xs r
server_served s next now x xs out r false = server_answers s next x xs out r

-- at its event the first request is served
abbrev pub server_serves : ServerState → ℕ → ℕ → List Queued → OutState → Stepped
server_serves s next now [] out = stays (Server s) next
server_serves s next now (x ∷ xs) out = server_served s next now x xs out (serve s.device x.packet now) (is_write_back x.packet.cmd)

-- the step rule
abbrev pub server_step : ServerState → ℕ → Wake → ℕ → Stepped
server_step s next (wakes.Event slot) now =
    if slot.0 == serve_slot then server_serves s next now s.flow.items s.flow.out
    else if slot.0 == own_slot then server_event s next s.device
    else stays (Server s) next
server_step s next (wakes.Offer port p) now =
    let room : Bool = has_room s.places (server_lane s) in
    server_with s next (answer_of room) (refusal_of s.common.object room) no_moves
    (taken_in server_outlet (server_lane s) serve_port p (now + s.latency) room)
server_step s next (wakes.Taken port) now =
    server_with s next answers.Nothing [] no_moves
    (opened s.places (gone_in server_outlet (now + s.latency) s.flow.items) (waiting_of s.waiter))
server_step s next (wakes.Refused port) now =
    server_with s next answers.Nothing [] no_moves (moved (server_lane s) (hold_in s.flow.items s.flow.out))
server_step s next (wakes.Retry port) now =
    server_with s next answers.Nothing [] no_moves (moved (server_lane s) (again_in serve_port s.flow.items s.flow.out))
server_step s next (wakes.Line bit level) now = stays (Server s) next
server_step s next (wakes.AtomicDone p latency) now = drops (Server s) next p

-- Packets at once.

-- a packet that is passed to a server is served at once
abbrev pub server_atomic : ServerState → Packet → ℕ → Passed
server_atomic s p now = record {
  state = Server (record s { device = (serve s.device p now).device });
  packet = (serve s.device p now).response;
  changes = (serve s.device p now).changes;
  acts = (serve s.device p now).acts;
  entries = (serve s.device p now).entries;
  way = ways.Done s.latency;
}

-- Packets without time.

-- the read of a part's own memory without time: the packet afterwards; a read that isn't in RAM is left as it is
abbrev pub functional_read : ServerState → Packet → Device → Packet
functional_read s p (Memory m) =
    if in_ram m p.addr p.size
    then read_response p (memory_bytes (queued_bytes s.flow.items p.addr p.size) m p.addr p.size)
    else p
functional_read s p (Uart u) = p
functional_read s p (Exit code) = p
functional_read s p (Timer t) = p

-- Drain and resume.

-- it begins nothing new, or it goes on
abbrev pub server_draining : Bool → ServerState → Commanded
server_draining draining s =
    record { state = Server (record s { common = record s.common { draining = draining } }); changes = [] }

-- the list is empty
abbrev pub is_empty : List Queued → Bool
is_empty [] = true
is_empty (q ∷ qs) = false

-- no request is held, and nobody waits
abbrev pub is_server_drained : ServerState → Bool
is_server_drained s = is_empty s.flow.items && not s.waiter
