-- The state that a server shows with its device, and what becomes of its queue. This project's own rules.
use Rattle.std.specs.Prelude.{ℕ, ◌+◌, Bool, nat_lt, length}
use Rattle.gm_words.specs.Flow.{Lane}
use Rattle.gm_words.specs.Platform.{serve_port}
use Rattle.pkt_pool.specs.declared.packet.Packet.{Packet}
use Rattle.gm_model.specs.Flows.{LaneMoved, still, moved, ask_in, hold_in, again_in, gone_in, opened, open_in, taken_in, is_some_port}
use Rattle.gm_model.specs.ObjState.{ObjState, Server as ServerPart, ServerState, Device}
use Rattle.gm_model.specs.Server.{server_outlet, waiting_of}
use Rattle.obj_core.specs.Kept.{with_first}
use Rattle.obj_server.specs.declared.server.Server.{Server}

-- the server with a device
abbrev pub server_state : Server → Device → ServerState
server_state s d = record {
  common = record { object = s.object.0; line = s.line; ram = s.ram; timing = s.timing; draining = s.draining };
  latency = s.latency;
  places = s.queue.places;
  flow = s.queue.flow;
  waiter = s.waiter;
  device = d;
}

-- that server as a part
abbrev pub server_of : Server → Device → ObjState
server_of s d = ServerPart (server_state s d)

-- its queue as a lane
abbrev pub lane_of : Server → Lane
lane_of s = record { flow = s.queue.flow; waiting = waiting_of s.waiter }

-- the server after a step of its lane
abbrev pub after_step : Server → LaneMoved → Server
after_step s m = record s { queue = record s.queue { flow = m.lane.flow }; waiter = is_some_port m.lane.waiting }

-- there is a place for one more request
abbrev pub has_place : Server → Bool
has_place s = nat_lt (length s.queue.flow.items) s.queue.places

-- its queue once a request is offered, at a tick
abbrev pub offered_to : Server → Packet → ℕ → LaneMoved
offered_to s p now = taken_in server_outlet (lane_of s) serve_port p (now + s.latency) (has_place s)

-- its queue once the first request is gone, at a tick
abbrev pub gone_first : Server → ℕ → LaneMoved
gone_first s now = opened s.queue.places (gone_in server_outlet (now + s.latency) s.queue.flow.items) (waiting_of s.waiter)

-- its queue once who waits is called, where there is a place
abbrev pub called : Server → LaneMoved
called s = open_in (has_place s) (still s.queue.flow) (waiting_of s.waiter)

-- its queue once a response stands in place of the first request, and is offered
abbrev pub answered_by : Server → Packet → LaneMoved
answered_by s p = moved (lane_of s) (ask_in serve_port (with_first p s.queue.flow.items) s.queue.flow.out)

-- its queue once what it offered was refused
abbrev pub held : Server → LaneMoved
held s = moved (lane_of s) (hold_in s.queue.flow.items s.queue.flow.out)

-- its queue once what waits is offered again
abbrev pub asked_again : Server → LaneMoved
asked_again s = moved (lane_of s) (again_in serve_port s.queue.flow.items s.queue.flow.out)
