-- The crossbar: a layer for each port at which it offers, and one for addresses of no port. A packet stands in a layer for a latency,
-- and then goes on as soon as its receiver takes it. This project's own rule.
use Rattle.std.specs.Prelude.{ℕ, ◌+◌, ◌-◌, ◌==◌, nat_lt, ◌&&◌, Bool, true, false, if◌then◌else◌, List, [], ◌∷◌, ◌++◌, length, replicate, Option, Some, None, slice_index_or, slice_set}
use Rattle.gm_words.specs.Flow.{Queued, OutState, Quiet, Due, Asked, Waits, Lane, quiet_flow, empty_lane}
use Rattle.gm_words.specs.Moves.{Moves, no_moves}
use Rattle.pkt_pool.specs.Packet.{pushed, popped, top_port, is_response, is_write_back, fault_response, read_response}
use Rattle.gm_words.specs.PortUses.{used, port_from, source_port, slot_of_port, class_of_port, port_of_slot, side_slot, is_side_slot, request_class}
use Rattle.gm_words.specs.declared.answer.Answer.{Answer}
use Rattle.gm_words.specs.declared.answer.Answer.TheVariants as answers
use Rattle.gm_words.specs.declared.entry.Entry.{Entry}
use Rattle.pkt_pool.specs.declared.packet.Packet.{Packet}
use Rattle.gm_words.specs.declared.params.Params.{Params}
use Rattle.gm_words.specs.declared.port_use.PortUse.{PortUse}
use Rattle.gm_words.specs.declared.wake.Wake.{Wake}
use Rattle.gm_words.specs.declared.wake.Wake.TheVariants as wakes
use Rattle.gm_words.specs.declared.way.Way.TheVariants as ways
use Rattle.gm_model.specs.Flows.{Outlet, Moved, LaneMoved, still, put_in, ask_in, hold_in, again_in, gone_in, next_in, moved, opened, open_in, has_room, taken_in, answer_of, refusal_of}
use Rattle.gm_model.specs.Memory.{queued_bytes}
use Rattle.gm_model.specs.ObjState.{ObjState, Xbar, XbarState, SideLayer, common_start}
use Rattle.gm_model.specs.Stepped.{Stepped, Passed, Commanded, stays, drops}

-- Start.

-- at its start all layers are idle
abbrev pub xbar_start : Params → ℕ → List PortUse → ObjState
xbar_start p latency ports = Xbar (record {
  common = common_start p;
  latency = latency;
  ports = used ports;
  lanes = replicate (length (used ports)) empty_lane;
  side = record { lane = empty_lane; ahead = 0 };
})

-- Layers.

abbrev pub lane_at : List Lane → ℕ → Lane
lane_at lanes p = slice_index_or lanes p empty_lane

-- the port of an address that goes out, or the number behind all ports
abbrev pub port_or_side : ℕ → Option ℕ → ℕ
port_or_side n None = n
port_or_side n (Some p) = if nat_lt p n then p else n

-- the layer of a packet: a response's is that of the port by which its request came; a request's goes by its address, and the last
-- one is that of no port
unfoldable pub layer_for : List PortUse → Packet → Bool → ℕ
layer_for ports x true = source_port ports (top_port x)
layer_for ports x false = port_or_side (length ports) (port_from 0 ports x.addr)

unfoldable pub layer_of : XbarState → Packet → ℕ
layer_of s x = layer_for s.ports x (is_response x.cmd)

-- a request notes the port by which it came; a response forgets the one that was noted last
abbrev pub turned_by : ℕ → Packet → Bool → Packet
turned_by p x true = popped x
turned_by p x false = pushed x p

abbrev pub turned : ℕ → Packet → Packet
turned p x = turned_by p x (is_response x.cmd)

abbrev pub xbar_outlet : XbarState → ℕ → Outlet
xbar_outlet s p = record { port = p; slot = slot_of_port s.ports p; class = class_of_port s.ports p }

-- the outlet of the layer of no port
abbrev pub side_outlet : XbarState → Outlet
side_outlet s = record { port = length s.ports; slot = side_slot s.ports; class = request_class }

-- the crossbar after a step of a layer
abbrev pub xbar_with : XbarState → ℕ → ℕ → Answer → List Entry → Moves → LaneMoved → Stepped
xbar_with s next p answer es moves m = record {
  state = Xbar (record s { lanes = slice_set s.lanes p m.lane });
  next = next;
  changes = m.changes;
  acts = m.acts;
  entries = es;
  answer = answer;
  moves = moves;
}

-- the crossbar after a step of the layer of no port
abbrev pub side_with : XbarState → ℕ → Answer → List Entry → Moves → LaneMoved → Stepped
side_with s next answer es moves m = record {
  state = Xbar (record s { side = record s.side { lane = m.lane } });
  next = next;
  changes = m.changes;
  acts = m.acts;
  entries = es;
  answer = answer;
  moves = moves;
}

-- Wakes.

-- an offer is taken into an idle layer
abbrev pub xbar_offer : XbarState → ℕ → ℕ → ℕ → Packet → ℕ → Bool → Stepped
xbar_offer s next to p x now false =
    let room : Bool = has_room 1 (lane_at s.lanes to) in
    xbar_with s next to (answer_of room) (refusal_of s.common.object room) no_moves
    (taken_in (xbar_outlet s to) (lane_at s.lanes to) p (turned p x) (now + s.latency) room)
xbar_offer s next to p x now true =
    let room : Bool = has_room 1 s.side.lane in
    side_with s next (answer_of room) (refusal_of s.common.object room) no_moves
    (taken_in (side_outlet s) s.side.lane p (turned p x) (now + s.latency) room)

-- the layer of no port is empty, and the first that waits for it is called
abbrev pub side_opened : List ℕ → LaneMoved
side_opened waiting = open_in true (still quiet_flow) waiting

-- the packet x of no port was refused by fault as y, a response of the port p; where that layer is idle, it goes there
abbrev pub side_goes : XbarState → ℕ → ℕ → Packet → Packet → ℕ → Stepped
side_goes s next p x y now =
    let m : Moved = put_in (xbar_outlet s p) (popped y) (now + s.latency) (lane_at s.lanes p).flow.items (lane_at s.lanes p).flow.out in
    let o : LaneMoved = side_opened s.side.lane.waiting in
    record {
      state = Xbar (record s {
        lanes = slice_set s.lanes p (record { flow = m.flow; waiting = (lane_at s.lanes p).waiting });
        side = record s.side { lane = o.lane };
      });
      next = next;
      changes = o.changes ++ m.changes;
      acts = o.acts ++ m.acts;
      entries = [];
      answer = answers.Nothing;
      moves = record no_moves { served = record { request = x; response = y } ∷ [] };
    }

-- else it waits, behind those that wait for that layer
abbrev pub side_waits : XbarState → ℕ → ℕ → Packet → Packet → List Queued → Stepped
side_waits s next p x y xs = record (stays (Xbar (record s {
  side = record {
    lane = record s.side.lane { flow = record { items = record { packet = y; ready = 0 } ∷ xs; out = Waits } };
    ahead = length (lane_at s.lanes p).waiting;
  };
})) next) {
  moves = record no_moves { served = record { request = x; response = y } ∷ [] };
}

-- a write-back of no port ends here
abbrev pub side_drops : XbarState → ℕ → Packet → Stepped
side_drops s next x =
    let o : LaneMoved = side_opened s.side.lane.waiting in
    record {
      state = Xbar (record s { side = record s.side { lane = o.lane } });
      next = next;
      changes = o.changes;
      acts = o.acts;
      entries = [];
      answer = answers.Nothing;
      moves = record no_moves { absorbed = x ∷ [] };
    }

abbrev pub side_event_at : XbarState → ℕ → ℕ → Packet → Packet → List Queued → ℕ → Bool → Stepped
side_event_at s next p x y xs now true = side_goes s next p x y now
side_event_at s next p x y xs now false = side_waits s next p x y xs

abbrev pub side_event_by : XbarState → ℕ → ℕ → Packet → List Queued → ℕ → Bool → Stepped
side_event_by s next p x xs now true = side_drops s next x
side_event_by s next p x xs now false = side_event_at s next p x (fault_response x x.cmd) xs now (has_room 1 (lane_at s.lanes p))

-- the event of the layer of no port
abbrev pub side_event : XbarState → ℕ → ℕ → List Queued → OutState → Stepped
side_event s next now (x ∷ xs) Due =
    side_event_by s next (source_port s.ports (top_port x.packet)) x.packet xs now (is_write_back x.packet.cmd)
side_event s next now (x ∷ xs) Quiet = stays (Xbar s) next
side_event s next now (x ∷ xs) Asked = stays (Xbar s) next
side_event s next now (x ∷ xs) Waits = stays (Xbar s) next
side_event s next now [] out = stays (Xbar s) next

-- the layer of no port waits for the layer p, and is the first that does
abbrev pub is_next : List PortUse → ℕ → ℕ → List Queued → OutState → Bool
is_next ports p ahead (x ∷ xs) Waits = (source_port ports (top_port x.packet) == p) && (ahead == 0)
is_next ports p ahead (x ∷ xs) Quiet = false
is_next ports p ahead (x ∷ xs) Due = false
is_next ports p ahead (x ∷ xs) Asked = false
is_next ports p ahead [] out = false

-- its packet comes into the layer p, whose own is gone
abbrev pub side_enters : XbarState → ℕ → ℕ → ℕ → List Queued → Stepped
side_enters s next p now [] = stays (Xbar s) next
side_enters s next p now (x ∷ xs) =
    let m : Moved = next_in (xbar_outlet s p) (popped x.packet) (now + s.latency) in
    let o : LaneMoved = side_opened s.side.lane.waiting in
    record {
      state = Xbar (record s {
        lanes = slice_set s.lanes p (record { flow = m.flow; waiting = (lane_at s.lanes p).waiting });
        side = record s.side { lane = o.lane };
      });
      next = next;
      changes = m.changes ++ o.changes;
      acts = o.acts;
      entries = [];
      answer = answers.Nothing;
      moves = no_moves;
    }

-- one that was before it was called, if it waits for the layer p
abbrev pub one_less_ahead : List PortUse → ℕ → SideLayer → SideLayer
one_less_ahead ports p l = if is_behind l.lane.flow.items l.lane.flow.out then record l { ahead = l.ahead - 1 } else l where
  is_behind : List Queued → OutState → Bool
  is_behind (x ∷ xs) Waits = source_port ports (top_port x.packet) == p
  is_behind (x ∷ xs) Quiet = false
  is_behind (x ∷ xs) Due = false
  is_behind (x ∷ xs) Asked = false
  is_behind [] out = false

-- the packet of the layer p was taken: the first that waits is called, or it is the layer of no port
abbrev pub xbar_taken : XbarState → ℕ → ℕ → ℕ → Bool → Stepped
xbar_taken s next p now true = side_enters s next p now s.side.lane.flow.items
xbar_taken s next p now false =
    xbar_with (record s { side = one_less_ahead s.ports p s.side }) next p answers.Nothing [] no_moves
    (opened 1 (gone_in (xbar_outlet s p) (now + s.latency) (lane_at s.lanes p).flow.items) (lane_at s.lanes p).waiting)

-- the event of a layer: its packet is offered
abbrev pub xbar_event : XbarState → ℕ → ℕ → Stepped
xbar_event s next p =
    xbar_with s next p answers.Nothing [] no_moves (moved (lane_at s.lanes p) (ask_in p (lane_at s.lanes p).flow.items (lane_at s.lanes p).flow.out))

-- the step rule
abbrev pub xbar_step : XbarState → ℕ → Wake → ℕ → Stepped
xbar_step s next (wakes.Event slot) now =
    if is_side_slot s.ports slot.0 then side_event s next now s.side.lane.flow.items s.side.lane.flow.out
    else xbar_event s next (port_of_slot s.ports slot.0)
xbar_step s next (wakes.Offer port x) now = xbar_offer s next (layer_of s x) port.0 x now (layer_of s x == length s.ports)
xbar_step s next (wakes.Taken port) now =
    xbar_taken s next port.0 now (is_next s.ports port.0 s.side.ahead s.side.lane.flow.items s.side.lane.flow.out)
xbar_step s next (wakes.Refused port) now =
    xbar_with s next port.0 answers.Nothing [] no_moves
    (moved (lane_at s.lanes port.0) (hold_in (lane_at s.lanes port.0).flow.items (lane_at s.lanes port.0).flow.out))
xbar_step s next (wakes.Retry port) now =
    xbar_with s next port.0 answers.Nothing [] no_moves
    (moved (lane_at s.lanes port.0) (again_in port.0 (lane_at s.lanes port.0).flow.items (lane_at s.lanes port.0).flow.out))
xbar_step s next (wakes.Line bit level) now = stays (Xbar s) next
xbar_step s next (wakes.AtomicDone p latency) now = drops (Xbar s) next p

-- Packets at once.

-- a packet that is passed goes on at the port of its address, or is refused by fault
abbrev pub xbar_atomic_at : XbarState → Packet → ℕ → Bool → Passed
xbar_atomic_at s x p true =
    record { state = Xbar s; packet = fault_response x x.cmd; changes = []; acts = []; entries = []; way = ways.Done s.latency }
xbar_atomic_at s x p false =
    record { state = Xbar s; packet = x; changes = []; acts = []; entries = []; way = ways.Pass (record { 0 = p }) s.latency }

abbrev pub xbar_atomic : XbarState → Packet → Passed
xbar_atomic s x = let p : ℕ = layer_for s.ports x false in xbar_atomic_at s x p (p == length s.ports)

-- Packets without time.

-- the first of two that is there
abbrev pub first_there : Option (List ℕ) → Option (List ℕ) → Option (List ℕ)
first_there (Some bytes) other = Some bytes
first_there None other = other

-- so many bytes at an address of a write-back that a layer holds, if one covers it
abbrev pub held_bytes : List Lane → ℕ → ℕ → Option (List ℕ)
held_bytes [] address count = None
held_bytes (l ∷ ls) address count = first_there (queued_bytes l.flow.items address count) (held_bytes ls address count)

-- a read without time of these bytes, if there are any; else it is left as it is
abbrev pub read_of : Packet → Option (List ℕ) → Packet
read_of p (Some bytes) = read_response p bytes
read_of p None = p

-- a write-back that a layer holds answers a read of its bytes, and another read is left as it is
abbrev pub xbar_functional : XbarState → Packet → Packet
xbar_functional s p = read_of p (held_bytes (s.side.lane ∷ s.lanes) p.addr p.size)

-- Drain and resume.

abbrev pub xbar_draining : Bool → XbarState → Commanded
xbar_draining draining s = record { state = Xbar (record s { common = record s.common { draining = draining } }); changes = [] }

-- a layer holds nothing, and nobody waits for it
abbrev pub is_lane_idle : Lane → Bool
is_lane_idle l = has_nothing l.flow.items && is_nobody l.waiting where
  has_nothing : List Queued → Bool
  has_nothing [] = true
  has_nothing (x ∷ xs) = false

  is_nobody : List ℕ → Bool
  is_nobody [] = true
  is_nobody (p ∷ ps) = false

unfoldable pub are_idle : List Lane → Bool
are_idle [] = true
are_idle (l ∷ ls) = is_lane_idle l && are_idle ls

abbrev pub is_xbar_drained : XbarState → Bool
is_xbar_drained s = are_idle (s.side.lane ∷ s.lanes)
