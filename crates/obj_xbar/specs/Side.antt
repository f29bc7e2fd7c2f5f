-- The layer of no port: for which layer it waits, and how its packet goes on. This project's own rules.
use Rattle.std.specs.Prelude.{ℕ, ◌+◌, ◌==◌, Bool, false, List, [], ◌∷◌, slice_set}
use Rattle.gm_words.specs.Flow.{Queued, OutState, Quiet, Due, Asked, Waits, Lane, quiet_flow}
use Rattle.pkt_pool.specs.Packet.{popped, top_port}
use Rattle.gm_words.specs.PortUses.{source_port}
use Rattle.gm_model.specs.Flows.{Moved, LaneMoved, put_in}
use Rattle.gm_model.specs.ObjState.{Xbar, XbarState}
use Rattle.gm_model.specs.Stepped.{Stepped, stays}
use Rattle.gm_model.specs.Xbar.{lane_at, xbar_outlet, side_opened}
use Rattle.pkt_pool.specs.declared.packet.Packet.{Packet}
use Rattle.gm_words.specs.declared.port_use.PortUse.{PortUse}

-- its packet waits, and its request came in by the port
abbrev pub is_behind : List PortUse → ℕ → List Queued → OutState → Bool
is_behind ports p (x ∷ xs) Waits = source_port ports (top_port x.packet) == p
is_behind ports p (x ∷ xs) Quiet = false
is_behind ports p (x ∷ xs) Due = false
is_behind ports p (x ∷ xs) Asked = false
is_behind ports p [] out = false

-- the response x of the layer of no port goes to that of the port p, and who waits for its own place is called
abbrev pub gone_beside : XbarState → ℕ → ℕ → Packet → ℕ → Stepped
gone_beside s next p x now =
    let l : Lane = lane_at s.lanes p in
    let m : Moved = put_in (xbar_outlet s p) (popped x) (now + s.latency) l.flow.items l.flow.out in
    let o : LaneMoved = side_opened s.side.lane.waiting in
    record (stays (Xbar (record s {
      lanes = slice_set s.lanes p (record { flow = m.flow; waiting = l.waiting });
      side = record s.side { lane = o.lane };
    })) next) { changes = m.changes; acts = o.acts }

-- the packet in the layer p is gone
abbrev pub cleared_at : XbarState → ℕ → XbarState
cleared_at s p = record s { lanes = slice_set s.lanes p (record { flow = quiet_flow; waiting = (lane_at s.lanes p).waiting }) }
