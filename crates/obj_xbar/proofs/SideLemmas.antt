-- The packet of the layer of no port comes into that of a port.
use Rattle.std.proofs.Common.{◌≡◌, ℕ, suc, zero, ◌<◌, refl, ap, List, [], ◌∷◌, length, slice_set, Some}
use Rattle.std.proofs.lemmas.List.{get_or-set_same}
use Rattle.ev_queue.specs.Queue.{Queue}
use Rattle.gm_words.specs.Flow.{Queued, Lane, quiet_flow, empty_lane}
use Rattle.gm_model.specs.Flows.{head_of}
use Rattle.gm_model.specs.ObjState.{ObjState, Xbar, XbarState}
use Rattle.gm_model.specs.Xbar.{lane_at, side_enters, side_opened}
use Rattle.obj_core.specs.Out.{Out}
use Rattle.obj_core.specs.Step.{Takes}
use Rattle.obj_xbar.specs.Side.{gone_beside, cleared_at}
use Rattle.pkt_pool.specs.declared.packet.Packet.{Packet}

-- the later of two writes stays
set_again : (ls : List Lane) (p : ℕ) (a b : Lane) → slice_set (slice_set ls p a) p b ≡ slice_set ls p b
set_again [] p a b = refl
set_again (l ∷ ls) zero a b = refl
set_again (l ∷ ls) (suc p) a b = ap (λ xs. l ∷ xs) (set_again ls p a b)

-- who waits for the layer of no port is called, and no event changes
opened_beside : (waiting : List ℕ) → (side_opened waiting).changes ≡ []
opened_beside [] = refl
opened_beside (q ∷ qs) = refl

pub enters_beside : (s t : XbarState) (next p : ℕ) (x : Packet) (now : ℕ) (items : List Queued) (part : ObjState) (q q' : Queue) (o o' : Out)
    → t ≡ cleared_at s p → p < length s.lanes → Some x ≡ head_of items
    → Takes (gone_beside t next p x now) (Xbar t) part q q' o o' → Takes (side_enters s next p now items) (Xbar s) part q q' o o'
enters_beside s t next p x now [] part q q' o o' e l f h = absurd (cc)
enters_beside s t next p x now (y ∷ ys) part q q' o o' e l f h =
    let l0 : Lane = record { flow = quiet_flow; waiting = (lane_at s.lanes p).waiting } in
    let same : x ≡ y.packet = cc in
    let g = rw e at h in
    let k = rw (get_or-set_same s.lanes p l0 empty_lane l) at g in
    let m = rw (set_again s.lanes p l0) at k in
    let n = rw same at m in
    rw (opened_beside s.side.lane.waiting) (record { state = n.state; events = n.events; out = n.out; answer = n.answer })
