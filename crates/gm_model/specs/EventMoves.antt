-- Which packets come to be and to an end as an event is served. This project's own rule.
use Rattle.std.specs.Prelude.{ℕ, zero, suc, List, [], ◌∷◌, slice_get, Option, Some, None}
use Rattle.ev_queue.specs.declared.due.Due.{Due}
use Rattle.gm_words.specs.Moves.{Moves, no_moves, joined}
use Rattle.gm_words.specs.Platform.{End}
use Rattle.gm_words.specs.declared.way.Way.{Way}
use Rattle.gm_words.specs.declared.way.Way.TheVariants as ways
use Rattle.gm_words.specs.declared.act.Act.{Act}
use Rattle.gm_words.specs.declared.act.Act.TheVariants as acts
use Rattle.pkt_pool.specs.declared.packet.Packet.{Packet}
use Rattle.gm_words.specs.declared.wake.Wake.{Wake}
use Rattle.gm_words.specs.declared.wake.Wake.TheVariants as wakes
use Rattle.gm_model.specs.Sys.{Sys, peer_in, step_at, woken, pass_at, passed, active_cpu}
use Rattle.gm_model.specs.Deliver.{Item, Sent, Done, Delivery, deliver_first, items_max, passes_max, told_wake}
use Rattle.gm_model.specs.Fire.{event_begun, taken_out}

-- an offer: those of the peer, and of the sender that is told its answer
abbrev pub offer_moves : Sys → ℕ → ℕ → Packet → End → Moves
offer_moves s i p x e =
    let w : Wake = wakes.Offer (record { 0 = e.port }) x in
    joined (step_at s e.part w).moves (step_at (woken s e.part w) i (told_wake (step_at s e.part w).answer p)).moves

-- an interrupt line
abbrev pub line_moves : Sys → Wake → Option ℕ → Moves
line_moves s w None = no_moves
line_moves s w (Some cpu) = (step_at s cpu w).moves

-- a request that is passed at once, from part to part, is served, or refused by fault
abbrev pub pass_moves : (ℕ → Moves) → Packet → Packet → Way → Moves
pass_moves on x y (ways.Pass port latency) = on port.0
pass_moves on x y (ways.Done latency) = record no_moves { served = record { request = x; response = y } ∷ [] }

unfoldable pub atomic_moves : ℕ → Sys → ℕ → Packet → Moves
atomic_moves zero s k x = no_moves
atomic_moves (suc n) s k x =
    pass_moves (λ port. atomic_moves n (passed s k x) (peer_in s.wires k port).part (pass_at s k x).packet) x (pass_at s k x).packet (pass_at s k x).way

-- an act of the part i
abbrev pub act_moves : Sys → ℕ → Act → Moves
act_moves s i (acts.Offer port x) = offer_moves s i port.0 x (peer_in s.wires i port.0)
act_moves s i (acts.CallRetry port) =
    let e : End = peer_in s.wires i port.0 in (step_at s e.part (wakes.Retry (record { 0 = e.port }))).moves
act_moves s i (acts.SetLine bit level) = line_moves s (wakes.Line bit level) (active_cpu s.objects)
act_moves s i (acts.Atomic port x) = atomic_moves passes_max s (peer_in s.ways i port.0).part x

-- one item
abbrev pub item_moves : Sys → Item → Moves
item_moves s (Sent i a) = act_moves s i a
item_moves s (Done i p latency) = (step_at s i (wakes.AtomicDone p latency)).moves

-- the first item, if there is one
abbrev pub first_moves : Sys → List Item → Moves
first_moves s [] = no_moves
first_moves s (i ∷ is) = item_moves s i

-- at most n items, in order
unfoldable pub deliver_moves : ℕ → Delivery → Moves
deliver_moves zero d = no_moves
deliver_moves (suc n) d = joined (first_moves d.sys d.items) (deliver_moves n (deliver_first d d.items))

-- the event d: the wake of its owner, and all that it causes
abbrev pub event_moves : Sys → Due → Moves
event_moves s d = joined (step_at s d.owner.0 (wakes.Event d.slot)).moves (deliver_moves items_max (event_begun s d))

-- the n-th pending event, if there is one, served at a tick
abbrev pub fire_event_moves : Sys → ℕ → ℕ → Option Due → Moves
fire_event_moves s n t None = no_moves
fire_event_moves s n t (Some d) = event_moves (taken_out s n t) d

abbrev pub fire_moves : Sys → ℕ → ℕ → Moves
fire_moves s n t = fire_event_moves s n t (slice_get s.pending n)
