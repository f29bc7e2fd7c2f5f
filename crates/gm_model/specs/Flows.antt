-- The steps of flows and lanes: a packet comes in, is offered, is held or gone, and who waits is called. This project's own rules,
-- which crossbars and servers share.
use Rattle.std.specs.Prelude.{ℕ, Bool, true, false, ◌||◌, List, [], ◌∷◌, ◌++◌, Option, Some, None, length, nat_lt, ◌==◌, if◌then◌else◌}
use Rattle.gm_words.specs.Changes.{Change, Schedule}
use Rattle.gm_words.specs.declared.act.Act.{Act}
use Rattle.gm_words.specs.declared.act.Act.TheVariants as acts
use Rattle.gm_words.specs.declared.answer.Answer.{Answer}
use Rattle.gm_words.specs.declared.answer.Answer.TheVariants as answers
use Rattle.gm_words.specs.declared.entry.Entry.{Entry}
use Rattle.gm_words.specs.declared.entry.Entry.TheVariants as entries
use Rattle.pkt_pool.specs.declared.packet.Packet.{Packet}
use Rattle.gm_words.specs.Flow.{OutState, Quiet, Due, Asked, Waits, Queued, Flow, Lane}

-- by how the first packet stands: it is offered; it was refused and waits; its event is pending
abbrev pub asked_bit : OutState → ℕ
asked_bit Quiet = 0
asked_bit Due = 0
asked_bit Asked = 1
asked_bit Waits = 0

abbrev pub waits_bit : OutState → ℕ
waits_bit Quiet = 0
waits_bit Due = 0
waits_bit Asked = 0
waits_bit Waits = 1

abbrev pub is_due_out : OutState → Bool
is_due_out Quiet = false
is_due_out Due = true
is_due_out Asked = false
is_due_out Waits = false

-- the first packet
abbrev pub head_of : List Queued → Option Packet
head_of [] = None
head_of (x ∷ xs) = Some x.packet

-- where a flow goes out: the port at which it offers, and the slot of its event with its class
pub record Outlet : Type 0 where
  pub port : ℕ
  pub slot : ℕ
  pub class : ℕ

-- a flow after a step, with what it asks for
pub record Moved : Type 0 where
  pub flow : Flow
  pub acts : List Act
  pub changes : List Change

abbrev pub still : Flow → Moved
still f = record { flow = f; acts = []; changes = [] }

-- the first packet is offered at a port
abbrev pub offer_at : ℕ → Packet → Act
offer_at p x = acts.Offer (record { 0 = p }) x

-- who waits at a port is called
abbrev pub call_at : ℕ → Act
call_at p = acts.CallRetry (record { 0 = p })

-- a packet at the end, which may be offered from a tick on
abbrev pub put_in : Outlet → Packet → ℕ → List Queued → OutState → Moved
put_in o x ready [] out = record {
  flow = record { items = record { packet = x; ready = ready } ∷ []; out = Due };
  acts = [];
  changes = Schedule o.slot o.class ready ∷ [];
}
put_in o x ready (y ∷ ys) out = still (record { items = (y ∷ ys) ++ record { packet = x; ready = ready } ∷ []; out = out })

-- the first packet is offered, at its event
abbrev pub ask_in : ℕ → List Queued → OutState → Moved
ask_in p [] out = still (record { items = []; out = out })
ask_in p (x ∷ xs) Due = record { flow = record { items = x ∷ xs; out = Asked }; acts = offer_at p x.packet ∷ []; changes = [] }
ask_in p (x ∷ xs) Quiet = still (record { items = x ∷ xs; out = Quiet })
ask_in p (x ∷ xs) Asked = still (record { items = x ∷ xs; out = Asked })
ask_in p (x ∷ xs) Waits = still (record { items = x ∷ xs; out = Waits })

-- it was refused
abbrev pub hold_in : List Queued → OutState → Moved
hold_in items Asked = still (record { items = items; out = Waits })
hold_in items Quiet = still (record { items = items; out = Quiet })
hold_in items Due = still (record { items = items; out = Due })
hold_in items Waits = still (record { items = items; out = Waits })

-- it is offered again
abbrev pub again_in : ℕ → List Queued → OutState → Moved
again_in p [] out = still (record { items = []; out = out })
again_in p (x ∷ xs) Waits = record { flow = record { items = x ∷ xs; out = Asked }; acts = offer_at p x.packet ∷ []; changes = [] }
again_in p (x ∷ xs) Quiet = still (record { items = x ∷ xs; out = Quiet })
again_in p (x ∷ xs) Due = still (record { items = x ∷ xs; out = Due })
again_in p (x ∷ xs) Asked = still (record { items = x ∷ xs; out = Asked })

-- the first packet is gone, and the event of the next comes at a tick
abbrev pub gone_in : Outlet → ℕ → List Queued → Moved
gone_in o at [] = still (record { items = []; out = Quiet })
gone_in o at (x ∷ []) = still (record { items = []; out = Quiet })
gone_in o at (x ∷ y ∷ ys) = record { flow = record { items = y ∷ ys; out = Due }; acts = []; changes = Schedule o.slot o.class at ∷ [] }

-- the first packet is gone, and another comes in at once
abbrev pub next_in : Outlet → Packet → ℕ → Moved
next_in o x at = record {
  flow = record { items = record { packet = x; ready = at } ∷ []; out = Due };
  acts = [];
  changes = Schedule o.slot o.class at ∷ [];
}

-- a lane after a step, with what it asks for
pub record LaneMoved : Type 0 where
  pub lane : Lane
  pub acts : List Act
  pub changes : List Change

abbrev pub is_some_port : List ℕ → Bool
is_some_port [] = false
is_some_port (q ∷ qs) = true

abbrev pub has_room : ℕ → Lane → Bool
has_room places l = nat_lt (length l.flow.items) places

-- a step of the flow alone
abbrev pub moved : Lane → Moved → LaneMoved
moved l m = record { lane = record { flow = m.flow; waiting = l.waiting }; acts = m.acts; changes = m.changes }

-- where there is room the first that waits is called
abbrev pub open_in : Bool → Moved → List ℕ → LaneMoved
open_in false m waiting = record { lane = record { flow = m.flow; waiting = waiting }; acts = m.acts; changes = m.changes }
open_in true m [] = record { lane = record { flow = m.flow; waiting = [] }; acts = m.acts; changes = m.changes }
open_in true m (q ∷ qs) = record { lane = record { flow = m.flow; waiting = qs }; acts = call_at q ∷ m.acts; changes = m.changes }

abbrev pub opened : ℕ → Moved → List ℕ → LaneMoved
opened places m waiting = open_in (nat_lt (length m.flow.items) places) m waiting

-- a port stands in a list
unfoldable pub is_listed : ℕ → List ℕ → Bool
is_listed q [] = false
is_listed q (p ∷ ps) = (p == q) || is_listed q ps

-- it stands there once: at the end, if it wasn't there
abbrev pub joined_once : ℕ → List ℕ → List ℕ
joined_once q ps = if is_listed q ps then ps else ps ++ q ∷ []

-- an offer at the port q: a place, or the end of the list
abbrev pub taken_in : Outlet → Lane → ℕ → Packet → ℕ → Bool → LaneMoved
taken_in o l q x ready true = moved l (put_in o x ready l.flow.items l.flow.out)
taken_in o l q x ready false = record { lane = record { flow = l.flow; waiting = joined_once q l.waiting }; acts = []; changes = [] }

-- what is answered to an offer, by whether there is room, and noted of it
abbrev pub answer_of : Bool → Answer
answer_of true = answers.Taken
answer_of false = answers.Refused

abbrev pub refusal_of : ℕ → Bool → List Entry
refusal_of object true = []
refusal_of object false = entries.Refused (record { 0 = object }) ∷ []
