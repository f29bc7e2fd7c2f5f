-- How a flow is kept: the packets in a pool, and their keys in the order of the flow. This project's own rule.
use Rattle.std.specs.Prelude.{◌≡◌, ℕ, ◌≤◌, ◌==◌, ◌||◌, Bool, true, false, if◌then◌else◌, List, [], ◌∷◌, length, Option, Some, None, IsSomeAnd}
use Rattle.gm_words.specs.Allowed.{MayPass}
use Rattle.gm_words.specs.Flow.{Flow, Queued, OutState, Quiet, Due, Asked, Waits}
use Rattle.gm_words.specs.declared.act.Act.{Act}
use Rattle.pkt_pool.specs.declared.packet.Packet.{Packet}
use Rattle.gm_model.specs.Flows.{Outlet, offer_at}
use Rattle.pkt_pool.specs.Pooled.{Pooled, packet_at, count}
use Rattle.obj_core.specs.declared.flow.Head.{Head}
use Rattle.obj_core.specs.declared.flow.Head.TheVariants as heads
use Rattle.obj_core.specs.declared.flow.Place.{Place}

-- a flow, and how many packets it has places for
pub record Kept : Type 0 where
  pub flow : Flow
  pub places : ℕ

-- how the first packet stands
abbrev pub out_of : Head → OutState
out_of heads.Quiet = Quiet
out_of heads.Due = Due
out_of heads.Asked = Asked
out_of heads.Waits = Waits

-- where a flow goes out, by the slot of its event and the slot's class; at which port doesn't matter to what comes in and goes
abbrev pub outlet_of : ℕ → ℕ → Outlet
outlet_of slot class = record { port = 0; slot = slot; class = class }

-- its first packet was refused, and waits
abbrev pub is_waiting : OutState → Bool
is_waiting Quiet = false
is_waiting Due = false
is_waiting Asked = false
is_waiting Waits = true

-- a packet in front, if there is one, which is ready from a tick on
abbrev pub queued_by : ℕ → Option Packet → List Queued → List Queued
queued_by ready None qs = qs
queued_by ready (Some y) qs = record { packet = y; ready = ready } ∷ qs

-- the packets of keys, in order
abbrev pub queued : Pooled → List Place → List Queued
queued p [] = []
queued p (x ∷ xs) = queued_by x.ready (packet_at p x.key) (queued p xs)

-- a key stands among them
abbrev pub is_key : ℕ → List Place → Bool
is_key k [] = false
is_key k (x ∷ xs) = (x.key == k) || is_key k xs

-- each key holds a packet with bytes for its whole size, and stands there once
abbrev pub AreHeld : Pooled → List Place → Type 0
AreHeld p [] = Unit {0}
AreHeld p (x ∷ xs) = IsSomeAnd (packet_at p x.key) MayPass × (is_key x.key xs ≡ false) × AreHeld p xs

-- the pool holds these packets and no others, and there is room for as many as it has places
pub record IsKept (places : ℕ) (p : Pooled) (xs : List Place) (capacity : ℕ) : Type 0 where
  pub cap : p.cap ≡ places
  pub held : AreHeld p xs
  pub all : count p ≡ length xs
  pub within : length xs ≤ places
  pub room : places ≤ capacity

-- the packets with another in place of the first, which is ready from a tick on
abbrev pub with_front : Packet → ℕ → List Queued → List Queued
with_front y ready [] = []
with_front y ready (x ∷ xs) = record { packet = y; ready = ready } ∷ xs

-- and from the same tick on as the first
abbrev pub with_first : Packet → List Queued → List Queued
with_first y [] = []
with_first y (x ∷ xs) = record { packet = y; ready = x.ready } ∷ xs

-- the flow once its first packet is offered, if there is one
abbrev pub offered : List Queued → OutState → Flow
offered [] out = record { items = []; out = out }
offered (x ∷ xs) out = record { items = x ∷ xs; out = Asked }

-- and that offer, at a port
abbrev pub offers : ℕ → List Queued → List Act
offers p [] = []
offers p (x ∷ xs) = offer_at p x.packet ∷ []
