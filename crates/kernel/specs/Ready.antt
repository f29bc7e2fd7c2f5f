-- What one wake, or one packet that is passed on, needs in the middle of an event, and what an event's items need.
use Rattle.std.specs.Prelude.{◌≡◌, ℕ, ◌+◌, ◌*◌, ◌^◌, ◌<◌, ◌≤◌, List, [], ◌∷◌, length, drop}
use Rattle.gc_base.specs.declared.ids.PortNo.{PortNo}
use Rattle.gc_base.specs.declared.limits.TheConstants.{LATENCY_MAX, TOP}
use Rattle.ev_queue.specs.PendingList.{rest}
use Rattle.ev_queue.specs.declared.due.Due.{Due}
use Rattle.ev_queue.specs.declared.slot.Slot.{Slot}
use Rattle.gm_words.specs.Allowed.{MayCome, MayPass}
use Rattle.gm_words.specs.Platform.{End}
use Rattle.gm_words.specs.declared.act.Act.TheVariants as acts
use Rattle.pkt_pool.specs.declared.packet.Packet.{Packet}
use Rattle.gm_words.specs.declared.wake.Wake.{Wake}
use Rattle.gm_words.specs.declared.wake.Wake.TheVariants as wakes
use Rattle.gm_model.specs.Deliver.{Delivery, Item, Sent, deliver, deliver_wake, passes_max, told_wake, way_latency}
use Rattle.gm_model.specs.Fire.{event_begun}
use Rattle.gm_model.specs.ObjState.{object_of}
use Rattle.gm_model.specs.Ports.{ComesWithin}
use Rattle.gm_model.specs.Sys.{Sys, object_at, pass_at, step_at}
use Rattle.gm_system.specs.Machine.{IsDeliverySound}
use Rattle.gm_system.specs.Ways.{HasWay}
use Rattle.obj_core.specs.Handles.{HasHandles}

-- the object i is there with its handles, and there is room for what it notes and numbers for what it asks for
pub record IsReady (d : Delivery) (table : List Slot) (i : ℕ) : Type 0 where
  pub there : i < length d.sys.objects
  pub handles : HasHandles table (object_at d.sys i)
  pub tick : d.sys.tick ≤ TOP
  pub numbers : d.sys.next + 16 < 2 ^ 64
  pub entries : length d.entries + 16 ≤ 528

-- and the wake may come to it, by a port that it has
pub record IsReadyForWake (d : Delivery) (table : List Slot) (i : ℕ) (w : Wake) : Type 0 where
  pub ready : IsReady d table i
  pub number : object_of (object_at d.sys i) ≡ i
  pub wake : MayCome w
  pub port : ComesWithin (object_at d.sys i) w

-- and the packet may be passed to it
pub record IsReadyForPacket (d : Delivery) (table : List Slot) (i : ℕ) (p : Packet) : Type 0 where
  pub ready : IsReady d table i
  pub number : object_of (object_at d.sys i) ≡ i
  pub packet : MayPass p
  pub latency : way_latency (pass_at d.sys i p).way ≤ LATENCY_MAX

-- a packet may be passed to the part k: from there it has a way to a part that serves it, and each part is ready for it
pub record MayGoOn (d : Delivery) (table : List Slot) (k : ℕ) (p : Packet) : Type 0 where
  pub way : HasWay passes_max d.sys k p
  pub parts : (j : ℕ) → j < length d.sys.objects → IsReadyForPacket d table j p

-- there is room for what one call asks for
abbrev pub HasItemRoom : Delivery → Type 0
HasItemRoom d = length d.items + 16 ≤ 272

-- the object i may offer a packet at its port: the peer may be shown it, and i then be told of the answer
pub record MayOffer (d : Delivery) (table : List Slot) (i port : ℕ) (p : Packet) (peer : End) : Type 0 where
  pub shown : IsReadyForWake d table peer.part (wakes.Offer (record { 0 = peer.port }) p)
  pub room : HasItemRoom (deliver_wake d peer.part (wakes.Offer (record { 0 = peer.port }) p))
  pub told : IsReadyForWake (deliver_wake d peer.part (wakes.Offer (record { 0 = peer.port }) p)) table i
      (told_wake (step_at d.sys peer.part (wakes.Offer (record { 0 = peer.port }) p)).answer port)

-- e is what some items of d lead to that were delivered in order, at least so many of them
pub record Delivers (least : ℕ) (d e : Delivery) : Type 0 where
  pub count : ℕ
  pub enough : least ≤ count
  pub delivered : e ≡ deliver count d

-- so few events were served since the counters began that no number of theirs runs out
abbrev pub HasEventsLeft : Sys → Type 0
HasEventsLeft s = s.counts.events < 2 ^ 54

-- the first item is a packet that this sender passes at once from a port
abbrev pub IsPassedFirst : List Item → ℕ → PortNo → Packet → Type 0
IsPassedFirst items sender port p = items ≡ Sent sender (acts.Atomic port p) ∷ drop 1 items

-- an event is under way, and each wake that it causes is allowed
pub record IsUnderWay (d : Delivery) (table : List Slot) : Type 0 where
  pub sound : IsDeliverySound d table
  pub tick : d.sys.tick ≤ TOP
  pub events : HasEventsLeft d.sys

-- the machine once its first event is taken out
abbrev pub without_first : Sys → Sys
without_first s = record s { pending = rest s.pending }

-- the machine at another tick
abbrev pub at_tick : ℕ → Sys → Sys
at_tick tick s = record s { tick = tick }

-- before an event of the machine s is served at the tick to which s was set
abbrev pub not_begun : Sys → Delivery
not_begun s = record { sys = s; items = []; entries = [] }

-- the event may be served: its owner may be woken, and all that this causes is allowed
pub record MayServe (s : Sys) (e : Due) (table : List Slot) : Type 0 where
  pub ready : IsReadyForWake (not_begun s) table e.owner.0 (wakes.Event e.slot)
  pub under_way : IsUnderWay (event_begun s e) table
