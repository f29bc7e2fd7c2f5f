-- What the machine's invariant says of an event that is under way, and of the machine between two events. All that the other
-- proofs of this crate need of the invariant while an event is served stands here.
use Rattle.std.proofs.Common.{rules, IfSome, ◌≡◌, ℕ, ◌+◌, ◌*◌, ◌^◌, ◌<◌, ◌≤◌, refl, sym, ap, subst, arith, List, [], ◌∷◌, length, slice_get, Option, Some, None, Bool}
use Rattle.std.proofs.lemmas.List.{length-append}
use Rattle.ev_queue.specs.declared.due.Due.{Due}
use Rattle.ev_queue.specs.declared.slot.Slot.{Slot}
use Rattle.gc_base.specs.declared.ids.PortNo.{PortNo}
use Rattle.gm_words.specs.Allowed.{MayCome}
use Rattle.gm_words.specs.Counts.{Counts, IsCountedUpTo}
use Rattle.gm_words.specs.Platform.{End}
use Rattle.gm_words.specs.declared.act.Act.TheVariants as acts
use Rattle.pkt_pool.specs.declared.packet.Packet.{Packet}
use Rattle.gm_words.specs.declared.wake.Wake.{Wake}
use Rattle.gm_words.specs.declared.wake.Wake.TheVariants as wakes
use Rattle.gm_model.specs.Deliver.{Item, Sent, Done, Delivery, deliver_first, deliver, deliver_wake, told_wake, sent_by}
use Rattle.gm_model.specs.Fire.{taken_out}
use Rattle.gm_model.specs.Ports.{ComesWithin}
use Rattle.gm_model.specs.Sys.{Sys, object_at, active_cpu, peer_in, step_at}
use Rattle.gm_system.specs.Machine.{HasSoundParts, IsMachineSound}
use Rattle.gm_system.proofs.ForKernel.{parts_few, part_handles, first_tick, first_fits, pass_soon, has_way, done_there, line_fits, active_there, IsOffered, offer_stands, call_there, call_port, owner_there, begun, first_stays, all_done, taken_parts}
use Rattle.obj_core.specs.Handles.{HasHandles}
use Rattle.kernel.proofs.Deliveries.{first_counts, deliver_least}
use Rattle.gm_words.proofs.CountLaws.{counted_at_most}
use Rattle.kernel.specs.Ready.{IsReady, IsReadyForWake, IsReadyForPacket, MayGoOn, MayOffer, IsUnderWay, HasEventsLeft, MayServe, not_begun}

-- a part may be woken or passed a packet
ready : (d : Delivery) (table : List Slot) (i : ℕ) → i < length d.sys.objects → HasSoundParts d.sys table → d.sys.tick ≤ 4611703610613432320 → HasEventsLeft d.sys
    → d.sys.next ≤ 512 * d.sys.counts.events + 513 → length d.entries ≤ 512 → IsReady d table i
ready d table i l h tick events numbers noted = record {
  there = l;
  handles = part_handles d.sys table i h l;
  tick = tick;
  numbers = omega (arith, numbers, events);
  entries = omega (arith, noted);
}

wake_ready : (d : Delivery) (table : List Slot) (i : ℕ) (w : Wake) → i < length d.sys.objects → HasSoundParts d.sys table → d.sys.tick ≤ 4611703610613432320 → HasEventsLeft d.sys
    → d.sys.next ≤ 512 * d.sys.counts.events + 513 → length d.entries ≤ 512 → MayCome w → ComesWithin (object_at d.sys i) w → IsReadyForWake d table i w
wake_ready d table i w l h tick events numbers noted may port = record {
  ready = ready d table i l h tick events numbers noted;
  number = h.numbered i l;
  wake = may;
  port = port;
}

-- while an event is under way
first_ready : (d : Delivery) (table : List Slot) (is : List Item) (i : ℕ) (w : Wake) → IsUnderWay d table → i < length d.sys.objects → MayCome w → ComesWithin (object_at d.sys i) w
    → IsReadyForWake (record d { items = is }) table i w
first_ready d table is i w h l may port =
    wake_ready (record d { items = is }) table i w l h.sound.parts h.tick h.events (omega (arith, h.sound.numbers)) (omega (arith, h.sound.entries)) may port

-- a packet that is the first item may be passed on
pub pass_ready : (d : Delivery) (table : List Slot) (i : ℕ) (port : PortNo) (p : Packet) (is : List Item) → d.items ≡ Sent i (acts.Atomic port p) ∷ is
    → IsUnderWay d table → MayGoOn (record d { items = is }) table (peer_in d.sys.ways i port.0).part p
pass_ready d table i port p is e h = record {
  way = has_way d table i port.0 p is h.sound e;
  parts = λ k l. record {
    ready = ready (record d { items = is }) table k l h.sound.parts h.tick h.events (omega (arith, h.sound.numbers)) (omega (arith, h.sound.entries));
    number = h.sound.parts.numbered k l;
    packet = (first_fits d table h.sound (Sent i (acts.Atomic port p)) is e).0;
    latency = pass_soon d.sys table k p h.sound.parts;
  };
}

-- the sender of a response that is the first item may be told
pub done_ready : (d : Delivery) (table : List Slot) (i latency : ℕ) (p : Packet) (is : List Item) → d.items ≡ Done i p latency ∷ is
    → IsUnderWay d table → IsReadyForWake (record d { items = is }) table i (wakes.AtomicDone p latency)
done_ready d table i latency p is e h =
    let fits = first_fits d table h.sound (Done i p latency) is e in
    first_ready d table is i (wakes.AtomicDone p latency) h (done_there d table i latency p is h.sound e) (fits.0, fits.1) tt

-- the active CPU may get an interrupt line's level that is the first item
pub line_ready : (d : Delivery) (table : List Slot) (i bit : ℕ) (level : Bool) (is : List Item) → d.items ≡ Sent i (acts.SetLine bit level) ∷ is
    → IsUnderWay d table → IfSome (active_cpu d.sys.objects) (λ k. IsReadyForWake (record d { items = is }) table k (wakes.Line bit level))
line_ready d table i bit level is e h = by_cpu (active_cpu d.sys.objects) refl where
  by_cpu : (o : Option ℕ) → active_cpu d.sys.objects ≡ o → IfSome o (λ k. IsReadyForWake (record d { items = is }) table k (wakes.Line bit level))
  by_cpu None f = search rules
  by_cpu (Some k) f = first_ready d table is k (wakes.Line bit level) h (active_there d.sys.objects k f) (line_fits d table i bit level is h.sound e) tt

-- the peer of a port that is called may be woken
pub call_ready : (d : Delivery) (table : List Slot) (i : ℕ) (port : PortNo) (is : List Item) → d.items ≡ Sent i (acts.CallRetry port) ∷ is
    → IsUnderWay d table → (let e : End = peer_in d.sys.wires i port.0 in IsReadyForWake (record d { items = is }) table e.part (wakes.Retry (record { 0 = e.port })))
call_ready d table i port is e h =
    let q : End = peer_in d.sys.wires i port.0 in
    first_ready d table is q.part (wakes.Retry (record { 0 = q.port })) h (call_there d table i port.0 is h.sound e) tt (call_port d table i port.0 is h.sound e)

-- there are few parts
pub few_parts : (d : Delivery) (table : List Slot) → IsUnderWay d table → length d.sys.objects ≤ 256
few_parts d table h = parts_few d.sys table h.sound.parts

-- after the first item the event is still under way
pub first_under_way : (d : Delivery) (table : List Slot) → IsUnderWay d table → IsUnderWay (deliver_first d d.items) table
first_under_way d table h = record {
  sound = first_stays d table h.sound;
  tick = omega (arith, first_tick d table h.sound, h.tick);
  events = (let Q : ℕ → Type 0 = λ m. m < 2 ^ 54 in subst Q (ap (λ (c : Counts). c.events) (sym (first_counts d d.items))) h.events);
}

-- once so many items are delivered, nothing is left
pub all_delivered : (d : Delivery) (table : List Slot) → IsUnderWay d table → (deliver 256 d).items ≡ []
all_delivered d table h = all_done d table h.sound

-- so there are never more
pub items_few : (d : Delivery) (table : List Slot) → IsUnderWay d table → length d.items ≤ 256
items_few d table h = omega (arith, deliver_least 256 d, ap (λ xs. length xs) (all_delivered d table h))

-- a packet that is the first item may be offered
pub offer_ready : (d : Delivery) (table : List Slot) (i : ℕ) (port : PortNo) (p : Packet) (is : List Item) → d.items ≡ Sent i (acts.Offer port p) ∷ is
    → IsUnderWay d table → MayOffer (record d { items = is }) table i port.0 p (peer_in d.sys.wires i port.0)
offer_ready d table i port p is e h =
    let q : End = peer_in d.sys.wires i port.0 in
    let w : Wake = wakes.Offer (record { 0 = q.port }) p in
    let rest : Delivery = record d { items = is } in
    let t : Wake = told_wake (step_at d.sys q.part w).answer port.0 in
    let o : IsOffered rest table i port.0 p q = offer_stands d table i port.0 p is h.sound e in
    let fits = first_fits d table h.sound (Sent i (acts.Offer port p)) is e in
    let after : IsUnderWay (deliver_wake (deliver_wake rest q.part w) i t) table =
    subst (λ xs. IsUnderWay (deliver_first d xs) table) e (first_under_way d table h) in
    record {
      shown = first_ready d table is q.part w h o.peer fits.0 o.shown_port;
      room = omega (
        arith,
        items_few (deliver_wake (deliver_wake rest q.part w) i t) table after,
        length-append (deliver_wake rest q.part w).items (sent_by i (step_at (deliver_wake rest q.part w).sys i t).acts),
      );
      told = wake_ready (deliver_wake rest q.part w) table i t (omega (arith, o.objects, o.sender)) o.parts h.tick h.events
          (omega (arith, o.numbers, h.sound.numbers)) (omega (arith, after.sound.entries, length-append (deliver_wake rest q.part w).entries (step_at (deliver_wake rest q.part w).sys i t).entries)) o.told o.told_port;
    }

-- what an event has noted can be counted
pub record IsCountable (d : Delivery) : Type 0 where
  pub counts : IsCountedUpTo (2 ^ 63) d.sys.counts
  pub events : d.sys.counts.events < 2 ^ 63
  pub few : length d.entries ≤ 528

pub under_way_countable : (d : Delivery) (table : List Slot) → IsUnderWay d table → IsCountable d
under_way_countable d table h = record {
  counts = counted_at_most (512 * d.sys.counts.events) 9223372036854775808 d.sys.counts (omega (arith, h.events)) h.sound.counts;
  events = omega (arith, h.events);
  few = omega (arith, h.sound.entries);
}

-- between two events any pending one may be served
pub may_serve : (s : Sys) (table : List Slot) (n t : ℕ) (e : Due) → IsMachineSound s table → HasEventsLeft s → slice_get s.pending n ≡ Some e → t ≤ 4611703610613432320
    → MayServe (taken_out s n t) e table
may_serve s table n t e h events g l =
    let b : Sys = taken_out s n t in
    record {
      ready = wake_ready (not_begun b) table e.owner.0 (wakes.Event e.slot) (owner_there s table n t e h.steady g) (taken_parts s table n t h.steady.parts) l events
          (omega (arith, h.steady.numbers)) (omega arith) tt tt;
      under_way = record { sound = begun s table n t e h.steady g; tick = l; events = events };
    }

-- each part has its handles
pub handles_at : (s : Sys) (table : List Slot) (i : ℕ) → IsMachineSound s table → i < length s.objects → HasHandles table (object_at s i)
handles_at s table i h l = part_handles s table i h.steady.parts l
