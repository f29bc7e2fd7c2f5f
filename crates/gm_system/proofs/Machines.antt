-- A machine stays sound, from an event's wake to its last delivery; nothing is left then; and so it is between two events again.
use Rattle.std.specs.Prelude.{IsFalse, slice_get}
use Rattle.std.proofs.Common.{◌≡◌, ℕ, zero, suc, ◌+◌, ◌*◌, ◌≤◌, ◌||◌, Bool, true, false, List, [], ◌∷◌, refl, sym, ◌∙◌, ap, subst, arith, Option, Some, None, ◌⊎◌, inl, inr, length, get_or, sum_by}
use Rattle.std.proofs.lemmas.Bool.{cases_eq}
use Rattle.std.proofs.lemmas.List.{append-nil}
use Rattle.std.proofs.lemmas.List.Sums.{sum_by-cons}
use Rattle.ev_queue.specs.declared.due.Due.{Due}
use Rattle.ev_queue.specs.declared.slot.Slot.{Slot}
use Rattle.ev_queue.specs.PendingList.{IsInServiceOrder, HoldsSlotsOnce, NoneBefore, is_pending, is_of}
use Rattle.gm_words.specs.Counts.{Counts, IsCountedUpTo, count_entries, count_event}
use Rattle.gm_words.specs.Entries.{console_of}
use Rattle.gm_words.specs.declared.kind.Kind.TheVariants as kinds
use Rattle.gm_words.specs.declared.wake.Wake.TheVariants as wakes
use Rattle.gm_words.proofs.CountLaws.{counted_at_most, counted_entries, same_events}
use Rattle.gm_model.specs.Deliver.{Item, Delivery, deliver_first, deliver, items_max}
use Rattle.gm_model.specs.Fire.{without_nth, taken_out, event_begun, event_delivered, counted, fire_event, fire}
use Rattle.gm_model.specs.ObjState.{ObjState, Blank}
use Rattle.gm_model.specs.Sys.{Sys, object_at}
use Rattle.gm_model.specs.View.{Mind, all_packets, part_packets}
use Rattle.gm_laws.specs.Bounds.{part_speech}
use Rattle.gm_laws.specs.Program.{core, owed}
use Rattle.gm_laws.specs.Words.{weigh}
use Rattle.gm_laws.proofs.Commands.{commands_hold}
use Rattle.gm_system.specs.Machine.{HasSoundParts, AreItemsFit, IsSteady, IsDeliverySound, most_of, speech_left}
use Rattle.gm_system.specs.System.{IsSound, faces, fuel_of, ram_memory}
use Rattle.gm_system.proofs.Bounded.{wake_bounded, handle_bounded}
use Rattle.gm_system.proofs.Deliveries.{first_keeps}
use Rattle.gm_system.proofs.Ends.{deliver_ends, handle_falls}
use Rattle.gm_system.proofs.EventEnds.{begun, fuel_enough, here}
use Rattle.gm_system.proofs.Stores.{ram_laws, same_stored}

-- the queue without one of its events

nth_pending : (es : List Due) (n o s : ℕ) → is_pending es o s ≡ false → is_pending (without_nth es n) o s ≡ false
nth_pending [] n o s h = h
nth_pending (e ∷ es) zero o s h = by (is_of e o s) h where
  by : (b : Bool) → (b || is_pending es o s) ≡ false → is_pending es o s ≡ false
  by true k = cc
  by false k = k
nth_pending (e ∷ es) (suc n) o s h = by (is_of e o s) h (nth_pending es n o s) where
  by : (b : Bool) → (b || is_pending es o s) ≡ false → (is_pending es o s ≡ false → is_pending (without_nth es n) o s ≡ false) → (b || is_pending (without_nth es n) o s) ≡ false
  by true k f = cc
  by false k f = f k

pub false_is : (b : Bool) → IsFalse b → b ≡ false
false_is false h = h
false_is true h = h

is_false : (b : Bool) → b ≡ false → IsFalse b
is_false b e = e

nth_once : (es : List Due) (n : ℕ) → HoldsSlotsOnce es → HoldsSlotsOnce (without_nth es n)
nth_once [] n h = tt
nth_once (e ∷ es) zero h = h.1
nth_once (e ∷ es) (suc n) h = (is_false (is_pending (without_nth es n) e.owner.0 e.slot.0) (nth_pending es n e.owner.0 e.slot.0 (false_is (is_pending es e.owner.0 e.slot.0) h.0)), nth_once es n h.1)

nth_before : (e : Due) (es : List Due) (n : ℕ) → NoneBefore e es → NoneBefore e (without_nth es n)
nth_before e [] n h = tt
nth_before e (f ∷ fs) zero h = h.1
nth_before e (f ∷ fs) (suc n) h = (h.0, nth_before e fs n h.1)

nth_order : (es : List Due) (n : ℕ) → IsInServiceOrder es → IsInServiceOrder (without_nth es n)
nth_order [] n h = tt
nth_order (e ∷ es) zero h = h.1
nth_order (e ∷ es) (suc n) h = (nth_before e es n h.0, nth_order es n h.1)

-- the machine in which an event was taken out
pub parts-taken_out : (s : Sys) (table : List Slot) (n t : ℕ) → HasSoundParts s table → HasSoundParts (taken_out s n t) table
parts-taken_out s table n t h = record {
  numbered = h.numbered;
  slots = h.slots;
  within = h.within;
  room = h.room;
  order = nth_order s.pending n h.order;
  once = nth_once s.pending n h.once;
}

-- between two events nothing is left to say
none_spoken : (os : List ObjState) (d : ObjState) → ((k : ℕ) → part_speech (get_or os k d) ≡ 0) → sum_by part_speech os ≡ 0
none_spoken [] d h = refl
none_spoken (o ∷ os) d h = omega (arith, sum_by-cons part_speech o os, h 0, none_spoken os d (λ k. h (suc k)))

module _ (ram : ℕ) (s : Sys) (h : IsSound ram s []) where
  quiet_part : (k : ℕ) → part_speech (object_at s k) ≡ 0
  quiet_part k = commands_hold.rests s.routes ram (object_at s k) (h.net.parts k) (by (cases_eq k h.program.cpu)) where
    all : weigh core (all_packets s []) ≡ weigh core (part_packets s.objects)
    all = ap (weigh core) (append-nil (part_packets s.objects))

    by : (k ≡ h.program.cpu) ⊎ (k ≡ h.program.cpu → ⊥) → (faces s k).instant ≡ true → (m : Mind) → (faces s k).mind ≡ Some m → owed m.doing ≡ 0
    by (inl e) i m f =
        let same : Some h.program.mind ≡ Some m = sym h.program.here ∙ (ap (λ j. (faces s j).mind) (sym e) ∙ f) in
        let is : h.program.mind ≡ m = cc same in
        omega (arith, h.program.owes, all, h.program.at_once (ap (λ j. (faces s j).instant) (sym e) ∙ i), ap (λ (n : Mind). owed n.doing) is)
    by (inr n) i m f = absurd (let z : None ≡ Some m = sym (h.program.alone k n) ∙ f in cc)

  pub quiet : speech_left s [] ≡ 0
  quiet = omega (arith, none_spoken s.objects (Blank kinds.AtomicCpu) quiet_part)

-- an event's owner is woken
pub begun_sound : (s : Sys) (table : List Slot) (n t : ℕ) (e : Due) → IsSteady s table → slice_get s.pending n ≡ Some e → IsDeliverySound (event_begun (taken_out s n t) e) table
begun_sound s table n t e h there =
    let room : sum_by most_of s.objects + 12 ≤ 120 = h.parts.room in
    let fuel : fuel_of (event_begun (taken_out s n t) e).sys (event_begun (taken_out s n t) e).items ≤ 120 = fuel_enough ram_memory ram_laws h.ram s n t e h.sound h.parts.once there 120 room in
    let p = parts-taken_out s table n t h.parts in
    let b = wake_bounded (record { sys = taken_out s n t; items = []; entries = [] }) table e.owner.0 (wakes.Event e.slot) (here ram_memory ram_laws h.ram s n t e h.sound h.parts.once there 120 room) tt p tt in
    record {
      ram = h.ram;
      sound = (begun ram_memory ram_laws h.ram s n t e h.sound h.parts.once there 120 room).sound;
      parts = b.parts;
      fit = b.fit;
      fuel = fuel;
      entries = omega (arith, b.entries, fuel);
      numbers = omega (arith, b.numbers, fuel, h.numbers);
      counts = h.counts;
      spoken = omega (arith, b.spoken, quiet h.ram s h.sound);
    }

-- the first item is delivered
pub first_sound : (d : Delivery) (table : List Slot) → IsDeliverySound d table → IsDeliverySound (deliver_first d d.items) table
first_sound d table h = by d.items refl where
  by : (items : List Item) → d.items ≡ items → IsDeliverySound (deliver_first d items) table
  by [] e = h
  by (it ∷ rest) e =
      let sound : IsSound h.ram d.sys (it ∷ rest) = subst (IsSound h.ram d.sys) e h.sound in
      let fit : AreItemsFit (it ∷ rest) = subst AreItemsFit e h.fit in
      let b = handle_bounded h.ram table d.sys rest d.entries it sound h.parts fit in
      let less = handle_falls ram_memory ram_laws h.ram d.sys rest d.entries it sound in
      let k = first_keeps ram_memory ram_laws h.ram d d.items refl h.sound in
      let same : fuel_of d.sys d.items ≡ fuel_of d.sys (it ∷ rest) = ap (fuel_of d.sys) e in
      record {
        ram = h.ram;
        sound = subst (λ xs. IsSound h.ram (deliver_first d xs).sys (deliver_first d xs).items) e k.sound;
        parts = b.parts;
        fit = b.fit;
        fuel = omega (arith, less, same, h.fuel);
        entries = omega (arith, b.entries, less, same, h.entries);
        numbers = omega (arith, b.numbers, less, same, h.numbers, ap (λ (c : Counts). c.events) b.counts);
        counts = subst (λ (c : Counts). IsCountedUpTo (512 * c.events) c) (sym b.counts) h.counts;
        spoken = omega (arith, b.spoken, h.spoken, ap (speech_left d.sys) e);
      }

-- and any number of them
pub deliver_sound : (n : ℕ) (d : Delivery) (table : List Slot) → IsDeliverySound d table → IsDeliverySound (deliver n d) table
unfolding deliver
deliver_sound zero d table h = h
deliver_sound (suc n) d table h = deliver_sound n (deliver_first d d.items) table (first_sound d table h)

pub all_delivered : (d : Delivery) (table : List Slot) → IsDeliverySound d table → (deliver items_max d).items ≡ []
all_delivered d table h = deliver_ends ram_memory ram_laws h.ram items_max d h.sound (omega (arith, h.fuel))

-- what was counted doesn't matter to the rest
sound_counts : (ram : ℕ) (s : Sys) (c : Counts) → IsSound ram s [] → IsSound ram (record s { counts = c }) []
sound_counts ram s c h = record {
  net = record { parts = h.net.parts; wired = h.net.wired; net = h.net.net; due = h.net.due; sent = tt; routed = h.net.routed; placed = tt };
  program = record {
    cpu = h.program.cpu;
    mind = h.program.mind;
    here = h.program.here;
    alone = h.program.alone;
    kinds = h.program.kinds;
    kept = same_stored ram s (record s { counts = c }) refl h.program.kept;
    size = h.program.size;
    owes = h.program.owes;
    fits = h.program.fits;
    at_once = h.program.at_once;
    in_time = h.program.in_time;
    mapped = h.program.mapped;
    senders = h.program.senders;
  };
}

-- a whole event is counted
pub counted_sound : (d : Delivery) (table : List Slot) → IsDeliverySound d table → d.items ≡ [] → IsSteady (counted d).sys table
counted_sound d table h e =
    let c : Counts = d.sys.counts in
    let k = counted_entries (512 * c.events) c d.entries h.counts in
    let same = same_events c d.entries in
    let all = counted_at_most (512 * c.events + length d.entries) (512 * ((count_entries c d.entries).events + 1)) (count_entries c d.entries) (omega (arith, same, h.entries)) k in
    record {
      ram = h.ram;
      sound = sound_counts h.ram d.sys (count_event d.sys.counts d.entries) (subst (IsSound h.ram d.sys) e h.sound);
      parts = record { numbered = h.parts.numbered; slots = h.parts.slots; within = h.parts.within; room = h.parts.room; order = h.parts.order; once = h.parts.once };
      numbers = omega (arith, same, h.numbers);
      counts = record { retired = all.retired; sleeps = all.sleeps; traps = all.traps; device_reads = all.device_reads; device_writes = all.device_writes; ram_reads = all.ram_reads; ram_writes = all.ram_writes; hits = all.hits; misses = all.misses; refused = all.refused };
    }

-- whichever event is served at whatever tick
pub event_sound : (s : Sys) (table : List Slot) (n t : ℕ) (e : Due) → IsSteady s table → slice_get s.pending n ≡ Some e → IsDeliverySound (event_delivered (taken_out s n t) e) table
event_sound s table n t e h g = deliver_sound items_max (event_begun (taken_out s n t) e) table (begun_sound s table n t e h g)

pub fired_sound : (s : Sys) (table : List Slot) (n t : ℕ) (o : Option Due) → IsSteady s table → slice_get s.pending n ≡ o → IsSteady (fire_event s n t o).sys table
fired_sound s table n t None h g = h
fired_sound s table n t (Some e) h g =
    let b = begun_sound s table n t e h g in
    counted_sound (event_delivered (taken_out s n t) e) table (deliver_sound items_max (event_begun (taken_out s n t) e) table b) (all_delivered (event_begun (taken_out s n t) e) table b)

pub fire_sound : (s : Sys) (table : List Slot) (n t : ℕ) → IsSteady s table → IsSteady (fire s n t).sys table
unfolding fire
fire_sound s table n t h = fired_sound s table n t (slice_get s.pending n) h refl

-- an event brings the console at most one byte
fired_bytes : (s : Sys) (table : List Slot) (n t : ℕ) (o : Option Due) → IsSteady s table → slice_get s.pending n ≡ o → length (console_of (fire_event s n t o).entries) ≤ 1
fired_bytes s table n t None h g = omega arith
fired_bytes s table n t (Some e) h g = omega (arith, (event_sound s table n t e h g).spoken)

pub fire_bytes : (s : Sys) (table : List Slot) (n t : ℕ) → IsSteady s table → length (console_of (fire s n t).entries) ≤ 1
unfolding fire
fire_bytes s table n t h = fired_bytes s table n t (slice_get s.pending n) h refl
