-- The invariant of a machine: what makes each call of a part allowed, between two events and in the middle of one. One record for
-- both modes, whichever kinds of parts there are. This project's own invariant.
use Rattle.std.specs.Prelude.{◌≡◌, ℕ, ◌+◌, ◌*◌, ◌^◌, ◌<◌, ◌≤◌, IsTrue, List, [], ◌∷◌, length, sum_by}
use Rattle.gc_base.specs.declared.limits.TheConstants.{TOP}
use Rattle.ev_queue.specs.declared.due.Due.{Due}
use Rattle.ev_queue.specs.declared.slot.Slot.{Slot}
use Rattle.ev_queue.specs.PendingList.{IsInServiceOrder, HoldsSlotsOnce}
use Rattle.gm_words.specs.Allowed.{MayPass}
use Rattle.gm_words.specs.Counts.{IsCountedUpTo}
use Rattle.gm_words.specs.Entries.{console_of}
use Rattle.gm_words.specs.Slots.{gave_from}
use Rattle.gm_model.specs.Deliver.{Item, Sent, Done, Delivery}
use Rattle.gm_model.specs.ObjState.{ObjState, object_of, slots_of}
use Rattle.gm_model.specs.Sys.{Sys, object_at}
use Rattle.gm_laws.specs.Bounds.{IsWithin, IsFit, act_speech, part_speech}
use Rattle.gm_laws.specs.Faces.{face_of}
use Rattle.gm_system.specs.System.{IsSound, fuel_of}

-- what a part can have to do in an event, by its ports alone
abbrev pub most_of : ObjState → ℕ
most_of o = 4 * (face_of o).ports + 4

-- the most that is left to do once an event's owner was woken: so many items at most are delivered for one event
abbrev pub fuel_max : ℕ
fuel_max = 120

-- the most entries of an event, and the most packet numbers that it draws
abbrev pub entries_max : ℕ
entries_max = 512

-- what holds of the parts and of the pending events by themselves, whatever is still to be delivered
pub record HasSoundParts (s : Sys) (table : List Slot) : Type 0 where
  pub numbered : (k : ℕ) → k < length s.objects → object_of (object_at s k) ≡ k
  pub slots : (k : ℕ) → k < length s.objects → IsTrue (gave_from table k 0 (slots_of (object_at s k)))
  pub within : (k : ℕ) → IsWithin (object_at s k)
  pub room : sum_by most_of s.objects + 12 ≤ fuel_max
  pub order : IsInServiceOrder s.pending
  pub once : HoldsSlotsOnce s.pending

-- packets have bytes for their whole size, and no way took longer than can be counted with
abbrev pub AreItemsFit : List Item → Type 0
AreItemsFit [] = Unit {0}
AreItemsFit (Sent i a ∷ rest) = IsFit a × AreItemsFit rest
AreItemsFit (Done i x latency ∷ rest) = MayPass x × (latency ≤ 2 ^ 32) × AreItemsFit rest

-- how many bytes for the console may still come in this event
abbrev pub items_speech : List Item → ℕ
items_speech [] = 0
items_speech (Sent i a ∷ rest) = act_speech a + items_speech rest
items_speech (Done i x latency ∷ rest) = items_speech rest

abbrev pub speech_left : Sys → List Item → ℕ
speech_left s items = sum_by part_speech s.objects + items_speech items

-- between two events, at whatever tick the machine stands
pub record IsSteady (s : Sys) (table : List Slot) : Type 0 where
  pub ram : ℕ
  pub sound : IsSound ram s []
  pub parts : HasSoundParts s table
  pub numbers : s.next ≤ 512 * s.counts.events
  pub counts : IsCountedUpTo (512 * s.counts.events) s.counts

-- and it stands at a tick that a machine may stand at
pub record IsMachineSound (s : Sys) (table : List Slot) : Type 0 where
  pub steady : IsSteady s table
  pub tick : s.tick ≤ TOP

-- in the middle of an event: what is left to do bounds what may still be noted and drawn
pub record IsDeliverySound (d : Delivery) (table : List Slot) : Type 0 where
  pub ram : ℕ
  pub sound : IsSound ram d.sys d.items
  pub parts : HasSoundParts d.sys table
  pub fit : AreItemsFit d.items
  pub fuel : fuel_of d.sys d.items ≤ fuel_max
  pub entries : length d.entries + 4 * fuel_of d.sys d.items ≤ entries_max
  pub numbers : d.sys.next + 2 * fuel_of d.sys d.items ≤ 512 * d.sys.counts.events + 512
  pub counts : IsCountedUpTo (512 * d.sys.counts.events) d.sys.counts
  pub spoken : length (console_of d.entries) + speech_left d.sys d.items ≤ 1

-- each pending event comes from one tick to another
abbrev pub AreBetween : ℕ → ℕ → List Due → Type 0
AreBetween low high [] = Unit {0}
AreBetween low high (e ∷ es) = (low ≤ e.tick) × (e.tick ≤ high) × AreBetween low high es

-- pending events come at the machine's tick or later, and none after the greatest tick
abbrev pub IsTimely : Sys → Type 0
IsTimely s = AreBetween s.tick TOP s.pending
