-- The handles of a server's slots: the first is of the slot at which it serves.
use Rattle.std.proofs.Common.{◌≡◌, ℕ, ◌<◌, ◌&&◌, Bool, true, false, IsTrue, refl, sym, subst, arith, List, length, get_or}
use Rattle.ev_queue.specs.Handle.{Handle}
use Rattle.ev_queue.specs.SlotTable.{gave}
use Rattle.ev_queue.specs.declared.slot.Slot.{Slot}
use Rattle.gm_words.specs.Platform.{slot_classes}
use Rattle.gm_words.specs.Slots.{gave_from}
use Rattle.gm_words.specs.declared.kind.Kind.{Kind}
use Rattle.gm_model.specs.ObjState.{Device, Memory, Uart, Exit, Timer, device_kind}
use Rattle.obj_core.specs.Handles.{handles_from}

counted : (object : ℕ) (d : Device) → 0 < length (handles_from object 30 0 (slot_classes (device_kind d)))
counted object (Memory m) = omega arith
counted object (Uart u) = omega arith
counted object (Exit code) = omega arith
counted object (Timer t) = omega arith

first : (object : ℕ) (d : Device) (o : Handle) → get_or (handles_from object 30 0 (slot_classes (device_kind d))) 0 o ≡ record { owner = object; slot = 0 }
first object (Memory m) o = refl
first object (Uart u) o = refl
first object (Exit code) o = refl
first object (Timer t) o = refl

front : (a b : Bool) → IsTrue (a && b) → IsTrue a
front true b h = refl
front false b h = h

given : (table : List Slot) (object : ℕ) (d : Device) → IsTrue (gave_from table object 0 (slot_classes (device_kind d))) → IsTrue (gave table object 0 30)
given table object (Memory m) h = front _ _ h
given table object (Uart u) h = front _ _ h
given table object (Exit code) h = front _ _ h
given table object (Timer t) h = front _ _ h

-- there is one
pub serve_counted : (hs : List Handle) (object : ℕ) (k : Kind) (d : Device) → device_kind d ≡ k → hs ≡ handles_from object 30 0 (slot_classes k) → 0 < length hs
serve_counted hs object k d e h = rw h (subst (λ j. 0 < length (handles_from object 30 0 (slot_classes j))) e (counted object d))

-- it is the slot's
pub serve_first : (hs : List Handle) (object : ℕ) (k : Kind) (d : Device) (o : Handle) → device_kind d ≡ k
    → hs ≡ handles_from object 30 0 (slot_classes k) → get_or hs 0 o ≡ record { owner = object; slot = 0 }
serve_first hs object k d o e h =
    rw h (subst (λ j. get_or (handles_from object 30 0 (slot_classes j)) 0 o ≡ record { owner = object; slot = 0 }) e (first object d o))

-- and the queue gave it
pub serve_given : (table : List Slot) (object : ℕ) (k : Kind) (d : Device) → device_kind d ≡ k
    → IsTrue (gave_from table object 0 (slot_classes k)) → IsTrue (gave table object 0 30)
serve_given table object k d e h = given table object d (subst (λ j. IsTrue (gave_from table object 0 (slot_classes j))) (sym e) h)
