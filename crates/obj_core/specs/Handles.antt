-- Which handles a part gets, and that a queue gave them. This project's own rules.
use Rattle.std.specs.Prelude.{◌≡◌, ℕ, ◌+◌, ◌==◌, ◌&&◌, Bool, true, IsTrue, if◌then◌else◌, List, [], ◌∷◌}
use Rattle.ev_queue.specs.Handle.{Handle}
use Rattle.ev_queue.specs.declared.slot.Slot.{Slot}
use Rattle.gm_words.specs.Platform.{own_classes}
use Rattle.gm_words.specs.Slots.{gave_from}
use Rattle.gm_model.specs.ObjState.{ObjState, object_of, slots_of}
use Rattle.gm_words.specs.declared.own.Own.{Own}
use Rattle.gm_words.specs.declared.params.Params.{Params}
use Rattle.obj_core.specs.declared.handles.Handles.{Handles}

-- the handles of a class, of an object's slots from a number on, which have these classes
abbrev pub handles_from : ℕ → ℕ → ℕ → List ℕ → List Handle
handles_from object class slot [] = []
handles_from object class slot (c ∷ cs) =
    if c == class then record { owner = object; slot = slot } ∷ handles_from object class (slot + 1) cs
    else handles_from object class (slot + 1) cs

-- the handles of a class that a part gets which is so configured
abbrev pub handles_of : ℕ → Own → ℕ → List Handle
handles_of object own class = handles_from object class 0 (own_classes own)

-- the handles are those of the part's slots, and no others
pub record AreHandlesOf (p : Params) (h : Handles) : Type 0 where
  pub response : h.response.items ≡ handles_of p.object.0 p.own 0
  pub request : h.request.items ≡ handles_of p.object.0 p.own 10
  pub devices : h.device.items ≡ handles_of p.object.0 p.own 30
  pub cpus : h.cpu.items ≡ handles_of p.object.0 p.own 50

-- the queue gave the handles of a part
abbrev pub HasHandles : List Slot → ObjState → Type 0
HasHandles table o = IsTrue (gave_from table (object_of o) 0 (slots_of o))
