-- What a part owes to what is asked of it beside its wakes. This project's own laws.
use Rattle.std.specs.Prelude.{◌≡◌, ℕ, true, List, Some}
use Rattle.std.specs.Option.{option_map}
use Rattle.gm_words.specs.Changes.{due_after}
use Rattle.gm_words.specs.Routes.{Route}
use Rattle.gm_model.specs.Command.{drain_step, resume_step, with_input, with_own_bytes, own_bytes}
use Rattle.gm_model.specs.Memory.{with_bytes_at}
use Rattle.gm_model.specs.ObjState.{ObjState, object_of, slots_of}
use Rattle.gm_model.specs.Stepped.{Commanded}
use Rattle.gm_model.specs.View.{Mind}
use Rattle.gm_laws.specs.Bounds.{IsWithin, AreOwnChanges, AreTimely, part_speech}
use Rattle.gm_laws.specs.Face.{Face}
use Rattle.gm_laws.specs.Faces.{face_of, IsOk}
use Rattle.gm_laws.specs.Program.{owed}

-- the part is the same to all others, but for the events that are due
pub record IsSameBut (o p : ObjState) : Type 0 where
  pub face : face_of p ≡ (let f : Face = face_of o in record f { due = (face_of p).due })
  pub ok : (rs : List Route) (ram : ℕ) → IsOk rs ram o → IsOk rs ram p
  pub within : IsWithin o → IsWithin p
  pub object : object_of p ≡ object_of o
  pub slots : slots_of p ≡ slots_of o
  pub speech : part_speech p ≡ part_speech o

-- a command changes own events alone, and tells them
pub record KeepsCommand (o : ObjState) (now : ℕ) (r : Commanded) : Type 0 where
  pub same : IsSameBut o r.state
  pub due : (n : ℕ) → (face_of r.state).due n ≡ due_after r.changes ((face_of o).due n) n
  pub own : AreOwnChanges (slots_of o) r.changes
  pub timely : IsWithin o → AreTimely now r.changes

-- to drain and to go on; a byte of input; and other bytes in memory of the same size
pub record CommandsHold : Type 0 where
  pub drain : (o : ObjState) (now : ℕ) → KeepsCommand o now (drain_step o)
  pub resume : (o : ObjState) (now : ℕ) → KeepsCommand o now (resume_step o now)
  pub input : (o : ObjState) (b : ℕ) → IsSameBut o (with_input b o)
  pub input_due : (o : ObjState) (b n : ℕ) → (face_of (with_input b o)).due n ≡ (face_of o).due n
  pub kept : (o : ObjState) → (face_of o).memory ≡ own_bytes o
  pub put : (o : ObjState) (at : ℕ) (bytes : List ℕ) → face_of (with_own_bytes at bytes o)
      ≡ (let f : Face = face_of o in record f { memory = option_map (λ m. with_bytes_at m at bytes) f.memory })
  pub put_ok : (rs : List Route) (ram : ℕ) (o : ObjState) (at : ℕ) (bytes : List ℕ) → IsOk rs ram o → IsOk rs ram (with_own_bytes at bytes o)
  pub put_within : (o : ObjState) (at : ℕ) (bytes : List ℕ) → IsWithin o → IsWithin (with_own_bytes at bytes o)
  pub put_object : (o : ObjState) (at : ℕ) (bytes : List ℕ) → object_of (with_own_bytes at bytes o) ≡ object_of o
  pub put_slots : (o : ObjState) (at : ℕ) (bytes : List ℕ) → slots_of (with_own_bytes at bytes o) ≡ slots_of o
  pub put_speech : (o : ObjState) (at : ℕ) (bytes : List ℕ) → part_speech (with_own_bytes at bytes o) ≡ part_speech o
  -- where packets are passed at once, a part in which the hart is between two instructions, or isn't at all, says nothing more in an
  -- event
  pub rests : (rs : List Route) (ram : ℕ) (o : ObjState) → IsOk rs ram o
      → ((face_of o).instant ≡ true → (m : Mind) → (face_of o).mind ≡ Some m → owed m.doing ≡ 0) → part_speech o ≡ 0
