-- What stays of a crossbar whatever wakes it, and of the table of handles. This project's own rules.
use Rattle.std.specs.Prelude.{◌≡◌, ℕ, IsTrue, List, Option, Some, None}
use Rattle.ev_queue.specs.SlotTable.{gave}
use Rattle.ev_queue.specs.declared.slot.Slot.{Slot}
use Rattle.gm_words.specs.declared.port_use.PortUse.{PortUse}
use Rattle.gm_model.specs.ObjState.{ObjState, Blank, AtomicCpu, TimingCpu, Xbar, Server, object_of}

-- what a crossbar's ports are for
abbrev pub uses_of : ObjState → Option (List PortUse)
uses_of (Blank k) = None
uses_of (AtomicCpu s) = None
uses_of (TimingCpu s) = None
uses_of (Xbar s) = Some s.ports
uses_of (Server s) = None

-- a part is the crossbar of this object, with these ports
abbrev pub IsXbar : ℕ → List PortUse → ObjState → Type 0
IsXbar object ports o = (object_of o ≡ object) × (uses_of o ≡ Some ports)

-- a handle that was given stays so
abbrev pub Stay : List Slot → List Slot → Type 0
Stay old new = (o s c : ℕ) → IsTrue (gave old o s c) → IsTrue (gave new o s c)
