-- A machine as the model sees it, and what is so of it between two calls.
use Rattle.std.specs.Prelude.{ℕ, Bool, List, length, map}
use Rattle.std.specs.declared.alloc.Global.{Global}
use Rattle.std.specs.declared.dyn_box.DynBox.{DynBox}
use Rattle.gm_model.specs.Deliver.{Delivery}
use Rattle.gm_model.specs.ObjState.{ObjState}
use Rattle.gm_system.specs.Machine.{IsMachineSound}
use Rattle.cfg_tree.specs.declared.config.Config.{Config}
use Rattle.gm_words.specs.Platform.{Part, platform, wires_of, ways_of}
use Rattle.gm_words.specs.Routes.{routes_of}
use Rattle.gm_model.specs.Sys.{Sys}
use Rattle.gm_words.specs.declared.entry.Entry.{Entry}
use Rattle.kernel.specs.declared.machine.Machine.{Machine}
use Rattle.probe_stats.specs.Counted.{Counted}

-- the machine as one value; `f` is what a boxed part shows
abbrev pub sys_of : {I : Type 0} {D : I → Type 0} → (DynBox I Global D → ObjState) → Machine I D → Sys
sys_of f m = record {
  tick = m.tick;
  pending = m.queue.pending;
  objects = map f m.parts.items;
  next = m.out.next;
  counts = m.counters.counts;
  rebased = m.counters.since;
  trace = m.trace;
  draining = m.draining;
  wires = wires_of m.board;
  ways = ways_of m.board;
  routes = routes_of 0 m.board;
}

-- the machine in the middle of an event: what is still to be delivered, and what was noted, is in the outbox
abbrev pub delivery_of : {I : Type 0} {D : I → Type 0} → (DynBox I Global D → ObjState) → Machine I D → Delivery
delivery_of f m = record { sys = sys_of f m; items = m.out.items; entries = m.out.entries }

-- what the last event noted
abbrev pub entries_of : {I : Type 0} {D : I → Type 0} → Machine I D → List Entry
entries_of m = m.out.entries

-- what it counted, and of which parts
abbrev pub counted_of : {I : Type 0} {D : I → Type 0} → Machine I D → Counted
counted_of m = m.counters

-- what the lines of a machine name, which never changes: its parts, and how many caches are configured
pub record Named : Type 0 where
  pub parts : List Part
  pub caches : ℕ

abbrev pub named_of : {I : Type 0} {D : I → Type 0} → Machine I D → Named
named_of m = record { parts = m.counters.parts; caches = m.counters.caches }

-- the machine of a configuration has these
abbrev pub named_by : Config → Named
named_by c = record { parts = platform c; caches = length c.caches }

-- it traces events
abbrev pub traces : {I : Type 0} {D : I → Type 0} → Machine I D → Bool
traces m = m.trace

-- a machine between two calls: each wake that comes is allowed
pub record IsMachine {I : Type 0} {D : I → Type 0} (f : DynBox I Global D → ObjState) (m : Machine I D) : Type 0 where
  pub sound : IsMachineSound (sys_of f m) m.queue.table

-- the same for crates above, in which the shown state is a function of the pair of a table and a value
abbrev pub sys_seen : {I : Type 0} {D : I → Type 0} → Machine I D → ((x : I) × D x → ObjState) → Sys
sys_seen m f = sys_of (λ b. f (b.vtable, b.value)) m

pub record IsSeen {I : Type 0} {D : I → Type 0} (m : Machine I D) (f : (x : I) × D x → ObjState) : Type 0 where
  pub sound : IsMachineSound (sys_seen m f) m.queue.table
