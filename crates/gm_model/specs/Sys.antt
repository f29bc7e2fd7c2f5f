-- The machine as one value, and what a wake or a packet does to it. This project's own rules.
use Rattle.std.specs.Prelude.{ℕ, ◌+◌, Bool, if◌then◌else◌, is_some, List, [], ◌∷◌, slice_index_or, slice_set, Option, Some, None}
use Rattle.ev_queue.specs.declared.due.Due.{Due}
use Rattle.gm_words.specs.Counts.{Counts}
use Rattle.gm_words.specs.Platform.{End}
use Rattle.gm_words.specs.Routes.{Route}
use Rattle.gm_model.specs.ObjState.{ObjState, Blank}
use Rattle.gm_words.specs.Changes.{Change, changed}
use Rattle.gm_model.specs.Command.{arch_of}
use Rattle.gm_model.specs.Stepped.{Stepped, Passed}
use Rattle.gm_model.specs.ObjectStep.{object_step, atomic_step}
use Rattle.gm_words.specs.declared.kind.Kind.TheVariants as kinds
use Rattle.pkt_pool.specs.declared.packet.Packet.{Packet}
use Rattle.gm_words.specs.declared.wake.Wake.{Wake}

-- the tick, the pending events in service order, the objects in the order of their paths, the next packet number, what
-- was counted since the last rebase, the tick of that, whether events are traced, whether the machine is draining; and what
-- never changes: for each object the peers of its ports; where its packets come in that are passed at once; and which addresses are of
-- a range
pub record Sys : Type 0 where
  pub tick : ℕ
  pub pending : List Due
  pub objects : List ObjState
  pub next : ℕ
  pub counts : Counts
  pub rebased : ℕ
  pub trace : Bool
  pub draining : Bool
  pub wires : List (List End)
  pub ways : List (List End)
  pub routes : List Route

-- the peer of a port; one that isn't wired is its own
abbrev pub peer_in : List (List End) → ℕ → ℕ → End
peer_in wires k p = slice_index_or (slice_index_or wires k []) p (record { part = k; port = p })

-- the state of an object
abbrev pub object_at : Sys → ℕ → ObjState
object_at s i = slice_index_or s.objects i (Blank kinds.AtomicCpu)

-- the machine where the object i has a new state, and its events are changed
abbrev pub with_object : Sys → ℕ → ObjState → List Change → Sys
with_object s i state changes = record s {
  pending = changed i s.pending changes;
  objects = slice_set s.objects i state;
}

-- what a wake of the object i gives
abbrev pub step_at : Sys → ℕ → Wake → Stepped
step_at s i w = object_step (object_at s i) s.next w s.tick

-- the machine after a wake of the object i
abbrev pub woken : Sys → ℕ → Wake → Sys
woken s i w = record (with_object s i (step_at s i w).state (step_at s i w).changes) { next = (step_at s i w).next }

-- what a packet gives that is passed to the object i
abbrev pub pass_at : Sys → ℕ → Packet → Passed
pass_at s i p = atomic_step (object_at s i) p s.tick

-- the machine after a packet was passed to the object i
abbrev pub passed : Sys → ℕ → Packet → Sys
passed s i p = with_object s i (pass_at s i p).state (pass_at s i p).changes

-- the number of the first object from a number on that is the active CPU, if one is
abbrev pub active_from : ℕ → List ObjState → Option ℕ
active_from i [] = None
active_from i (o ∷ os) = if is_some (arch_of o) then Some i else active_from (i + 1) os

-- the active CPU
abbrev pub active_cpu : List ObjState → Option ℕ
active_cpu os = active_from 0 os
