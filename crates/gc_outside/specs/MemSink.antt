-- A sink in memory that fails where it is told to. Source: this project's own rule.
use Rattle.std.specs.Prelude.{ℕ, Bool, if◌then◌else◌, ◌&&◌, not, nat_le, List, length}
use Rattle.gc_outside.specs.Faults.{faults_after}
use Rattle.gc_outside.specs.PlannedFaults.{Plan, is_planned, called}
use Rattle.gc_outside.specs.TakenBytes.{Taken, free_room, with_fitting}

-- what was taken, which calls are to fail, and how many failed
pub record MemSinkState : Type 0 where
  pub taken : Taken
  pub plan : Plan
  pub faults : ℕ

-- these bytes are taken whole
abbrev pub emits : List ℕ → MemSinkState → Bool
emits bytes s = not (is_planned s.plan) && nat_le (length bytes) (free_room s.taken)

-- the sink after these bytes: nothing of them is taken where the call is to fail, else what fits
abbrev pub emitted : List ℕ → MemSinkState → MemSinkState
emitted bytes s = record {
  taken = if is_planned s.plan then s.taken else with_fitting bytes s.taken;
  plan = called s.plan;
  faults = faults_after (emits bytes s) s.faults;
}
