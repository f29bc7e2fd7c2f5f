-- A sink in memory that never fails. Source: this project's own rule.
use Rattle.std.specs.Prelude.{ℕ, ◌+◌, ◌-◌, ◌^◌, ◌==◌, min, if◌then◌else◌, List, length, Option, Some, None}
use Rattle.gc_outside.specs.TakenBytes.{Taken, free_room, with_fitting}

-- what was taken, and how many bytes did not fit
pub record SureSinkState : Type 0 where
  pub taken : Taken
  pub over : ℕ

-- so many more, up to the last number of 64 bits
abbrev pub plus : ℕ → ℕ → ℕ
plus n more = min (n + more) (2 ^ 64 - 1)

-- the sink after these bytes: what fits is taken, the rest is counted
abbrev pub sure_emitted : List ℕ → SureSinkState → SureSinkState
sure_emitted bytes s = record {
  taken = with_fitting bytes s.taken;
  over = plus s.over (length bytes - free_room s.taken);
}

-- it is told where nothing was over
abbrev pub told_if_none : {A : Type 0} → ℕ → A → Option A
told_if_none over told = if over == 0 then Some told else None

-- what was taken is told where nothing was over
abbrev pub told_bytes : SureSinkState → Option (List ℕ)
told_bytes s = told_if_none s.over s.taken.bytes
