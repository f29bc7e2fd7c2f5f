-- Bytes that are taken as far as they fit. Source: this project's own rule.
use Rattle.std.specs.Prelude.{ℕ, ◌-◌, List, ◌++◌, length, take}

-- what was taken, and for how many bytes there is room
pub record Taken : Type 0 where
  pub bytes : List ℕ
  pub room : ℕ

-- how many more bytes fit
abbrev pub free_room : Taken → ℕ
free_room t = t.room - length t.bytes

-- the front of these bytes that fits is taken
abbrev pub with_fitting : List ℕ → Taken → Taken
with_fitting bytes t = record t { bytes = t.bytes ++ take (free_room t) bytes }
