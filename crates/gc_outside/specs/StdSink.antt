-- A sink over a stream. Source: this project's own rule.
use Rattle.std.specs.Prelude.{ℕ}

-- the stream, and how many calls failed
pub record StdSinkState (W : Type 0) : Type 0 where
  pub stream : W
  pub faults : ℕ
