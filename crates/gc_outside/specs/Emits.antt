-- What a call that emits bytes does to a sink. Source: this project's own rule.
use Rattle.std.specs.Prelude.{◌≡◌, ℕ, ◌≤◌, List, Bool, true, false, Option}
use Rattle.gc_outside.specs.Faults.{Rose}
use Rattle.gc_outside.specs.Told.{Told}
use Rattle.gc_outside.specs.Sink.{Appends, AppendsFront}

-- these bytes were taken whole, or, where the call failed, a front of them; it fails only by a fault
pub record Emits (bytes : List ℕ) (ok : Bool) (old new : Option (List ℕ)) (before now : ℕ) : Type 0 where
  pub whole : ok ≡ true → Told (Appends bytes) old new
  pub front : ok ≡ false → Told (AppendsFront bytes) old new
  pub cause : ok ≡ false → Rose before now
  pub count : before ≤ now
