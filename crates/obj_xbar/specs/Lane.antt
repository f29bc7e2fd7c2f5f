-- A layer has a place for one packet. This project's own rule.
use Rattle.std.specs.Prelude.{◌≡◌, ◌≤◌, length}
use Rattle.obj_core.specs.Kept.{Kept}

pub record IsSingle (f : Kept) : Type 0 where
  pub places : f.places ≡ 1
  pub one : length f.flow.items ≤ 1
