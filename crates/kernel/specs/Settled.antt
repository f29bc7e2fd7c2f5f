-- A machine that stands drained until it is resumed. This project's own rule.
use Rattle.std.specs.Prelude.{◌≡◌, true}
use Rattle.gm_model.specs.Drained.{is_settled}
use Rattle.gm_model.specs.Sys.{Sys}

-- it was asked to drain, and is drained
pub record IsSettled (s : Sys) : Type 0 where
  pub draining : s.draining ≡ true
  pub drained : is_settled s ≡ true
