-- Who waits for room in a layer: each port once. This project's own rule.
use Rattle.std.specs.Prelude.{◌≡◌, ℕ, ◌<◌, false, List, [], ◌∷◌}
use Rattle.gm_model.specs.Flows.{is_listed}

-- each of them is a port of a crossbar, and stands there once
abbrev pub AreOnce : List ℕ → Type 0
AreOnce [] = Unit {0}
AreOnce (p ∷ ps) = (p < 8) × (is_listed p ps ≡ false) × AreOnce ps
