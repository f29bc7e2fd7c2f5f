use Rattle.std.proofs.Common.{◌≡◌, drop}
use Rattle.gm_model.specs.Xbar.{are_idle}
use Rattle.obj_xbar.proofs.layers.are_idle.Given as goal

-- those before are idle
abbrev pub invariant-loop-lane : goal.invariant-loop-lane
invariant-loop-lane l = are_idle (drop l.lane-index l.lanes) ≡ are_idle l.lanes
