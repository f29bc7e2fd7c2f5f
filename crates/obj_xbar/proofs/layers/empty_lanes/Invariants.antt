use Rattle.std.proofs.Common.{◌≡◌, replicate}
use Rattle.gm_words.specs.Flow.{empty_lane}
use Rattle.obj_xbar.proofs.layers.empty_lanes.Given as goal

-- those that there are have nothing in them
abbrev pub invariant-loop : goal.invariant-loop
invariant-loop l = l.lanes.items ≡ replicate l.counter empty_lane
