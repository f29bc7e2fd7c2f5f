use Rattle.std.proofs.Common.{arith}
use Rattle.obj_xbar.proofs.SideLemmas.{enters_beside}
use Rattle.obj_xbar.proofs.layers.Layers.side_enters.Goals as goal

pub returns : goal.returns
returns c = enters_beside _ _ _ _ _ _ _ _ _ _ _ _ c.clear_at.ensures (omega arith) c.in-Some.ensures.packet c.side_goes.ensures
