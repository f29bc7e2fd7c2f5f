use Rattle.std.proofs.Common.{◌≡◌, drop}
use Rattle.gm_model.specs.Xbar.{held_bytes}
use Rattle.obj_xbar.proofs.layers.read_first.Given as goal

-- those before hold no such bytes, and the read is as it was
abbrev pub invariant-loop-lane : goal.invariant-loop-lane
invariant-loop-lane l = record {
  same : l.p ≡ l.fn.p;
  others : held_bytes (drop l.lane-index l.lanes) l.p.addr l.p.size ≡ held_bytes l.lanes l.p.addr l.p.size;
}
