use Rattle.std.proofs.Common.{◌≡◌, drop}
use Rattle.gm_model.specs.Flows.{is_listed}
use Rattle.obj_xbar.proofs.waiting.Waiting.holds.Given as goal

-- the port is none of those before
abbrev pub invariant-loop-waiting : goal.invariant-loop-waiting
invariant-loop-waiting l = is_listed l.port.0 (drop l.waiting-index l.self) ≡ is_listed l.port.0 l.self
