use Rattle.std.proofs.Common.{◌∙◌}
use Rattle.obj_server.proofs.served.ServedSimObject.configure.Goals as goal

pub returns : goal.returns
returns g c = c.in_ok-server.ensures.state _ ∙ c.in_ok-latency.ensures.state
