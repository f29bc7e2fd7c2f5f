use Rattle.std.proofs.Common.{arith}
use Rattle.pkt_pool.specs.Packet.{is_response}
use Rattle.obj_xbar.proofs.LayerLemmas.{beside_not_total}
use Rattle.obj_xbar.proofs.layers.Layers.offered.Goals as goal

-- a packet of the layer of no port goes to an address of no port
pub offered_beside-requires-clause-sided : goal.offered_beside-requires-clause-sided
offered_beside-requires-clause-sided c = beside_not_total c.args.self.now.ports.uses c.args.p.now (is_response c.args.p.now.cmd) (omega arith) (omega arith)
