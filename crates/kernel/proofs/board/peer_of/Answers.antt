use Rattle.kernel.proofs.Rows.{peer_there, peer_past}
use Rattle.kernel.proofs.board.peer_of.Goals as goal

pub returns-then-part-rows : goal.returns-then-part-rows
returns-then-part-rows c =
    peer_there c.args.rows.now c.args.part.0 c.args.port.0 c.index-rows-part.result _ _ c.if-part-rows.true c.index-rows-part.is c.as_slice.ensures.value c.end_of.ensures

pub returns-else-part-rows : goal.returns-else-part-rows
returns-else-part-rows c = peer_past c.args.rows.now c.args.part.0 c.args.port.0 c.if-part-rows.false
