use Rattle.std.proofs.Common.{◌∙◌, arith}
use Rattle.obj_xbar.proofs.GivenLemmas.{one_handle_more, one_given_more}
use Rattle.obj_xbar.proofs.tests.bench.handles.Goals as goal

pub loop-slot-preserved : goal.loop-slot-preserved
loop-slot-preserved g c =
    let i = c.loop-slot.invariant in
    let h = c.handle.ensures in
    record {
      handles = c.in_ok-push.ensures.items ∙ one_handle_more g.row.CLASS c.args.from _ _ _ _ _ i.handles h.handle (omega arith) (omega arith);
      given = one_given_more c.loop-slot.queue.table _ g.row.CLASS c.args.from _ _ _ h.once.stay i.given h.once.given (omega arith) (omega arith);
      stay = λ o s k e. h.once.stay o s k (i.stay o s k e);
    }
