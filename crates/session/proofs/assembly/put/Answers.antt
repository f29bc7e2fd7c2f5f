use Rattle.std.proofs.lemmas.Result.{on_err_weaker}
use Rattle.session.proofs.PutLemmas.{put_part}
use Rattle.session.proofs.assembly.put.Goals as goal

pub returns-clause-part : goal.returns-clause-part
returns-clause-part g c =
    on_err_weaker c.end_put.result
    (λ h. put_part c.args.name.now c.args.bytes.now _ _ _ _ _ _ c.in_ok-begin_put.ensures.empty c.in_ok-begin_put.ensures.opened c.in_ok-piece.ensures.whole c.in_ok-piece.ensures.same_put h)
    c.end_put.ensures.front
