use Rattle.std.proofs.Common.{ap, arith}
use Rattle.obj_core.specs.Kept.{Kept}
use Rattle.obj_cache.proofs.Steps.{sent_above, sent_below}
use Rattle.obj_cache.specs.Shown.{shown}
use Rattle.obj_cache.proofs.cache.Cache.sent.Goals as goal

pub returns-then-port-eq0 : goal.returns-then-port-eq0
returns-then-port-eq0 c = λ o.
    sent_above (shown c.args.self.now) c.args.now c.args.q.now o _ _ _ _ _ _ (omega arith) (omega arith) c.next_ready.ensures c.later-next.ensures
    (ap (λ (k : Kept). k.flow) c.drop_first.ensures.flow) c.drop_first.ensures.events c.args.port c.if-port-eq0.true

pub returns-else-port-eq0 : goal.returns-else-port-eq0
returns-else-port-eq0 c = λ o.
    sent_below (shown c.args.self.now) c.args.now c.args.q.now o _ _ _ _ _ _ (omega arith) (omega arith) c.next_ready-else-port-eq0.ensures c.later-next-else-port-eq0.ensures
    (ap (λ (k : Kept). k.flow) c.drop_first-else-port-eq0.ensures.flow) c.drop_first-else-port-eq0.ensures.events c.args.port c.if-port-eq0.false
