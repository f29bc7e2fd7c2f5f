use Rattle.std.proofs.Common.{ap, arith}
use Rattle.obj_core.specs.Kept.{Kept}
use Rattle.obj_cache.proofs.Steps.{sends_above}
use Rattle.obj_cache.specs.Shown.{shown}
use Rattle.obj_cache.proofs.cache.Cache.send_above.Goals as goal

pub returns-clause-step : goal.returns-clause-step
returns-clause-step c = λ o.
    sends_above (shown c.args.self.now) c.args.p.now c.args.now c.args.q.now o _ _ _ _ _ (omega arith) (omega arith) c.ready_at-at.ensures
    (ap (λ (k : Kept). k.flow) c.put.ensures.flow) c.put.ensures.events
