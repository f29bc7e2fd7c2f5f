use Rattle.std.proofs.Common.{◌∙◌, ap, arith, sym, ◌+◌}
use Rattle.obj_core.specs.Kept.{Kept, outlet_of}
use Rattle.gm_cache.specs.Rule.{backs}
use Rattle.obj_cache.proofs.Backs.{put_backs, backs-le}
use Rattle.obj_cache.proofs.leaving.Leaving.put.Goals as goal

pub overflow_add-self : goal.overflow_add-self
overflow_add-self c =
    let o = c.self.inside in
    omega (arith, c.back_count.ensures.most, c.self.invariant, backs-le o.flow.flow.items, ap (λ (k : Kept). backs k.flow.items) c.self.view_is, backs-le c.args.self.now.flow.items, c.requires.few)

pub invariant_of-self : goal.invariant_of-self
invariant_of-self c =
    let o = c.self.inside in
    ap (λ n. n + c.back_count.result) c.self.invariant ∙ ap (λ n. backs o.flow.flow.items + n) c.back_count.ensures.value
    ∙ sym (ap (λ (k : Kept). backs k.flow.items) c.put.ensures.flow ∙ put_backs (outlet_of c.args.event.now.slot 10) c.args.p.now c.args.ready o.flow.flow.items o.flow.flow.out)
