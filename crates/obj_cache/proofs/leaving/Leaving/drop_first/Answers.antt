use Rattle.std.proofs.Common.{ap, arith}
use Rattle.obj_core.specs.Kept.{Kept, outlet_of}
use Rattle.gm_cache.specs.Rule.{backs}
use Rattle.obj_cache.specs.Leaving.{first_bit}
use Rattle.obj_cache.proofs.Backs.{gone_backs, first-le}
use Rattle.obj_cache.proofs.leaving.Leaving.drop_first.Goals as goal

pub overflow_sub-self : goal.overflow_sub-self
overflow_sub-self c =
    let o = c.self.inside in
    omega (arith, c.first_count.ensures, c.self.invariant, first-le o.flow.flow.items, ap (λ (k : Kept). first_bit k.flow.items) c.self.view_is)

pub invariant_of-self : goal.invariant_of-self
invariant_of-self c =
    let o = c.self.inside in
    omega (
      arith,
      c.first_count.ensures,
      c.self.invariant,
      ap (λ (k : Kept). first_bit k.flow.items) c.self.view_is,
      ap (λ (k : Kept). backs k.flow.items) c.drop_first.ensures.flow,
      gone_backs (outlet_of c.args.event.now.slot 10) c.args.next o.flow.flow.items,
    )
