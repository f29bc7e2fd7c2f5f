use Rattle.std.proofs.Common.{◌∙◌}
use Rattle.obj_cache.proofs.RegistersLemmas.{full_shown}
use Rattle.obj_cache.proofs.registers.Registers.is_full.Goals as goal

pub returns : goal.returns
returns c =
    let o = c.self.inside in
    rw (← c.self.view_is) (c.full.ensures.value ∙ full_shown o.pool o.mshrs o.line c.self.invariant)
