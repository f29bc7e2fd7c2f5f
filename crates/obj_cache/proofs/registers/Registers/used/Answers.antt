use Rattle.std.proofs.Common.{◌∙◌, sym}
use Rattle.obj_cache.proofs.RegistersLemmas.{shown_length}
use Rattle.obj_cache.proofs.registers.Registers.used.Goals as goal

pub returns-clause-value : goal.returns-clause-value
returns-clause-value c =
    let o = c.self.inside in
    rw (← c.self.view_is) (c.used.ensures ∙ sym (shown_length o.pool o.mshrs.used))
