use Rattle.std.proofs.Common.{◌∙◌, ◌==◌, ap, sym}
use Rattle.obj_cache.proofs.RegistersLemmas.{shown_length}
use Rattle.obj_cache.proofs.registers.Registers.is_empty.Goals as goal

pub returns : goal.returns
returns c =
    let o = c.self.inside in
    rw (← c.self.view_is) (ap (λ n. n == 0) (c.used.ensures ∙ sym (shown_length o.pool o.mshrs.used)))
