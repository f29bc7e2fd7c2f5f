use Rattle.std.proofs.Common.{◌∙◌, ap, arith, is_some}
use Rattle.obj_cache.proofs.RegistersLemmas.{shown_found, few_targets}
use Rattle.obj_cache.proofs.registers.Registers.has.Goals as goal

pub returns-clause-value : goal.returns-clause-value
returns-clause-value c =
    let o = c.self.inside in
    rw (← c.self.view_is) (c.is_some.ensures ∙ ap is_some c.find.ensures.key ∙ shown_found o.pool c.args.addr o.mshrs.used)

pub returns-clause-most : goal.returns-clause-most
returns-clause-most c =
    let o = c.self.inside in
    rw (← c.self.view_is) (omega (arith, few_targets o.pool o.mshrs o.line c.args.addr c.self.invariant, c.self.invariant.most))
