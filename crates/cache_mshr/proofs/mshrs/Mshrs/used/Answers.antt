use Rattle.std.proofs.Common.{◌∙◌, sym, arith}
use Rattle.cache_mshr.proofs.KeptLemmas.{held_count}
use Rattle.cache_mshr.proofs.mshrs.Mshrs.used.Goals as goal

pub overflow_cast-result : goal.overflow_cast-result
overflow_cast-result c =
    let o = c.self.inside in
    omega (arith, c.len.ensures, o.keys.ok.0, held_count o.registers o.keys.items c.self.invariant.held, c.self.invariant.sound.few, c.self.invariant.fits)

pub returns : goal.returns
returns c =
    let o = c.self.inside in
    rw (← c.self.view_is) (c.len.ensures ∙ o.keys.ok.0 ∙ sym (held_count o.registers o.keys.items c.self.invariant.held))
