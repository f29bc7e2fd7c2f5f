use Rattle.std.proofs.Common.{◌≡◌, ◌∙◌, refl, sym, length, eq-eqb, ne_eqb}
use Rattle.cache_mshr.specs.Kept.{registers_of}
use Rattle.cache_mshr.proofs.KeptLemmas.{held_count}
use Rattle.cache_mshr.proofs.mshrs.Mshrs.full.Goals as goal

pub returns-then-len-self-clause-value : goal.returns-then-len-self-clause-value
returns-then-len-self-clause-value c =
    let o = c.self.inside in
    let e : length (registers_of o.registers o.keys.items) ≡ c.len.result =
    held_count o.registers o.keys.items c.self.invariant.held ∙ sym o.keys.ok.0 ∙ sym c.len.ensures in
    rw (← c.self.view_is) (rw e (rw (eq-eqb c.len.result o.count c.if-len-self.true) refl))

pub returns-else-len-self-clause-value : goal.returns-else-len-self-clause-value
returns-else-len-self-clause-value c =
    let o = c.self.inside in
    let e : length (registers_of o.registers o.keys.items) ≡ c.len.result =
    held_count o.registers o.keys.items c.self.invariant.held ∙ sym o.keys.ok.0 ∙ sym c.len.ensures in
    let f = rw (← c.self.view_is) at c.has_full.ensures in
    rw (← c.self.view_is) (rw e (rw (ne_eqb c.len.result o.count c.if-len-self.false) f))
