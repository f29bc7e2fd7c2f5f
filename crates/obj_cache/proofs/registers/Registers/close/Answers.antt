use Rattle.std.proofs.Common.{◌∙◌, ap, sym}
use Rattle.obj_cache.specs.Held.{Held, targets_of}
use Rattle.obj_cache.proofs.CallLemmas.{served, view_closed, kept_closed, closed_none}
use Rattle.obj_cache.proofs.registers.Registers.close.Goals as goal

pub close-requires-clause-served : goal.close-requires-clause-served
close-requires-clause-served c =
    let o = c.self.inside in
    served o.pool o.mshrs o.line c.in-Some.register c.args.addr c.self.invariant (sym c.in-Some.ensures.key)
    (ap (λ (h : Held). targets_of c.args.addr h.used) c.self.view_is ∙ c.requires)

pub invariant_of-self : goal.invariant_of-self
invariant_of-self c =
    let o = c.self.inside in
    rw c.close.ensures.closed
    (kept_closed o.pool o.mshrs o.line c.in-Some.register c.args.addr c.self.invariant (sym c.in-Some.ensures.key)
    (served o.pool o.mshrs o.line c.in-Some.register c.args.addr c.self.invariant (sym c.in-Some.ensures.key)
    (ap (λ (h : Held). targets_of c.args.addr h.used) c.self.view_is ∙ c.requires))
    (rw c.close.ensures.closed at c.close.ensures.sound))

pub returns-in-Some : goal.returns-in-Some
returns-in-Some c =
    let o = c.self.inside in
    rw (← c.self.view_is) (rw c.close.ensures.closed
    (view_closed o.pool o.mshrs o.line c.in-Some.register c.args.addr c.self.invariant (sym c.in-Some.ensures.key)))

pub returns-in_default : goal.returns-in_default
returns-in_default c =
    let o = c.self.inside in
    rw (← c.self.view_is) (closed_none o.pool o.mshrs o.line c.args.addr (sym c.find.ensures.key ∙ c.in_default.is))
