use Rattle.std.proofs.Common.{◌∙◌, sym}
use Rattle.cache_mshr.proofs.RegistersLemmas.{none_left}
use Rattle.obj_cache.proofs.CallLemmas.{first_packet, view_first_gone, kept_first_gone, first_target, view_none_gone, kept_none_gone, gone_none, first_none, none_first}
use Rattle.obj_cache.proofs.registers.Registers.take_first.Goals as goal

pub returns-in_err-register-clause-first : goal.returns-in_err-register-clause-first
returns-in_err-register-clause-first c =
    let o = c.self.inside in
    rw (← c.self.view_is) (c.from_residual.ensures ∙ first_none o.pool c.args.addr o.mshrs (sym c.in_err-register.ensures.key))

pub returns-in_err-register-clause-rest : goal.returns-in_err-register-clause-rest
returns-in_err-register-clause-rest c =
    let o = c.self.inside in
    rw (← c.self.view_is) (gone_none o.pool o.mshrs o.line c.args.addr (sym c.in_err-register.ensures.key))

pub invariant_of-self : goal.invariant_of-self
invariant_of-self c =
    let o = c.self.inside in
    rw c.first.ensures.rest
    (kept_none_gone o.pool o.mshrs o.line c.in_ok-register.register c.args.addr c.self.invariant (sym c.in_ok-register.ensures.key)
    (none_left _ c.in_err-first.ensures.first) (rw c.first.ensures.rest at c.first.ensures.sound))

pub returns-in_err-first-clause-first : goal.returns-in_err-first-clause-first
returns-in_err-first-clause-first c =
    let o = c.self.inside in
    rw (← c.self.view_is) (c.from_residual-in_err-first.ensures
    ∙ none_first o.pool o.mshrs o.line c.in_ok-register.register c.args.addr c.self.invariant (sym c.in_ok-register.ensures.key) (none_left _ c.in_err-first.ensures.first))

pub returns-in_err-first-clause-rest : goal.returns-in_err-first-clause-rest
returns-in_err-first-clause-rest c =
    let o = c.self.inside in
    rw (← c.self.view_is) (rw c.first.ensures.rest
    (view_none_gone o.pool o.mshrs o.line c.in_ok-register.register c.args.addr c.self.invariant (sym c.in_ok-register.ensures.key) (none_left _ c.in_err-first.ensures.first)))

pub invariant_of-self-2 : goal.invariant_of-self-2
invariant_of-self-2 c =
    let o = c.self.inside in
    rw c.first.ensures.rest
    (kept_first_gone o.pool _ o.mshrs o.line c.in_ok-register.register c.args.addr c.in_ok-first.field-0 c.take.result c.self.invariant
    (sym c.in_ok-register.ensures.key) c.in_ok-first.ensures.first (rw c.first.ensures.rest at c.first.ensures.sound) c.take.ensures.taken c.take.ensures.packet c.take.ensures.one_less)

pub returns-clause-first : goal.returns-clause-first
returns-clause-first c =
    let o = c.self.inside in
    rw (← c.self.view_is) (c.take.ensures.packet
    ∙ first_packet o.pool o.mshrs o.line c.in_ok-register.register c.args.addr c.in_ok-first.field-0 c.self.invariant (sym c.in_ok-register.ensures.key) c.in_ok-first.ensures.first)

pub returns-clause-rest : goal.returns-clause-rest
returns-clause-rest c =
    let o = c.self.inside in
    rw (← c.self.view_is) (rw c.first.ensures.rest
    (view_first_gone o.pool _ o.mshrs o.line c.in_ok-register.register c.args.addr c.in_ok-first.field-0 c.self.invariant (sym c.in_ok-register.ensures.key)
    c.in_ok-first.ensures.first c.take.ensures.taken))

pub returns-clause-target : goal.returns-clause-target
returns-clause-target c =
    let o = c.self.inside in
    rw (returns-clause-first c) (rw (← c.self.view_is)
    (first_target o.pool o.mshrs o.line c.in_ok-register.register c.args.addr c.self.invariant (sym c.in_ok-register.ensures.key)))
