use Rattle.std.proofs.Common.{◌∙◌, ap, sym}
use Rattle.obj_cache.specs.Held.{Held, is_full}
use Rattle.obj_cache.proofs.RegistersLemmas.{full_shown, pool_free}
use Rattle.obj_cache.proofs.CallLemmas.{view_joined, kept_joined, joined_none}
use Rattle.obj_cache.proofs.registers.Registers.join.Goals as goal

pub add_target-requires-clause-room : goal.add_target-requires-clause-room
add_target-requires-clause-room c =
    let o = c.self.inside in
    full_shown o.pool o.mshrs o.line c.self.invariant ∙ ap is_full c.self.view_is ∙ c.requires.room

pub put_reserved-key-requires : goal.put_reserved-key-requires
put_reserved-key-requires c =
    let o = c.self.inside in
    pool_free o.pool o.mshrs o.line c.self.invariant (full_shown o.pool o.mshrs o.line c.self.invariant ∙ ap is_full c.self.view_is ∙ c.requires.room)

pub invariant_of-self : goal.invariant_of-self
invariant_of-self c =
    let o = c.self.inside in
    let put = c.put_reserved-key.ensures in
    rw c.add_target.ensures.joined
    (kept_joined o.pool _ o.mshrs o.line c.in-Some.register c.args.addr c.put_reserved-key.result c.args.p.now c.self.invariant (sym c.in-Some.ensures.key)
    (rw c.add_target.ensures.joined at c.add_target.ensures.sound) put.packet put.vacant put.one_more (rw (ap (λ (h : Held). h.line) c.self.view_is) c.requires.target))

pub returns-in-Some : goal.returns-in-Some
returns-in-Some c =
    let o = c.self.inside in
    let put = c.put_reserved-key.ensures in
    rw (← c.self.view_is) (rw c.add_target.ensures.joined
    (view_joined o.pool _ o.mshrs o.line c.in-Some.register c.args.addr c.put_reserved-key.result c.args.p.now c.self.invariant (sym c.in-Some.ensures.key) put.packet put.vacant))

pub returns-in_default : goal.returns-in_default
returns-in_default c =
    let o = c.self.inside in
    rw (← c.self.view_is) (joined_none o.pool o.mshrs o.line c.args.addr c.args.p.now (sym c.find.ensures.key ∙ c.in_default.is))
