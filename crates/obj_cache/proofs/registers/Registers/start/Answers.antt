use Rattle.std.proofs.Common.{◌∙◌, ap}
use Rattle.gm_cache.specs.State.{find_register}
use Rattle.obj_cache.specs.Held.{Held, is_full}
use Rattle.obj_cache.proofs.RegistersLemmas.{full_shown, pool_free, none_found}
use Rattle.obj_cache.proofs.CallLemmas.{view_opened, kept_opened}
use Rattle.obj_cache.proofs.registers.Registers.start.Goals as goal

pub allot-requires-clause-room : goal.allot-requires-clause-room
allot-requires-clause-room c =
    let o = c.self.inside in
    full_shown o.pool o.mshrs o.line c.self.invariant ∙ ap is_full c.self.view_is ∙ c.requires.room

pub put_reserved-key-requires : goal.put_reserved-key-requires
put_reserved-key-requires c =
    let o = c.self.inside in
    pool_free o.pool o.mshrs o.line c.self.invariant (full_shown o.pool o.mshrs o.line c.self.invariant ∙ ap is_full c.self.view_is ∙ c.requires.room)

pub allot-requires-clause-apart : goal.allot-requires-clause-apart
allot-requires-clause-apart c =
    let o = c.self.inside in
    none_found o.pool c.args.addr o.mshrs.used (ap (λ (h : Held). find_register c.args.addr h.used) c.self.view_is ∙ c.requires.absent)

pub invariant_of-self : goal.invariant_of-self
invariant_of-self c =
    let o = c.self.inside in
    let put = c.put_reserved-key.ensures in
    rw c.allot.ensures.opened
    (kept_opened o.pool _ o.mshrs o.line c.allot.result c.args.addr c.put_reserved-key.result c.args.first.now c.self.invariant
    (rw c.allot.ensures.opened at c.allot.ensures.sound) put.packet put.vacant put.one_more (rw (ap (λ (h : Held). h.line) c.self.view_is) c.requires.target))

pub returns : goal.returns
returns c =
    let o = c.self.inside in
    let put = c.put_reserved-key.ensures in
    rw (← c.self.view_is) (rw c.allot.ensures.opened
    (view_opened o.pool _ o.mshrs o.line c.allot.result c.args.addr c.put_reserved-key.result c.args.first.now c.self.invariant put.packet put.vacant))
