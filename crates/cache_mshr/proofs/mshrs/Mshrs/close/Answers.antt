use Rattle.std.proofs.Common.{◌≡◌, ◌∙◌, ap, true}
use Rattle.cache_mshr.specs.Registers.{Registers, is_open}
use Rattle.cache_mshr.specs.Kept.{registers_of}
use Rattle.cache_mshr.proofs.CallLemmas.{there, view_closed, kept_closed}
use Rattle.cache_mshr.proofs.mshrs.Mshrs.close.Goals as goal

pub invariant_of-self : goal.invariant_of-self
invariant_of-self c =
    let o = c.self.inside in
    let i = c.self.invariant in
    let used : is_open c.args.reg (registers_of o.registers o.keys.items) ≡ true =
    ap (λ (m : Registers). is_open c.args.reg m.used) c.self.view_is ∙ c.requires.known in
    let t = there o.registers o.keys.items o.count o.targets c.args.reg _ i.held c.self.view_is c.requires.known in
    rw c.drop_key.ensures.items (rw c.drop_key.ensures.capacity
    (kept_closed o.registers _ o.keys.items _ o.count o.targets c.args.reg i c.try_remove.ensures.updates used
    (rw (c.try_remove.ensures.value ∙ t.at) at c.try_remove.ensures.len) c.try_remove.ensures.capacity))

pub returns-clause-closed : goal.returns-clause-closed
returns-clause-closed c =
    let o = c.self.inside in
    rw (← c.self.view_is) (rw c.drop_key.ensures.items
    (view_closed o.registers _ o.keys.items _ o.count o.targets c.args.reg c.self.invariant c.try_remove.ensures.updates))

pub returns-clause-sound : goal.returns-clause-sound
returns-clause-sound c = (invariant_of-self c).sound
