use Rattle.std.proofs.Common.{◌∙◌, ap, arith}
use Rattle.cache_mshr.specs.Registers.{Registers, is_full, is_open, key_of}
use Rattle.cache_mshr.proofs.RegistersLemmas.{last_open}
use Rattle.cache_mshr.proofs.KeptLemmas.{vacant}
use Rattle.cache_mshr.proofs.CallLemmas.{room_free, view_opened, kept_opened}
use Rattle.cache_mshr.proofs.mshrs.Mshrs.allot.Goals as goal

pub insert_reserved-key-requires : goal.insert_reserved-key-requires
insert_reserved-key-requires c =
    let o = c.self.inside in
    (room_free o.registers o.keys.items _ o.count o.targets c.self.invariant (ap is_full c.self.view_is ∙ c.requires.room)).0

pub push_reserved-requires : goal.push_reserved-requires
push_reserved-requires c =
    let o = c.self.inside in
    omega (arith, o.keys.ok.0, (room_free o.registers o.keys.items _ o.count o.targets c.self.invariant (ap is_full c.self.view_is ∙ c.requires.room)).1)

pub invariant_of-self : goal.invariant_of-self
invariant_of-self c =
    let o = c.self.inside in
    let put = c.insert_reserved-key.ensures in
    rw c.push_reserved.ensures.items (rw c.push_reserved.ensures.capacity
    (kept_opened o.registers _ o.keys.items _ o.count o.targets c.insert_reserved-key.result c.args.addr c.args.first c.self.invariant
    (ap is_full c.self.view_is ∙ c.requires.room) (ap (λ (m : Registers). key_of c.args.addr m.used) c.self.view_is ∙ c.requires.apart)
    (rw c.one.ensures at put.updates) put.was_vacant put.len put.capacity))

pub returns-clause-new_key : goal.returns-clause-new_key
returns-clause-new_key c =
    let o = c.self.inside in
    rw (← c.self.view_is) (vacant o.registers o.keys.items c.insert_reserved-key.result c.self.invariant.held c.insert_reserved-key.ensures.was_vacant)

pub returns-clause-opened : goal.returns-clause-opened
returns-clause-opened c =
    let o = c.self.inside in
    let put = c.insert_reserved-key.ensures in
    rw (← c.self.view_is) (rw c.push_reserved.ensures.items
    (view_opened o.registers _ o.keys.items o.count o.targets c.insert_reserved-key.result c.args.addr c.args.first c.self.invariant.held
    (rw c.one.ensures at put.updates) put.was_vacant))

pub returns-clause-known : goal.returns-clause-known
returns-clause-known c = ap (λ (m : Registers). is_open c.insert_reserved-key.result m.used) (returns-clause-opened c) ∙ last_open c.args.self.now.used _

pub returns-clause-sound : goal.returns-clause-sound
returns-clause-sound c = (invariant_of-self c).sound
