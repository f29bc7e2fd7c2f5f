use Rattle.std.proofs.Common.{◌∷◌, ◌++◌, [], arith}
use Rattle.std.proofs.lemmas.List.{length-append}
use Rattle.cache_mshr.proofs.CallLemmas.{there, few_targets, view_changed, kept_changed}
use Rattle.cache_mshr.proofs.mshrs.Mshrs.add_target.Goals as goal

pub push_target-requires : goal.push_target-requires
push_target-requires c =
    let o = c.self.inside in
    let i = c.self.invariant in
    let t = there o.registers o.keys.items o.count o.targets c.args.reg _ i.held c.self.view_is c.requires.known in
    rw t.at (omega (arith, few_targets o.registers o.keys.items _ o.count o.targets c.args.reg _ i c.self.view_is c.requires.room t, i.most))

pub invariant_of-self : goal.invariant_of-self
invariant_of-self c =
    let o = c.self.inside in
    let i = c.self.invariant in
    let t = there o.registers o.keys.items o.count o.targets c.args.reg _ i.held c.self.view_is c.requires.known in
    let few = few_targets o.registers o.keys.items _ o.count o.targets c.args.reg _ i c.self.view_is c.requires.room t in
    rw (c.push_target.ensures t.entry t.at)
    (kept_changed o.registers o.keys.items _ o.count o.targets c.args.reg t.entry _ i t.at
    (omega (arith, few, length-append t.entry.targets (c.args.packet ∷ []))))

pub returns-clause-joined : goal.returns-clause-joined
returns-clause-joined c =
    let o = c.self.inside in
    let t = there o.registers o.keys.items o.count o.targets c.args.reg _ c.self.invariant.held c.self.view_is c.requires.known in
    rw (← c.self.view_is) (rw t.targets (rw (c.push_target.ensures t.entry t.at)
    (view_changed o.registers o.keys.items _ o.count o.targets c.args.reg t.entry (t.entry.targets ++ c.args.packet ∷ []) c.self.invariant t.at)))

pub returns-clause-sound : goal.returns-clause-sound
returns-clause-sound c = (invariant_of-self c).sound
