use Rattle.std.proofs.Common.{ap, arith, length, drop}
use Rattle.std.proofs.lemmas.List.{length-drop}
use Rattle.cache_mshr.specs.Kept.{registers_of}
use Rattle.cache_mshr.proofs.RegistersLemmas.{targets_within}
use Rattle.cache_mshr.proofs.CallLemmas.{there, view_changed, kept_changed}
use Rattle.cache_mshr.proofs.mshrs.Mshrs.first.Goals as goal

pub invariant_of-self : goal.invariant_of-self
invariant_of-self c =
    let o = c.self.inside in
    let i = c.self.invariant in
    let t = there o.registers o.keys.items o.count o.targets c.args.reg _ i.held c.self.view_is c.requires in
    let few = targets_within o.targets c.args.reg (registers_of o.registers o.keys.items) i.sound.within in
    rw (c.take_target.ensures.rest t.entry t.at)
    (kept_changed o.registers o.keys.items _ o.count o.targets c.args.reg t.entry _ i t.at
    (omega (arith, few, ap length t.targets, length-drop 1 t.entry.targets)))

pub returns-clause-first : goal.returns-clause-first
returns-clause-first c =
    let o = c.self.inside in
    let t = there o.registers o.keys.items o.count o.targets c.args.reg _ c.self.invariant.held c.self.view_is c.requires in
    rw (← c.self.view_is) (rw t.targets (c.take_target.ensures.first t.entry t.at))

pub returns-clause-rest : goal.returns-clause-rest
returns-clause-rest c =
    let o = c.self.inside in
    let t = there o.registers o.keys.items o.count o.targets c.args.reg _ c.self.invariant.held c.self.view_is c.requires in
    rw (← c.self.view_is) (rw t.targets (rw (c.take_target.ensures.rest t.entry t.at)
    (view_changed o.registers o.keys.items _ o.count o.targets c.args.reg t.entry (drop 1 t.entry.targets) c.self.invariant t.at)))

pub returns-clause-sound : goal.returns-clause-sound
returns-clause-sound c = (invariant_of-self c).sound
