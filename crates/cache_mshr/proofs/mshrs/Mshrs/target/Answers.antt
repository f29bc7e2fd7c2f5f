use Rattle.std.proofs.Common.{◌∙◌, ap, sym, is_some}
use Rattle.cache_mshr.proofs.RegistersLemmas.{not_both}
use Rattle.cache_mshr.proofs.CallLemmas.{there, targets_there}
use Rattle.cache_mshr.proofs.mshrs.Mshrs.target.Goals as goal

pub returns-in_err-get : goal.returns-in_err-get
returns-in_err-get c =
    let o = c.self.inside in
    let t = there o.registers o.keys.items o.count o.targets c.args.reg _ c.self.invariant.held c.self.view_is c.requires in
    let h = rw c.in_err-get.was at c.get.ensures in
    absurd (not_both (sym (ap is_some t.at) ∙ sym (ap is_some h)))

pub returns : goal.returns
returns c =
    let o = c.self.inside in
    let t = there o.registers o.keys.items o.count o.targets c.args.reg _ c.self.invariant.held c.self.view_is c.requires in
    let h = rw c.in_ok-get.was at c.get.ensures in
    rw (← c.self.view_is) (rw (targets_there o.registers o.keys.items c.args.reg t c.in_ok-get.field-0.now h) c.get-2.ensures)
