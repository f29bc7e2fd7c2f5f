use Rattle.std.proofs.Common.{◌∙◌, ap, refl, sym, subst, Some}
use Rattle.std.specs.Option.{option_map}
use Rattle.cache_tags.specs.declared.place.Place.{Place}
use Rattle.cache_tags.specs.Kept.{IsSoundCache}
use Rattle.cache_tags.proofs.StoreLemmas.{found_stored}
use Rattle.cache_tags.proofs.PlaceLemmas.{found_there, found_none, found_line}
use Rattle.cache_tags.proofs.tags.Tags.find.Goals as goal

pub returns-in_err-way-clause-found : goal.returns-in_err-way-clause-found
returns-in_err-way-clause-found c =
    rw (← c.self.view_is)
    (c.from_residual.ensures ∙ (ap (option_map (λ w. let p : Place = record { set = c.set_of-set.result; way = w } in p)) (sym c.in_err-way.was)
    ∙ found_stored _ _ _ _ _ c.self.invariant c.args.addr c.set_of-set.result c.base_of.result c.index.result.now c.find.result
    (rw (← c.self.view_is) at c.set_of-set.ensures) (rw (← c.self.view_is) at c.base_of.ensures) c.index.ensures c.find.ensures))

pub returns-in_err-way-clause-there : goal.returns-in_err-way-clause-there
returns-in_err-way-clause-there c =
    let same = found_there c.args.self.now (subst IsSoundCache c.self.view_is c.self.invariant.sound) c.args.addr c.from_residual.result (returns-in_err-way-clause-found c) in
    (λ h. sym same ∙ h, λ h. same ∙ h)

pub returns-clause-found : goal.returns-clause-found
returns-clause-found c =
    rw (← c.self.view_is)
    (ap (option_map (λ w. let p : Place = record { set = c.set_of-set.result; way = w } in p)) (sym c.in_ok-way.was)
    ∙ found_stored _ _ _ _ _ c.self.invariant c.args.addr c.set_of-set.result c.base_of.result c.index.result.now c.find.result
    (rw (← c.self.view_is) at c.set_of-set.ensures) (rw (← c.self.view_is) at c.base_of.ensures) c.index.ensures c.find.ensures)

pub returns-clause-there : goal.returns-clause-there
returns-clause-there c =
    let same = found_there c.args.self.now (subst IsSoundCache c.self.view_is c.self.invariant.sound) c.args.addr (Some (record { set = c.set_of-set.result; way = c.in_ok-way.way })) (returns-clause-found c) in
    (λ h. sym same, λ h. refl)

pub returns-clause-line : goal.returns-clause-line
returns-clause-line c =
    found_line c.args.self.now (subst IsSoundCache c.self.view_is c.self.invariant.sound) c.args.addr (Some (record { set = c.set_of-set.result; way = c.in_ok-way.way })) (returns-clause-found c)

pub returns-in_err-way-clause-none : goal.returns-in_err-way-clause-none
returns-in_err-way-clause-none c =
    rw c.from_residual.ensures
    (found_none c.args.self.now (subst IsSoundCache c.self.view_is c.self.invariant.sound) c.args.addr c.from_residual.result (returns-in_err-way-clause-found c) c.from_residual.ensures)
