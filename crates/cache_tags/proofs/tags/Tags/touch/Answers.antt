use Rattle.std.proofs.Common.{◌∙◌, ap, sym, subst}
use Rattle.cache_tags.specs.Held.{used}
use Rattle.cache_tags.specs.Kept.{with_set, IsSoundCache}
use Rattle.cache_tags.specs.Store.{stored_cache}
use Rattle.cache_tags.proofs.StoreLemmas.{place_stored, used_own, set_read, set_stored, set_kept}
use Rattle.cache_tags.proofs.PlaceLemmas.{after_touch_lines, after_touch_places}
use Rattle.cache_tags.proofs.tags.Tags.touch.Goals as goal

pub returns-clause-touched : goal.returns-clause-touched
returns-clause-touched c =
    let within = place_stored _ _ _ _ _ c.self.invariant c.args.at (rw (← c.self.view_is) at c.requires) in
    let read = set_read _ _ _ _ _ c.self.invariant c.args.at.set c.index_mut.result.now within c.index_mut.ensures.value in
    rw (← c.self.view_is)
    (set_stored _ _ _ _ _ c.self.invariant c.args.at.set c.index_mut.result.now c.touch.new.self _ within c.index_mut.ensures.value c.touch.ensures.used
    ∙ ap (λ hs. with_set (stored_cache c.self.inside.ways c.self.inside.line c.self.inside.sets.items) c.args.at.set (used c.args.at.way hs)) (sym read))

pub invariant_of-self : goal.invariant_of-self
invariant_of-self c =
    let within = place_stored _ _ _ _ _ c.self.invariant c.args.at (rw (← c.self.view_is) at c.requires) in
    let read = set_read _ _ _ _ _ c.self.invariant c.args.at.set c.index_mut.result.now within c.index_mut.ensures.value in
    set_kept _ _ _ _ _ c.self.invariant c.args.at.set c.index_mut.result.now c.touch.new.self _ within c.index_mut.ensures.value c.touch.ensures.used c.touch.ensures.sound
    (rw read at (used_own (stored_cache c.self.inside.ways c.self.inside.line c.self.inside.sets.items) c.args.at.set c.args.at.way c.self.invariant.sound))

pub returns-clause-sound : goal.returns-clause-sound
returns-clause-sound c = (invariant_of-self c).sound

pub returns-clause-lines : goal.returns-clause-lines
returns-clause-lines c = after_touch_lines c.args.self.now _ (subst IsSoundCache c.self.view_is c.self.invariant.sound) c.args.at (returns-clause-touched c)

pub returns-clause-places : goal.returns-clause-places
returns-clause-places c = after_touch_places c.args.self.now _ (subst IsSoundCache c.self.view_is c.self.invariant.sound) c.args.at (returns-clause-touched c) c.requires
