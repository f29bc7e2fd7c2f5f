use Rattle.std.proofs.Common.{◌∙◌, ap, sym, subst}
use Rattle.cache_tags.specs.Held.{written_in}
use Rattle.cache_tags.specs.Kept.{with_set, IsSoundCache}
use Rattle.cache_tags.specs.Store.{stored_cache}
use Rattle.cache_tags.proofs.StoreLemmas.{place_stored, written_own, set_read, set_stored, set_kept}
use Rattle.cache_tags.proofs.PlaceLemmas.{after_write_lines, after_write_line, after_write_others}
use Rattle.cache_tags.proofs.tags.Tags.write.Goals as goal

pub returns-clause-written : goal.returns-clause-written
returns-clause-written c =
    let within = place_stored _ _ _ _ _ c.self.invariant c.args.at (rw (← c.self.view_is) at c.requires.place) in
    let read = set_read _ _ _ _ _ c.self.invariant c.args.at.set c.index_mut.result.now within c.index_mut.ensures.value in
    rw (← c.self.view_is)
    (set_stored _ _ _ _ _ c.self.invariant c.args.at.set c.index_mut.result.now c.write.new.self _ within c.index_mut.ensures.value c.write.ensures.written
    ∙ ap (λ hs. with_set (stored_cache c.self.inside.ways c.self.inside.line c.self.inside.sets.items) c.args.at.set (written_in c.args.at.way c.args.offset c.args.bytes.now hs)) (sym read))

pub invariant_of-self : goal.invariant_of-self
invariant_of-self c =
    let within = place_stored _ _ _ _ _ c.self.invariant c.args.at (rw (← c.self.view_is) at c.requires.place) in
    let read = set_read _ _ _ _ _ c.self.invariant c.args.at.set c.index_mut.result.now within c.index_mut.ensures.value in
    set_kept _ _ _ _ _ c.self.invariant c.args.at.set c.index_mut.result.now c.write.new.self _ within c.index_mut.ensures.value c.write.ensures.written c.write.ensures.sound
    (rw read at (written_own (stored_cache c.self.inside.ways c.self.inside.line c.self.inside.sets.items) c.args.at.set c.args.at.way c.args.offset c.args.bytes.now c.self.invariant.sound))

pub returns-clause-sound : goal.returns-clause-sound
returns-clause-sound c = (invariant_of-self c).sound

pub returns-clause-lines : goal.returns-clause-lines
returns-clause-lines c =
    after_write_lines c.args.self.now _ (subst IsSoundCache c.self.view_is c.self.invariant.sound) c.args.at c.args.offset c.args.bytes.now (returns-clause-written c)

pub returns-clause-line : goal.returns-clause-line
returns-clause-line c =
    after_write_line c.args.self.now _ (subst IsSoundCache c.self.view_is c.self.invariant.sound) c.args.at c.args.offset c.args.bytes.now (returns-clause-written c) c.requires.place

pub returns-clause-others : goal.returns-clause-others
returns-clause-others c =
    after_write_others c.args.self.now _ (subst IsSoundCache c.self.view_is c.self.invariant.sound) c.args.at c.args.offset c.args.bytes.now (returns-clause-written c) c.requires.place
