use Rattle.std.proofs.Common.{◌∙◌, ◌<◌, ap, sym, subst, length}
use Rattle.std.specs.Prelude.{slice_get}
use Rattle.std.specs.Option.{option_map}
use Rattle.cache_tags.specs.Held.{line_info}
use Rattle.cache_tags.specs.Kept.{IsSoundCache}
use Rattle.cache_tags.proofs.StoreLemmas.{set_read}
use Rattle.cache_tags.proofs.PlaceLemmas.{nth_there}
use Rattle.cache_tags.proofs.tags.Tags.nth.Goals as goal

pub returns-clause-nth : goal.returns-clause-nth
returns-clause-nth c =
    let told = rw c.deref.ensures.value at c.in_ok-get.ensures.lookup in
    let within : c.args.set < length c.self.inside.sets.items = told.3.0 in
    rw (← c.self.view_is)
    (c.nth.ensures ∙ ap (λ hs. option_map (line_info c.args.set) (slice_get hs c.args.n))
    (sym (set_read _ _ _ _ _ c.self.invariant c.args.set c.in_ok-get.field-0.now within told.1)))

pub returns-clause-line : goal.returns-clause-line
returns-clause-line c = nth_there c.args.self.now (subst IsSoundCache c.self.view_is c.self.invariant.sound) c.args.set c.args.n c.nth.result (returns-clause-nth c)
