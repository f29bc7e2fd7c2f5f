use Rattle.std.proofs.Common.{◌≡◌, ◌∙◌, ◌<◌, List, ap, subst, sym, arith, length, map}
use Rattle.std.specs.Vec.{with_items}
use Rattle.std.proofs.lemmas.List.{with_items_is}
use Rattle.std.proofs.lemmas.List.Edits.{map_over_more}
use Rattle.cache_tags.specs.Held.{CacheSet}
use Rattle.cache_tags.specs.Kept.{Kept}
use Rattle.cache_tags.specs.Store.{stored_cache, IsStoredCache}
use Rattle.cache_tags.proofs.StoreLemmas.{without_lines, held-without_lines, all_cleared, cleared_kept}
use Rattle.cache_tags.proofs.tags.Tags.clear.Goals as goal

pub loop-set-preserved : goal.loop-set-preserved
loop-set-preserved c =
    let xs : List CacheSet = c.deref_mut-set-items.result.now in
    let item : CacheSet = c.set-item.result in
    let within : c.loop-set.set-index < length xs = c.loop-set-test.true in
    let cleared : c.clear.new.self ≡ without_lines item = c.clear.ensures ∙ ap without_lines (sym c.set-item.is) in
    rw cleared (map_over_more without_lines xs c.loop-set.set-items c.loop-set.set-index item within c.loop-set.invariant c.set-item.is)

pub returns-clause-emptied : goal.returns-clause-emptied
returns-clause-emptied c =
    let sets : List CacheSet = c.self.inside.sets.items in
    let all : c.loop-set.set-items ≡ map without_lines sets =
    rw c.deref_mut-set-items.ensures.value at c.loop-set.invariant ∙ all_cleared c.loop-set.set-index sets (omega (arith, c.deref_mut-set-items.ensures.len, c.self.inside.sets.ok.0)) in
    let kept : (with_items c.self.inside.sets c.loop-set.set-items).items ≡ c.loop-set.set-items =
    with_items_is c.self.inside.sets c.loop-set.set-items (omega (arith, c.loop-set.auto.set-items, c.deref_mut-set-items.ensures.len, c.self.inside.sets.ok.0)) in
    rw (← c.self.view_is)
    (ap (stored_cache c.self.inside.ways c.self.inside.line) (kept ∙ all)
    ∙ ap (λ hs. let t : Kept = record { ways = c.self.inside.ways; line = c.self.inside.line; sets = hs } in t) (held-without_lines sets))

pub invariant_of-self : goal.invariant_of-self
invariant_of-self c =
    let sets : List CacheSet = c.self.inside.sets.items in
    let all : c.loop-set.set-items ≡ map without_lines sets =
    rw c.deref_mut-set-items.ensures.value at c.loop-set.invariant ∙ all_cleared c.loop-set.set-index sets (omega (arith, c.deref_mut-set-items.ensures.len, c.self.inside.sets.ok.0)) in
    let kept : (with_items c.self.inside.sets c.loop-set.set-items).items ≡ c.loop-set.set-items =
    with_items_is c.self.inside.sets c.loop-set.set-items (omega (arith, c.loop-set.auto.set-items, c.deref_mut-set-items.ensures.len, c.self.inside.sets.ok.0)) in
    subst (λ xs. IsStoredCache c.self.inside.ways c.self.inside.line c.self.inside.shift c.self.inside.mask xs) (sym (kept ∙ all))
    (cleared_kept c.self.inside.ways c.self.inside.line c.self.inside.shift c.self.inside.mask sets c.self.invariant)

pub returns-clause-sound : goal.returns-clause-sound
returns-clause-sound c = (invariant_of-self c).sound
