use Rattle.std.proofs.Common.{◌≡◌, ◌∙◌, ap, arith, replicate, []}
use Rattle.cache_tags.specs.Kept.{Kept}
use Rattle.cache_tags.specs.Store.{stored_cache}
use Rattle.cache_tags.proofs.PowerLemmas.{power_of}
use Rattle.cache_tags.proofs.StoreLemmas.{held-replicate, built_kept}
use Rattle.cache_tags.proofs.tags.Tags.new.Goals as goal

pub invariant_of-result : goal.invariant_of-result
invariant_of-result c =
    let all : c.loop.counter ≡ c.args.sets = omega arith in
    rw (c.loop.invariant.sets, all)
    (built_kept c.args.sets c.args.ways c.args.line c.shift_of.result c.requires.some c.shift_of.ensures.shift c.shift_of.ensures.small (omega arith)
    (power_of c.args.sets (omega arith) c.requires.power))

pub returns-clause-empty : goal.returns-clause-empty
returns-clause-empty c =
    let all : c.loop.counter ≡ c.args.sets = omega arith in
    ap (stored_cache c.args.ways c.args.line) c.loop.invariant.sets
    ∙ ap (λ hs. let t : Kept = record { ways = c.args.ways; line = c.args.line; sets = hs } in t)
    (held-replicate c.loop.counter (record { ways = c.args.ways; line = c.args.line; held = [] }) ∙ ap (λ n. replicate n []) all)

pub returns-clause-sound : goal.returns-clause-sound
returns-clause-sound c = (invariant_of-result c).sound
