use Rattle.std.proofs.Common.{◌≡◌, rules}
use Rattle.std.proofs.lemmas.Slice.Zip.{zip_end}
use Rattle.probe_stats.proofs.StatsLemmas.{count_end}
use Rattle.probe_stats.proofs.counters.stats.count_at.Goals as goal

pub returns : goal.returns
returns c =
    let parts : c.into_iter-part-iterator.result.a.rest.now ≡ c.args.parts.now = search rules in
    let counts : c.into_iter-part-iterator.result.b.rest.now ≡ c.args.counts.now = search rules in
    let ended = zip_end c.args.parts.now c.args.counts.now c.loop-part.yielded c.into_iter-part-iterator.result c.loop-part.part-iterator c.next.new.self
    c.next.result parts counts c.loop-part.yielded_by c.in-None.is c.next.ensures.steps in
    count_end c.args.parts.now c.args.counts.now c.args.path.now _ _ ended c.loop-part.invariant
