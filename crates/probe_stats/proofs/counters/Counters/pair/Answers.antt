use Rattle.std.proofs.Common.{◌≤◌, ◌-◌, ◌*◌, ap, ◌∙◌, slice_get, arith}
use Rattle.probe_stats.proofs.StatsLemmas.{nth_of_caches, nth_of_machine}
use Rattle.probe_stats.specs.Counted.{Counted}
use Rattle.probe_stats.proofs.counters.Counters.pair.Goals as goal

pub returns-then-n-caches-clause-value : goal.returns-then-n-caches-clause-value
returns-then-n-caches-clause-value c =
    let same = ap (λ (k : Counted). k.caches) c.self.view_is in
    let few : c.args.self.now.caches ≤ 3 = omega (arith, same, c.self.invariant.0) in
    c.picked.ensures
    ∙ ap (λ ps. slice_get ps c.args.n) c.cache_pairs.ensures
    ∙ nth_of_caches c.args.self.now c.args.now c.args.n few (omega (arith, same, c.if-n-caches.true))

pub returns-else-n-caches-clause-value : goal.returns-else-n-caches-clause-value
returns-else-n-caches-clause-value c =
    let same = ap (λ (k : Counted). k.caches) c.self.view_is in
    let few : c.args.self.now.caches ≤ 3 = omega (arith, same, c.self.invariant.0) in
    c.picked-else-n-caches.ensures
    ∙ ap (λ ps. slice_get ps (c.args.n - 3 * c.self.inside.caches)) c.machine_pairs.ensures
    ∙ rw same (nth_of_machine c.args.self.now c.args.now c.args.n few (omega (arith, same, c.if-n-caches.false)))
