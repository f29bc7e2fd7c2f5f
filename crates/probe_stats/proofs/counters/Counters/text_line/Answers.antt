use Rattle.std.proofs.Common.{sym, refl, arith}
use Rattle.std.proofs.lemmas.Bool.{false≢true}
use Rattle.std.proofs.lemmas.Option.{slice_get_within}
use Rattle.cfg_tree.proofs.LineLemmas.{get_nothing}
use Rattle.probe_stats.specs.Shown.{pair_shown}
use Rattle.probe_stats.specs.Stats.{stats_pairs}
use Rattle.probe_stats.proofs.StatsLemmas.{short_name}
use Rattle.probe_stats.proofs.counters.Counters.text_line.Goals as goal

pub put_pair-requires-clause-short : goal.put_pair-requires-clause-short
put_pair-requires-clause-short c =
    short_name c.args.self.now c.args.now c.args.n (pair_shown c.in-Some.pair) c.pair.ensures.caches (sym c.in-Some.ensures.value)

pub returns-in-Some-clause-more : goal.returns-in-Some-clause-more
returns-in-Some-clause-more c =
    (λ _. slice_get_within (stats_pairs c.args.self.now c.args.now) c.args.n (pair_shown c.in-Some.pair) (sym c.in-Some.ensures.value), λ _. refl)

pub returns-in-None-clause-more : goal.returns-in-None-clause-more
returns-in-None-clause-more c =
    let past = get_nothing (stats_pairs c.args.self.now c.args.now) c.args.n (sym c.in-None.ensures.value) in
    (λ e. absurd (false≢true e), λ within. absurd (omega arith))
