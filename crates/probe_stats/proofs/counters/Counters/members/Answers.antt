use Rattle.std.proofs.Common.{sym, ap, ◌∙◌, arith}
use Rattle.std.proofs.lemmas.List.{take_all}
use Rattle.std.proofs.lemmas.Option.{slice_get_within}
use Rattle.cfg_tree.proofs.LineLemmas.{get_nothing}
use Rattle.serde_json.proofs.Views.{members_view-insert_entry}
use Rattle.serde_json.specs.View.{members_view}
use Rattle.probe_stats.specs.Shown.{pair_shown}
use Rattle.probe_stats.specs.Stats.{members_of, stats_pairs}
use Rattle.probe_stats.proofs.StatsLemmas.{few_pairs, put_next}
use Rattle.probe_stats.proofs.counters.Counters.members.Goals as goal

pub overflow_add-n : goal.overflow_add-n
overflow_add-n c = omega (arith, c.loop-pair.invariant.within, few_pairs c.args.self.now c.args.now c.pair.ensures.caches)

pub loop-pair-smaller : goal.loop-pair-smaller
loop-pair-smaller c =
    let here = slice_get_within (stats_pairs c.args.self.now c.args.now) c.loop-pair.n (pair_shown c.in-Some.pair) (sym c.in-Some.ensures.value) in
    omega arith

pub loop-pair-preserved : goal.loop-pair-preserved
loop-pair-preserved c =
    let ps = stats_pairs c.args.self.now c.args.now in
    let here = slice_get_within ps c.loop-pair.n (pair_shown c.in-Some.pair) (sym c.in-Some.ensures.value) in
    let put = put_next c.args.self.now c.args.now c.loop-pair.n (pair_shown c.in-Some.pair) c.pair.ensures.caches (sym c.in-Some.ensures.value) in
    let entered = ap members_view c.in_ok-insert.ensures.entries ∙ members_view-insert_entry c.loop-pair.members.entries c.in_ok-name.name c.from.result in
    record {
      within = omega arith;
      same = rw (c.in_ok-name.ensures.ok, c.from.ensures, c.loop-pair.invariant.same) at entered ∙ put;
    }

pub returns : goal.returns
returns c =
    let ps = stats_pairs c.args.self.now c.args.now in
    let past = get_nothing ps c.loop-pair.n (sym c.in_default.ensures.value) in
    c.loop-pair.invariant.same ∙ ap members_of (take_all c.loop-pair.n ps past)
