use Rattle.serde_json.proofs.Views.{view-Object}
use Rattle.probe_stats.specs.Stats.{stats_pairs}
use Rattle.probe_stats.proofs.StatsLemmas.{no_floats}
use Rattle.probe_stats.proofs.counters.Counters.json.Goals as goal

pub returns : goal.returns
returns c =
    let ps = stats_pairs c.args.self.now c.args.now in
    (rw (view-Object c.in_ok-members.members, c.in_ok-members.ensures) at c.in_ok-to_vec.ensures.text) (no_floats ps)
