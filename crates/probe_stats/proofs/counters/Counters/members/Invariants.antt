use Rattle.std.proofs.Common.{◌≡◌, ◌-◌, ◌≤◌, length, take}
use Rattle.probe_stats.specs.Stats.{stats_pairs, members_of}
use Rattle.serde_json.specs.View.{members_view}
use Rattle.probe_stats.proofs.counters.Counters.members.Given as goal

-- the first pairs are in the object
abbrev pub invariant-loop-pair : goal.invariant-loop-pair
invariant-loop-pair l = record {
  within : l.n ≤ length (stats_pairs l.self l.now);
  same : members_view l.members.entries ≡ members_of (take l.n (stats_pairs l.self l.now));
}

abbrev pub decreases-loop-pair : goal.decreases-loop-pair
decreases-loop-pair l = length (stats_pairs l.self l.now) - l.n
