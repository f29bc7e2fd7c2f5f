-- The pairs in code, as the definitions have them. This project's own rule.
use Rattle.probe_stats.specs.Stats.{Pair, pair}
use Rattle.probe_stats.specs.declared.counters.stats.Pair.{Pair as KeptPair}

abbrev pub pair_shown : KeptPair → Pair
pair_shown p = pair p.name.now p.number
