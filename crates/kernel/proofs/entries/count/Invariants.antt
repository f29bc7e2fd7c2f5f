use Rattle.std.proofs.Common.{◌≡◌, ◌+◌, ◌^◌, drop}
use Rattle.gm_words.specs.Counts.{count_entries, IsCountedUpTo}
use Rattle.kernel.proofs.entries.count.Given as goal

-- what is still to be counted leads where all does
abbrev pub invariant-loop-entry : goal.invariant-loop-entry
invariant-loop-entry l = record {
  same : count_entries l.counters.counts (drop l.entry-index l.entries) ≡ count_entries l.initial.counters.counts l.entries;
  most : IsCountedUpTo (2 ^ 63 + l.entry-index) l.counters.counts;
  events : l.counters.counts.events ≡ l.initial.counters.counts.events;
  kept : l.counters ≡ record l.initial.counters { counts = l.counters.counts };
}
