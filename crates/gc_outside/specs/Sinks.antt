-- What two sinks tell at one moment. Source: this project's own rule.
use Rattle.std.specs.Prelude.{ℕ, List, Option}
use Rattle.gc_outside.specs.declared.sink.Sink.{Ghosts}

-- a sink: what it has taken, where it tells that, and how many of its calls failed
pub record SinkSeen : Type 0 where
  pub taken : Option (List ℕ)
  pub faults : ℕ

-- the console and the report
pub record Sinks : Type 0 where
  pub console : SinkSeen
  pub report : SinkSeen

abbrev pub sink_seen : {K : Type 0} → Ghosts K → K → SinkSeen
sink_seen g sink = record { taken = g.taken sink; faults = g.faults sink }

abbrev pub sinks : {C R : Type 0} → Ghosts C → Ghosts R → C → R → Sinks
sinks c r console report = record { console = sink_seen c console; report = sink_seen r report }
