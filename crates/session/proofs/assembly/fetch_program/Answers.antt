use Rattle.std.proofs.Common.{ap}
use Rattle.gc_outside.specs.Sinks.{sink_seen}
use Rattle.session.specs.Outside.{store_seen}
use Rattle.session.specs.Refusals.{source_refusal}
use Rattle.session.proofs.CallLemmas.{source_stops}
use Rattle.session.proofs.CountLemmas.{source_counts}
use Rattle.session.proofs.EmissionLemmas.{refuses_from}
use Rattle.session.proofs.assembly.fetch_program.Goals as goal

pub returns-clause-stops : goal.returns-clause-stops
returns-clause-stops g c = (
  source_refusal c.in-Err.fault,
  source_stops _ (store_seen g.S.Store c.args.store.now) (store_seen g.S.Store c.fetch.new.store) _ _ c.items.ensures _ c.in_ok-source.ensures.file c.in-Err.ensures.fault,
  source_counts (store_seen g.S.Store c.args.store.now) (store_seen g.S.Store c.fetch.new.store) c.in_ok-source.ensures.faultless c.in-Err.fault,
  refuses_from _ _ _ _ _ (ap (sink_seen g.R.Sink) c.in_ok-source.ensures.silent) c.refuse_source.ensures,
)
