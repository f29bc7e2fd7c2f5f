use Rattle.std.proofs.Common.{ap}
use Rattle.gc_outside.specs.Sinks.{sink_seen}
use Rattle.session.specs.Outside.{store_seen}
use Rattle.session.specs.Refusals.{script_refusal}
use Rattle.session.proofs.CallLemmas.{script_stops}
use Rattle.session.proofs.CountLemmas.{script_counts}
use Rattle.session.proofs.EmissionLemmas.{refuses_from}
use Rattle.session.proofs.run.fetch_script.Goals as goal

pub returns-clause-stops : goal.returns-clause-stops
returns-clause-stops g c = (
  script_refusal c.in-Err.fault,
  script_stops _ (store_seen g.S.Store c.args.store.now) (store_seen g.S.Store c.fetch.new.store) _ _ c.items.ensures _ c.in_ok-text.ensures.file c.in-Err.ensures.line,
  script_counts (store_seen g.S.Store c.args.store.now) (store_seen g.S.Store c.fetch.new.store) c.in_ok-text.ensures.faultless c.in-Err.fault,
  refuses_from _ _ _ _ _ (ap (sink_seen g.R.Sink) c.in_ok-text.ensures.silent) c.refuse_script.ensures,
)
