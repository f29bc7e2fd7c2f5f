use Rattle.std.proofs.Common.{ap}
use Rattle.gc_outside.specs.Sinks.{sink_seen}
use Rattle.session.specs.Outside.{store_seen}
use Rattle.session.specs.Refusals.{image_refusal}
use Rattle.session.proofs.CallLemmas.{image_stops}
use Rattle.session.proofs.CountLemmas.{image_counts}
use Rattle.session.proofs.EmissionLemmas.{refuses_from}
use Rattle.session.proofs.fetch.fetch_image.Goals as goal

pub returns-clause-stops : goal.returns-clause-stops
returns-clause-stops g c = (
  image_refusal c.in-Err.fault,
  image_stops _ (store_seen g.S.Store c.args.store.now) (store_seen g.S.Store c.fetch.new.store) _ _ c.items.ensures _ _ c.in_ok-file.ensures.file c.in-Err.ensures.fault c.in-Err.ensures.memory,
  image_counts (store_seen g.S.Store c.args.store.now) (store_seen g.S.Store c.fetch.new.store) c.in_ok-file.ensures.faultless c.in-Err.fault,
  refuses_from _ _ _ _ _ (ap (sink_seen g.R.Sink) c.in_ok-file.ensures.silent) c.refuse_image.ensures,
)
