use Rattle.std.proofs.Common.{ap, inl, inr}
use Rattle.std.proofs.lemmas.Result.{err_from_is_err_and}
use Rattle.gc_outside.specs.Sinks.{sink_seen}
use Rattle.session.specs.Outside.{store_seen}
use Rattle.session.proofs.CallLemmas.{put_earlier}
use Rattle.session.proofs.CountLemmas.{counts_earlier}
use Rattle.session.proofs.EmissionLemmas.{refuses_from}
use Rattle.session.proofs.assembly.assembly.Goals as goal

pub returns-in_err-program : goal.returns-in_err-program
returns-in_err-program g c =
    let p = err_from_is_err_and c.from_residual.result c.from_residual.ensures.1 in
    let h = c.in_err-program.ensures.stops in
    rw (p.1, p.2) (h.0, inl (c.in_err-program.ensures.reads.same, h.1), h.2, h.3)

pub returns : goal.returns
returns g c =
    let h = c.put_program.ensures in (
      h.0,
      inr (c.in_ok-program.program.words, c.in_ok-program.ensures.program, put_earlier _ _ (store_seen g.S.Store c.args.store.now) (store_seen g.S.Store c.fetch_program.new.store) (store_seen g.S.Store c.put_program.new.store) _ c.in_ok-program.ensures.reads h.1),
      counts_earlier h.0 (store_seen g.S.Store c.args.store.now) (store_seen g.S.Store c.fetch_program.new.store) (store_seen g.S.Store c.put_program.new.store) c.in_ok-program.ensures.faultless h.2,
      refuses_from _ _ _ _ _ (ap (sink_seen g.R.Sink) c.in_ok-program.ensures.silent) h.3,
    )
