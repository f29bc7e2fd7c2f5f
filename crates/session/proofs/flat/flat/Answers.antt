use Rattle.std.proofs.Common.{refl, ap, ◌∙◌, inl, inr}
use Rattle.std.proofs.lemmas.Result.{err_from_is_err_and}
use Rattle.rv_step.specs.Run.{flat_run}
use Rattle.session.specs.Ending.{memory_refusal, work_done}
use Rattle.gc_outside.specs.Sinks.{sink_seen}
use Rattle.session.specs.Report.{flat_emissions}
use Rattle.session.specs.Run.{flat_start}
use Rattle.session.proofs.EmissionLemmas.{refuses_from, done_leaves, cut_leaves}
use Rattle.session.proofs.flat.flat.Goals as goal

pub returns-in_err-image-clause-ends : goal.returns-in_err-image-clause-ends
returns-in_err-image-clause-ends g c =
    let p = err_from_is_err_and c.from_residual.result c.from_residual.ensures.1 in
    let h = c.in_err-image.ensures.stops in
    rw (p.1, p.2) (h.0, inl h.1, h.2, h.3 (sink_seen g.C.Sink c.args.console.now))

pub returns-in_err-run-clause-ends : goal.returns-in_err-run-clause-ends
returns-in_err-run-clause-ends g c =
    let p = err_from_is_err_and c.from_residual-in_err-run.result c.from_residual-in_err-run.ensures.1 in
    let h = refuses_from _ _ _ _ _ (ap (sink_seen g.R.Sink) c.in_ok-image.ensures.silent) c.in_err-run.ensures.refused in
    rw (p.1, p.2) (memory_refusal, inr (c.in_ok-image.image, c.in_ok-image.ensures.image, inl refl), c.in_ok-image.ensures.faultless, h (sink_seen g.C.Sink c.args.console.now))

pub returns-in-Ok-clause-ends : goal.returns-in-Ok-clause-ends
returns-in-Ok-clause-ends g c =
    let es = flat_emissions (flat_run (flat_start c.in_ok-image.image) c.args.words.now.count) in (
      work_done es,
      inr (c.in_ok-image.image, c.in_ok-image.ensures.image, inr refl),
      c.in_ok-image.ensures.faultless,
      done_leaves es _ (sink_seen g.C.Sink c.args.console.now) _ _ _ (ap (λ s. flat_emissions (flat_run s c.args.words.now.count)) c.in_ok-run.ensures.loaded)
          (ap (sink_seen g.R.Sink) (c.in_ok-run.ensures.silent ∙ c.in_ok-image.ensures.silent)) c.in-Ok.ensures,
    )

pub returns-clause-ends : goal.returns-clause-ends
returns-clause-ends g c =
    let es = flat_emissions (flat_run (flat_start c.in_ok-image.image) c.args.words.now.count) in (
      work_done es,
      inr (c.in_ok-image.image, c.in_ok-image.ensures.image, inr refl),
      c.in_ok-image.ensures.faultless,
      cut_leaves es _ (sink_seen g.C.Sink c.args.console.now) _ _ _ (ap (λ s. flat_emissions (flat_run s c.args.words.now.count)) c.in_ok-run.ensures.loaded)
          (ap (sink_seen g.R.Sink) (c.in_ok-run.ensures.silent ∙ c.in_ok-image.ensures.silent)) c.in-Err.ensures,
    )
