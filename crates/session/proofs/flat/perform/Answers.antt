use Rattle.std.proofs.Common.{List, ℕ, [], ◌∷◌, ap, ◌∙◌, subst}
use Rattle.std.specs.Prelude.{is_ok}
use Rattle.gc_outside.specs.Emits.{Emits}
use Rattle.rv_step.specs.Run.{flat_run}
use Rattle.gc_outside.specs.Emissions.{ToConsole, ToReport}
use Rattle.gc_outside.specs.Sinks.{sink_seen}
use Rattle.session.specs.Report.{flat_report}
use Rattle.session.specs.Run.{state_with}
use Rattle.gc_outside.proofs.InOrder.{order_report, order_console, order_then, order_cut, not_ok}
use Rattle.session.proofs.flat.perform.Goals as goal

pub returns-in_err-run : goal.returns-in_err-run
returns-in_err-run g c =
    let s = flat_run (state_with c.args.run.now []) c.args.count in
    rw (not_ok c.from_residual.result c.from_residual.ensures.0)
    (order_cut (ToConsole s.console ∷ []) (ToReport (flat_report s) ∷ []) _ _ (order_console s.console _ _ _ c.in_err-run.ensures.emitted (sink_seen g.R.Sink c.args.report.now)))

pub returns : goal.returns
returns g c =
    let s = flat_run (state_with c.args.run.now []) c.args.count in
    let text = c.bytes.ensures.value ∙ (c.report_of.ensures ∙ ap flat_report c.in_ok-run.ensures.state) in
    order_then (ToConsole s.console ∷ []) (ToReport (flat_report s) ∷ []) _ _ _ _
    (order_console s.console _ _ _ c.in_ok-run.ensures.emitted (sink_seen g.R.Sink c.args.report.now))
    (order_report (flat_report s) _ _ _ (subst (λ (l : List ℕ). Emits l (is_ok c.say.result) (g.R.Sink.taken c.args.report.now) (g.R.Sink.taken c.say.new.sink) (g.R.Sink.faults c.args.report.now) (g.R.Sink.faults c.say.new.sink)) text c.say.ensures)
    (sink_seen g.C.Sink c.run.new.console))
