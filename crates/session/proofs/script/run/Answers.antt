use Rattle.std.proofs.Common.{arith, rules, ap, refl, ◌∙◌, ◌+◌, ◌≤◌}
use Rattle.kernel.specs.Shown.{Named, sys_seen}
use Rattle.gc_outside.specs.Sinks.{sink_seen, sinks}
use Rattle.session.proofs.ScriptLemmas.{run_text, ran_emits, cut_emits, run_counts}
use Rattle.session.proofs.script.run.Goals as goal

pub returns-in-Ok-clause-emitted : goal.returns-in-Ok-clause-emitted
returns-in-Ok-clause-emitted g c =
    let e = c.in-Ok.ensures in
    ran_emits c.args.config.now _ _ _ _ _ _ (sinks g.C.Sink g.R.Sink c.run.new.console c.run.new.report) (sink_seen g.R.Sink c.say.new.sink)
    (ap (λ (k : Named). k.parts) c.requires.named)
    (c.bytes.ensures.value ∙ (c.run_line.ensures ∙ run_text c.in-Ok.end _ _ e.ended (c.now.ensures ∙ ap (λ s. s.tick) e.ran)))
    c.in-Ok.ensures.emitted c.say.ensures

pub returns-in-Ok-clause-counted : goal.returns-in-Ok-clause-counted
returns-in-Ok-clause-counted g c =
    let k : c.run.new.self.counters.counts.events ≤ c.args.machine.now.counters.counts.events + c.args.config.now.system_budget =
    omega (arith, ap (λ s. s.counts.events) c.in-Ok.ensures.ran, run_counts (sys_seen c.args.machine.now (λ p. (goal.SimObject-dyn g p).state p.1)) (record { until = c.args.until; budget = c.args.config.now.system_budget })) in
    search (rules, k)

pub returns-in-Err-clause-emitted : goal.returns-in-Err-clause-emitted
returns-in-Err-clause-emitted g c =
    cut_emits c.args.config.now _ _ _ _ (sinks g.C.Sink g.R.Sink c.run.new.console c.run.new.report) (ap (λ (k : Named). k.parts) c.requires.named) c.in-Err.ensures.emitted
