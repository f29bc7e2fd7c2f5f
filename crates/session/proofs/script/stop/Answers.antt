use Rattle.std.proofs.Common.{ap, arith, refl, ◌+◌, ◌≤◌, ◌∙◌, inr}
use Rattle.gc_outside.specs.Sinks.{sink_seen, sinks}
use Rattle.session.specs.Registers.{register_lines}
use Rattle.session.specs.Script.{input_line}
use Rattle.session.proofs.ScriptLemmas.{input_counts, or_emitted, or_fails, or_kept, or_true}
use Rattle.session.proofs.StatLemmas.{json_emitted, stats_emitted, text_emitted}
use Rattle.stop_script.specs.declared.stop.Stop.TheVariants as stops
use Rattle.kernel.specs.Input.{input_taken}
use Rattle.kernel.specs.Shown.{sys_seen}
use Rattle.session.proofs.script.stop.Goals as goal

pub returns-in-Run-clause-emitted : goal.returns-in-Run-clause-emitted
returns-in-Run-clause-emitted g c = rw c.in-Run.is (or_emitted _ _ c.or_sink.ensures.same _ _ _ c.run.ensures.emitted)

pub returns-in-Run-clause-fails : goal.returns-in-Run-clause-fails
returns-in-Run-clause-fails g c = rw c.in-Run.is (or_fails _ _ c.or_sink.ensures.same c.args.config.now (sys_seen c.args.machine.now (λ p. (goal.SimObject-dyn g p).state p.1)) (stops.Run c.in-Run.until) _ _ c.run.ensures.emitted c.or_sink.ensures.status)

pub returns-in-Run-clause-sys : goal.returns-in-Run-clause-sys
returns-in-Run-clause-sys g c = rw c.in-Run.is (or_kept _ _ c.or_sink.ensures.same _ c.run.ensures.sys)

pub returns-in-Run-clause-machine : goal.returns-in-Run-clause-machine
returns-in-Run-clause-machine g c = or_kept _ _ c.or_sink.ensures.same _ c.run.ensures.machine

pub returns-in-Run-clause-counted : goal.returns-in-Run-clause-counted
returns-in-Run-clause-counted g c = or_kept _ _ c.or_sink.ensures.same _ c.run.ensures.counted

pub returns-in-Regs-clause-emitted : goal.returns-in-Regs-clause-emitted
returns-in-Regs-clause-emitted g c = rw c.in-Regs.is (or_emitted _ _ c.or_sink-in-Regs.ensures.same _ _ _ (text_emitted _ _ _ (sink_seen g.C.Sink c.args.console.now) (sink_seen g.R.Sink c.args.report.now) (sink_seen g.R.Sink c.say.new.sink) (c.bytes.ensures.value ∙ (c.register_text.ensures ∙ ap register_lines c.arch.ensures)) c.say.ensures))

pub returns-in-Regs-clause-fails : goal.returns-in-Regs-clause-fails
returns-in-Regs-clause-fails g c = rw c.in-Regs.is (or_fails _ _ c.or_sink-in-Regs.ensures.same c.args.config.now (sys_seen c.args.machine.now (λ p. (goal.SimObject-dyn g p).state p.1)) stops.Regs _ _ (text_emitted _ _ _ (sink_seen g.C.Sink c.args.console.now) (sink_seen g.R.Sink c.args.report.now) (sink_seen g.R.Sink c.say.new.sink) (c.bytes.ensures.value ∙ (c.register_text.ensures ∙ ap register_lines c.arch.ensures)) c.say.ensures) c.or_sink-in-Regs.ensures.status)

pub returns-in-Stats-clause-emitted : goal.returns-in-Stats-clause-emitted
returns-in-Stats-clause-emitted g c = rw c.in-Stats.is (or_emitted _ _ c.or_sink-in-Stats.ensures.same _ _ _ (stats_emitted c.args.config.now c.args.machine.now.counters _ _ _ _ (sink_seen g.C.Sink c.args.console.now) (sink_seen g.R.Sink c.args.report.now) (sink_seen g.R.Sink c.stats.new.report) c.counters.ensures c.requires.named c.now.ensures c.stats.ensures))

pub returns-in-Stats-clause-fails : goal.returns-in-Stats-clause-fails
returns-in-Stats-clause-fails g c = rw c.in-Stats.is (or_fails _ _ c.or_sink-in-Stats.ensures.same c.args.config.now (sys_seen c.args.machine.now (λ p. (goal.SimObject-dyn g p).state p.1)) stops.Stats _ _ (stats_emitted c.args.config.now c.args.machine.now.counters _ _ _ _ (sink_seen g.C.Sink c.args.console.now) (sink_seen g.R.Sink c.args.report.now) (sink_seen g.R.Sink c.stats.new.report) c.counters.ensures c.requires.named c.now.ensures c.stats.ensures) c.or_sink-in-Stats.ensures.status)

pub returns-in-Ok-clause-emitted : goal.returns-in-Ok-clause-emitted
returns-in-Ok-clause-emitted g c = rw c.in-StatsJson.is (or_emitted _ _ c.or_sink-in-Ok.ensures.same _ _ _ (json_emitted c.args.config.now c.args.machine.now.counters _ _ _ _ (sink_seen g.C.Sink c.args.console.now) (sink_seen g.R.Sink c.args.report.now) (sink_seen g.R.Sink c.say-in-Ok.new.sink) c.counters-in-StatsJson.ensures c.requires.named c.now-in-StatsJson.ensures _ _ c.as_slice.ensures.value c.in-Ok.ensures c.say-in-Ok.ensures))

pub returns-in-Ok-clause-fails : goal.returns-in-Ok-clause-fails
returns-in-Ok-clause-fails g c = rw c.in-StatsJson.is (or_fails _ _ c.or_sink-in-Ok.ensures.same c.args.config.now (sys_seen c.args.machine.now (λ p. (goal.SimObject-dyn g p).state p.1)) stops.StatsJson _ _ (json_emitted c.args.config.now c.args.machine.now.counters _ _ _ _ (sink_seen g.C.Sink c.args.console.now) (sink_seen g.R.Sink c.args.report.now) (sink_seen g.R.Sink c.say-in-Ok.new.sink) c.counters-in-StatsJson.ensures c.requires.named c.now-in-StatsJson.ensures _ _ c.as_slice.ensures.value c.in-Ok.ensures c.say-in-Ok.ensures) c.or_sink-in-Ok.ensures.status)

pub returns-in-Err-clause-fails : goal.returns-in-Err-clause-fails
returns-in-Err-clause-fails g c = rw c.in-StatsJson.is (inr (refl, c.say_memory.ensures (sink_seen g.C.Sink c.args.console.now)))

pub returns-in-Input-clause-emitted : goal.returns-in-Input-clause-emitted
returns-in-Input-clause-emitted g c = rw c.in-Input.is (or_emitted _ _ c.or_sink-in-Input.ensures.same _ _ _ (text_emitted _ _ _ (sink_seen g.C.Sink c.args.console.now) (sink_seen g.R.Sink c.args.report.now) (sink_seen g.R.Sink c.say-in-Input.new.sink) (c.bytes-in-Input.ensures.value ∙ (c.input_line.ensures ∙ (ap input_line c.input-taken.ensures.taken ∙ ap (λ bs. input_line (input_taken bs (sys_seen c.args.machine.now (λ p. (goal.SimObject-dyn g p).state p.1)))) c.items.ensures))) c.say-in-Input.ensures))

pub returns-in-Input-clause-fails : goal.returns-in-Input-clause-fails
returns-in-Input-clause-fails g c = rw c.in-Input.is (or_fails _ _ c.or_sink-in-Input.ensures.same c.args.config.now (sys_seen c.args.machine.now (λ p. (goal.SimObject-dyn g p).state p.1)) (stops.Input c.in-Input.bytes) _ _ (text_emitted _ _ _ (sink_seen g.C.Sink c.args.console.now) (sink_seen g.R.Sink c.args.report.now) (sink_seen g.R.Sink c.say-in-Input.new.sink) (c.bytes-in-Input.ensures.value ∙ (c.input_line.ensures ∙ (ap input_line c.input-taken.ensures.taken ∙ ap (λ bs. input_line (input_taken bs (sys_seen c.args.machine.now (λ p. (goal.SimObject-dyn g p).state p.1)))) c.items.ensures))) c.say-in-Input.ensures) c.or_sink-in-Input.ensures.status)

pub returns-in-Input-clause-counted : goal.returns-in-Input-clause-counted
returns-in-Input-clause-counted g c =
    let few : c.input-taken.new.self.counters.counts.events ≤ c.args.machine.now.counters.counts.events + c.args.config.now.system_budget =
    omega (arith, ap (λ t. t.counts.events) c.input-taken.ensures.given, ap (λ k. k.events) (input_counts c.items.result.now (sys_seen c.args.machine.now (λ p. (goal.SimObject-dyn g p).state p.1)))) in
    or_true _ _ c.or_sink-in-Input.ensures.same _ few
