use Rattle.std.proofs.Common.{false, true, sym, subst}
use Rattle.gc_outside.specs.Emissions.{EmitsInOrder}
use Rattle.gc_outside.specs.Sinks.{sinks}
use Rattle.gc_outside.proofs.InOrder.{not_ok}
use Rattle.kernel.specs.Shown.{Named, sys_of}
use Rattle.kernel.specs.Emitted.{event_emissions}
use Rattle.kernel.proofs.Emitted.{due_wrote, none_wrote}
use Rattle.kernel.proofs.machine.Machine.step.Goals as goal

pub returns-in-None-clause-emitted : goal.returns-in-None-clause-emitted
returns-in-None-clause-emitted g c =
    none_wrote _ (sys_of (λ b. (goal.SimObject-dyn g (b.vtable, b.value)).state b.value) c.args.self.now) (sinks g.C.Sink g.R.Sink c.args.console.now c.args.report.now) (sym c.in-None.ensures.event)

pub returns-in_err-write-in-Some-clause-emitted : goal.returns-in_err-write-in-Some-clause-emitted
returns-in_err-write-in-Some-clause-emitted g c =
    let e = c.in-Some.ensures in
    rw (not_ok c.from_residual.result c.from_residual.ensures.0)
    (due_wrote c.args.self.now.counters.parts (sys_of (λ b. (goal.SimObject-dyn g (b.vtable, b.value)).state b.value) c.args.self.now) (sys_of (λ b. (goal.SimObject-dyn g (b.vtable, b.value)).state b.value) c.fire.new.self) c.in-Some.fired.due _ false
    (sinks g.C.Sink g.R.Sink c.args.console.now c.args.report.now) (sinks g.C.Sink g.R.Sink c.write.new.console c.write.new.report) (sym e.event) e.fired e.entries
    (subst (λ (n : Named). EmitsInOrder (event_emissions n.parts c.fire.new.self.trace c.in-Some.fired.due c.fire.new.self.out.entries) false
    (sinks g.C.Sink g.R.Sink c.args.console.now c.args.report.now) (sinks g.C.Sink g.R.Sink c.write.new.console c.write.new.report)) e.named c.in_err-write-in-Some.ensures.emitted))

pub returns-in_ok-write-in-Some-clause-emitted : goal.returns-in_ok-write-in-Some-clause-emitted
returns-in_ok-write-in-Some-clause-emitted g c =
    let e = c.in-Some.ensures in
    due_wrote c.args.self.now.counters.parts (sys_of (λ b. (goal.SimObject-dyn g (b.vtable, b.value)).state b.value) c.args.self.now) (sys_of (λ b. (goal.SimObject-dyn g (b.vtable, b.value)).state b.value) c.fire.new.self) c.in-Some.fired.due _ true
    (sinks g.C.Sink g.R.Sink c.args.console.now c.args.report.now) (sinks g.C.Sink g.R.Sink c.write.new.console c.write.new.report) (sym e.event) e.fired e.entries
    (subst (λ (n : Named). EmitsInOrder (event_emissions n.parts c.fire.new.self.trace c.in-Some.fired.due c.fire.new.self.out.entries) true
    (sinks g.C.Sink g.R.Sink c.args.console.now c.args.report.now) (sinks g.C.Sink g.R.Sink c.write.new.console c.write.new.report)) e.named c.in_ok-write-in-Some.ensures.emitted)
