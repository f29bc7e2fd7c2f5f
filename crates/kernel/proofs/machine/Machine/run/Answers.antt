use Rattle.std.proofs.Common.{arith, rules, refl, ap, sym, ◌∙◌, ◌-◌}
use Rattle.gc_outside.proofs.InOrder.{not_ok}
use Rattle.kernel.specs.Shown.{Named, entries_of, sys_of}
use Rattle.kernel.proofs.Emitted.{begun_emissions, cut_run, emitted_more, ends_emissions, step_noted, stops_in_event}
use Rattle.kernel.proofs.Runs.{begun_sys, reason_is, tells_end, ends_sys, ends_noted, run_to_replayed, run_more, retired_here, noted_more, none_before, events_running, goes_on, last_reason}
use Rattle.kernel.proofs.machine.Machine.run.Goals as goal

pub run-init : goal.run-init
run-init g c = record {
  ran = begun_sys _;
  none = λ k l. absurd (omega (arith, l));
  emitted = begun_emissions _ _ _;
  noted = refl;
  named = refl;
  counted = omega arith;
  machine = c.requires.machine;
}

pub returns-in-Some-clause-ended : goal.returns-in-Some-clause-ended
returns-in-Some-clause-ended g c =
    let i = c.run.invariant in
    let n = retired_here _ _ c.run.events c.retired-start.result c.retired.result i.ran c.retired-start.ensures c.retired.ensures in
    tells_end _ c.args.g c.run.events c.in-Some.reason (reason_is _ _ c.run.events i.ran c.args.g (c.retired.result - c.retired-start.result) _ n.1 c.in-Some.ensures) i.none (c.retired.result - c.retired-start.result) c.run.events n.1 refl

pub returns-in-Some-clause-ran : goal.returns-in-Some-clause-ran
returns-in-Some-clause-ran g c =
    let i = c.run.invariant in
    let n = retired_here _ _ c.run.events c.retired-start.result c.retired.result i.ran c.retired-start.ensures c.retired.ensures in
    ends_sys _ c.args.g c.run.events c.in-Some.reason (reason_is _ _ c.run.events i.ran c.args.g (c.retired.result - c.retired-start.result) _ n.1 c.in-Some.ensures) i.none _ i.ran

pub returns-in-Some-clause-emitted : goal.returns-in-Some-clause-emitted
returns-in-Some-clause-emitted g c =
    let i = c.run.invariant in
    let n = retired_here _ _ c.run.events c.retired-start.result c.retired.result i.ran c.retired-start.ensures c.retired.ensures in
    ends_emissions _ _ c.args.g c.run.events c.in-Some.reason (reason_is _ _ c.run.events i.ran c.args.g (c.retired.result - c.retired-start.result) _ n.1 c.in-Some.ensures) i.none _ _ i.emitted

pub returns-in-Some-clause-noted : goal.returns-in-Some-clause-noted
returns-in-Some-clause-noted g c =
    let i = c.run.invariant in
    let n = retired_here _ _ c.run.events c.retired-start.result c.retired.result i.ran c.retired-start.ensures c.retired.ensures in
    ends_noted _ c.args.g c.run.events c.in-Some.reason (reason_is _ _ c.run.events i.ran c.args.g (c.retired.result - c.retired-start.result) _ n.1 c.in-Some.ensures) i.none _ _ i.noted

pub returns-in-Some-clause-replay : goal.returns-in-Some-clause-replay
returns-in-Some-clause-replay g c = run_to_replayed _ _ _ c.requires.machine.sound

pub returns-in_err-step-clause-replay : goal.returns-in_err-step-clause-replay
returns-in_err-step-clause-replay g c = run_to_replayed _ _ _ c.requires.machine.sound

pub returns-in_err-step-clause-named : goal.returns-in_err-step-clause-named
returns-in_err-step-clause-named g c = c.step.ensures.named ∙ c.run.invariant.named

pub returns-in_err-step-clause-emitted : goal.returns-in_err-step-clause-emitted
returns-in_err-step-clause-emitted g c =
    let i = c.run.invariant in
    let n = retired_here _ _ c.run.events c.retired-start.result c.retired.result i.ran c.retired-start.ensures c.retired.ensures in
    let none = reason_is _ _ c.run.events i.ran c.args.g (c.retired.result - c.retired-start.result) _ n.1 c.in_default.ensures in
    let cut = cut_run _ _ _ _ c.run.events i.ran (ap (λ (k : Named). k.parts) i.named) _ _ _ _ i.emitted c.in_err-step.ensures.emitted c.args.g refl i.none none in
    rw (not_ok c.from_residual.result c.from_residual.ensures.0) cut

pub returns-in_err-step-clause-stopped : goal.returns-in_err-step-clause-stopped
returns-in_err-step-clause-stopped g c =
    let i = c.run.invariant in
    let n = retired_here _ _ c.run.events c.retired-start.result c.retired.result i.ran c.retired-start.ensures c.retired.ensures in
    let none = reason_is _ _ c.run.events i.ran c.args.g (c.retired.result - c.retired-start.result) _ n.1 c.in_default.ensures in
    let some = (goes_on c.args.g c.run.events (c.retired.result - c.retired-start.result) (sys_of (λ b. (goal.SimObject-dyn g (b.vtable, b.value)).state b.value) c.run.self) (sym c.in_default.ensures)).some in
    let stops = stops_in_event _ _ _ _ c.run.events i.ran (ap (λ (k : Named). k.parts) i.named) _ _ _ _ i.emitted c.in_err-step.ensures.emitted c.args.g refl i.none none _ _ c.step.ensures.fired
    (step_noted (sys_of (λ b. (goal.SimObject-dyn g (b.vtable, b.value)).state b.value) c.run.self) (entries_of c.run.self) (entries_of c.step.new.self) some c.step.ensures.entries) in
    search (rules, stops)

pub run-preserved : goal.run-preserved
run-preserved g c =
    let i = c.run.invariant in
    let some = (goes_on c.args.g c.run.events (c.retired.result - c.retired-start.result) (sys_of (λ b. (goal.SimObject-dyn g (b.vtable, b.value)).state b.value) c.run.self) (sym c.in_default.ensures)).some in
    let n = retired_here _ _ c.run.events c.retired-start.result c.retired.result i.ran c.retired-start.ensures c.retired.ensures in
    record {
      ran = run_more _ _ c.run.events i.ran _ c.step.ensures.fired;
      none = none_before c.args.g _ c.run.events i.none (reason_is _ _ c.run.events i.ran c.args.g (c.retired.result - c.retired-start.result) _ n.1 c.in_default.ensures);
      emitted = emitted_more _ _ _ _ c.run.events i.ran (ap (λ (k : Named). k.parts) i.named) _ _ _ _ i.emitted c.in_ok-step.ensures.emitted;
      noted = noted_more _ _ c.run.events i.ran _ _ (step_noted (sys_of (λ b. (goal.SimObject-dyn g (b.vtable, b.value)).state b.value) c.run.self) (entries_of c.run.self) (entries_of c.step.new.self) some c.step.ensures.entries);
      named = c.step.ensures.named ∙ i.named;
      counted = omega (arith, i.counted, events_running _ _ i.machine.sound c.args.g c.run.events (c.retired.result - c.retired-start.result) c.in_default.ensures _ c.step.ensures.fired);
      machine = c.step.ensures.machine;
    }

pub returns-clause-ended : goal.returns-clause-ended
returns-clause-ended g c =
    let i = c.run.invariant in
    let n = retired_here _ _ c.run.events c.retired-start.result c.retired-2.result i.ran c.retired-start.ensures c.retired-2.ensures in
    tells_end _ c.args.g c.run.events c.in-Some-reason.reason (last_reason _ _ c.run.events i.ran c.args.g (c.retired-2.result - c.retired-start.result) _ n.1 c.in-Some-reason.ensures (omega (arith, c.run-test.false))) i.none
    (c.retired-2.result - c.retired-start.result) c.args.g.budget n.1 (omega (arith, c.run-test.false))

pub returns-clause-ran : goal.returns-clause-ran
returns-clause-ran g c =
    let i = c.run.invariant in
    let n = retired_here _ _ c.run.events c.retired-start.result c.retired-2.result i.ran c.retired-start.ensures c.retired-2.ensures in
    ends_sys _ c.args.g c.run.events c.in-Some-reason.reason (last_reason _ _ c.run.events i.ran c.args.g (c.retired-2.result - c.retired-start.result) _ n.1 c.in-Some-reason.ensures (omega (arith, c.run-test.false))) i.none _ i.ran

pub returns-clause-emitted : goal.returns-clause-emitted
returns-clause-emitted g c =
    let i = c.run.invariant in
    let n = retired_here _ _ c.run.events c.retired-start.result c.retired-2.result i.ran c.retired-start.ensures c.retired-2.ensures in
    ends_emissions _ _ c.args.g c.run.events c.in-Some-reason.reason (last_reason _ _ c.run.events i.ran c.args.g (c.retired-2.result - c.retired-start.result) _ n.1 c.in-Some-reason.ensures (omega (arith, c.run-test.false))) i.none _ _ i.emitted

pub returns-clause-noted : goal.returns-clause-noted
returns-clause-noted g c =
    let i = c.run.invariant in
    let n = retired_here _ _ c.run.events c.retired-start.result c.retired-2.result i.ran c.retired-start.ensures c.retired-2.ensures in
    ends_noted _ c.args.g c.run.events c.in-Some-reason.reason (last_reason _ _ c.run.events i.ran c.args.g (c.retired-2.result - c.retired-start.result) _ n.1 c.in-Some-reason.ensures (omega (arith, c.run-test.false))) i.none _ _ i.noted

pub returns-clause-replay : goal.returns-clause-replay
returns-clause-replay g c = run_to_replayed _ _ _ c.requires.machine.sound

pub overflow_sub-insts : goal.overflow_sub-insts
overflow_sub-insts g c = (retired_here _ _ c.run.events c.retired-start.result c.retired.result c.run.invariant.ran c.retired-start.ensures c.retired.ensures).0

pub overflow_sub-insts-2 : goal.overflow_sub-insts-2
overflow_sub-insts-2 g c = (retired_here _ _ c.run.events c.retired-start.result c.retired-2.result c.run.invariant.ran c.retired-start.ensures c.retired-2.ensures).0

pub returns-in_err-step-clause-cause : goal.returns-in_err-step-clause-cause
returns-in_err-step-clause-cause g c = search rules
