use Rattle.std.proofs.Common.{◌≡◌, [], true, sym, ◌∙◌, subst, arith}
use Rattle.rv_step.specs.Run.{FlatState, flat_run}
use Rattle.gc_outside.specs.Emits.{Emits}
use Rattle.session.specs.Run.{state_with}
use Rattle.gc_outside.proofs.InOrder.{not_ok}
use Rattle.session.proofs.RunLemmas.{follows-start, follows-step, follows-cut, follows-over}
use Rattle.session.proofs.flat_run.FlatRun.run.Goals as goal

pub loop-self-init : goal.loop-self-init
loop-self-init g c = (omega arith, follows-start c.args.self.now _ _ c.requires)

pub loop-self-smaller : goal.loop-self-smaller
loop-self-smaller g c = omega (arith, c.in_ok-step.ensures.count)

pub loop-self-preserved : goal.loop-self-preserved
loop-self-preserved g c = (
  omega (arith, c.in_ok-step.ensures.count),
  follows-step _ _ _ _ _ _ _ _ _ _ c.loop-self.invariant.1 c.in_ok-step.ensures.count c.in_ok-step.ensures.moved c.in_ok-step.ensures.emitted,
)

pub returns-in_err-step-clause-emitted : goal.returns-in_err-step-clause-emitted
returns-in_err-step-clause-emitted g c =
    rw (not_ok c.from_residual.result c.from_residual.ensures.0)
    (follows-cut _ _ _ _ _ _ _ _ _ _ _ c.loop-self.invariant.1 (omega arith) c.in_err-step.ensures.count c.in_err-step.ensures.moved c.in_err-step.ensures.emitted)

pub returns-else-not-is_over-clause-state : goal.returns-else-not-is_over-clause-state
returns-else-not-is_over-clause-state g c =
    let e : flat_run (state_with c.args.self.now []) c.loop-self.self.steps ≡ flat_run (state_with c.args.self.now []) c.args.count =
    follows-over _ _ _ _ _ _ _ c.loop-self.invariant.1 c.loop-self.invariant.0 (sym c.is_over.ensures ∙ c.if-not-is_over.false) in
    subst (λ (s : FlatState). state_with c.loop-self.self s.console ≡ s) e c.loop-self.invariant.1.same

pub returns-else-not-is_over-clause-emitted : goal.returns-else-not-is_over-clause-emitted
returns-else-not-is_over-clause-emitted g c =
    let e : flat_run (state_with c.args.self.now []) c.loop-self.self.steps ≡ flat_run (state_with c.args.self.now []) c.args.count =
    follows-over _ _ _ _ _ _ _ c.loop-self.invariant.1 c.loop-self.invariant.0 (sym c.is_over.ensures ∙ c.if-not-is_over.false) in
    subst (λ (s : FlatState). Emits s.console true (g.C.Sink.taken c.args.console.now) (g.C.Sink.taken c.loop-self.console) (g.C.Sink.faults c.args.console.now) (g.C.Sink.faults c.loop-self.console)) e
    c.loop-self.invariant.1.emitted
