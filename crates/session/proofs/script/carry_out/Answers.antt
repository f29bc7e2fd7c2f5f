use Rattle.std.proofs.Common.{arith, refl, ◌∙◌}
use Rattle.std.proofs.lemmas.Result.{err_from_is_err_and}
use Rattle.session.proofs.ScriptLemmas.{done_start, done_more, done_fails, done_all}
use Rattle.session.proofs.script.carry_out.Goals as goal

pub loop-next-init : goal.loop-next-init
loop-next-init g c = record {
  done = done_start _ _ _ _;
  machine = c.requires.machine;
  named = refl;
  events = omega arith;
}

pub stop-requires-clause-named : goal.stop-requires-clause-named
stop-requires-clause-named g c = c.loop-next.invariant.named ∙ c.requires.named

pub stop-requires-clause-events : goal.stop-requires-clause-events
stop-requires-clause-events g c =
    omega (arith, c.loop-next.invariant.events, c.requires.events, c.requires.few, c.requires.valid.budget.1, c.loop-next-test.true)

pub loop-next-preserved : goal.loop-next-preserved
loop-next-preserved g c = record {
  done = done_more _ _ _ _ _ _ c.next-item.result _ _ c.loop-next-test.true c.next-item.is c.loop-next.invariant.done _ _ c.in_ok-stop.ensures.sys c.in_ok-stop.ensures.emitted;
  machine = c.in_ok-stop.ensures.machine;
  named = c.stop.ensures.named ∙ c.loop-next.invariant.named;
  events = omega (arith, c.loop-next.invariant.events, c.in_ok-stop.ensures.counted, c.requires.valid.budget.1);
}

pub returns-in_err-stop : goal.returns-in_err-stop
returns-in_err-stop g c =
    let p = err_from_is_err_and c.from_residual.result c.from_residual.ensures.1 in
    rw (p.1, p.2) (done_fails _ _ _ _ _ _ c.next-item.result _ _ c.loop-next-test.true c.next-item.is c.loop-next.invariant.done _ _ c.in_err-stop.ensures.fails)

pub returns : goal.returns
returns g c = done_all _ _ _ _ _ _ _ (omega (arith, c.loop-next-test.false)) c.loop-next.invariant.done
