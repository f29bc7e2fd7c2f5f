use Rattle.gc_outside.proofs.Emissions.{emits_then, emits_cut}
use Rattle.gc_outside.proofs.InOrder.{not_ok}
use Rattle.session.proofs.lines.say_about.Goals as goal

pub returns-in_err-say : goal.returns-in_err-say
returns-in_err-say g c = rw (not_ok c.from_residual.result c.from_residual.ensures.0) (emits_cut _ _ _ _ _ _ (emits_cut _ _ _ _ _ _ c.in_err-say.ensures))

pub returns-in_err-say_name : goal.returns-in_err-say_name
returns-in_err-say_name g c =
    rw (not_ok c.from_residual-in_err-say_name.result c.from_residual-in_err-say_name.ensures.0, ← c.as_bytes.ensures.value)
    (emits_cut _ c.args.after.now _ _ _ _ (emits_then _ _ _ _ _ _ _ _ _ c.in_ok-say.ensures c.in_err-say_name.ensures))

pub returns : goal.returns
returns g c =
    rw (← c.as_bytes.ensures.value)
    (emits_then _ _ _ _ _ _ _ _ _ (emits_then _ _ _ _ _ _ _ _ _ c.in_ok-say.ensures c.in_ok-say_name.ensures) c.say-2.ensures)
