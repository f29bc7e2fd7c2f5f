use Rattle.std.proofs.Common.{◌-◌, sym, ◌∙◌, arith}
use Rattle.gm_words.proofs.PortLemmas.{used_down_to, used_none}
use Rattle.gm_words.proofs.port_use.used.Goals.{then-loop-count-test+else-is_unused, else-loop-count-test}
use Rattle.gm_words.proofs.port_use.used.Goals as goal

pub returns-clause-value : goal.returns-clause-value
returns-clause-value c =
    elim c.loop-count-test.branch [
      | then-loop-count-test+else-is_unused w ↦ sym (used_down_to c.args.ports.now c.loop-count.count (c.loop-count.count - 1) _ (omega (arith, w.loop-count-test.true)) c.loop-count.invariant.within (sym w.is_unused.ensures ∙ w.if-is_unused.false)) ∙ c.loop-count.invariant.same
      | else-loop-count-test w ↦ sym (used_none c.args.ports.now c.loop-count.count (omega (arith, w.loop-count-test.false))) ∙ c.loop-count.invariant.same
    ]
