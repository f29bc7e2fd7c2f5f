use Rattle.std.proofs.Common.{refl, sym, ◌∙◌}
use Rattle.kernel.proofs.Draws.{lacking_next}
use Rattle.kernel.proofs.draw.first_lacking.Goals as goal

pub loop-kind-preserved : goal.loop-kind-preserved
loop-kind-preserved g c = record {
  items = refl;
  rest = lacking_next c.args.c.now _ c.loop-kind.kind-index _ c.loop-kind-test.true (sym c.if-lacks.ensures) ∙ c.loop-kind.invariant.rest;
}
