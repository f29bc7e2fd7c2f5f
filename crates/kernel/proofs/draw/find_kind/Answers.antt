use Rattle.std.proofs.Common.{ap, sym, ◌∙◌}
use Rattle.kernel.specs.Build.{rank_of}
use Rattle.kernel.proofs.Draws.{parts_next}
use Rattle.kernel.proofs.Rows.{none_here}
use Rattle.kernel.proofs.draw.find_kind.Goals as goal

pub loop-i-preserved : goal.loop-i-preserved
loop-i-preserved g c =
    none_here _ _ _ _ _ (parts_next (λ b. (goal.SimObject-dyn g (b.vtable, b.value)).state b.value) c.args.kind c.args.parts.now c.loop-i.i c.index-parts-i.result c.loop-i-test.true c.index-parts-i.is)
    (λ e. c.if-rank.false (c.rank.ensures ∙ (ap rank_of c.kind_of_box.ensures ∙ (e ∙ sym c.rank-in-loop-i.ensures)))) c.loop-i.invariant
