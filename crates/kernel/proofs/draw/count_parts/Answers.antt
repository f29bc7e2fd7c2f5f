use Rattle.std.proofs.Common.{arith, ap, sym, ◌∙◌}
use Rattle.kernel.specs.Build.{rank_of}
use Rattle.kernel.proofs.Draws.{parts_next}
use Rattle.kernel.proofs.Rows.{counted_more, counted_none}
use Rattle.kernel.proofs.draw.count_parts.Goals as goal
use Rattle.kernel.proofs.draw.count_parts.Goals.{then-rank, else-rank}

pub loop-i-preserved : goal.loop-i-preserved
loop-i-preserved g c =
    let i = c.loop-i.invariant in
    let left = parts_next (λ b. (goal.SimObject-dyn g (b.vtable, b.value)).state b.value) c.args.kind c.args.parts.now c.loop-i.i c.index-parts-i.result c.loop-i-test.true c.index-parts-i.is in
    let same = ap rank_of (sym c.kind_of_box.ensures) ∙ sym c.rank.ensures in
    elim c.if-rank.branch [
      | then-rank w ↦ record {
        counted = counted_more c.loop-i.count _ _ c.if-rank.count _ _ _ left (same ∙ (w.if-rank.true ∙ c.rank-in-loop-i.ensures)) w.count-is i.counted;
        few = omega (arith, i.few, w.count-is);
      }
      | else-rank w ↦ record {
        counted = counted_none c.loop-i.count _ _ c.if-rank.count _ _ _ left (λ e. w.if-rank.false (sym same ∙ (e ∙ sym c.rank-in-loop-i.ensures))) w.count-is i.counted;
        few = omega (arith, i.few, w.count-is);
      }
    ]
