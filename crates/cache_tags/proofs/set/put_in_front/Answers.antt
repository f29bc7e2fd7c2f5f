use Rattle.std.proofs.Common.{◌∷◌, ◌<◌, length, refl, sym, ◌∙◌, arith, add-one}
use Rattle.cache_tags.proofs.Orders.{over_more, over_read}
use Rattle.cache_tags.proofs.set.put_in_front.Goals as goal

pub loop-rank-preserved : goal.loop-rank-preserved
loop-rank-preserved c =
    let i = c.loop-rank.rank in
    let xs = c.args.order.now in
    let below : i < length xs = omega arith in
    record {
      moved = rw c.loop-rank.invariant.moved (over_more xs (c.args.way ∷ xs) i _ 0 below (omega arith) (c.replace-carried.ensures.after ∙ c.loop-rank.invariant.carried));
      carried = rw c.loop-rank.invariant.moved at c.replace-carried.ensures.value ∙ (over_read xs (c.args.way ∷ xs) i 0 below (omega arith) ∙ sym (rw add-one refl));
    }
