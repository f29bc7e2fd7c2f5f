use Rattle.std.proofs.Common.{◌≡◌, ◌∷◌, get_or}
use Rattle.cache_tags.proofs.Orders.{over}
use Rattle.cache_tags.proofs.set.put_in_front.Given as goal

-- the way and what stood behind it stand in front so far, and the next of them is carried
abbrev pub invariant-loop-rank : goal.invariant-loop-rank
invariant-loop-rank l =
    record {
      moved : l.order ≡ over l.rank (l.way ∷ l.initial.order) l.initial.order;
      carried : l.carried ≡ get_or (l.way ∷ l.initial.order) l.rank 0;
    }
