use Rattle.std.proofs.Common.{arith, ap, length}
use Rattle.std.proofs.lemmas.List.{length-drop}
use Rattle.obj_core.proofs.OutboxLemmas.{items_count}
use Rattle.obj_core.proofs.outbox.Outbox.append.Goals as goal
use Rattle.obj_core.proofs.outbox.Outbox.append.Goals.{then-len-ge-KEPT, else-len-ge-KEPT}

pub push_reserved-requires : goal.push_reserved-requires
push_reserved-requires c =
    let o = c.self.inside in
    let count = items_count o.taken o.items.items (omega (arith, o.items.ok.0, c.self.invariant.within)) in
    let few = ap (λ x. length x.items) c.self.view_is in
    elim c.if-len-ge-KEPT.branch [
      | then-len-ge-KEPT w ↦
          rw w.self-inside-is (omega (arith, w.close_up.new.items.ok.0, ap length w.close_up.ensures.items, length-drop o.taken o.items.items, w.close_up.ensures.capacity, c.self.invariant.for_items, count, few, c.requires))
      | else-len-ge-KEPT w ↦ rw w.self-inside-is (omega (arith, c.len.ensures, w.if-len-ge-KEPT.false, c.self.invariant.for_items))
    ]
