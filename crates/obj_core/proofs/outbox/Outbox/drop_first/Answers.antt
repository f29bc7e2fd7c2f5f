use Rattle.std.proofs.Common.{refl, arith}
use Rattle.obj_core.proofs.OutboxLemmas.{items_next, items_last}
use Rattle.obj_core.proofs.outbox.Outbox.drop_first.Goals as goal

pub returns-then-self-len : goal.returns-then-self-len
returns-then-self-len c =
    let o = c.self.inside in
    rw (← c.self.view_is) (rw (items_next o.taken o.items.items) refl)

pub returns-else-self-len : goal.returns-else-self-len
returns-else-self-len c =
    let o = c.self.inside in
    rw (← c.self.view_is) (rw (items_last o.taken o.items.items (omega (arith, o.items.ok.0, c.len.ensures, c.if-self-len.false)), c.clear.ensures.items) refl)
