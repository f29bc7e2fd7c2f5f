use Rattle.std.proofs.Common.{◌∙◌, ap, sym, length, nat_lt}
use Rattle.obj_core.proofs.FlowLemmas.{queued_length}
use Rattle.obj_core.proofs.flow.Flow.has_room.Goals as goal

pub returns : goal.returns
returns c =
    let o = c.self.inside in
    rw (← c.self.view_is) (ap (λ n. nat_lt n o.places) (c.len.ensures ∙ o.queue.ok.0 ∙ sym (queued_length o.pool o.queue.items c.self.invariant.held)))
