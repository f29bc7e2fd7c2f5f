use Rattle.std.proofs.Common.{◌∙◌, ◌==◌, ap, sym}
use Rattle.obj_core.proofs.FlowLemmas.{queued_length}
use Rattle.obj_core.proofs.flow.Flow.is_empty.Goals as goal

pub returns : goal.returns
returns c =
    let o = c.self.inside in
    rw (← c.self.view_is) (c.is_empty.ensures ∙ ap (λ n. n == 0) (o.queue.ok.0 ∙ sym (queued_length o.pool o.queue.items c.self.invariant.held)))
