use Rattle.std.proofs.Common.{sym, subst, ◌∙◌}
use Rattle.gm_model.specs.Deliver.{Delivery}
use Rattle.gm_words.specs.declared.wake.Wake.TheVariants as wakes
use Rattle.kernel.specs.Ready.{IsReadyForWake}
use Rattle.kernel.proofs.Delivered.{countable, begun_under_way}
use Rattle.kernel.proofs.machine.Machine.serve.Goals as goal

pub wake-requires-clause-ready : goal.wake-requires-clause-ready
wake-requires-clause-ready g c =
    let P : Delivery → Type 0 = λ d. IsReadyForWake d c.args.self.now.queue.table c.args.due.now.owner.0 (wakes.Event c.args.due.now.slot) in
    rw c.begin.ensures.table (subst P (sym c.begin.ensures.begun) c.requires.ready)

pub count-requires-clause-counts : goal.count-requires-clause-counts
count-requires-clause-counts g c =
    (countable _ _ _ _ _ _ c.requires c.begin.ensures.begun c.wake.ensures.delivered c.deliver.ensures.delivered).counts

pub count-requires-clause-events : goal.count-requires-clause-events
count-requires-clause-events g c =
    (countable _ _ _ _ _ _ c.requires c.begin.ensures.begun c.wake.ensures.delivered c.deliver.ensures.delivered).events

pub count-requires-clause-few : goal.count-requires-clause-few
count-requires-clause-few g c =
    let k = (countable _ _ _ _ _ _ c.requires c.begin.ensures.begun c.wake.ensures.delivered c.deliver.ensures.delivered).few in
    rw c.entries.ensures k

pub deliver-requires : goal.deliver-requires
deliver-requires g c =
    begun_under_way _ _ _ _ _ _ c.requires c.begin.ensures.begun c.wake.ensures.delivered (c.wake.ensures.table ∙ c.begin.ensures.table)
