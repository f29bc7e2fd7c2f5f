use Rattle.std.proofs.Common.{◌∙◌, refl}
use Rattle.kernel.proofs.Delivered.{still_under_way, delivers_none, delivers_more, delivers_all, delivers_last}
use Rattle.kernel.proofs.machine.Machine.deliver.Goals as goal

pub items-init : goal.items-init
items-init g c = record {
  delivered = delivers_none _;
  table = refl;
  counters = refl;
}

pub deliver_item-requires : goal.deliver_item-requires
deliver_item-requires g c = rw c.items.invariant.table (still_under_way c.items._n _ _ _ c.items.invariant.delivered c.requires)

pub items-preserved : goal.items-preserved
items-preserved g c = record {
  delivered = delivers_more c.items._n _ _ _ c.items.invariant.delivered (rw c.if-not-deliver_item.false at c.deliver_item.ensures.delivered);
  table = c.deliver_item.ensures.table ∙ c.items.invariant.table;
  counters = c.deliver_item.ensures.counters ∙ c.items.invariant.counters;
}

pub returns-then-not-deliver_item-clause-delivered : goal.returns-then-not-deliver_item-clause-delivered
returns-then-not-deliver_item-clause-delivered g c =
    let none = rw c.if-not-deliver_item.true at c.deliver_item.ensures.none in
    let landed = rw c.if-not-deliver_item.true at c.deliver_item.ensures.landed in
    none ∙ delivers_last c.items._n _ _ _ landed c.requires c.items.invariant.delivered

pub returns-after-items-clause-delivered : goal.returns-after-items-clause-delivered
returns-after-items-clause-delivered g c = delivers_all c.items._n _ _ _ c.items-test.false c.requires c.items.invariant.delivered
