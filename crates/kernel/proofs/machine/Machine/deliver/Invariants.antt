use Rattle.std.proofs.Common.{◌≡◌}
use Rattle.kernel.specs.Ready.{Delivers}
use Rattle.kernel.specs.Shown.{delivery_of}
use Rattle.kernel.proofs.machine.Machine.deliver.Given as goal

-- so far at least so many items were delivered
abbrev pub invariant-items : goal.invariant-items
invariant-items g l = record {
  delivered : Delivers l._n (delivery_of (λ b. (goal.SimObject-dyn g (b.vtable, b.value)).state b.value) l.initial.self)
      (delivery_of (λ b. (goal.SimObject-dyn g (b.vtable, b.value)).state b.value) l.self);
  table : l.self.queue.table ≡ l.initial.self.queue.table;
  counters : l.self.counters ≡ l.initial.self.counters;
}
