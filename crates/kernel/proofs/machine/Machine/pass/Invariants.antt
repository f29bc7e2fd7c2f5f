use Rattle.std.proofs.Common.{◌≡◌}
use Rattle.kernel.specs.Shown.{delivery_of}
use Rattle.kernel.proofs.Passes.{IsOnItsWay}
use Rattle.kernel.proofs.machine.Machine.pass.Given as goal

-- so many parts have passed it on
abbrev pub invariant-parts : goal.invariant-parts
invariant-parts g l = record {
  way : IsOnItsWay (delivery_of (λ b. (goal.SimObject-dyn g (b.vtable, b.value)).state b.value) l.initial.self) l.initial.part.0 l.initial.packet
      (delivery_of (λ b. (goal.SimObject-dyn g (b.vtable, b.value)).state b.value) l.self) l.part.0 l.packet l.before l._n;
  table : l.self.queue.table ≡ l.initial.self.queue.table;
  counters : l.self.counters ≡ l.initial.self.counters;
}
