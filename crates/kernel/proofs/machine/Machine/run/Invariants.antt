use Rattle.std.proofs.Common.{◌≡◌, ℕ, ◌+◌, ◌<◌, true, None}
use Rattle.gc_outside.specs.Emissions.{EmitsInOrder}
use Rattle.gc_outside.specs.Sinks.{sinks}
use Rattle.gm_model.specs.Fire.{timed_run}
use Rattle.gm_model.specs.Run.{reason_at}
use Rattle.kernel.specs.Emitted.{timed_emissions}
use Rattle.kernel.specs.Ends.{last_noted}
use Rattle.kernel.specs.Shown.{sys_of, entries_of, named_of, IsMachine}
use Rattle.kernel.proofs.machine.Machine.run.Given as goal

-- so far so many events were served, for which there was no reason to end, and what they write was taken
abbrev pub invariant-run : goal.invariant-run
invariant-run g l = record {
  ran : sys_of (λ b. (goal.SimObject-dyn g (b.vtable, b.value)).state b.value) l.self
      ≡ (timed_run (sys_of (λ b. (goal.SimObject-dyn g (b.vtable, b.value)).state b.value) l.initial.self) l.events).sys;
  none : (k : ℕ) → k < l.events → reason_at l.g k (timed_run (sys_of (λ b. (goal.SimObject-dyn g (b.vtable, b.value)).state b.value) l.initial.self) k) ≡ None;
  emitted : EmitsInOrder (timed_emissions (named_of l.initial.self).parts (sys_of (λ b. (goal.SimObject-dyn g (b.vtable, b.value)).state b.value) l.initial.self) l.events) true
      (sinks g.C.Sink g.R.Sink l.initial.console l.initial.report) (sinks g.C.Sink g.R.Sink l.console l.report);
  noted : entries_of l.self ≡ last_noted (sys_of (λ b. (goal.SimObject-dyn g (b.vtable, b.value)).state b.value) l.initial.self) (entries_of l.initial.self) l.events;
  named : named_of l.self ≡ named_of l.initial.self;
  counted : l.self.counters.counts.events ≡ l.initial.self.counters.counts.events + l.events;
  machine : IsMachine (λ b. (goal.SimObject-dyn g (b.vtable, b.value)).state b.value) l.self;
}
