use Rattle.std.proofs.Common.{◌≡◌, ◌+◌, ◌*◌, ◌≤◌}
use Rattle.kernel.specs.Shown.{named_of, sys_seen, IsSeen}
use Rattle.gc_outside.specs.Sinks.{sinks}
use Rattle.session.proofs.ScriptLemmas.{HasDone}
use Rattle.session.proofs.script.carry_out.Given as goal

-- so far these stops were carried out, and what they write was taken
abbrev pub invariant-loop-next : goal.invariant-loop-next
invariant-loop-next g l = record {
  done : HasDone l.config (sys_seen l.initial.machine (λ p. (goal.SimObject-dyn g p).state p.1)) l.stops l.next-index (sys_seen l.machine (λ p. (goal.SimObject-dyn g p).state p.1))
      (sinks g.C.Sink g.R.Sink l.initial.console l.initial.report) (sinks g.C.Sink g.R.Sink l.console l.report);
  machine : IsSeen l.machine (λ p. (goal.SimObject-dyn g p).state p.1);
  named : named_of l.machine ≡ named_of l.initial.machine;
  events : l.machine.counters.counts.events ≤ l.initial.machine.counters.counts.events + 1000000000000 * l.next-index;
}
