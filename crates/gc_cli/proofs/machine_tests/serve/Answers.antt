use Rattle.kernel.specs.Shown.{sys_of}
use Rattle.gc_cli.proofs.RunLemmas.{event_after}
use Rattle.gc_cli.proofs.machine_tests.serve.Goals as goal

pub returns-in-Limit-clause-events : goal.returns-in-Limit-clause-events
returns-in-Limit-clause-events g c =
    event_after c.args.machine.now.counters.counts.events (sys_of (λ b. (goal.SimObject-dyn g (b.vtable, b.value)).state b.value) c.run.new.machine)
    (sys_of (λ b. (goal.SimObject-dyn g (b.vtable, b.value)).state b.value) c.fire.new.self) c.fire.ensures.fired c.in_ok-run.ensures.events
