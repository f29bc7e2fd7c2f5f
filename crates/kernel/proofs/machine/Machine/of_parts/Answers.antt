use Rattle.std.proofs.Common.{ap, map, ◌∙◌}
use Rattle.kernel.specs.Build.{standing}
use Rattle.kernel.proofs.Rows.{stands}
use Rattle.kernel.proofs.machine.Machine.of_parts.Goals as goal

pub returns-clause-machine : goal.returns-clause-machine
returns-clause-machine g c =
    let config = c.args.c.now in
    stands config _ _ _ _ _ _ c.since-tick.ensures c.in_ok-counters.ensures (ap (λ o. o.next) c.in_ok-new.ensures) (c.new-board.ensures ∙ c.requires.rows)
    ∙ ap (λ q. standing config q.pending (map (λ b. (goal.SimObject-dyn g (b.vtable, b.value)).state b.value) c.args.parts.items)) c.queue.view_is
