use Rattle.std.proofs.Common.{refl, sym, ◌∙◌}
use Rattle.kernel.proofs.Delivered.{none_of_length, told_now, told_later}
use Rattle.kernel.proofs.machine.Machine.answer.Goals as goal

pub returns-then-is_empty-clause-told : goal.returns-then-is_empty-clause-told
returns-then-is_empty-clause-told g c =
    told_now _ _ c.args.sender.0 c.args.latency c.args.packet (none_of_length c.args.self.now.out.items (sym c.is_empty.ensures ∙ c.if-is_empty.true)) c.wake.ensures.delivered

pub returns-else-is_empty-clause-told : goal.returns-else-is_empty-clause-told
returns-else-is_empty-clause-told g c = told_later _ _ c.args.sender.0 c.args.latency c.args.packet (rw c.push_done.ensures refl)
