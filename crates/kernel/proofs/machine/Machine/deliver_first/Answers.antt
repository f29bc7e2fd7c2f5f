use Rattle.kernel.proofs.Delivered.{sent_first}
use Rattle.kernel.proofs.machine.Machine.deliver_first.Goals as goal

pub pass_on-requires-clause-first : goal.pass_on-requires-clause-first
pass_on-requires-clause-first g c =
    let a = c.in-Some-Sent-default-Atomic in
    sent_first _ a.field-0.now a.sender a.field-0-1 _ a.ensures.some a.field-0-is a.field-0-1-is
