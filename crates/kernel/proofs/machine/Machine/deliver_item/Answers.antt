use Rattle.std.proofs.Common.{sym, ◌∙◌}
use Rattle.kernel.proofs.Delivered.{none_of_length}
use Rattle.kernel.proofs.machine.Machine.deliver_item.Goals as goal

pub returns-then-none_left-clause-landed : goal.returns-then-none_left-clause-landed
returns-then-none_left-clause-landed g c = none_of_length c.args.self.now.out.items (sym c.is_empty-none_left.ensures ∙ c.if-none_left.true)
