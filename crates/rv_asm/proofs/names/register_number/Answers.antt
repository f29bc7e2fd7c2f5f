use Rattle.std.proofs.Common.{◌∙◌}
use Rattle.rv_asm.proofs.Registers.{look_up}
use Rattle.rv_asm.proofs.names.register_number.Goals as goal

pub returns-clause-value : goal.returns-clause-value
returns-clause-value c = c.number_named.ensures ∙ look_up c.args.name.now
