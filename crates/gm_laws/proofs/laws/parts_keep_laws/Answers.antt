use Rattle.gm_laws.proofs.Modest.{rules_are_modest}
use Rattle.gm_laws.proofs.Commands.{commands_hold}
use Rattle.gm_laws.proofs.EachKind.{wakes_hold, passes_hold}
use Rattle.gm_laws.proofs.laws.parts_keep_laws.Goals as goal

pub returns-clause-wakes : goal.returns-clause-wakes
returns-clause-wakes c = wakes_hold

pub returns-clause-passes : goal.returns-clause-passes
returns-clause-passes c = passes_hold

pub returns-clause-modest : goal.returns-clause-modest
returns-clause-modest c = rules_are_modest

pub returns-clause-commands : goal.returns-clause-commands
returns-clause-commands c = commands_hold
