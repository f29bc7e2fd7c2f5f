use Rattle.rv_step.proofs.Runs.{next_state-on}
use Rattle.session.specs.Run.{state_with}
use Rattle.session.proofs.flat_run.FlatRun.step.Goals as goal

pub returns-in-Some-clause-moved : goal.returns-in-Some-clause-moved
returns-in-Some-clause-moved g c = λ bytes. let made = next_state-on (state_with c.args.self.now bytes) c.requires.on in cc

pub returns-in-None-clause-moved : goal.returns-in-None-clause-moved
returns-in-None-clause-moved g c = λ bytes. let made = next_state-on (state_with c.args.self.now bytes) c.requires.on in cc
