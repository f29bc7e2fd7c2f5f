use Rattle.gm_system.proofs.ForKernel.{traced_sound}
use Rattle.kernel.proofs.machine.Machine.trace.Goals as goal

pub returns-clause-machine : goal.returns-clause-machine
returns-clause-machine g c = record { sound = traced_sound _ _ c.args.on c.requires.machine.sound }
