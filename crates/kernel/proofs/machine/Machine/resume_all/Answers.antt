use Rattle.kernel.proofs.Changes.{resume_sound}
use Rattle.kernel.proofs.machine.Machine.resume_all.Goals as goal

pub returns-clause-machine : goal.returns-clause-machine
returns-clause-machine g c = record {
  sound = resume_sound _ _ _ _ c.requires.machine.sound c.resume_parts.ensures.resumed c.resume_parts.ensures.table;
}
