use Rattle.gc_program.proofs.Bins.{blank_more}
use Rattle.gc_program.proofs.parts.add.Goals as goal

pub returns : goal.returns
returns g c = rw c.in_ok-push.ensures.items (blank_more _ _ _ c.requires.bin c.requires.part)
