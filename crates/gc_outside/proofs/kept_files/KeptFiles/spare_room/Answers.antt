-- All bytes are those of the files.
use Rattle.std.proofs.Common.{arith}
use Rattle.gc_outside.proofs.Arena.{total_length-shared}
use Rattle.gc_outside.proofs.kept_files.KeptFiles.spare_room.Goals as goal

pub returns-clause-value : goal.returns-clause-value
returns-clause-value c = rw (← c.self.view_is) (omega (arith, total_length-shared c.self.inside c.self.invariant))

pub returns-clause-whole : goal.returns-clause-whole
returns-clause-whole c = rw (← c.self.view_is) (omega (arith, total_length-shared c.self.inside c.self.invariant))
