use Rattle.std.proofs.Common.{rules}
use Rattle.obj_mem.proofs.tests.a_configured_memory_is_zero.Goals as goal

pub functional-requires : goal.functional-requires
functional-requires g c = search rules

pub functional-requires-2 : goal.functional-requires-2
functional-requires-2 g c = search rules
