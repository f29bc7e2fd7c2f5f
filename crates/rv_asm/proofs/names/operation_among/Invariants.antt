use Rattle.std.proofs.Common.{◌≡◌, drop}
use Rattle.rv_asm.specs.Names.{operation_among}
use Rattle.rv_asm.proofs.names.operation_among.Given as goal

abbrev pub invariant-loop-row : goal.invariant-loop-row
invariant-loop-row l = operation_among (drop l.row-index l.rows) l.name ≡ operation_among l.rows l.name
