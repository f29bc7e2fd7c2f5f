use Rattle.std.proofs.Common.{◌≡◌, map, drop}
use Rattle.rv_asm.specs.Names.{entry, name_numbered}
use Rattle.rv_asm.proofs.names.name_numbered.Given as goal

abbrev pub invariant-loop-name : goal.invariant-loop-name
invariant-loop-name l = name_numbered (map entry (drop l.name-index l.table)) l.number ≡ name_numbered (map entry l.table) l.number
