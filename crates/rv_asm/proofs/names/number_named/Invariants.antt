use Rattle.std.proofs.Common.{◌≡◌, map, drop}
use Rattle.rv_asm.specs.Names.{entry, number_named}
use Rattle.rv_asm.proofs.names.number_named.Given as goal

abbrev pub invariant-loop-text : goal.invariant-loop-text
invariant-loop-text l = number_named (map entry (drop l.text-index l.table)) l.name ≡ number_named (map entry l.table) l.name
