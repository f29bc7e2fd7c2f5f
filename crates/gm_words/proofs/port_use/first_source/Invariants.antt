use Rattle.std.proofs.Common.{◌≡◌, drop}
use Rattle.gm_words.specs.PortUses.{source_from}
use Rattle.gm_words.proofs.port_use.first_source.Given as goal

-- requests come in at none before
abbrev pub invariant-loop-p : goal.invariant-loop-p
invariant-loop-p l = source_from l.p (drop l.p l.ports) ≡ source_from 0 l.ports
