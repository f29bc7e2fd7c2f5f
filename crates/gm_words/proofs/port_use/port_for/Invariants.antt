use Rattle.std.proofs.Common.{◌≡◌, drop}
use Rattle.gm_words.specs.PortUses.{port_from}
use Rattle.gm_words.proofs.port_use.port_for.Given as goal

-- none before takes the address
abbrev pub invariant-loop-p : goal.invariant-loop-p
invariant-loop-p l = port_from l.p (drop l.p l.ports) l.address ≡ port_from 0 l.ports l.address
