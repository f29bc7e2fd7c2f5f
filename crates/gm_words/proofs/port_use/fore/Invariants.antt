use Rattle.std.proofs.Common.{◌≡◌, ◌+◌, drop}
use Rattle.gm_words.specs.PortUses.{fore}
use Rattle.gm_words.proofs.port_use.fore.Given as goal

-- no destination stands before
abbrev pub invariant-loop-p : goal.invariant-loop-p
invariant-loop-p l = fore (drop l.p l.ports) + l.p ≡ fore l.ports
