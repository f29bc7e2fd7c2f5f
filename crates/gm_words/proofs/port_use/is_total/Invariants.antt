use Rattle.std.proofs.Common.{◌≡◌, drop}
use Rattle.gm_words.specs.PortUses.{is_total}
use Rattle.gm_words.proofs.port_use.is_total.Given as goal

-- none before takes all addresses
abbrev pub invariant-loop-port : goal.invariant-loop-port
invariant-loop-port l = is_total (drop l.port-index l.ports) ≡ is_total l.ports
