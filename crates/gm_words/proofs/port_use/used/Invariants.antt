use Rattle.std.proofs.Common.{◌≡◌, ◌≤◌, length, take}
use Rattle.gm_words.specs.PortUses.{used}
use Rattle.gm_words.proofs.port_use.used.Given as goal

-- the ports behind the first so many have no use
abbrev pub invariant-loop-count : goal.invariant-loop-count
invariant-loop-count l =
    record {
      within : l.count ≤ length l.ports;
      same : used (take l.count l.ports) ≡ used l.ports;
    }

abbrev pub decreases-loop-count : goal.decreases-loop-count
decreases-loop-count l = l.count
