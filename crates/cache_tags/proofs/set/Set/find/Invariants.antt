use Rattle.std.proofs.Common.{◌≡◌, drop, map}
use Rattle.cache_tags.specs.Held.{of_address}
use Rattle.cache_tags.specs.Stored.{shown, in_order}
use Rattle.cache_tags.proofs.set.Set.find.Given as goal

-- what is left has the address where all have it
abbrev pub invariant-loop-way : goal.invariant-loop-way
invariant-loop-way l =
    of_address l.addr (in_order (drop l.way-index l.way-items) (map (shown l.self-inside.line) l.self-inside.lines.items)) ≡ of_address l.addr l.self.held
