use Rattle.std.proofs.Common.{◌≡◌, ◌++◌, map, take, drop}
use Rattle.cache_tags.proofs.StoreLemmas.{without_lines}
use Rattle.cache_tags.proofs.tags.Tags.clear.Given as goal

-- the sets so far have no lines
abbrev pub invariant-loop-set : goal.invariant-loop-set
invariant-loop-set l = l.set-items ≡ map without_lines (take l.set-index l.initial.set-items) ++ drop l.set-index l.initial.set-items
