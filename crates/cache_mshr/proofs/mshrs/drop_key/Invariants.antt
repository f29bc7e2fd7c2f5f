use Rattle.std.proofs.Common.{◌≡◌, ◌++◌, take, drop}
use Rattle.cache_mshr.specs.Kept.{without_key}
use Rattle.cache_mshr.proofs.mshrs.drop_key.Given as goal

-- the keys are as they were, and those so far are others
abbrev pub invariant-loop-at : goal.invariant-loop-at
invariant-loop-at l =
    record {
      same : l.keys.items ≡ l.fn.keys.items;
      others : without_key l.key l.keys.items ≡ take l.at l.keys.items ++ without_key l.key (drop l.at l.keys.items);
    }
