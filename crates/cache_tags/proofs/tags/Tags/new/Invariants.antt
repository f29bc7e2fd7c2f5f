use Rattle.std.proofs.Common.{◌≡◌, replicate, []}
use Rattle.std.specs.Prelude.{vec_capacity}
use Rattle.cache_tags.proofs.tags.Tags.new.Given as goal

-- the sets so far have no lines, and there is room for all
abbrev pub invariant-loop : goal.invariant-loop
invariant-loop l =
    record {
      sets : l.all.items ≡ replicate l.counter (record { ways = l.ways; line = l.line; held = [] });
      room : vec_capacity l.all ≡ l.sets;
    }
