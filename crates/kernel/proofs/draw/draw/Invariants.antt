use Rattle.std.proofs.Common.{◌≡◌, length, map, drop}
use Rattle.gm_words.specs.Shown.{part_shown}
use Rattle.kernel.specs.Build.{AreBlank, AreEnough}
use Rattle.kernel.proofs.Draws.{DrawnSoFar}
use Rattle.kernel.proofs.draw.draw.Given as goal

-- the rows before the place have their parts, and there are enough for the others
abbrev pub invariant-loop-i : goal.invariant-loop-i
invariant-loop-i g l = record {
  drawn : DrawnSoFar (map (λ b. (goal.SimObject-dyn g (b.vtable, b.value)).state b.value) l.drawn.items) (map part_shown l.rows);
  count : length (map (λ b. (goal.SimObject-dyn g (b.vtable, b.value)).state b.value) l.drawn.items) ≡ l.i;
  blank : AreBlank (map (λ b. (goal.SimObject-dyn g (b.vtable, b.value)).state b.value) l.parts.items);
  enough : AreEnough (map (λ b. (goal.SimObject-dyn g (b.vtable, b.value)).state b.value) l.parts.items) (drop l.i (map part_shown l.rows));
}
