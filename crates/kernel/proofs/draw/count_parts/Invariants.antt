use Rattle.std.proofs.Common.{◌≡◌, ◌≤◌, ◌+◌, map, drop}
use Rattle.kernel.specs.Build.{parts_of}
use Rattle.kernel.proofs.draw.count_parts.Given as goal

-- what was counted, and what is still to be counted
abbrev pub invariant-loop-i : goal.invariant-loop-i
invariant-loop-i g l = record {
  counted : l.count + parts_of l.kind (drop l.i (map (λ b. (goal.SimObject-dyn g (b.vtable, b.value)).state b.value) l.parts)) ≡ parts_of l.kind (map (λ b. (goal.SimObject-dyn g (b.vtable, b.value)).state b.value) l.parts);
  few : l.count ≤ l.i;
}
