use Rattle.std.proofs.Common.{◌≡◌, map, drop}
use Rattle.kernel.specs.Build.{all_kinds, first_lacking, lacking}
use Rattle.kernel.proofs.draw.first_lacking.Given as goal

-- no kind before the place is lacking
abbrev pub invariant-loop-kind : goal.invariant-loop-kind
invariant-loop-kind g l = record {
  items : l.kind-items ≡ all_kinds;
  rest : first_lacking l.c (map (λ b. (goal.SimObject-dyn g (b.vtable, b.value)).state b.value) l.parts) (drop l.kind-index all_kinds) ≡ lacking l.c (map (λ b. (goal.SimObject-dyn g (b.vtable, b.value)).state b.value) l.parts);
}
