use Rattle.std.proofs.Common.{◌≡◌, map, drop}
use Rattle.kernel.specs.Build.{parts_of}
use Rattle.kernel.proofs.draw.find_kind.Given as goal

-- none of the kind stands before the place
abbrev pub invariant-loop-i : goal.invariant-loop-i
invariant-loop-i g l =
    parts_of l.kind (drop l.i (map (λ b. (goal.SimObject-dyn g (b.vtable, b.value)).state b.value) l.parts))
    ≡ parts_of l.kind (map (λ b. (goal.SimObject-dyn g (b.vtable, b.value)).state b.value) l.parts)
