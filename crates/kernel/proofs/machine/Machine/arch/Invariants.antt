use Rattle.std.proofs.Common.{◌≡◌, map, drop}
use Rattle.gm_model.specs.View.{parts_mind}
use Rattle.kernel.proofs.machine.Machine.arch.Given as goal

-- the hart is one of the rest
abbrev pub invariant-loop-i : goal.invariant-loop-i
invariant-loop-i g l =
    parts_mind (drop l.i (map (λ b. (goal.SimObject-dyn g (b.vtable, b.value)).state b.value) l.self.parts.items))
    ≡ parts_mind (map (λ b. (goal.SimObject-dyn g (b.vtable, b.value)).state b.value) l.self.parts.items)
