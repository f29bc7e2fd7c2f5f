use Rattle.std.proofs.Common.{◌≡◌, map, drop}
use Rattle.gm_model.specs.Sys.{active_from, active_cpu}
use Rattle.kernel.proofs.machine.Machine.active_cpu.Given as goal

-- the active CPU is the one of the rest
abbrev pub invariant-loop-i : goal.invariant-loop-i
invariant-loop-i g l =
    active_from l.i (drop l.i (map (λ b. (goal.SimObject-dyn g (b.vtable, b.value)).state b.value) l.self.parts.items))
    ≡ active_cpu (map (λ b. (goal.SimObject-dyn g (b.vtable, b.value)).state b.value) l.self.parts.items)
