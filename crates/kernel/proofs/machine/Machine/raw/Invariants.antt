use Rattle.std.proofs.Common.{◌≡◌, map, drop}
use Rattle.gm_model.specs.View.{own_ram}
use Rattle.kernel.proofs.machine.Machine.raw.Given as goal

-- the part that keeps RAM's bytes is one of the rest, and none were read yet
abbrev pub invariant-loop-i : goal.invariant-loop-i
invariant-loop-i g l = record {
  ram : own_ram (drop l.i (map (λ b. (goal.SimObject-dyn g (b.vtable, b.value)).state b.value) l.self.parts.items))
      ≡ own_ram (map (λ b. (goal.SimObject-dyn g (b.vtable, b.value)).state b.value) l.self.parts.items);
  to : l.to ≡ l.initial.to;
}
