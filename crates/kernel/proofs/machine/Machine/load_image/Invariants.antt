use Rattle.std.proofs.Common.{◌≡◌}
use Rattle.elf_image.specs.Loading.{bytes_left}
use Rattle.kernel.specs.Shown.{sys_of, entries_of, named_of, IsMachine}
use Rattle.kernel.proofs.Loads.{ArePut}
use Rattle.kernel.proofs.machine.Machine.load_image.Given as goal

-- so far these blocks were put
abbrev pub invariant-loop-block : goal.invariant-loop-block
invariant-loop-block g l = record {
  pieces : l.blocks.pieces ≡ l.image.pieces;
  put : ArePut (sys_of (λ b. (goal.SimObject-dyn g (b.vtable, b.value)).state b.value) l.initial.self) l.blocks (sys_of (λ b. (goal.SimObject-dyn g (b.vtable, b.value)).state b.value) l.self);
  entries : entries_of l.self ≡ entries_of l.initial.self;
  named : named_of l.self ≡ named_of l.initial.self;
  machine : IsMachine (λ b. (goal.SimObject-dyn g (b.vtable, b.value)).state b.value) l.self;
}

abbrev pub decreases-loop-block : goal.decreases-loop-block
decreases-loop-block g l = bytes_left l.blocks
