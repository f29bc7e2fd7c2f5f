use Rattle.std.proofs.Common.{◌≡◌, ◌+◌, drop}
use Rattle.kernel.specs.Input.{input_given, input_taken}
use Rattle.kernel.specs.Shown.{sys_of, entries_of, named_of, IsMachine}
use Rattle.kernel.proofs.machine.Machine.input.Given as goal

-- what is still to come leads where all does
abbrev pub invariant-loop-byte : goal.invariant-loop-byte
invariant-loop-byte g l = record {
  given : input_given (drop l.byte-index l.bytes) (sys_of (λ b. (goal.SimObject-dyn g (b.vtable, b.value)).state b.value) l.self) ≡ input_given l.bytes (sys_of (λ b. (goal.SimObject-dyn g (b.vtable, b.value)).state b.value) l.initial.self);
  taken : l.taken + input_taken (drop l.byte-index l.bytes) (sys_of (λ b. (goal.SimObject-dyn g (b.vtable, b.value)).state b.value) l.self) ≡ input_taken l.bytes (sys_of (λ b. (goal.SimObject-dyn g (b.vtable, b.value)).state b.value) l.initial.self);
  entries : entries_of l.self ≡ entries_of l.initial.self;
  named : named_of l.self ≡ named_of l.initial.self;
  machine : IsMachine (λ b. (goal.SimObject-dyn g (b.vtable, b.value)).state b.value) l.self;
}
