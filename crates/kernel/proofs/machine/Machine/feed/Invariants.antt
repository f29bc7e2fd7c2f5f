use Rattle.std.proofs.Common.{◌≡◌, ◌||◌, vec_len, map, drop}
use Rattle.kernel.specs.Input.{one_takes}
use Rattle.kernel.proofs.Changes.{commanded_from}
use Rattle.kernel.proofs.Inputs.{input_command}
use Rattle.kernel.proofs.machine.Machine.feed.Given as goal

-- the byte came to the parts before the place, and the others are as they were
abbrev pub invariant-loop-i : goal.invariant-loop-i
invariant-loop-i g l = record {
  rest : drop l.i (map (λ b. (goal.SimObject-dyn g (b.vtable, b.value)).state b.value) l.self.parts.items) ≡ drop l.i (map (λ b. (goal.SimObject-dyn g (b.vtable, b.value)).state b.value) l.initial.self.parts.items);
  done : commanded_from (input_command l.byte) l.i (map (λ b. (goal.SimObject-dyn g (b.vtable, b.value)).state b.value) l.self.parts.items)
      ≡ map (λ o. (input_command l.byte o).state) (map (λ b. (goal.SimObject-dyn g (b.vtable, b.value)).state b.value) l.initial.self.parts.items);
  taken : (l.taken || one_takes (drop l.i (map (λ b. (goal.SimObject-dyn g (b.vtable, b.value)).state b.value) l.initial.self.parts.items)))
      ≡ one_takes (map (λ b. (goal.SimObject-dyn g (b.vtable, b.value)).state b.value) l.initial.self.parts.items);
  len : vec_len l.self.parts ≡ vec_len l.initial.self.parts;
  board : l.self.board ≡ l.initial.self.board;
  queue : l.self.queue ≡ l.initial.self.queue;
  tick : l.self.tick ≡ l.initial.self.tick;
  out : l.self.out ≡ l.initial.self.out;
  counters : l.self.counters ≡ l.initial.self.counters;
  trace : l.self.trace ≡ l.initial.self.trace;
  draining : l.self.draining ≡ l.initial.self.draining;
}
