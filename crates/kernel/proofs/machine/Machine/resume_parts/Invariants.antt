use Rattle.std.proofs.Common.{◌≡◌, vec_len, map, drop}
use Rattle.gm_model.specs.Command.{resume_step}
use Rattle.gm_model.specs.Start.{commanded_events}
use Rattle.kernel.proofs.Changes.{commanded_from}
use Rattle.kernel.proofs.machine.Machine.resume_parts.Given as goal

-- the parts before the place are resumed, and the others are as they were
abbrev pub invariant-loop-i : goal.invariant-loop-i
invariant-loop-i g l = record {
  rest : drop l.i (map (λ b. (goal.SimObject-dyn g (b.vtable, b.value)).state b.value) l.self.parts.items)
      ≡ drop l.i (map (λ b. (goal.SimObject-dyn g (b.vtable, b.value)).state b.value) l.initial.self.parts.items);
  resumed : commanded_from (λ o. resume_step o l.initial.self.tick) l.i (map (λ b. (goal.SimObject-dyn g (b.vtable, b.value)).state b.value) l.self.parts.items)
      ≡ map (λ o. (resume_step o l.initial.self.tick).state) (map (λ b. (goal.SimObject-dyn g (b.vtable, b.value)).state b.value) l.initial.self.parts.items);
  events : commanded_events (λ o. resume_step o l.initial.self.tick) (drop l.i (map (λ b. (goal.SimObject-dyn g (b.vtable, b.value)).state b.value) l.initial.self.parts.items)) l.self.queue.pending
      ≡ commanded_events (λ o. resume_step o l.initial.self.tick) (map (λ b. (goal.SimObject-dyn g (b.vtable, b.value)).state b.value) l.initial.self.parts.items) l.initial.self.queue.pending;
  len : vec_len l.self.parts ≡ vec_len l.initial.self.parts;
  board : l.self.board ≡ l.initial.self.board;
  table : l.self.queue.table ≡ l.initial.self.queue.table;
  tick : l.self.tick ≡ l.initial.self.tick;
  out : l.self.out ≡ l.initial.self.out;
  counters : l.self.counters ≡ l.initial.self.counters;
  trace : l.self.trace ≡ l.initial.self.trace;
  draining : l.self.draining ≡ l.initial.self.draining;
}
