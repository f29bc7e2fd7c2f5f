use Rattle.std.proofs.Common.{◌≡◌, ◌+◌, ◌≤◌, length}
use Rattle.obj_cache.specs.Held.{targets_of}
use Rattle.obj_cache.specs.Shown.{shown, StaysAs}
use Rattle.obj_cache.proofs.Waiting.{IsOnWay}
use Rattle.obj_cache.proofs.cache.Cache.serve_waiting.Given as goal

-- what is left to serve leads to the end of the whole, and there is room for it
abbrev pub invariant-loop-p : goal.invariant-loop-p
invariant-loop-p l = record {
  way : IsOnWay l.addr l.now (shown l.initial.self) (shown l.self) l.initial.q l.q l.initial.out l.out;
  room : length l.self.answers.flow.items + length (targets_of l.addr l.self.registers.used) ≤ 512;
  entries : length l.out.entries + length (targets_of l.addr l.self.registers.used) ≤ 528;
  table : l.q.table ≡ l.initial.q.table;
  stays : StaysAs l.initial.self l.self;
  leaving : l.self.leaving ≡ l.initial.self.leaving;
  items : length l.out.items ≡ length l.initial.out.items;
}

abbrev pub decreases-loop-p : goal.decreases-loop-p
decreases-loop-p l = length (targets_of l.addr l.self.registers.used)
