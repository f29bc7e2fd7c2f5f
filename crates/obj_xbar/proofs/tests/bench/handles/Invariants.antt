use Rattle.std.proofs.Common.{◌≡◌, ◌-◌, IsTrue, replicate}
use Rattle.gm_words.specs.Slots.{gave_from}
use Rattle.obj_core.specs.Handles.{handles_from}
use Rattle.obj_xbar.specs.Stays.{Stay}
use Rattle.obj_xbar.proofs.tests.bench.handles.Given as goal

-- the handles of the slots before this one are there
abbrev pub invariant-loop-slot : goal.invariant-loop-slot
invariant-loop-slot g l = record {
  handles : l.handles.items ≡ handles_from 0 g.row.CLASS l.fn.from (replicate (l.slot - l.fn.from) g.row.CLASS);
  given : IsTrue (gave_from l.queue.table 0 l.fn.from (replicate (l.slot - l.fn.from) g.row.CLASS));
  stay : Stay l.initial.queue.table l.queue.table;
}
