use Rattle.std.proofs.Common.{◌≡◌, length}
use Rattle.obj_core.proofs.outbox.tests.items_keep_their_order_when_moved.Given as goal

-- one item is left
abbrev pub invariant-loop-n : goal.invariant-loop-n
invariant-loop-n g l = length l.out.items ≡ 1
