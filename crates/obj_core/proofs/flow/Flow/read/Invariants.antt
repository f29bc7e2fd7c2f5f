use Rattle.std.proofs.Common.{◌≡◌, ◌≤◌, length, drop, None}
use Rattle.gm_model.specs.Memory.{queued_bytes}
use Rattle.obj_core.specs.Kept.{queued}
use Rattle.obj_core.proofs.flow.Flow.read.Given as goal

-- no packet from the n-th on is a write-back that covers the address, and the read is as it was
abbrev pub invariant-loop-n : goal.invariant-loop-n
invariant-loop-n l =
    record {
      within : l.n ≤ length l.self-inside.queue.items;
      newer : queued_bytes (queued l.self-inside.pool (drop l.n l.self-inside.queue.items)) l.fn.p.addr l.fn.p.size ≡ None;
      read : l.p ≡ l.fn.p;
    }

abbrev pub decreases-loop-n : goal.decreases-loop-n
decreases-loop-n l = l.n
