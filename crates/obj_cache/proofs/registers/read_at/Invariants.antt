use Rattle.std.proofs.Common.{◌≡◌, drop, None}
use Rattle.cache_mshr.specs.Registers as kept
use Rattle.gm_cache.specs.Rule.{newest_bytes}
use Rattle.obj_cache.specs.RegistersKept.{packets_of}
use Rattle.obj_cache.proofs.registers.read_at.Given as goal

-- no target from the n-th on is a write-back that covers the address, and the read is as it was
abbrev pub invariant-loop-n : goal.invariant-loop-n
invariant-loop-n l =
    record {
      newer : newest_bytes (packets_of l.pool (drop l.n (kept.targets_of l.register l.mshrs.used))) l.fn.p.addr l.fn.p.size ≡ None;
      read : l.p ≡ l.fn.p;
    }

abbrev pub decreases-loop-n : goal.decreases-loop-n
decreases-loop-n l = l.n
