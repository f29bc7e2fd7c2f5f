use Rattle.std.proofs.Common.{◌≡◌, drop, None}
use Rattle.gm_cache.specs.State.{targets_in}
use Rattle.gm_cache.specs.Rule.{newest_bytes}
use Rattle.obj_cache.specs.RegistersKept.{registers_of}
use Rattle.obj_cache.proofs.registers.Registers.read.Given as goal

-- no target of a register from the n-th on is a write-back that covers the address, and the read is as it was
abbrev pub invariant-loop-n : goal.invariant-loop-n
invariant-loop-n l =
    record {
      newer : newest_bytes (targets_in (registers_of l.self-inside.pool (drop l.n l.self-inside.mshrs.used))) l.fn.p.addr l.fn.p.size ≡ None;
      read : l.p ≡ l.fn.p;
    }

abbrev pub decreases-loop-n : goal.decreases-loop-n
decreases-loop-n l = l.n
