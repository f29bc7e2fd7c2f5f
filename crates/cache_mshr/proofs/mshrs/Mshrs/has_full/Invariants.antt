use Rattle.std.proofs.Common.{◌≡◌, drop}
use Rattle.cache_mshr.specs.Registers.{has_full}
use Rattle.cache_mshr.specs.Kept.{registers_of}
use Rattle.cache_mshr.proofs.mshrs.Mshrs.has_full.Given as goal

-- the registers that are left decide
abbrev pub invariant-loop-key : goal.invariant-loop-key
invariant-loop-key l =
    let o = l.self-inside in
    has_full o.targets (registers_of o.registers o.keys.items) ≡ has_full o.targets (registers_of o.registers (drop l.key-index o.keys.items))
