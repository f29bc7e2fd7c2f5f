use Rattle.std.proofs.Common.{◌≡◌, drop}
use Rattle.cache_mshr.specs.Registers.{key_of}
use Rattle.cache_mshr.specs.Kept.{registers_of}
use Rattle.cache_mshr.proofs.mshrs.Mshrs.find.Given as goal

-- the registers that are left decide
abbrev pub invariant-loop-key : goal.invariant-loop-key
invariant-loop-key l =
    let o = l.self-inside in
    key_of l.addr (registers_of o.registers o.keys.items) ≡ key_of l.addr (registers_of o.registers (drop l.key-index o.keys.items))
