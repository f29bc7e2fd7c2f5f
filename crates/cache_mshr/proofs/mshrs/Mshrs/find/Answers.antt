use Rattle.std.proofs.Common.{ap, arith, length}
use Rattle.cache_mshr.proofs.KeptLemmas.{held_open}
use Rattle.cache_mshr.proofs.mshrs.Mshrs.find.Goals as goal

pub returns-then-entry-addr-clause-known : goal.returns-then-entry-addr-clause-known
returns-then-entry-addr-clause-known c =
    let o = c.self.inside in
    let keys = c.deref-key-items.ensures.value in
    rw (← c.self.view_is) (rw keys
    (held_open o.registers o.keys.items c.loop-key.key-index 0 c.self.invariant.held (omega (arith, c.loop-key-test.true, ap length keys))))
