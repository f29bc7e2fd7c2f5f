use Rattle.std.proofs.Common.{arith}
use Rattle.kernel.proofs.Loops.{hart_here, hart_next}
use Rattle.kernel.proofs.machine.Machine.arch.Goals as goal

pub returns-in-Some : goal.returns-in-Some
returns-in-Some g c =
    let v = c.args.self.now.parts in
    hart_here _ v.items c.loop-i.i c.index.result.now (omega (arith, v.ok.0, c.len-i-end.ensures, c.loop-i-test.true)) c.index.ensures
    c.in-Some.arch c.in-Some.ensures c.loop-i.invariant

pub loop-i-preserved : goal.loop-i-preserved
loop-i-preserved g c =
    let v = c.args.self.now.parts in
    hart_next _ v.items c.loop-i.i c.index.result.now (omega (arith, v.ok.0, c.len-i-end.ensures, c.loop-i-test.true)) c.index.ensures
    c.in_default.ensures c.loop-i.invariant
