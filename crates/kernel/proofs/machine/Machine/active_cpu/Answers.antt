use Rattle.std.proofs.Common.{arith}
use Rattle.kernel.proofs.Parts.{active_here, active_next}
use Rattle.kernel.proofs.machine.Machine.active_cpu.Goals as goal

pub returns-then-is_some : goal.returns-then-is_some
returns-then-is_some g c =
    let v = c.args.self.now.parts in
    active_here _ v.items c.loop-i.i c.index.result.now c.arch_box.result c.is_some.result (omega (arith, v.ok.0, c.len-i-end.ensures, c.loop-i-test.true)) c.index.ensures
    c.arch_box.ensures c.is_some.ensures c.if-is_some.true c.loop-i.invariant

pub loop-i-preserved : goal.loop-i-preserved
loop-i-preserved g c =
    let v = c.args.self.now.parts in
    active_next _ v.items c.loop-i.i c.index.result.now c.arch_box.result c.is_some.result (omega (arith, v.ok.0, c.len-i-end.ensures, c.loop-i-test.true)) c.index.ensures
    c.arch_box.ensures c.is_some.ensures c.if-is_some.false c.loop-i.invariant
