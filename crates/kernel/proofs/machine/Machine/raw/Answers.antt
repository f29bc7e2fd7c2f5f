use Rattle.std.proofs.Common.{arith, refl, sym, ap, ◌∙◌, length}
use Rattle.kernel.proofs.Loads.{room_still}
use Rattle.kernel.proofs.Loops.{bytes_here, bytes_next}
use Rattle.kernel.proofs.machine.Machine.raw.Goals as goal

pub read_box-requires : goal.read_box-requires
read_box-requires g c =
    let v = c.args.self.now.parts in
    let size = ap length c.loop-i.invariant.to in
    record {
      within = room_still _ _ _ v.items c.loop-i.i c.index.result.now _ c.requires.machine.sound (omega (arith, size, c.requires.most))
          (omega (arith, v.ok.0, c.len-i-end.ensures, c.loop-i-test.true)) c.index.ensures refl;
    }

pub returns-then-read_box : goal.returns-then-read_box
returns-then-read_box g c =
    let v = c.args.self.now.parts in
    let size = ap length c.loop-i.invariant.to in
    let e = c.read_box.ensures in
    bytes_here _ v.items c.loop-i.i c.index.result.now (omega (arith, v.ok.0, c.len-i-end.ensures, c.loop-i-test.true)) c.index.ensures
    _ _ _ c.read_box.new.to (sym e.keeps ∙ c.if-read_box.true) (rw c.loop-i.invariant.to at e.bytes) c.loop-i.invariant.ram

pub loop-i-preserved : goal.loop-i-preserved
loop-i-preserved g c =
    let v = c.args.self.now.parts in
    let e = c.read_box.ensures in
    let next = bytes_next _ v.items c.loop-i.i c.index.result.now (omega (arith, v.ok.0, c.len-i-end.ensures, c.loop-i-test.true)) c.index.ensures
    _ _ c.loop-i.to c.read_box.new.to (sym e.keeps ∙ c.if-read_box.false) e.bytes c.loop-i.invariant.ram in
    record { ram = next.1; to = next.0 ∙ c.loop-i.invariant.to }
