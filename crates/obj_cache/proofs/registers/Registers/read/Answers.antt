use Rattle.std.proofs.Common.{◌≡◌, ◌<◌, ◌∙◌, ◌+◌, ◌-◌, ℕ, ap, sym, arith, refl, None}
use Rattle.gm_cache.specs.Rule.{newest_bytes}
use Rattle.gm_model.specs.Xbar.{read_of}
use Rattle.obj_cache.specs.RegistersKept.{packets_at}
use Rattle.obj_cache.proofs.ReadLemmas.{newest_here, newest_of, newest_no, none_of, fits_at}
use Rattle.obj_cache.proofs.registers.Registers.read.Goals as goal

pub read_at-requires-clause-bytes : goal.read_at-requires-clause-bytes
read_at-requires-clause-bytes c =
    let o = c.self.inside in
    fits_at o.line o.pool c.in-Some.register o.mshrs.used c.self.invariant.in_line

-- the registers behind the one that is looked at
below : (n m : ℕ) → 0 < m → n ≡ m - 1 → m ≡ n + 1
below n m l e = omega (arith, l, e)

pub returns-then-read_at-clause-answered : goal.returns-then-read_at-clause-answered
returns-then-read_at-clause-answered c =
    let o = c.self.inside in
    let t = sym c.if-read_at.true ∙ rw c.loop-n.invariant.read at c.read_at.ensures.answered in
    rw (← c.self.view_is)
    (rw (newest_of o.pool o.mshrs.used (c.loop-n.n - 1) c.in-Some.register c.args.p.now.addr c.args.p.now.size c.self.invariant.sound.apart c.in-Some.ensures.key
    (rw (← below (c.loop-n.n - 1) c.loop-n.n c.loop-n-test.true refl) c.loop-n.invariant.newer) t) t)

pub returns-then-read_at-clause-packet : goal.returns-then-read_at-clause-packet
returns-then-read_at-clause-packet c =
    let o = c.self.inside in
    let t = sym c.if-read_at.true ∙ rw c.loop-n.invariant.read at c.read_at.ensures.answered in
    rw (← c.self.view_is)
    (rw (newest_of o.pool o.mshrs.used (c.loop-n.n - 1) c.in-Some.register c.args.p.now.addr c.args.p.now.size c.self.invariant.sound.apart c.in-Some.ensures.key
    (rw (← below (c.loop-n.n - 1) c.loop-n.n c.loop-n-test.true refl) c.loop-n.invariant.newer) t)
    (rw c.loop-n.invariant.read at c.read_at.ensures.packet))

pub loop-n-preserved-else-read_at : goal.loop-n-preserved-else-read_at
loop-n-preserved-else-read_at c =
    let o = c.self.inside in
    let m : newest_bytes (packets_at o.pool o.mshrs c.in-Some.register) c.args.p.now.addr c.args.p.now.size ≡ None =
    none_of _ (sym c.if-read_at.false ∙ rw c.loop-n.invariant.read at c.read_at.ensures.answered) in
    record {
      newer = newest_here o.pool o.mshrs.used (c.loop-n.n - 1) c.in-Some.register c.args.p.now.addr c.args.p.now.size c.self.invariant.sound.apart c.in-Some.ensures.key
          (rw (← below (c.loop-n.n - 1) c.loop-n.n c.loop-n-test.true refl) c.loop-n.invariant.newer) ∙ m;
      read = rw c.loop-n.invariant.read at c.read_at.ensures.packet ∙ ap (λ b. read_of c.args.p.now b) m;
    }

pub loop-n-preserved : goal.loop-n-preserved
loop-n-preserved c =
    let o = c.self.inside in
    record {
      newer = newest_no o.pool o.mshrs.used (c.loop-n.n - 1) c.args.p.now.addr c.args.p.now.size c.in_default.ensures.key;
      read = c.loop-n.invariant.read;
    }
