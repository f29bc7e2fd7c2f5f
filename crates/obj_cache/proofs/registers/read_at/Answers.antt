use Rattle.std.proofs.Common.{◌≡◌, ◌<◌, ◌∙◌, ◌+◌, ◌-◌, ℕ, ap, sym, arith, refl, List}
use Rattle.std.proofs.lemmas.List.{drop_all}
use Rattle.cache_mshr.specs.Registers as kept
use Rattle.cache_mshr.proofs.RegistersLemmas.{targets_within}
use Rattle.gm_cache.specs.Rule.{newest_bytes}
use Rattle.gm_words.specs.Allowed.{MayPass}
use Rattle.obj_cache.specs.RegistersKept.{packets_of}
use Rattle.obj_cache.proofs.ReadLemmas.{all_at, newest_past, newest_gone, newest_other, newest_found}
use Rattle.obj_cache.proofs.registers.read_at.Goals as goal

pub loop-n-init : goal.loop-n-init
loop-n-init c =
    let m = c.args.mshrs.now in
    let ts : List ℕ = kept.targets_of c.args.register m.used in
    record {
      newer = ap (λ ks. newest_bytes (packets_of c.args.pool.now ks) c.args.p.now.addr c.args.p.now.size)
          (drop_all 16 ts (omega (arith, targets_within m.places c.args.register m.used c.requires.sound.within, c.requires.most)));
      read = refl;
    }

-- the targets behind the one that is looked at
below : (n m : ℕ) → 0 < m → n ≡ m - 1 → m ≡ n + 1
below n m l e = omega (arith, l, e)

pub answer_by-requires-clause-bytes : goal.answer_by-requires-clause-bytes
answer_by-requires-clause-bytes c =
    all_at MayPass c.args.pool.now (kept.targets_of c.args.register c.args.mshrs.now.used) (c.loop-n.n - 1) c.in-Some.key c.in-Some-get.held.now
    c.requires.bytes c.in-Some.ensures c.in-Some-get.ensures

pub returns-then-covers-clause-answered : goal.returns-then-covers-clause-answered
returns-then-covers-clause-answered c =
    rw (newest_found c.args.pool.now (kept.targets_of c.args.register c.args.mshrs.now.used) (c.loop-n.n - 1) c.in-Some.key c.args.p.now.addr c.args.p.now.size
    c.in-Some-get.held.now c.in-Some.ensures c.in-Some-get.ensures (rw (← c.loop-n.invariant.read) (sym c.covers.ensures ∙ c.if-covers.true))
    (rw (← below (c.loop-n.n - 1) c.loop-n.n c.loop-n-test.true refl) c.loop-n.invariant.newer)) refl

pub returns-then-covers-clause-packet : goal.returns-then-covers-clause-packet
returns-then-covers-clause-packet c =
    rw (newest_found c.args.pool.now (kept.targets_of c.args.register c.args.mshrs.now.used) (c.loop-n.n - 1) c.in-Some.key c.args.p.now.addr c.args.p.now.size
    c.in-Some-get.held.now c.in-Some.ensures c.in-Some-get.ensures (rw (← c.loop-n.invariant.read) (sym c.covers.ensures ∙ c.if-covers.true))
    (rw (← below (c.loop-n.n - 1) c.loop-n.n c.loop-n-test.true refl) c.loop-n.invariant.newer)) (rw (← c.loop-n.invariant.read) c.answer_by.ensures)

pub loop-n-preserved-else-covers : goal.loop-n-preserved-else-covers
loop-n-preserved-else-covers c =
    record {
      newer = newest_other c.args.pool.now (kept.targets_of c.args.register c.args.mshrs.now.used) (c.loop-n.n - 1) c.in-Some.key c.args.p.now.addr c.args.p.now.size
          c.in-Some-get.held.now c.in-Some.ensures c.in-Some-get.ensures (rw (← c.loop-n.invariant.read) (sym c.covers.ensures ∙ c.if-covers.false))
          (rw (← below (c.loop-n.n - 1) c.loop-n.n c.loop-n-test.true refl) c.loop-n.invariant.newer);
      read = c.loop-n.invariant.read;
    }

pub loop-n-preserved-in_default-get : goal.loop-n-preserved-in_default-get
loop-n-preserved-in_default-get c =
    record {
      newer = newest_gone c.args.pool.now (kept.targets_of c.args.register c.args.mshrs.now.used) (c.loop-n.n - 1) c.in-Some.key c.args.p.now.addr c.args.p.now.size
          c.in-Some.ensures c.in_default-get.ensures
          (rw (← below (c.loop-n.n - 1) c.loop-n.n c.loop-n-test.true refl) c.loop-n.invariant.newer);
      read = c.loop-n.invariant.read;
    }

pub loop-n-preserved : goal.loop-n-preserved
loop-n-preserved c =
    record {
      newer = newest_past c.args.pool.now (kept.targets_of c.args.register c.args.mshrs.now.used) (c.loop-n.n - 1) c.args.p.now.addr c.args.p.now.size c.in_default.ensures;
      read = c.loop-n.invariant.read;
    }
