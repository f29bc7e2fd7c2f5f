use Rattle.std.proofs.Common.{◌≡◌, ◌∙◌, ◌<◌, ap, arith, sym, refl, length, Option, Some, None, slice_get}
use Rattle.std.proofs.lemmas.Option.{slice_get_past, slice_get_read}
use Rattle.std.specs.Option.{option_map}
use Rattle.cache_mshr.specs.Registers.{Register, Registers}
use Rattle.cache_mshr.proofs.KeptLemmas.{held_count, held_open, key_at}
use Rattle.cache_mshr.proofs.mshrs.Mshrs.at.Goals as goal

pub index-requires : goal.index-requires
index-requires c =
    let o = c.self.inside in
    omega (arith, c.used.ensures, ap (λ (m : Registers). length m.used) c.self.view_is, held_count o.registers o.keys.items c.self.invariant.held, o.keys.ok.0, c.if-n-used.true)

pub returns-then-n-used-clause-key : goal.returns-then-n-used-clause-key
returns-then-n-used-clause-key c =
    let o = c.self.inside in
    rw (← c.self.view_is)
    (sym (key_at o.registers o.keys.items c.args.n c.self.invariant.held
    ∙ slice_get_read o.keys.items (length o.keys.items) c.args.n c.index.result.now refl (omega (arith, c.used.ensures, ap (λ (m : Registers). length m.used) c.self.view_is, held_count o.registers o.keys.items c.self.invariant.held, c.if-n-used.true)) c.index.ensures))

pub returns-then-n-used-clause-known : goal.returns-then-n-used-clause-known
returns-then-n-used-clause-known c =
    let o = c.self.inside in
    rw (← c.self.view_is) (rw c.index.ensures
    (held_open o.registers o.keys.items c.args.n c.index.result.now c.self.invariant.held
    (omega (arith, c.used.ensures, ap (λ (m : Registers). length m.used) c.self.view_is, held_count o.registers o.keys.items c.self.invariant.held, c.if-n-used.true))))

pub returns-else-n-used-clause-key : goal.returns-else-n-used-clause-key
returns-else-n-used-clause-key c =
    let o = c.self.inside in
    ap (λ (x : Option Register). option_map (λ (r : Register). r.key) x)
    (sym (slice_get_past c.args.self.now.used c.args.n (omega (arith, c.used.ensures, c.if-n-used.false))))
