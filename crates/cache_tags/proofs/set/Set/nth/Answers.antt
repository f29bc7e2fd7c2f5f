use Rattle.std.proofs.Common.{◌≡◌, ◌<◌, refl, arith, length, take}
use Rattle.std.proofs.lemmas.Option.{slice_get_read}
use Rattle.cache_tags.proofs.StoredLemmas.{way_at, nth_here, line_read}
use Rattle.cache_tags.proofs.set.Set.nth.Goals as goal

pub index-line-requires : goal.index-line-requires
index-line-requires c =
    let taken : c.len.result ≡ length c.self.inside.lines.items = omega (arith, c.len.ensures, c.self.inside.lines.ok.0) in
    let told = c.in_ok-way.ensures.lookup in
    omega (arith, told.3.1 0, way_at _ _ _ _ _ c.self.invariant c.len.result c.args.n taken told.3.0, c.self.inside.lines.ok.0)

pub returns : goal.returns
returns c =
    let taken : c.len.result ≡ length c.self.inside.lines.items = omega (arith, c.len.ensures, c.self.inside.lines.ok.0) in
    let told = c.in_ok-way.ensures.lookup in
    let here = nth_here _ _ _ _ _ c.self.invariant c.len.result c.args.n c.in_ok-way.way.now taken
    (slice_get_read (take c.len.result c.self.inside.order) (length (take c.len.result c.self.inside.order)) c.args.n c.in_ok-way.way.now refl told.3.0 told.1) in
    let low : c.in_ok-way.way.now < length c.self.inside.lines.items =
    omega (arith, told.3.1 0, way_at _ _ _ _ _ c.self.invariant c.len.result c.args.n taken told.3.0) in
    let line = line_read c.self.inside.line c.self.inside.lines.items c.in_ok-way.way.now c.index-line.result.now low c.index-line.ensures in
    rw (← c.self.view_is) (rw here (rw line refl))
