use Rattle.std.proofs.Common.{◌≡◌, ◌∙◌, refl, sym, ap, arith, Some, length, take}
use Rattle.std.specs.Prelude.{slice_get}
use Rattle.std.proofs.lemmas.List.{length-take}
use Rattle.std.proofs.lemmas.Option.{slice_get_within}
use Rattle.cache_tags.proofs.SoundLemmas.{used_sound}
use Rattle.cache_tags.proofs.StoredLemmas.{no_way, way_here, touched_stored, stored_again}
use Rattle.cache_tags.proofs.set.Set.touch.Goals as goal

pub overflow_cast-way : goal.overflow_cast-way
overflow_cast-way c =
    let here = way_here _ _ _ _ _ c.self.invariant c.args.way (rw (← c.self.view_is) at c.requires) in
    omega (arith, here.1, c.self.invariant.few, c.self.invariant.fit)

pub overflow_cast-way-in-Some : goal.overflow_cast-way-in-Some
overflow_cast-way-in-Some c =
    let here = way_here _ _ _ _ _ c.self.invariant c.args.way (rw (← c.self.view_is) at c.requires) in
    omega (arith, here.1, c.self.invariant.few, c.self.invariant.fit)

pub put_in_front-requires : goal.put_in_front-requires
put_in_front-requires c =
    let found : slice_get (take c.len.result c.self.inside.order) c.in-Some.rank ≡ Some c.args.way = c.in-Some.ensures.found in
    let taken : c.len.result ≡ length c.self.inside.lines.items = omega (arith, c.len.ensures, c.self.inside.lines.ok.0) in
    let within = slice_get_within (take c.len.result c.self.inside.order) c.in-Some.rank c.args.way found in
    omega (arith, within, length-take c.len.result c.self.inside.order)

pub returns-in-Some-clause-used : goal.returns-in-Some-clause-used
returns-in-Some-clause-used c =
    let taken : c.len.result ≡ length c.self.inside.lines.items = omega (arith, c.len.ensures, c.self.inside.lines.ok.0) in
    let found : slice_get (take (length c.self.inside.lines.items) c.self.inside.order) c.in-Some.rank ≡ Some c.args.way =
    ap (λ n. slice_get (take n c.self.inside.order) c.in-Some.rank) (sym taken) ∙ c.in-Some.ensures.found in
    rw (← c.self.view_is) (touched_stored _ _ _ _ _ c.self.invariant c.in-Some.rank c.args.way c.put_in_front.new.order found c.put_in_front.ensures)

pub invariant_of-self : goal.invariant_of-self
invariant_of-self c =
    let taken : c.len.result ≡ length c.self.inside.lines.items = omega (arith, c.len.ensures, c.self.inside.lines.ok.0) in
    let found : slice_get (take (length c.self.inside.lines.items) c.self.inside.order) c.in-Some.rank ≡ Some c.args.way =
    ap (λ n. slice_get (take n c.self.inside.order) c.in-Some.rank) (sym taken) ∙ c.in-Some.ensures.found in
    stored_again _ _ _ _ _ _ _ _ _ c.self.invariant c.put_in_front.auto.order c.self.invariant.few refl
    (touched_stored _ _ _ _ _ c.self.invariant c.in-Some.rank c.args.way c.put_in_front.new.order found c.put_in_front.ensures)
    (used_sound _ c.args.way)

pub returns-in-Some-clause-sound : goal.returns-in-Some-clause-sound
returns-in-Some-clause-sound c = (invariant_of-self c).sound

pub returns-in_default-clause-used : goal.returns-in_default-clause-used
returns-in_default-clause-used c =
    let taken : c.len.result ≡ length c.self.inside.lines.items = omega (arith, c.len.ensures, c.self.inside.lines.ok.0) in
    absurd (no_way _ c.args.way (take (length c.self.inside.lines.items) c.self.inside.order) (rw taken at c.in_default.ensures.none) (rw (← c.self.view_is) at c.requires))
