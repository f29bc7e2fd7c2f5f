use Rattle.std.proofs.Common.{◌≡◌, ◌+◌, ◌≤◌, ap, refl, arith, length, true, set}
use Rattle.cache_tags.specs.declared.stored.Stored.{Stored}
use Rattle.cache_tags.specs.Line.{rewritten}
use Rattle.cache_tags.specs.Stored.{shown}
use Rattle.cache_tags.proofs.StoredLemmas.{way_here, shown-written, written_stored, written_kept}
use Rattle.cache_tags.proofs.set.Set.write.Goals as goal

pub index_mut-line-requires : goal.index_mut-line-requires
index_mut-line-requires c =
    let here = way_here _ _ _ _ _ c.self.invariant c.args.way (rw (← c.self.view_is) at c.requires.way) in
    omega (arith, here.1, c.self.inside.lines.ok.0)

pub put-requires : goal.put-requires
put-requires c = omega (arith, rw (← c.self.view_is) at c.requires.fits, c.self.invariant.bytes)

pub returns-clause-written : goal.returns-clause-written
returns-clause-written c =
    let here = way_here _ _ _ _ _ c.self.invariant c.args.way (rw (← c.self.view_is) at c.requires.way) in
    let s : Stored = c.index_mut-line.result.now in
    let s' : Stored = record { addr = s.addr; dirty = true; bytes = c.put.new.bytes } in
    let long : length s.bytes ≡ 64 = omega arith in
    let fits : c.args.offset + length c.args.bytes.now ≤ c.self.inside.line = rw (← c.self.view_is) at c.requires.fits in
    let new : shown c.self.inside.line s' ≡ rewritten (shown c.self.inside.line s) c.args.offset c.args.bytes.now =
    shown-written c.self.inside.line c.args.offset s s' c.args.bytes.now fits (omega (arith, long, c.self.invariant.bytes))
    (ap (λ bytes. let t : Stored = record { addr = s.addr; dirty = true; bytes = bytes } in t) c.put.ensures) in
    rw (← c.self.view_is)
    (written_stored _ _ _ _ _ c.self.invariant c.args.way c.args.offset c.args.bytes.now s s' (set c.self.inside.lines.items c.args.way s') here.1
    c.index_mut-line.ensures.value new refl)

pub invariant_of-self : goal.invariant_of-self
invariant_of-self c =
    let here = way_here _ _ _ _ _ c.self.invariant c.args.way (rw (← c.self.view_is) at c.requires.way) in
    let s : Stored = c.index_mut-line.result.now in
    let s' : Stored = record { addr = s.addr; dirty = true; bytes = c.put.new.bytes } in
    let long : length s.bytes ≡ 64 = omega arith in
    let fits : c.args.offset + length c.args.bytes.now ≤ c.self.inside.line = rw (← c.self.view_is) at c.requires.fits in
    let new : shown c.self.inside.line s' ≡ rewritten (shown c.self.inside.line s) c.args.offset c.args.bytes.now =
    shown-written c.self.inside.line c.args.offset s s' c.args.bytes.now fits (omega (arith, long, c.self.invariant.bytes))
    (ap (λ bytes. let t : Stored = record { addr = s.addr; dirty = true; bytes = bytes } in t) c.put.ensures) in
    written_kept _ _ _ _ _ c.self.invariant c.args.way c.args.offset c.args.bytes.now s s' (set c.self.inside.lines.items c.args.way s') here.1
    c.index_mut-line.ensures.value new refl fits

pub returns-clause-sound : goal.returns-clause-sound
returns-clause-sound c = (invariant_of-self c).sound
