use Rattle.std.proofs.Common.{◌≡◌, ◌∙◌, ℕ, ◌-◌, ap, refl, sym, arith, length, get_or, set}
use Rattle.std.specs.Option.{option_map}
use Rattle.cache_tags.specs.Line.{victim}
use Rattle.cache_tags.specs.Held.{Held}
use Rattle.cache_tags.specs.Stored.{stored_set}
use Rattle.cache_tags.proofs.StoredLemmas.{with_front, shown-padded, none_leaves, pushed_stored, pushed_kept, last_low, one_leaves, replaced_stored, replaced_kept, line_read}
use Rattle.cache_tags.proofs.set.Set.install.Goals as goal

pub pad-bytes-requires : goal.pad-bytes-requires
pad-bytes-requires c = omega (arith, rw (← c.self.view_is) at c.requires.whole, c.self.invariant.bytes)

pub invariant_of-self : goal.invariant_of-self
invariant_of-self c =
    let taken : length c.self.inside.lines.items ≡ c.len-taken.result = omega (arith, c.len-taken.ensures, c.self.inside.lines.ok.0) in
    let whole : length c.args.bytes.now ≡ c.self.inside.line = rw (← c.self.view_is) at c.requires.whole in
    pushed_kept _ _ _ _ _ c.self.invariant (record { addr = c.args.addr; dirty = c.args.dirty; bytes = c.pad-bytes.result }) c.put_in_front.new.order c.push_reserved.new.self.items
    (omega (arith, taken)) (rw taken c.put_in_front.ensures) c.push_reserved.ensures.items (record { address = c.args.addr; dirty = c.args.dirty; bytes = c.args.bytes.now }) _
    (shown-padded c.self.inside.line c.args.addr c.args.dirty c.args.bytes.now c.pad-bytes.result whole c.pad-bytes.ensures)
    c.push_reserved.ensures.capacity c.put_in_front.auto.order whole (rw (← c.self.view_is) at c.requires.absent)

pub returns-then-taken-self-clause-installed : goal.returns-then-taken-self-clause-installed
returns-then-taken-self-clause-installed c =
    let taken : length c.self.inside.lines.items ≡ c.len-taken.result = omega (arith, c.len-taken.ensures, c.self.inside.lines.ok.0) in
    let whole : length c.args.bytes.now ≡ c.self.inside.line = rw (← c.self.view_is) at c.requires.whole in
    rw (← c.self.view_is)
    (pushed_stored _ _ _ _ _ c.self.invariant (record { addr = c.args.addr; dirty = c.args.dirty; bytes = c.pad-bytes.result }) c.put_in_front.new.order c.push_reserved.new.self.items
    (omega (arith, taken)) (rw taken c.put_in_front.ensures) c.push_reserved.ensures.items
    ∙ ap (with_front (stored_set c.self.inside.ways c.self.inside.line c.self.inside.order c.self.inside.lines.items))
    (shown-padded c.self.inside.line c.args.addr c.args.dirty c.args.bytes.now c.pad-bytes.result whole c.pad-bytes.ensures))

pub returns-then-taken-self-clause-victim : goal.returns-then-taken-self-clause-victim
returns-then-taken-self-clause-victim c =
    let taken : length c.self.inside.lines.items ≡ c.len-taken.result = omega (arith, c.len-taken.ensures, c.self.inside.lines.ok.0) in
    rw (← c.self.view_is)
    (ap (option_map (λ (h : Held). victim h.line)) (sym (none_leaves _ _ _ _ _ c.self.invariant (record { addr = c.args.addr; dirty = c.args.dirty; bytes = c.pad-bytes.result })
    c.put_in_front.new.order c.push_reserved.new.self.items (omega (arith, taken)) (rw taken c.put_in_front.ensures) c.push_reserved.ensures.items)))

pub returns-then-taken-self-clause-sound : goal.returns-then-taken-self-clause-sound
returns-then-taken-self-clause-sound c = (invariant_of-self c).sound

pub index_mut-requires : goal.index_mut-requires
index_mut-requires c =
    let taken : c.len-taken.result ≡ length c.self.inside.lines.items = omega (arith, c.len-taken.ensures, c.self.inside.lines.ok.0) in
    omega (arith, last_low _ _ _ _ _ c.self.invariant c.len-taken.result taken (omega (arith, taken)), c.self.inside.lines.ok.0)

pub invariant_of-self-2 : goal.invariant_of-self-2
invariant_of-self-2 c =
    let taken : length c.self.inside.lines.items ≡ c.len-taken.result = omega (arith, c.len-taken.ensures, c.self.inside.lines.ok.0) in
    let whole : length c.args.bytes.now ≡ c.self.inside.line = rw (← c.self.view_is) at c.requires.whole in
    replaced_kept _ _ _ _ _ c.self.invariant (get_or c.self.inside.order (c.len-taken.result - 1) 0) (record { addr = c.args.addr; dirty = c.args.dirty; bytes = c.pad-bytes.result })
    c.put_in_front-2.new.order (set c.self.inside.lines.items (get_or c.self.inside.order (c.len-taken.result - 1) 0) c.replace-left.new.dest)
    (omega (arith, taken)) (rw taken refl) (rw taken c.put_in_front-2.ensures) (rw c.replace-left.ensures.after refl)
    (record { address = c.args.addr; dirty = c.args.dirty; bytes = c.args.bytes.now })
    (shown-padded c.self.inside.line c.args.addr c.args.dirty c.args.bytes.now c.pad-bytes.result whole c.pad-bytes.ensures)
    c.put_in_front-2.auto.order whole (rw (← c.self.view_is) at c.requires.absent)

pub returns-clause-installed : goal.returns-clause-installed
returns-clause-installed c =
    let taken : length c.self.inside.lines.items ≡ c.len-taken.result = omega (arith, c.len-taken.ensures, c.self.inside.lines.ok.0) in
    let whole : length c.args.bytes.now ≡ c.self.inside.line = rw (← c.self.view_is) at c.requires.whole in
    rw (← c.self.view_is)
    (replaced_stored _ _ _ _ _ c.self.invariant (get_or c.self.inside.order (c.len-taken.result - 1) 0) (record { addr = c.args.addr; dirty = c.args.dirty; bytes = c.pad-bytes.result })
    c.put_in_front-2.new.order (set c.self.inside.lines.items (get_or c.self.inside.order (c.len-taken.result - 1) 0) c.replace-left.new.dest)
    (omega (arith, taken)) (rw taken refl) (rw taken c.put_in_front-2.ensures) (rw c.replace-left.ensures.after refl)
    ∙ ap (with_front (stored_set c.self.inside.ways c.self.inside.line c.self.inside.order c.self.inside.lines.items))
    (shown-padded c.self.inside.line c.args.addr c.args.dirty c.args.bytes.now c.pad-bytes.result whole c.pad-bytes.ensures))

pub returns-clause-victim : goal.returns-clause-victim
returns-clause-victim c =
    let taken : c.len-taken.result ≡ length c.self.inside.lines.items = omega (arith, c.len-taken.ensures, c.self.inside.lines.ok.0) in
    let taken' : length c.self.inside.lines.items ≡ c.len-taken.result = sym taken in
    let w : ℕ = get_or c.self.inside.order (c.len-taken.result - 1) 0 in
    let leaves = one_leaves _ _ _ _ _ c.self.invariant w (record { addr = c.args.addr; dirty = c.args.dirty; bytes = c.pad-bytes.result })
    c.put_in_front-2.new.order (set c.self.inside.lines.items w c.replace-left.new.dest)
    (omega (arith, taken)) (rw taken' refl) (rw taken' c.put_in_front-2.ensures) (rw c.replace-left.ensures.after refl) in
    let line = line_read c.self.inside.line c.self.inside.lines.items w c.index_mut.result.now
    (last_low _ _ _ _ _ c.self.invariant c.len-taken.result taken (omega (arith, taken))) c.index_mut.ensures.value in
    rw (← c.self.view_is, leaves, line, c.pad.ensures, c.replace-left.ensures.value) refl

pub returns-clause-sound : goal.returns-clause-sound
returns-clause-sound c = (invariant_of-self-2 c).sound
