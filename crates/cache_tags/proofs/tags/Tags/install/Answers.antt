use Rattle.std.proofs.Common.{◌∙◌, subst}
use Rattle.cache_tags.specs.Kept.{IsSoundCache}
use Rattle.cache_tags.specs.Store.{stored_cache}
use Rattle.cache_tags.proofs.StoreLemmas.{held_at, installed_stored, installed_kept, left_stored, free_leaves_none}
use Rattle.cache_tags.proofs.PlaceLemmas.{after_install_lines, absent_held}
use Rattle.cache_tags.proofs.tags.Tags.install.Goals as goal

pub returns-clause-installed : goal.returns-clause-installed
returns-clause-installed c =
    rw (← c.self.view_is)
    (installed_stored _ _ _ _ _ c.self.invariant (record { address = c.args.addr; dirty = c.args.dirty; bytes = c.args.bytes.now }) c.set_of-set.result c.index_mut.result.now c.install.new.self
    (rw (← c.self.view_is) at c.set_of-set.ensures) c.index_mut.ensures.value c.install.ensures.installed)

pub invariant_of-self : goal.invariant_of-self
invariant_of-self c =
    installed_kept _ _ _ _ _ c.self.invariant (record { address = c.args.addr; dirty = c.args.dirty; bytes = c.args.bytes.now }) c.set_of-set.result c.index_mut.result.now c.install.new.self
    (rw (← c.self.view_is) at c.set_of-set.ensures) c.index_mut.ensures.value c.install.ensures.installed (rw (← c.self.view_is) at c.requires.base) c.install.ensures.sound

pub returns-clause-free : goal.returns-clause-free
returns-clause-free c =
    rw (← c.self.view_is)
    (free_leaves_none _ _ _ _ _ c.self.invariant (record { address = c.args.addr; dirty = c.args.dirty; bytes = c.args.bytes.now }) c.set_of-set.result c.index_mut.result.now c.install.new.self
    (rw (← c.self.view_is) at c.set_of-set.ensures) c.index_mut.ensures.value c.install.ensures.installed c.install.result c.install.ensures.victim)

pub returns-clause-sound : goal.returns-clause-sound
returns-clause-sound c = (invariant_of-self c).sound

pub returns-clause-lines : goal.returns-clause-lines
returns-clause-lines c =
    after_install_lines c.args.self.now _ (subst IsSoundCache c.self.view_is c.self.invariant.sound)
    (record { address = c.args.addr; dirty = c.args.dirty; bytes = c.args.bytes.now }) (returns-clause-installed c)

pub install-requires-clause-absent : goal.install-requires-clause-absent
install-requires-clause-absent c =
    let number = rw (← c.self.view_is) at c.set_of-set.ensures in
    held_at _ _ _ _ _ c.self.invariant c.args.addr c.args.addr c.set_of-set.result c.index_mut.result.now number c.index_mut.ensures.value
    ∙ absent_held (stored_cache c.self.inside.ways c.self.inside.line c.self.inside.sets.items) c.args.addr (rw (← c.self.view_is) at c.requires.base) (rw (← c.self.view_is) at c.requires.absent)

pub returns-clause-victim : goal.returns-clause-victim
returns-clause-victim c =
    rw (← c.self.view_is)
    (left_stored _ _ _ _ _ c.self.invariant (record { address = c.args.addr; dirty = c.args.dirty; bytes = c.args.bytes.now }) c.set_of-set.result c.index_mut.result.now c.install.new.self
    (rw (← c.self.view_is) at c.set_of-set.ensures) c.index_mut.ensures.value c.install.ensures.installed c.install.result c.install.ensures.victim)
