use Rattle.kernel.proofs.Draws.{part_taken, blank_removed, others_kept}
use Rattle.kernel.proofs.draw.take_kind.Goals as goal

pub returns-clause-part : goal.returns-clause-part
returns-clause-part g c =
    part_taken _ c.args.kind c.args.parts.now.items c.in-Some.i c.remove.result (rw c.as_slice.ensures.value at c.in-Some.ensures.within) c.remove.ensures.value
    (rw c.as_slice.ensures.value at c.in-Some.ensures.kind) c.requires.blank

pub returns-clause-blank : goal.returns-clause-blank
returns-clause-blank g c = rw c.remove.ensures.items (blank_removed _ c.args.parts.now.items c.in-Some.i (rw c.as_slice.ensures.value at c.in-Some.ensures.within) c.requires.blank)

pub returns-clause-others : goal.returns-clause-others
returns-clause-others g c k = rw c.remove.ensures.items
    (others_kept _ c.args.kind c.args.parts.now.items c.in-Some.i c.remove.result (rw c.as_slice.ensures.value at c.in-Some.ensures.within) c.remove.ensures.value k)
