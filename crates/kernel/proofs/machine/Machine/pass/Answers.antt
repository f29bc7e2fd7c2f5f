use Rattle.std.proofs.Common.{arith, refl, sym, subst, ◌∙◌}
use Rattle.gm_model.specs.Deliver.{Delivery}
use Rattle.gm_words.specs.Shown.{end_shown}
use Rattle.kernel.specs.Ready.{HasItemRoom}
use Rattle.kernel.proofs.Passes.{sets_out, not_yet_over, part_ready, served_there, goes_on}
use Rattle.kernel.proofs.machine.Machine.pass.Goals as goal

pub parts-init : goal.parts-init
parts-init g c = record { way = sets_out _ _ _ _ c.requires.allowed; table = refl; counters = refl }

pub pass_to-requires-clause-room : goal.pass_to-requires-clause-room
pass_to-requires-clause-room g c = let P : Delivery → Type 0 = HasItemRoom in subst P (sym c.parts.invariant.way.same) c.requires.room

pub pass_to-requires-clause-ready : goal.pass_to-requires-clause-ready
pass_to-requires-clause-ready g c = part_ready _ _ _ _ _ _ _ _ _ c.requires.allowed c.parts.invariant.way _ c.parts.invariant.table

pub overflow_add-result : goal.overflow_add-result
overflow_add-result g c = omega (arith, c.parts.invariant.way.most, c.in-Done.ensures.most, c.parts-test.true)

pub overflow_add-before : goal.overflow_add-before
overflow_add-before g c = omega (arith, c.parts.invariant.way.most, c.in-Pass.ensures.most, c.parts-test.true)

pub returns-in-Done-clause-delivered : goal.returns-in-Done-clause-delivered
returns-in-Done-clause-delivered g c sender =
    let e = c.pass_to.ensures in
    served_there _ _ _ _ _ _ _ _ _ c.requires.allowed c.parts.invariant.way _ _ _ e.passed e.packet e.way c.in-Done.latency c.in-Done.is sender

pub returns-in-Done-clause-table : goal.returns-in-Done-clause-table
returns-in-Done-clause-table g c = c.pass_to.ensures.table ∙ c.parts.invariant.table

pub returns-in-Done-clause-counters : goal.returns-in-Done-clause-counters
returns-in-Done-clause-counters g c = c.pass_to.ensures.counters ∙ c.parts.invariant.counters

pub parts-preserved : goal.parts-preserved
parts-preserved g c =
    let e = c.pass_to.ensures in
    let i = c.parts.invariant in
    record {
      way = goes_on _ _ _ _ _ _ _ _ _ c.requires.allowed i.way _ _ _ e.passed e.packet e.way c.in-Pass.port c.in-Pass.latency (end_shown c.peer.result) c.in-Pass.is
          c.in-Pass.ensures.most c.peer.ensures;
      table = e.table ∙ i.table;
      counters = e.counters ∙ i.counters;
    }

pub unreachable-requires : goal.unreachable-requires
unreachable-requires g c = let l = not_yet_over _ _ _ _ _ _ _ _ c.parts.invariant.way in omega (arith, l, c.parts-test.false)
