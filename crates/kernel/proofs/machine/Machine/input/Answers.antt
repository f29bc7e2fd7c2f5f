use Rattle.std.proofs.Common.{arith, refl, ◌∙◌}
use Rattle.kernel.proofs.Inputs.{fed_machine, given_more, taken_few, taken_more, all_given, all_taken}
use Rattle.kernel.proofs.machine.Machine.input.Goals as goal

pub loop-byte-init : goal.loop-byte-init
loop-byte-init g c = record {
  given = refl;
  taken = omega arith;
  entries = refl;
  named = refl;
  machine = c.requires.machine;
}

pub overflow_add-taken : goal.overflow_add-taken
overflow_add-taken g c =
    let i = c.loop-byte.invariant in
    omega (arith, taken_few c.args.bytes.now _ _ c.requires.machine.sound, taken_more c.args.bytes.now c.loop-byte.byte-index _ _ c.loop-byte-test.true refl _ _ c.feed.ensures.fed _ c.feed.ensures.taken _ _ i.taken _ c.one_if-taken.ensures)

pub loop-byte-preserved : goal.loop-byte-preserved
loop-byte-preserved g c =
    let i = c.loop-byte.invariant in
    record {
      given = given_more c.args.bytes.now c.loop-byte.byte-index _ _ c.loop-byte-test.true refl _ _ c.feed.ensures.fed _ i.given;
      taken = taken_more c.args.bytes.now c.loop-byte.byte-index _ _ c.loop-byte-test.true refl _ _ c.feed.ensures.fed _ c.feed.ensures.taken _ _ i.taken _ c.one_if-taken.ensures;
      entries = c.feed.ensures.entries ∙ i.entries;
      named = c.feed.ensures.named ∙ i.named;
      machine = record { sound = fed_machine _ _ _ _ _ i.machine.sound c.feed.ensures.fed c.feed.ensures.table };
    }

pub returns-clause-taken : goal.returns-clause-taken
returns-clause-taken g c = all_taken c.args.bytes.now c.loop-byte.byte-index _ _ _ (omega (arith, c.loop-byte-test.false)) c.loop-byte.invariant.taken

pub returns-clause-given : goal.returns-clause-given
returns-clause-given g c = all_given c.args.bytes.now c.loop-byte.byte-index _ _ (omega (arith, c.loop-byte-test.false)) c.loop-byte.invariant.given
