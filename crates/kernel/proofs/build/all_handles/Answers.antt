use Rattle.std.proofs.Common.{arith, ap, ◌∙◌, get_or, length}
use Rattle.gm_words.specs.Platform.{own_classes}
use Rattle.kernel.proofs.Tables.{kept_at}
use Rattle.kernel.proofs.build.all_handles.Goals as goal

pub overflow_cast-slot : goal.overflow_cast-slot
overflow_cast-slot c =
    omega (arith, c.loop-slot-test.true, c.len-slot-end.ensures, c.in_ok-classes.classes.ok.0, ap (λ cs. length cs) c.loop-slot.invariant.classes, c.requires.few)

pub add_handle-requires-clause-kept : goal.add_handle-requires-clause-kept
add_handle-requires-clause-kept c =
    let all = c.loop-slot.invariant.classes in
    kept_at (own_classes c.args.params.now.own) c.loop-slot.slot c.index.result.now c.requires.kept
    (omega (arith, c.loop-slot-test.true, c.len-slot-end.ensures, c.in_ok-classes.classes.ok.0, ap (λ cs. length cs) all))
    (c.index.ensures ∙ ap (λ cs. get_or cs c.loop-slot.slot c.index.result.now) all)
