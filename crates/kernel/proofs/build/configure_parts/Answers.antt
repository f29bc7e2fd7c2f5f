use Rattle.std.proofs.Common.{arith, sym, ap, subst, ◌∙◌, ◌≤◌, IsTrue, List, length}
use Rattle.ev_queue.specs.Queue.{Queue}
use Rattle.ev_queue.specs.declared.slot.Slot.{Slot}
use Rattle.rv_step.specs.FlatMem.{ram_base}
use Rattle.gm_words.specs.Allowed.{IsAllowed}
use Rattle.gm_words.specs.Kind.{kind_of_own}
use Rattle.gm_words.specs.Platform.{platform, own_classes}
use Rattle.gm_words.specs.Shown.{part_shown}
use Rattle.gm_words.specs.declared.platform.Part.{Part as KeptPart}
use Rattle.gm_model.specs.Command.{start_of}
use Rattle.gm_model.specs.Start.{params_of, cpu_started}
use Rattle.kernel.specs.Build.{IsPart, AreFree, all_granted, are_kept}
use Rattle.kernel.proofs.Draws.{box_part, box_done, boxes_length, all_done, row_allowed}
use Rattle.kernel.proofs.Rows.{row_of, rows_length}
use Rattle.kernel.proofs.Tables.{place_free, place_given, classes_kept, few_at, few_classes}
use Rattle.kernel.proofs.build.configure_parts.Goals as goal

pub index_mut-requires : goal.index_mut-requires
index_mut-requires g c =
    let i = c.loop-i.invariant in
    omega (arith, c.loop-i.parts.ok.0, boxes_length (λ b. (goal.SimObject-dyn g (b.vtable, b.value)).state b.value) c.args.c.now (platform c.args.c.now) c.loop-i.parts.items c.loop-i.i i.parts, rows_length c.args.rows.now (platform c.args.c.now) c.requires.rows, c.loop-i-test.true)

pub configure_part-requires-clause-part : goal.configure_part-requires-clause-part
configure_part-requires-clause-part g c =
    let x = c.index-rows-i.result in
    let at = row_of c.args.rows.now (platform c.args.c.now) c.loop-i.i x c.requires.rows c.loop-i-test.true c.index-rows-i.is in
    subst (λ (y : KeptPart). IsPart (kind_of_own y.own) ((goal.SimObject-dyn g (c.index_mut.result.now.vtable, c.index_mut.result.now.value)).state c.index_mut.result.now.value)) c.index-rows-i.is
    (box_part (λ b. (goal.SimObject-dyn g (b.vtable, b.value)).state b.value) c.args.c.now (platform c.args.c.now) c.loop-i.parts.items c.loop-i.i (part_shown x) c.index_mut.result.now at.0 at.1 c.index_mut.ensures.value c.loop-i.invariant.parts)

pub configure_part-requires-clause-allowed : goal.configure_part-requires-clause-allowed
configure_part-requires-clause-allowed g c =
    let x = c.index-rows-i.result in
    let at = row_of c.args.rows.now (platform c.args.c.now) c.loop-i.i x c.requires.rows c.loop-i-test.true c.index-rows-i.is in
    subst (λ (y : KeptPart). IsAllowed (params_of c.args.c.now c.loop-i.i y.own)) c.index-rows-i.is (row_allowed c.args.c.now c.loop-i.i (part_shown x) c.requires.valid at.0 at.1)

pub configure_part-requires-clause-free : goal.configure_part-requires-clause-free
configure_part-requires-clause-free g c =
    let x = c.index-rows-i.result in
    let at = row_of c.args.rows.now (platform c.args.c.now) c.loop-i.i x c.requires.rows c.loop-i-test.true c.index-rows-i.is in
    subst (λ (y : KeptPart). AreFree c.loop-i.queue.table c.loop-i.i 0 (own_classes y.own)) c.index-rows-i.is
    (subst (λ (t : List Slot). AreFree t c.loop-i.i 0 (own_classes x.own)) (sym c.loop-i.invariant.table) (place_free c.loop-i.i (platform c.args.c.now) (part_shown x) at.0 at.1))

pub configure_part-requires-clause-kept : goal.configure_part-requires-clause-kept
configure_part-requires-clause-kept g c =
    let x = c.index-rows-i.result in
    let at = row_of c.args.rows.now (platform c.args.c.now) c.loop-i.i x c.requires.rows c.loop-i-test.true c.index-rows-i.is in
    subst (λ (y : KeptPart). IsTrue (are_kept (own_classes y.own))) c.index-rows-i.is (classes_kept c.args.c.now c.loop-i.i (part_shown x) at.0 at.1)

pub configure_part-requires-clause-few : goal.configure_part-requires-clause-few
configure_part-requires-clause-few g c =
    let x = c.index-rows-i.result in
    let at = row_of c.args.rows.now (platform c.args.c.now) c.loop-i.i x c.requires.rows c.loop-i-test.true c.index-rows-i.is in
    subst (λ (y : KeptPart). length (own_classes y.own) ≤ 255) c.index-rows-i.is (few_at (platform c.args.c.now) c.loop-i.i (part_shown x) (few_classes c.args.c.now) at.0 at.1)

pub loop-i-preserved : goal.loop-i-preserved
loop-i-preserved g c =
    let i = c.loop-i.invariant in
    let x = c.index-rows-i.result in
    let done = c.in_ok-configure_part.ensures in
    let at = row_of c.args.rows.now (platform c.args.c.now) c.loop-i.i x c.requires.rows c.loop-i-test.true c.index-rows-i.is in
    record {
      rows = i.rows;
      parts = box_done (λ b. (goal.SimObject-dyn g (b.vtable, b.value)).state b.value) c.args.c.now (platform c.args.c.now) c.loop-i.parts.items c.loop-i.i (part_shown x) c.index_mut.result.now at.0 at.1 c.index_mut.ensures.value i.parts
          c.configure_part.new.part
          (done.part ∙ ap (λ (y : KeptPart). cpu_started ram_base c.args.c.now.system_model (start_of (params_of c.args.c.now c.loop-i.i y.own) y.own)) (sym c.index-rows-i.is));
      table = ap (λ (q : Queue). q.table) done.queue
          ∙ (ap (λ (y : KeptPart). all_granted c.loop-i.queue.table c.loop-i.i 0 (own_classes y.own)) (sym c.index-rows-i.is)
          ∙ (ap (λ (t : List Slot). all_granted t c.loop-i.i 0 (own_classes x.own)) i.table
          ∙ place_given c.loop-i.i (platform c.args.c.now) (part_shown x) at.0 at.1));
      pending = ap (λ (q : Queue). q.pending) done.queue ∙ i.pending;
    }

pub returns-clause-parts : goal.returns-clause-parts
returns-clause-parts g c =
    all_done c.args.c.now 0 c.loop-i.i _ (platform c.args.c.now)
    (omega (arith, rows_length c.args.rows.now (platform c.args.c.now) c.requires.rows, c.loop-i.auto.i-end, c.loop-i-test.false)) c.loop-i.invariant.parts
