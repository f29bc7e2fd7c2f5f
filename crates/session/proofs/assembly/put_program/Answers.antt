use Rattle.std.proofs.Common.{List, ℕ, refl, inl, inr, ◌∙◌, subst, Some, []}
use Rattle.gc_outside.specs.Store.{ChangesFile}
use Rattle.gc_outside.specs.Told.{Told}
use Rattle.session.specs.Ending.{memory_refusal, store_refusal, work_done}
use Rattle.session.specs.Puts.{IsPutInPart}
use Rattle.session.proofs.EmissionLemmas.{done_refuses}
use Rattle.session.proofs.assembly.put_program.Goals as goal

pub returns-in-Err : goal.returns-in-Err
returns-in-Err g c = (memory_refusal, inl (record { files = refl; open_put = refl }, refl), refl, c.refuse.ensures)

pub returns-in-Ok-put : goal.returns-in-Ok-put
returns-in-Ok-put g c =
    let file = subst (λ (l : List ℕ). Told (ChangesFile c.args.name.now (Some l)) (g.S.Store.files c.args.store.now) (g.S.Store.files c.put.new.store)) (c.deref.ensures.value ∙ c.in-Ok.ensures.file) c.in-Ok-put.ensures.whole in
    (work_done [], inr (inl (record { file = file; ended = c.put.ensures.ended }, refl)), c.in-Ok-put.ensures.counted, done_refuses _)

pub returns : goal.returns
returns g c =
    let file = subst (λ (l : List ℕ). Told (IsPutInPart c.args.name.now l) (g.S.Store.files c.args.store.now) (g.S.Store.files c.put.new.store)) (c.deref.ensures.value ∙ c.in-Ok.ensures.file) c.in-Err-put.ensures.part in
    (store_refusal c.args.name.now, inr (inr (record { file = file; ended = c.put.ensures.ended }, c.in-Err-put.ensures.cause, refl)), c.in-Err-put.ensures.counted, c.refuse_file.ensures)
