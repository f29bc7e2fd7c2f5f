use Rattle.std.proofs.Common.{refl, ap, inl, inr, subst, Err}
use Rattle.gc_outside.specs.Store.{Answers, IsWithin}
use Rattle.session.specs.Ending.{absent_refusal, long_refusal, store_refusal, memory_refusal}
use Rattle.session.proofs.CountLemmas.{get_counts}
use Rattle.session.proofs.FetchLemmas.{got_bytes, got_absent, got_longer}
use Rattle.session.proofs.fetch.fetch.Goals as goal

pub returns-in-Ok-Bytes-clause-file : goal.returns-in-Ok-Bytes-clause-file
returns-in-Ok-Bytes-clause-file g c =
    let Q = Answers c.args.most c.args.name.now (g.S.Store.files c.args.store.now) in record {
      is = got_bytes _ _ _ c.args.most (subst Q c.in-Ok-Bytes.field-0-is c.in-Ok-Bytes.ensures.answer);
      within = subst (IsWithin c.args.most) c.in-Ok-Bytes.field-0-is c.in-Ok-Bytes.ensures.within;
    }

pub returns-in-Ok-Absent-clause-stops : goal.returns-in-Ok-Absent-clause-stops
returns-in-Ok-Absent-clause-stops g c =
    let Q = Answers c.args.most c.args.name.now (g.S.Store.files c.args.store.now) in
    (absent_refusal c.args.name.now, inr (inr (inl (got_absent _ _ c.args.most (subst Q c.in-Ok-Absent.field-0-is c.in-Ok-Absent.ensures.answer), refl))), c.in-Ok-Absent.ensures.counted, c.refuse_file.ensures)

pub returns-in-Ok-Longer-clause-stops : goal.returns-in-Ok-Longer-clause-stops
returns-in-Ok-Longer-clause-stops g c =
    let Q = Answers c.args.most c.args.name.now (g.S.Store.files c.args.store.now) in
    let file = got_longer _ _ c.args.most (subst Q c.in-Ok-Longer.field-0-is c.in-Ok-Longer.ensures.answer) in
    (long_refusal c.args.name.now, inr (inr (inr (file.0, file.1, file.2, refl))), c.in-Ok-Longer.ensures.counted, c.refuse_file-in-Ok-Longer.ensures)

pub returns-in-Err-Failed-clause-stops : goal.returns-in-Err-Failed-clause-stops
returns-in-Err-Failed-clause-stops g c =
    (store_refusal c.args.name.now, inl (c.in-Err-Failed.ensures.cause (ap Err c.in-Err-Failed.field-0-is), refl), get_counts _ _ _ _ c.in-Err-Failed.field-0-is c.in-Err-Failed.ensures.counted, c.refuse_file-in-Err-Failed.ensures)

pub returns-in-Err-NoMemory-clause-stops : goal.returns-in-Err-NoMemory-clause-stops
returns-in-Err-NoMemory-clause-stops g c = (memory_refusal, inr (inl refl), get_counts _ _ _ _ c.in-Err-NoMemory.field-0-is c.in-Err-NoMemory.ensures.counted, c.refuse.ensures)
