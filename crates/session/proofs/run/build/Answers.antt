use Rattle.std.proofs.Common.{rules, refl, inl, inr}
use Rattle.session.specs.Ending.{memory_refusal}
use Rattle.session.specs.Refusals.{part_refusal}
use Rattle.session.proofs.run.build.Goals as goal

pub returns-in-Err-Part-clause-stops : goal.returns-in-Err-Part-clause-stops
returns-in-Err-Part-clause-stops g c =
    let lack = rw c.in-Err-Part.field-0-is at c.in-Err-Part.ensures.fault in
    (part_refusal c.in-Err-Part.kind, inr (c.in-Err-Part.kind, search (rules, lack), refl), c.refuse_part.ensures)

pub returns-in-Err-NoMemory-clause-stops : goal.returns-in-Err-NoMemory-clause-stops
returns-in-Err-NoMemory-clause-stops g c = (memory_refusal, inl refl, c.refuse.ensures)
