use Rattle.session.proofs.EmissionLemmas.{said_refuses, cut_refuses}
use Rattle.session.proofs.lines.refuse.Goals as goal

pub returns-in-Ok : goal.returns-in-Ok
returns-in-Ok g c = said_refuses _ _ _ _ c.in-Ok.ensures

pub returns-in-Err : goal.returns-in-Err
returns-in-Err g c = cut_refuses _ _ _ _ c.in-Err.ensures
