use Rattle.gm_words.proofs.QueueLaws.{others_kept, told_queue}
use Rattle.gm_words.proofs.laws.events_of_others_stay.Goals as goal

pub returns-clause-others : goal.returns-clause-others
returns-clause-others c = others_kept

pub returns-clause-own : goal.returns-clause-own
returns-clause-own c = told_queue
