-- What a call to a part leaves, as one relation to a step of its rule. This project's own rule.
use Rattle.std.specs.Prelude.{◌≡◌}
use Rattle.ev_queue.specs.Queue.{Queue}
use Rattle.gm_model.specs.ObjState.{ObjState}
use Rattle.gm_model.specs.Stepped.{Stepped}
use Rattle.gm_words.specs.declared.answer.Answer.{Answer}
use Rattle.gm_words.specs.declared.answer.Answer.TheVariants.{Nothing}
use Rattle.obj_core.specs.Events.{with_changes}
use Rattle.obj_core.specs.Out.{Out, extended}

-- a call took this step: the part's state, the queue of events and the outbox, before and after it; a step that is no
-- answer to an offer answers nothing
pub record Takes (r : Stepped) (part part' : ObjState) (q q' : Queue) (o o' : Out) : Type 0 where
  pub state : part' ≡ r.state
  pub events : q' ≡ with_changes q part r.changes
  pub out : o' ≡ extended o r.acts r.entries r.next
  pub answer : r.answer ≡ Nothing

-- a call took this step, and answered
pub record Answers (r : Stepped) (part part' : ObjState) (q q' : Queue) (o o' : Out) (a : Answer) : Type 0 where
  pub state : part' ≡ r.state
  pub events : q' ≡ with_changes q part r.changes
  pub out : o' ≡ extended o r.acts r.entries r.next
  pub answer : a ≡ r.answer
