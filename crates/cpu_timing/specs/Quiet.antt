-- Steps that change no event. This project's own rule.
use Rattle.std.specs.Prelude.{◌≡◌, []}
use Rattle.gm_model.specs.ObjState.{ObjState}
use Rattle.gm_model.specs.Stepped.{Stepped}
use Rattle.gm_words.specs.declared.answer.Answer.TheVariants.{Nothing}
use Rattle.obj_core.specs.Out.{Out, extended}

-- a call took this step, which changes no event: the part's state after it, and the outbox before and after it
pub record TakesQuietly (r : Stepped) (part' : ObjState) (o o' : Out) : Type 0 where
  pub state : part' ≡ r.state
  pub changes : r.changes ≡ []
  pub out : o' ≡ extended o r.acts r.entries r.next
  pub answer : r.answer ≡ Nothing
