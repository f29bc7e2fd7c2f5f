-- The numbers of the statuses. Source: this project's own rule.
use Rattle.std.specs.Prelude.{◌≡◌, ℕ, List}
use Rattle.gm_model.specs.ObjState.{ObjState}
use Rattle.session.specs.Calls.{EndsAs}
use Rattle.session.specs.Outside.{Outside}
use Rattle.session.specs.declared.status.Status.{Status}
use Rattle.session.specs.declared.status.Status.TheVariants as status

abbrev pub code_of : Status → ℕ
code_of status.Done = 0
code_of status.Usage = 2
code_of status.Config = 3
code_of status.Image = 4
code_of status.Script = 5
code_of status.File = 7
code_of status.Store = 8
code_of status.Sink = 9
code_of status.Memory = 10
code_of status.Part = 11
code_of status.Source = 12

-- the number is that of a status with which the call ends
abbrev pub AnswersCall : ℕ → List (List ℕ) → List ObjState → Outside → Outside → Type 0
AnswersCall n words parts old new = (s : Status) × (n ≡ code_of s) × EndsAs s words parts old new
