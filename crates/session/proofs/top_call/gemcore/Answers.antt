use Rattle.std.proofs.Common.{ap, ◌∙◌}
use Rattle.session.specs.Codes.{code_of}
use Rattle.session.proofs.EndsLemmas.{ends-at, ends-count, puts-at}
use Rattle.session.proofs.ReplayLemmas.{script_replays}
use Rattle.session.proofs.top_call.gemcore.Goals as goal

pub returns-clause-ends : goal.returns-clause-ends
returns-clause-ends g c = λ s e. ends-at _ s _ _ _ _ _ (c.code.ensures ∙ ap code_of c.status_of.ensures) e c.perform.ensures.ends

pub returns-clause-complete : goal.returns-clause-complete
returns-clause-complete g c = (_, c.code.ensures ∙ ap code_of c.status_of.ensures, c.perform.ensures.ends)

pub returns-clause-puts : goal.returns-clause-puts
returns-clause-puts g c = λ s e. puts-at _ s _ _ _ _ (c.code.ensures ∙ ap code_of c.status_of.ensures) e c.perform.ensures.puts

pub returns-clause-counted : goal.returns-clause-counted
returns-clause-counted g c =
    λ s e. ends-count s _ _ _ _ (ends-at _ s _ _ _ _ _ (c.code.ensures ∙ ap code_of c.status_of.ensures) e c.perform.ensures.ends)

pub returns-clause-replay : goal.returns-clause-replay
returns-clause-replay g c = script_replays _ _ _
