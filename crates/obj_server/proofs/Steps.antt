-- What the steps of a server's queue leave and ask for, as sets.
use Rattle.obj_core.proofs.StepLemmas.{gone_acts, hold_acts, hold_changes, again_changes, opened_flow, opened_changes, opened_waiting, opened_acts}

-- the first request is gone, and who waits is called
pub ruleset gone_steps = (gone_acts, opened_flow, opened_changes, opened_waiting, opened_acts)

-- a response is taken, is refused, or is offered again
pub ruleset response_steps = (gone_acts, hold_acts, hold_changes, again_changes)
