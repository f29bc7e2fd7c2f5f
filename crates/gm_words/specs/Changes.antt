-- What a part does to its own events. This project's own rules.
use Rattle.std.specs.Prelude.{ℕ, ◌==◌, Bool, true, false, if◌then◌else◌, List, [], ◌∷◌}
use Rattle.ev_queue.specs.declared.due.Due.{Due}
use Rattle.ev_queue.specs.PendingList.{event, rescheduled, without}

-- a change to an event of the part's own: it is scheduled as new, in place of the one that was pending, or it is removed
pub data Change : Type 0 where
  Schedule : (slot class at : ℕ) → Change
  Remove : (slot : ℕ) → Change

-- the pending events after one change by the object
abbrev pub changed_by : ℕ → List Due → Change → List Due
changed_by object es (Schedule slot class at) = rescheduled es (event at class object slot)
changed_by object es (Remove slot) = without es object slot

-- the pending events after the object's changes, in order
abbrev pub changed : ℕ → List Due → List Change → List Due
changed object es [] = es
changed object es (c ∷ cs) = changed object (changed_by object es c) cs

-- whether the event of the slot n is pending after changes, where it was or wasn't before
abbrev pub due_after : List Change → Bool → ℕ → Bool
due_after [] due n = due
due_after (Schedule slot class at ∷ cs) due n = due_after cs (if n == slot then true else due) n
due_after (Remove slot ∷ cs) due n = due_after cs (if n == slot then false else due) n
