-- What a part's changes do to the pending events. This project's own laws.
use Rattle.std.specs.Prelude.{◌≡◌, ℕ, ◌==◌, if◌then◌else◌, List, [], ◌∷◌}
use Rattle.ev_queue.specs.declared.due.Due.{Due}
use Rattle.ev_queue.specs.PendingList.{is_pending}
use Rattle.gm_words.specs.Changes.{Change, changed, due_after}

-- the events of all objects but this one
abbrev pub events_of_others : ℕ → List Due → List Due
events_of_others object [] = []
events_of_others object (e ∷ es) =
    if e.owner.0 == object then events_of_others object es else e ∷ events_of_others object es

-- whatever an object changes, the events of the others stay, in the same order
abbrev pub KeepsOthersEvents : Type 0
KeepsOthersEvents =
    (object : ℕ) (es : List Due) (cs : List Change) → events_of_others object (changed object es cs) ≡ events_of_others object es

-- and of its own those are pending that the changes say
abbrev pub TellsQueue : Type 0
TellsQueue = (object : ℕ) (es : List Due) (cs : List Change) (n : ℕ)
    → is_pending (changed object es cs) object n ≡ due_after cs (is_pending es object n) n
