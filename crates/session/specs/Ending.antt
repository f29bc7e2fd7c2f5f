-- How a call ends. Source: this project's own rule.
use Rattle.std.specs.Prelude.{◌≡◌, ℕ, ◌⊎◌, Bool, true, false, List, [], ◌∷◌, ◌++◌, Result, Ok, Err, codes}
use Rattle.gc_outside.specs.Faults.{CountsFaultIf}
use Rattle.gc_outside.specs.Emissions.{Emission, ToReport, TakesAll, TakesFront, SinkFailed, EmitsInOrder}
use Rattle.session.specs.Names.{shown_name}
use Rattle.gc_outside.specs.Sinks.{SinkSeen, Sinks}
use Rattle.session.specs.Outside.{StoreSeen, Outside}
use Rattle.session.specs.declared.status.Status.{Status}
use Rattle.session.specs.declared.status.Status.TheVariants as status

-- the status, and what is written
pub record Ending : Type 0 where
  pub status : Status
  pub emissions : List Emission

-- the work is done, and this was written of it
abbrev pub work_done : List Emission → Ending
work_done emissions = record { status = status.Done; emissions = emissions }

-- one line of the report, and nothing else
abbrev pub refusal : Status → List ℕ → Ending
refusal s line = record { status = s; emissions = ToReport line ∷ [] }

-- the words are none of the forms
abbrev pub usage_refusal : Ending
usage_refusal = refusal status.Usage (codes "usage\n")

-- the file of a name is absent
abbrev pub absent_refusal : List ℕ → Ending
absent_refusal name = refusal status.File (codes "file " ++ shown_name name ++ codes " absent\n")

-- it is longer than it may be
abbrev pub long_refusal : List ℕ → Ending
long_refusal name = refusal status.File (codes "file " ++ shown_name name ++ codes " long\n")

-- the store failed at it
abbrev pub store_refusal : List ℕ → Ending
store_refusal name = refusal status.Store (codes "store " ++ shown_name name ++ codes "\n")

-- memory was not found
abbrev pub memory_refusal : Ending
memory_refusal = refusal status.Memory (codes "memory\n")

-- the status of a store that failed
abbrev pub is_store_failure : Status → Bool
is_store_failure status.Store = true
is_store_failure _ = false

-- what the store counts on the way to this ending: exactly one fault where the ending is that it failed, and else none
abbrev pub CountsFaults : Ending → StoreSeen → StoreSeen → Type 0
CountsFaults e old new = CountsFaultIf (is_store_failure e.status) old.faults new.faults

-- what it counts in a call that answers this status: one fault with its own, none or one where a sink failed, and else none
abbrev pub StoreCounts : Status → StoreSeen → StoreSeen → Type 0
StoreCounts status.Sink old new = (failed : Bool) × CountsFaultIf failed old.faults new.faults
StoreCounts s old new = CountsFaultIf (is_store_failure s) old.faults new.faults

-- a call that comes to this ending leaves this status and these sinks: its own status, and all that it writes was taken;
-- or a sink failed, and a front of it was
abbrev pub Leaves : Ending → Status → Sinks → Sinks → Type 0
Leaves e s old new =
    ((s ≡ e.status) × TakesAll e.emissions old new)
    ⊎ ((s ≡ status.Sink) × SinkFailed old new × TakesFront e.emissions old new)

-- the same of a call that has the report alone: the console stays as it is
abbrev pub Refuses : Ending → Status → SinkSeen → SinkSeen → Type 0
Refuses e s old new = (console : SinkSeen)
    → Leaves e s (record { console = console; report = old }) (record { console = console; report = new })

-- the same of a step among others, with what the sinks count
abbrev pub LeavesInOrder : Ending → Status → Sinks → Sinks → Type 0
LeavesInOrder e s old new =
    ((s ≡ e.status) × EmitsInOrder e.emissions true old new) ⊎ ((s ≡ status.Sink) × EmitsInOrder e.emissions false old new)

-- it was said that memory was not found, as far as the report took it
abbrev pub SaysMemory : Status → SinkSeen → SinkSeen → Type 0
SaysMemory s old new = (console : SinkSeen)
    → LeavesInOrder memory_refusal s (record { console = console; report = old }) (record { console = console; report = new })

-- a step comes to one of these endings, and says so
abbrev pub StopsWith : (Ending → Type 0) → Status → SinkSeen → SinkSeen → Type 0
StopsWith Stops s old new = (e : Ending) × Stops e × Refuses e s old new

-- a step comes to one of the endings that are allowed by what the store was and is, with its count of faults, and says so
abbrev pub StopsBy : (StoreSeen → StoreSeen → Ending → Type 0) → Status → StoreSeen → StoreSeen → SinkSeen → SinkSeen → Type 0
StopsBy Stops s old new before after = (e : Ending) × Stops old new e × CountsFaults e old new × Refuses e s before after

-- a call comes to one of the endings that are allowed by what the store was and is, with its count of faults
abbrev pub EndsBy : (StoreSeen → StoreSeen → Ending → Type 0) → Status → Outside → Outside → Type 0
EndsBy Comes s old new =
    (e : Ending) × Comes old.store new.store e × CountsFaults e old.store new.store × Leaves e s old.sinks new.sinks

-- the status of a call
abbrev pub status_of : Result (Unit {0}) Status → Status
status_of (Ok done) = status.Done
status_of (Err s) = s
