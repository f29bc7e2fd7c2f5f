-- How far a run goes, and what the console gets. This project's own rules.
use Rattle.std.specs.Prelude.{◌≡◌, ℕ, zero, suc, ◌+◌, ◌<◌, nat_lt, nat_le, Bool, false, if◌then◌else◌, List, [], ◌∷◌, Option, Some, None}
use Rattle.ev_queue.specs.declared.due.Due.{Due}
use Rattle.ev_queue.specs.PendingList.{first}
use Rattle.gm_model.specs.Command.{exit_code}
use Rattle.gm_model.specs.Sys.{Sys, object_at}
use Rattle.gm_model.specs.Fire.{Ran, not_begun, one_more, timed_run}
use Rattle.rv_step.specs.Flat.{exit_base}
use Rattle.gm_words.specs.Routes.{destination}
use Rattle.gm_words.specs.declared.entry.Entry.{Entry}
use Rattle.gm_words.specs.declared.entry.Entry.TheVariants as entries
use Rattle.gm_words.specs.declared.goal.Goal.{Goal}
use Rattle.gm_words.specs.declared.goal.Reason.{Reason}
use Rattle.gm_words.specs.declared.goal.Reason.TheVariants as reasons
use Rattle.gm_words.specs.declared.goal.Until.{Until}
use Rattle.gm_words.specs.declared.goal.Until.TheVariants as untils

-- the greatest tick at which a run serves an event, 2^62
abbrev pub last_tick : ℕ
last_tick = 4611686018427387904

-- the number of instructions that retired
abbrev pub retired_in : List Entry → ℕ
retired_in [] = 0
retired_in (e ∷ es) = retired_by e + retired_in es where
  retired_by : Entry → ℕ
  retired_by (entries.Retired pc word) = 1
  retired_by (entries.Served src id write addr size bytes device fault) = 0
  retired_by (entries.Trapped cause tval) = 0
  retired_by (entries.Line bit level) = 0
  retired_by entries.Slept = 0
  retired_by (entries.Hit object) = 0
  retired_by (entries.Miss object) = 0
  retired_by (entries.Refused object) = 0

-- the number with which the guest has exited, if it has: the part that serves the exit device's addresses keeps it
abbrev pub code_at : Sys → Option ℕ → Option ℕ
code_at s None = None
code_at s (Some k) = exit_code (object_at s k)

abbrev pub exit_of : Sys → Option ℕ
exit_of s = code_at s (destination s.routes exit_base)

-- as many instructions have retired as were asked for
abbrev pub has_retired : Until → ℕ → Bool
has_retired (untils.Insts n) insts = nat_le n insts
has_retired (untils.Tick t) insts = false
has_retired untils.End insts = false

-- the tick is after the one that was asked for
abbrev pub is_late : Until → ℕ → Bool
is_late (untils.Tick t) tick = nat_lt t tick
is_late (untils.Insts n) tick = false
is_late untils.End tick = false

-- why an event of a tick isn't served, if it isn't, once n events were
abbrev pub late_reason : Goal → ℕ → ℕ → Option Reason
late_reason g n tick =
    if nat_lt last_tick tick then Some reasons.TickLimit
    else if is_late g.until tick then Some reasons.Tick
    else if nat_le g.budget n then Some reasons.Limit
    else None

-- why the next event isn't served, if it isn't
abbrev pub due_reason : Goal → ℕ → Option Due → Option Reason
due_reason g n None = Some reasons.Idle
due_reason g n (Some d) = late_reason g n d.tick

-- why a run ends after n events in which so many instructions retired, if it does: the first reason that holds
abbrev pub exit_reason : Goal → ℕ → ℕ → Sys → Option ℕ → Option Reason
exit_reason g n insts s (Some code) = Some (reasons.Exit code)
exit_reason g n insts s None = if has_retired g.until insts then Some reasons.Insts else due_reason g n (first s.pending)

abbrev pub reason_for : Goal → ℕ → ℕ → Sys → Option Reason
reason_for g n insts s = exit_reason g n insts s (exit_of s)

-- why the run r of n events ends, if it does
abbrev pub reason_at : Goal → ℕ → Ran → Option Reason
reason_at g n r = reason_for g n (retired_in r.entries) r.sys

-- a run that has ended: where it stands and what it noted, after how many events, and why
pub record RunEnd : Type 0 where
  pub ran : Ran
  pub events : ℕ
  pub reason : Reason

-- the run of n events goes on until a reason holds, for at most so many events
unfoldable pub run_on : ℕ → Goal → ℕ → Ran → RunEnd
run_on zero g n r = record { ran = r; events = n; reason = reasons.Limit }
run_on (suc fuel) g n r =
    elim (reason_at g n r) [
      | Some why ↦ record { ran = r; events = n; reason = why }
      | None ↦ run_on fuel g (suc n) (one_more r)
    ]

-- the run to a goal
unfoldable pub run_to : Sys → Goal → RunEnd
run_to s g = run_on (suc g.budget) g 0 (not_begun s)

-- the run from s to the goal ends after r's events for r's reason, and for none before
pub record EndsRun (s : Sys) (g : Goal) (r : RunEnd) : Type 0 where
  pub ran : r.ran ≡ timed_run s r.events
  pub ends : reason_at g r.events (timed_run s r.events) ≡ Some r.reason
  pub least : (k : ℕ) → k < r.events → reason_at g k (timed_run s k) ≡ None

-- each run to a goal is one of least events
pub record RunsEnd : Type 0 where
  pub run : (s : Sys) (g : Goal) → EndsRun s g (run_to s g)
