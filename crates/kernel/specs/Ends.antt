-- How a run ends, and where a sink's fault leaves it. This project's own rule.
use Rattle.std.specs.Prelude.{◌≡◌, ℕ, zero, suc, ◌<◌, List}
use Rattle.gc_outside.specs.Faults.{Rose}
use Rattle.gc_outside.specs.Emissions.{TakesAll, TakesFront}
use Rattle.gc_outside.specs.Sinks.{Sinks}
use Rattle.gm_model.specs.Fire.{timed_run, fire_first}
use Rattle.gm_model.specs.Run.{RunEnd, run_to, retired_in}
use Rattle.gm_model.specs.Sys.{Sys}
use Rattle.gm_words.specs.Platform.{Part}
use Rattle.gm_words.specs.declared.entry.Entry.{Entry}
use Rattle.gm_words.specs.declared.goal.Goal.{Goal}
use Rattle.kernel.specs.Emitted.{first_emissions, timed_emissions}
use Rattle.kernel.specs.declared.run_end.RunEnd.{RunEnd as ToldEnd}
use Rattle.kernel.specs.declared.run_end.RunFault.{RunFault}
use Rattle.kernel.specs.declared.run_end.RunFault.TheVariants as faults

-- what is told of a run's end is so
pub record TellsEnd (told : ToldEnd) (r : RunEnd) : Type 0 where
  pub reason : told.reason ≡ r.reason
  pub insts : told.insts ≡ retired_in r.ran.entries
  pub events : told.events ≡ r.events

-- what the last of n events of a run noted; `before` if there was none
abbrev pub last_noted : Sys → List Entry → ℕ → List Entry
last_noted start before zero = before
last_noted start before (suc n) = (fire_first (timed_run start n).sys).entries

-- the run from `start` stops after a whole event, one of those that it serves: the sinks took all that the events before it
-- write, and of what it writes itself a front
pub record StopsInEvent (parts : List Part) (start : Sys) (g : Goal) (s : Sys) (noted : List Entry) (old new : Sinks) : Type 0 where
  pub before : ℕ
  pub within : before < (run_to start g).events
  pub sys : s ≡ (timed_run start (suc before)).sys
  pub entries : noted ≡ (fire_first (timed_run start before).sys).entries
  pub mid : Sinks
  pub took : TakesAll (timed_emissions parts start before) old mid
  pub refused : TakesFront (first_emissions parts (timed_run start before).sys) mid new

-- the sink that a fault names has failed
abbrev pub IsFaultOf : RunFault → (console_before console_now report_before report_now : ℕ) → Type 0
IsFaultOf faults.Console console_before console_now report_before report_now = Rose console_before console_now
IsFaultOf faults.Report console_before console_now report_before report_now = Rose report_before report_now
