-- What a machine writes when it carries out a script. Source: this project's own rule.
use Rattle.std.specs.Prelude.{◌≡◌, ℕ, ◌⊎◌, true, false, List, [], ◌∷◌, ◌++◌, map, codes, decimal}
use Rattle.elf_image.specs.Ram.{ram_of}
use Rattle.elf_image.specs.declared.image.Image.{Image}
use Rattle.cfg_tree.specs.declared.config.Config.{Config}
use Rattle.gc_outside.specs.Emissions.{Emission, ToReport, line_emissions, EmitsInOrder}
use Rattle.gc_outside.specs.Sinks.{Sinks}
use Rattle.gm_model.specs.Run.{RunEnd, run_to, retired_in}
use Rattle.gm_model.specs.Start.{start_state, resumed_state}
use Rattle.gm_model.specs.Sys.{Sys}
use Rattle.gm_model.specs.View.{program_state}
use Rattle.gm_words.specs.Platform.{platform}
use Rattle.gm_words.specs.declared.entry.Entry.{Entry}
use Rattle.gm_words.specs.declared.goal.Goal.{Goal}
use Rattle.gm_words.specs.declared.goal.Reason.{Reason}
use Rattle.gm_words.specs.declared.goal.Reason.TheVariants as reasons
use Rattle.kernel.specs.Emitted.{run_emissions}
use Rattle.kernel.specs.Input.{input_given, input_taken}
use Rattle.probe_stats.specs.Counted.{counted_by}
use Rattle.probe_stats.specs.Stats.{Pair, json_text, stats_line, stats_pairs}
use Rattle.stop_script.specs.declared.stop.Stop.{Stop}
use Rattle.stop_script.specs.declared.stop.Stop.TheVariants as stops
use Rattle.session.specs.Ending.{Ending, LeavesInOrder, memory_refusal, work_done}
use Rattle.session.specs.Registers.{register_lines}
use Rattle.session.specs.declared.status.Status.{Status}
use Rattle.session.specs.declared.status.Status.TheVariants as status

-- why a run ended
abbrev pub run_reason : Reason → List ℕ
run_reason (reasons.Exit n) = codes "exit " ++ decimal n
run_reason reasons.Insts = codes "insts"
run_reason reasons.Idle = codes "idle"
run_reason reasons.TickLimit = codes "ticklimit"
run_reason reasons.Tick = codes "tick"
run_reason reasons.Limit = codes "limit"

-- the line of a run: its reason, the tick at which the machine stands, and how many instructions and events it had
abbrev pub run_line : Reason → ℕ → ℕ → ℕ → List ℕ
run_line reason tick insts events =
    codes "run " ++ run_reason reason ++ codes " at " ++ decimal tick ++ codes " insts " ++ decimal insts
    ++ codes " events " ++ decimal events ++ codes "\n"

-- a machine, what was written on the way to it, in order, and what its events noted
pub record Written : Type 0 where
  pub sys : Sys
  pub emissions : List Emission
  pub history : List Entry

-- what a run writes: what its events write, and then its line
abbrev pub run_written : Config → Sys → Goal → Written
run_written c s g =
    let r : RunEnd = run_to s g in record {
      sys = r.ran.sys;
      emissions =
          run_emissions (platform c) s g ++ ToReport (run_line r.reason r.ran.sys.tick (retired_in r.ran.entries) r.events) ∷ [];
      history = r.ran.entries;
    }

-- the machine leads here without an event, and writes this
abbrev pub silent : Sys → List Emission → Written
silent s emissions = record { sys = s; emissions = emissions; history = [] }

-- the statistics of a machine as it stands
abbrev pub statistics : Config → Sys → List Pair
statistics c s = stats_pairs (counted_by c s.counts s.rebased) s.tick

-- the line that tells how many bytes of input were taken
abbrev pub input_line : ℕ → List ℕ
input_line taken = codes "input " ++ decimal taken ++ codes "\n"

-- what one stop does with the machine of a configuration
abbrev pub stop_written : Config → Sys → Stop → Written
stop_written c s (stops.Run until) = run_written c s (record { until = until; budget = c.system_budget })
stop_written c s stops.Regs = silent s (ToReport (register_lines (program_state s []).arch) ∷ [])
stop_written c s stops.Stats = silent s (line_emissions (map (λ p. stats_line p) (statistics c s)))
stop_written c s stops.StatsJson = silent s (ToReport (json_text (statistics c s) ++ codes "\n") ∷ [])
stop_written c s (stops.Input bytes) = silent (input_given bytes s) (ToReport (input_line (input_taken bytes s)) ∷ [])
stop_written c s (stops.Trace on) = silent (record s { trace = on }) []

-- one after another
abbrev pub then_written : Written → Written → Written
then_written a b = record {
  sys = b.sys;
  emissions = a.emissions ++ b.emissions;
  history = a.history ++ b.history;
}

-- what stops do in order
unfoldable pub script_written : Config → Sys → List Stop → Written
script_written c s [] = silent s []
script_written c s (x ∷ xs) = then_written (stop_written c s x) (script_written c (stop_written c s x).sys xs)

-- at a stop that makes JSON memory may not be found: what the stops before it write was written, and then that is said
pub record WantsMemory (c : Config) (s : Sys) (list : List Stop) (e : Ending) : Type 0 where
  pub before : List Stop
  pub later : List Stop
  pub place : list ≡ before ++ stops.StatsJson ∷ later
  pub ending : e ≡ record { status = status.Memory; emissions = (script_written c s before).emissions ++ memory_refusal.emissions }

-- what a script comes to: all its stops are carried out, or memory was not found at one of them
abbrev pub ScriptComesTo : Config → Sys → List Stop → Ending → Type 0
ScriptComesTo c s list e = (e ≡ work_done (script_written c s list).emissions) ⊎ WantsMemory c s list e

-- how one stop fails with this status: a sink failed; or memory was not found, and that was said as far as the report took it
abbrev pub StopFails : Config → Sys → Stop → Status → Sinks → Sinks → Type 0
StopFails c s x answer old new =
    ((answer ≡ status.Sink) × EmitsInOrder (stop_written c s x).emissions false old new)
    ⊎ ((x ≡ stops.StatsJson) × LeavesInOrder memory_refusal answer old new)

-- the machine of a configuration with an image in RAM and the hart at its entry, once it is resumed
abbrev pub machine_start : Config → Image → Sys
machine_start c image = resumed_state (start_state c image.entry (ram_of image c.system_ram))
