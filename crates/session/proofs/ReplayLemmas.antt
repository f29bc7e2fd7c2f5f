-- What a script's events note, replayed from the machine's start.
use Rattle.std.proofs.Common.{◌≡◌, ℕ, ◌≤◌, arith, refl, sym, ◌∙◌, subst, false, All, List, [], ◌∷◌, Option, Some}
use Rattle.cfg_tree.proofs.ValidLemmas.{valid_config}
use Rattle.cfg_tree.specs.Reading.{ParsesConfig}
use Rattle.cfg_tree.specs.Valid.{IsValidConfig}
use Rattle.cfg_tree.specs.declared.config.Config.{Config}
use Rattle.elf_image.proofs.RamLaws.{length-ram_of}
use Rattle.elf_image.specs.Image.{LiesInRam}
use Rattle.elf_image.specs.Ram.{ram_of}
use Rattle.elf_image.specs.declared.image.Image.{Image}
use Rattle.ev_queue.specs.declared.slot.Slot.{Slot}
use Rattle.gc_outside.specs.Store.{Files}
use Rattle.gm_words.specs.Platform.{platform}
use Rattle.gm_words.specs.Slots.{given_table}
use Rattle.gm_words.specs.declared.goal.Goal.{Goal}
use Rattle.gm_model.proofs.RunEnds.{runs_end}
use Rattle.gm_model.specs.Fire.{Ran, timed_run}
use Rattle.gm_model.specs.ObjState.{ObjState}
use Rattle.gm_model.specs.Picks.{Input, picked}
use Rattle.gm_model.specs.Run.{run_to}
use Rattle.gm_model.specs.Start.{start_state}
use Rattle.gm_model.specs.Sys.{Sys}
use Rattle.gm_model.specs.View.{program_state}
use Rattle.gm_words.specs.Replay.{ProgramState, replay}
use Rattle.gm_words.specs.declared.entry.Entry.{Entry}
use Rattle.kernel.specs.Input.{input_given}
use Rattle.gm_system.proofs.ForKernel.{built_sound, fed_state, fed_steady, resumed_sound, run_steady, run_replayed, no_run, run_then, traced_steady, wired_then}
use Rattle.gm_system.specs.Machine.{IsSteady}
use Rattle.gm_system.specs.Runs.{Replays, IsRunReplayed}
use Rattle.gm_system.specs.System.{IsWiredAlike}
use Rattle.session.proofs.ImageLemmas.{image_in_ram}
use Rattle.session.specs.Replayed.{ScriptsAreReplayed, ReplaysScript}
use Rattle.session.specs.Script.{Written, stop_written, script_written, machine_start}
use Rattle.stop_script.specs.declared.stop.Stop.{Stop}
use Rattle.stop_script.specs.declared.stop.Stop.TheVariants as stops

-- what was noted on the way to w is replayed from s on, and the machine is as fit to go on as before
record IsWrittenReplayed (s : Sys) (w : Written) (table : List Slot) : Type 0 where
  steady : IsSteady w.sys table
  wiring : IsWiredAlike s w.sys
  replays : Replays s w.history w.sys

nothing_written : (s : Sys) (w : Written) (table : List Slot) → w.sys ≡ s → w.history ≡ [] → IsSteady s table → IsWrittenReplayed s w table
nothing_written s w table e n h = record {
  steady = subst (λ t. IsSteady t table) (sym e) h;
  wiring = subst (IsWiredAlike s) (sym e) (record { wires = refl; ways = refl; routes = refl });
  replays = subst (λ es. Replays s es w.sys) (sym n) (subst (Replays s []) (sym e) (no_run s));
}

ran : (s : Sys) (r : Ran) (table : List Slot) (e : Ran) → r ≡ e → IsSteady e.sys table × IsRunReplayed s e → IsSteady r.sys table × IsRunReplayed s r
ran s r table e same h = subst (λ x. IsSteady x.sys table × IsRunReplayed s x) (sym same) h

-- the machine leads to w without an event, and the program's state stays
silent_replayed : (s : Sys) (w : Written) (table : List Slot) → IsSteady w.sys table → IsWiredAlike s w.sys → program_state w.sys [] ≡ program_state s [] → w.history ≡ []
    → IsWrittenReplayed s w table
silent_replayed s w table h alike e n = record {
  steady = h;
  wiring = alike;
  replays = (let P : ProgramState → Type 0 = λ p. replay s.routes (program_state s []) [] ≡ Some p in
      let Q : List Entry → Type 0 = λ es. replay s.routes (program_state s []) es ≡ Some (program_state w.sys []) in
      subst Q (sym n) (subst P (sym e) (no_run s)));
}

-- bytes of input come
pub record IsFed (s t : Sys) (table : List Slot) : Type 0 where
  pub steady : IsSteady t table
  pub wiring : IsWiredAlike s t
  pub state : program_state t [] ≡ program_state s []

input_replayed : (bytes : List ℕ) (s : Sys) (table : List Slot) → IsSteady s table → IsFed s (input_given bytes s) table
input_replayed [] s table h = record { steady = h; wiring = record { wires = refl; ways = refl; routes = refl }; state = refl }
input_replayed (b ∷ bytes) s table h =
    let t : Sys = (picked s (Input b)).sys in
    let later = input_replayed bytes t table (fed_steady s table b h) in
    record {
      steady = later.steady;
      wiring = wired_then s t (input_given bytes t) (record { wires = refl; ways = refl; routes = refl }) later.wiring;
      state = later.state ∙ fed_state s table b h;
    }

stop_replayed : (c : Config) (s : Sys) (x : Stop) (table : List Slot) → IsSteady s table → IsWrittenReplayed s (stop_written c s x) table
stop_replayed c s (stops.Run until) table h =
    let g : Goal = record { until = until; budget = c.system_budget } in
    let n = (run_to s g).events in
    let k = ran s (run_to s g).ran table (timed_run s n) (runs_end.run s g).ran (run_steady s table n h, run_replayed s table n h) in
    record { steady = k.0; wiring = k.1.wiring; replays = k.1.replays }
stop_replayed c s stops.Regs table h = nothing_written s (stop_written c s stops.Regs) table refl refl h
stop_replayed c s stops.Stats table h = nothing_written s (stop_written c s stops.Stats) table refl refl h
stop_replayed c s stops.StatsJson table h = nothing_written s (stop_written c s stops.StatsJson) table refl refl h
stop_replayed c s (stops.Input bytes) table h =
    let k = input_replayed bytes s table h in silent_replayed s (stop_written c s (stops.Input bytes)) table k.steady k.wiring k.state refl
stop_replayed c s (stops.Trace on) table h =
    silent_replayed s (stop_written c s (stops.Trace on)) table (traced_steady s table on h) (record { wires = refl; ways = refl; routes = refl }) refl refl

script_replayed : (c : Config) (s : Sys) (xs : List Stop) (table : List Slot) → IsSteady s table → IsWrittenReplayed s (script_written c s xs) table
unfolding script_written
script_replayed c s [] table h = nothing_written s (script_written c s []) table refl refl h
script_replayed c s (x ∷ xs) table h =
    let a : Written = stop_written c s x in
    let b : Written = script_written c a.sys xs in
    let k = stop_replayed c s x table h in
    let l = script_replayed c a.sys xs table k.steady in
    record {
      steady = l.steady;
      wiring = wired_then s a.sys b.sys k.wiring l.wiring;
      replays = run_then s a.sys b.sys a.history b.history k.wiring k.replays l.replays;
    }

start_steady : (c : Config) (image : Image) → IsValidConfig c → All (LiesInRam c.system_ram) image.pieces
    → IsSteady (machine_start c image) (given_table 0 (platform c))
start_steady c image v fits =
    let start = built_sound c image.entry (ram_of image c.system_ram) v (omega (arith, length-ram_of image c.system_ram fits)) in
    (resumed_sound (start_state c image.entry (ram_of image c.system_ram)) (given_table 0 (platform c)) start).steady

pub scripts_replayed : ScriptsAreReplayed
scripts_replayed c image xs v fits =
    (script_replayed c (machine_start c image) xs (given_table 0 (platform c)) (start_steady c image v fits)).replays

parsed_valid : (bytes : List ℕ) (c : Config) → ParsesConfig bytes c → IsValidConfig c
parsed_valid bytes c k = subst IsValidConfig (sym k.values) (valid_config k.table k.sound)

pub script_replays : (words : List (List ℕ)) (files : Option Files) (parts : List ObjState) → ReplaysScript words files parts
script_replays words files parts c stops image k =
    scripts_replayed c image stops (parsed_valid k.has_config.bytes c k.has_config.says) (image_in_ram k.has_image.bytes c.system_ram image k.has_image.says)
