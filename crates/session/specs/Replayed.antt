-- What the events of a script note, against the instruction set over flat memory. Source: this project's own law.
use Rattle.std.specs.Prelude.{◌≡◌, ℕ, All, List, [], Option, Some, None}
use Rattle.cfg_tree.specs.Valid.{IsValidConfig}
use Rattle.cfg_tree.specs.declared.config.Config.{Config}
use Rattle.elf_image.specs.Image.{LiesInRam}
use Rattle.elf_image.specs.declared.image.Image.{Image}
use Rattle.gc_outside.specs.Store.{Files}
use Rattle.gm_model.specs.ObjState.{ObjState}
use Rattle.gm_words.specs.Replay.{replay}
use Rattle.gm_model.specs.Sys.{Sys}
use Rattle.gm_model.specs.View.{program_state}
use Rattle.kernel.specs.Build.{lacking}
use Rattle.session.specs.Inputs.{HasConfig, HasScript, HasImage}
use Rattle.session.specs.Script.{Written, script_written, machine_start}
use Rattle.session.specs.Words.{RunRequest, Machine, request_of}
use Rattle.stop_script.specs.declared.stop.Stop.{Stop}

-- the replay of all that was noted on the way leads from the program's state at the start to the one at the end
abbrev pub IsReplayedFrom : Sys → Written → Type 0
IsReplayedFrom start w = replay start.routes (program_state start []) w.history ≡ Some (program_state w.sys [])

-- so it is for each machine of a valid configuration, in either mode, with an image that lies in RAM, and each script
abbrev pub ScriptsAreReplayed : Type 0
ScriptsAreReplayed =
    (c : Config) (image : Image) (stops : List Stop) → IsValidConfig c → All (LiesInRam c.system_ram) image.pieces
    → IsReplayedFrom (machine_start c image) (script_written c (machine_start c image) stops)

-- the words name a configuration, a script and an image in these files, and the parts make a machine
pub record CarriesOut (words : List (List ℕ)) (files : Option Files) (parts : List ObjState) (c : Config)
    (stops : List Stop) (image : Image) : Type 0 where
  pub request : RunRequest
  pub asked : request_of words ≡ Some (Machine request)
  pub has_config : HasConfig request.config files c
  pub has_script : HasScript request.script files stops
  pub has_image : HasImage request.image c.system_ram files image
  pub built : lacking c parts ≡ None

-- what a call with these words notes where it carries out its script
abbrev pub ReplaysScript : List (List ℕ) → Option Files → List ObjState → Type 0
ReplaysScript words files parts =
    (c : Config) (stops : List Stop) (image : Image) → CarriesOut words files parts c stops image
    → IsReplayedFrom (machine_start c image) (script_written c (machine_start c image) stops)
