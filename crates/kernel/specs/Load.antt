-- A machine that is loaded with an image. This project's own rule.
use Rattle.std.specs.Prelude.{◌≡◌, ℕ, [], map, is_some, if◌then◌else◌, Some}
use Rattle.cfg_tree.specs.Valid.{IsValidConfig}
use Rattle.cfg_tree.specs.declared.config.Config.{Config}
use Rattle.rv_step.specs.Arch.{reset}
use Rattle.rv_step.specs.FlatMem.{ram_base}
use Rattle.gm_model.specs.Command.{arch_of, with_arch}
use Rattle.gm_model.specs.ObjState.{ObjState}
use Rattle.gm_model.specs.Start.{start_state}
use Rattle.gm_model.specs.Sys.{Sys}

-- the machine of a configuration is as it was built: RAM is zero, and the hart stands at RAM's first byte
pub record IsAsBuilt (c : Config) (s : Sys) : Type 0 where
  pub valid : IsValidConfig c
  pub start : s ≡ start_state c ram_base []

-- the active CPU with its hart reset to begin at an entry; any other part as it is
abbrev pub with_entry : ℕ → ObjState → ObjState
with_entry entry o = if is_some (arch_of o) then with_arch (Some (reset entry)) o else o

-- the machine with its hart reset to begin at an entry
abbrev pub entered : ℕ → Sys → Sys
entered entry s = record s { objects = map (λ o. with_entry entry o) s.objects }
