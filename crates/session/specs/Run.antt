-- A run in progress, as a state of the run over flat memory. Source: this project's own rule.
use Rattle.std.specs.Prelude.{ℕ, List}
use Rattle.rv_step.specs.Run.{FlatState, loaded_state}
use Rattle.elf_image.specs.Ram.{ram_of}
use Rattle.elf_image.specs.declared.image.Image.{Image}
use Rattle.session.specs.declared.flat_run.FlatRun.{FlatRun}

-- the run, whose console took these bytes since its start
abbrev pub state_with : FlatRun → List ℕ → FlatState
state_with r console = record { arch = r.arch; ram = r.ram; console = console; exit = r.exit; steps = r.steps }

-- the size of flat memory in bytes
abbrev pub flat_size : ℕ
flat_size = 16777216

-- the start: the image in RAM, zeros beside it, and the hart at its entry
abbrev pub flat_start : Image → FlatState
flat_start image = loaded_state image.entry (ram_of image flat_size)
