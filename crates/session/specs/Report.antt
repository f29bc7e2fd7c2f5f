-- The report of a run over flat memory. Source: this project's own rule.
use Rattle.std.specs.Prelude.{List, ℕ, [], ◌∷◌, ◌++◌, codes, decimal}
use Rattle.rv_step.specs.Run.{FlatState, FlatReason, flat_reason}
use Rattle.rv_step.specs.Run as run
use Rattle.gc_outside.specs.Emissions.{Emission, ToConsole, ToReport}
use Rattle.session.specs.Registers.{register_lines}

-- why the run ended
abbrev pub reason_text : FlatReason → List ℕ
reason_text (run.Exit n) = codes "exit " ++ decimal n
reason_text run.Idle = codes "idle"
reason_text run.Count = codes "count"

-- the reason and the steps that were made
abbrev pub flat_line : FlatState → List ℕ
flat_line s = codes "flat " ++ reason_text (flat_reason s) ++ codes " steps " ++ decimal s.steps ++ 10 ∷ []

-- that line, and the registers at the end
abbrev pub flat_report : FlatState → List ℕ
flat_report s = flat_line s ++ register_lines s.arch

-- what a run that ended so wrote: its console's bytes, and then its report
abbrev pub flat_emissions : FlatState → List Emission
flat_emissions s = ToConsole s.console ∷ ToReport (flat_report s) ∷ []
