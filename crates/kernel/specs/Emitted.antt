-- What events and runs write: the console's bytes, and the lines of those events that are traced. This project's own rule.
use Rattle.std.specs.Prelude.{ℕ, zero, suc, Bool, true, false, List, [], ◌∷◌, ◌++◌, map, Option, Some, None}
use Rattle.ev_queue.specs.PendingList.{first}
use Rattle.ev_queue.specs.declared.due.Due.{Due}
use Rattle.gc_outside.specs.Emissions.{Emission, ToConsole, line_emissions}
use Rattle.gm_model.specs.Fire.{fire_first, timed_run}
use Rattle.gm_model.specs.Run.{run_to}
use Rattle.gm_model.specs.Sys.{Sys}
use Rattle.gm_words.specs.Entries.{console_of}
use Rattle.gm_words.specs.Platform.{Part}
use Rattle.gm_words.specs.declared.entry.Entry.{Entry}
use Rattle.gm_words.specs.declared.goal.Goal.{Goal}
use Rattle.probe_stats.specs.Trace.{entry_line, event_head}

-- bytes for the console, each in an emission of its own
abbrev pub byte_emissions : List ℕ → List Emission
byte_emissions bytes = map (λ b. ToConsole (b ∷ [])) bytes

-- the lines of an event that is traced: its head, and one for each entry
abbrev pub trace_lines : List Part → Due → List Entry → List (List ℕ)
trace_lines parts d entries = event_head parts d.tick d.owner.0 d.slot.0 ∷ map (λ e. entry_line parts e) entries

-- the trace of an event, where events are traced
abbrev pub trace_emissions : List Part → Bool → Due → List Entry → List Emission
trace_emissions parts true d entries = line_emissions (trace_lines parts d entries)
trace_emissions parts false d entries = []

-- what an event writes that noted these entries: the console's bytes, and behind them the trace
abbrev pub event_emissions : List Part → Bool → Due → List Entry → List Emission
event_emissions parts trace d entries = byte_emissions (console_of entries) ++ trace_emissions parts trace d entries

-- what a machine's event writes, if there is one
abbrev pub due_emissions : List Part → Sys → Option Due → List Emission
due_emissions parts s None = []
due_emissions parts s (Some d) = event_emissions parts s.trace d (fire_first s).entries

-- what the first pending event writes, if there is one
abbrev pub first_emissions : List Part → Sys → List Emission
first_emissions parts s = due_emissions parts s (first s.pending)

-- what so many events in service order write
unfoldable pub timed_emissions : List Part → Sys → ℕ → List Emission
timed_emissions parts s zero = []
timed_emissions parts s (suc n) = timed_emissions parts s n ++ first_emissions parts (timed_run s n).sys

-- what a run to a goal writes
abbrev pub run_emissions : List Part → Sys → Goal → List Emission
run_emissions parts s g = timed_emissions parts s (run_to s g).events
