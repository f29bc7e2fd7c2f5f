-- A script: a text of lines, each of which says a stop or nothing. Source: this project's own rule.
use Rattle.std.specs.Prelude.{◌≡◌, ℕ, ◌+◌, ◌||◌, ◌==◌, Bool, true, nat_lt, if◌then◌else◌, List, [], ◌∷◌, ◌++◌, Option, Some, None, Result, Ok, Err, IsSome, codes, length, option_to_list, ⊤}
use Rattle.std.specs.Option.{ok_or}
use Rattle.std.specs.Result.{result_map_both}
use Rattle.gc_text.specs.LineReader.{lines_of}
use Rattle.stop_script.specs.Stop.{behind, stop_of}
use Rattle.stop_script.specs.declared.stop.Stop.{Stop}
use Rattle.stop_script.specs.declared.script_fault.ScriptFault.{ScriptFault}
use Rattle.stop_script.specs.declared.script_fault.ScriptFault.TheVariants.{Line, NoMemory}

-- the parts of a text without an empty one at the end
abbrev pub without_empty_end : List (List ℕ) → List (List ℕ)
without_empty_end [] = []
without_empty_end ([] ∷ []) = []
without_empty_end (part ∷ parts) = part ∷ without_empty_end parts

-- the lines of a script, the last of which may lack its line feed
abbrev pub script_lines : List ℕ → List (List ℕ)
script_lines text = without_empty_end (lines_of text)

-- a line that says nothing: an empty one, or one that begins with `#`
abbrev pub is_skipped : List ℕ → Bool
is_skipped [] = true
is_skipped (c ∷ line) = c == 35

-- the most lines of a script
abbrev pub most_lines : ℕ
most_lines = 256

-- the most bytes of a line, its line feed not counted
abbrev pub longest_line : ℕ
longest_line = 1024

-- a line that is refused whatever it says: one behind too many others, or a too long one
abbrev pub is_too_much : ℕ → List ℕ → Bool
is_too_much number line = nat_lt most_lines number || nat_lt longest_line (length line)

-- the stop of the line with this number, if it says one; or the number, where the line is refused
abbrev pub line_stop : ℕ → List ℕ → Result (Option Stop) ℕ
line_stop number line =
    if is_too_much number line then Err number
    else if is_skipped line then Ok None
    else result_map_both Some (λ n. n) (ok_or (stop_of line) number)

-- the stops of a line and of those behind it; or the number of the first that is refused
abbrev pub and_later : Result (Option Stop) ℕ → Result (List Stop) ℕ → Result (List Stop) ℕ
and_later (Err number) later = Err number
and_later (Ok stop) (Err number) = Err number
and_later (Ok stop) (Ok stops) = Ok (option_to_list stop ++ stops)

-- the stops of some lines, the first of which has this number; or the number of the first that is refused
abbrev pub stops_from : ℕ → List (List ℕ) → Result (List Stop) ℕ
stops_from number [] = Ok []
stops_from number (line ∷ lines) = and_later (line_stop number line) (stops_from (number + 1) lines)

-- the stops that a script says, or the number of the first line that is refused, counted from 1
abbrev pub stops_of : List ℕ → Result (List Stop) ℕ
stops_of text = stops_from 1 (script_lines text)

-- a fault that names a line names the one that is refused; want of memory may come at any text
abbrev pub TellsLine : {A : Type 0} → ScriptFault → Result A ℕ → Type 0
TellsLine (Line number) said = said ≡ Err number
TellsLine NoMemory said = ⊤

-- a fault names the line that is refused, or is want of memory for the bytes of one that begins with `input`
abbrev pub NamesLine : {A : Type 0} → ScriptFault → List ℕ → Result A ℕ → Type 0
NamesLine (Line number) line said = said ≡ Err number
NamesLine NoMemory line said = IsSome (behind (codes "input ") line)
