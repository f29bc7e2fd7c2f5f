-- Scripts line by line: what a line says, which one is refused, and canonical texts. Source: this project's own rule.
use Rattle.std.specs.Prelude.{◌≡◌, ◌⊎◌, ℕ, ◌+◌, ◌<◌, ◌≤◌, Bool, true, false, List, [], ◌∷◌, ◌++◌, All, Option, Some, None, Ok, length, option_to_list, codes, decimal, ⊤}
use Rattle.hex.specs.Hex.{IsBytes, decode_of}
use Rattle.gc_text.specs.Hexadecimal.{hex_of}
use Rattle.gm_words.specs.declared.goal.Until.{Until}
use Rattle.gm_words.specs.declared.goal.Until.TheVariants.{Tick, Insts, End}
use Rattle.stop_script.specs.Script.{longest_line, most_lines, script_lines}
use Rattle.stop_script.specs.Stop.{most}
use Rattle.stop_script.specs.declared.script_fault.ScriptFault.{ScriptFault}
use Rattle.stop_script.specs.declared.script_fault.ScriptFault.TheVariants.{Line, NoMemory}
use Rattle.stop_script.specs.declared.stop.Stop.{Stop}
use Rattle.stop_script.specs.declared.stop.Stop.TheVariants.{Run, Regs, Stats, StatsJson, Input, Trace}

-- how far a script can ask to run: to a number that isn't too great, or to the end
abbrev pub IsSayableUntil : Until → Type 0
IsSayableUntil (Tick n) = n ≤ most
IsSayableUntil (Insts n) = n ≤ most
IsSayableUntil End = ⊤

-- a stop that a script can ask for
abbrev pub IsSayable : Stop → Type 0
IsSayable (Run until) = IsSayableUntil until
IsSayable Regs = ⊤
IsSayable Stats = ⊤
IsSayable StatsJson = ⊤
IsSayable (Input bytes) = (1 ≤ length bytes) × (length bytes ≤ 64) × IsBytes bytes
IsSayable (Trace on) = ⊤

-- the words for how far
abbrev pub until_words : Until → List ℕ
until_words (Tick n) = codes "tick " ++ decimal n
until_words (Insts n) = codes "insts " ++ decimal n
until_words End = codes "end"

-- the word for whether events are traced
abbrev pub trace_word : Bool → List ℕ
trace_word true = codes "on"
trace_word false = codes "off"

-- the canonical line of a stop, which has bytes in lower-case digits
abbrev pub stop_line : Stop → List ℕ
stop_line (Run until) = codes "run " ++ until_words until
stop_line Regs = codes "regs"
stop_line Stats = codes "stats"
stop_line StatsJson = codes "stats json"
stop_line (Input bytes) = codes "input " ++ hex_of bytes
stop_line (Trace on) = codes "trace " ++ trace_word on

-- a line of a stop: the canonical one, or one whose digits have another case
abbrev pub IsLineOf : List ℕ → Stop → Type 0
IsLineOf line (Run until) = line ≡ stop_line (Run until)
IsLineOf line Regs = line ≡ stop_line Regs
IsLineOf line Stats = line ≡ stop_line Stats
IsLineOf line StatsJson = line ≡ stop_line StatsJson
IsLineOf line (Input bytes) = (digits : List ℕ) × (line ≡ codes "input " ++ digits) × (decode_of digits ≡ Ok bytes)
IsLineOf line (Trace on) = line ≡ stop_line (Trace on)

-- a line that is empty, or begins with `#`
abbrev pub SaysNothing : List ℕ → Type 0
SaysNothing line = (line ≡ []) ⊎ ((comment : List ℕ) × (line ≡ 35 ∷ comment))

-- a line of a stop that a script can ask for
pub record SaysStop (line : List ℕ) (stop : Stop) : Type 0 where
  pub sayable : IsSayable stop
  pub spelled : IsLineOf line stop

-- what a line that isn't too long says: a stop, or nothing
abbrev pub LineSays : List ℕ → Option Stop → Type 0
LineSays line None = (length line ≤ longest_line) × SaysNothing line
LineSays line (Some stop) = SaysStop line stop

-- the stops that lines say, one line after another
abbrev pub LinesSay : List (List ℕ) → List Stop → Type 0
LinesSay [] stops = stops ≡ []
LinesSay (line ∷ lines) stops =
    (said : Option Stop) × (later : List Stop) × LineSays line said × LinesSay lines later
    × (stops ≡ option_to_list said ++ later)

-- a text of few lines that say these stops
pub record IsScript (text : List ℕ) (stops : List Stop) : Type 0 where
  pub few : length (script_lines text) ≤ most_lines
  pub said : LinesSay (script_lines text) stops

-- the first line that is refused, by its number from 1: all before it say something, and it says nothing that a line
-- may, or is one too many
pub record IsFirstRefused (text : List ℕ) (number : ℕ) : Type 0 where
  pub before : List (List ℕ)
  pub line : List ℕ
  pub after : List (List ℕ)
  pub lines : script_lines text ≡ before ++ line ∷ after
  pub counted : number ≡ length before + 1
  pub few : length before ≤ most_lines
  pub stops : List Stop
  pub said : LinesSay before stops
  pub refused : (most_lines < number) ⊎ ((said : Option Stop) → LineSays line said → ⊥)

-- a fault that names a line names the first that is refused
abbrev pub TellsRefused : ScriptFault → List ℕ → Type 0
TellsRefused (Line number) text = IsFirstRefused text number
TellsRefused NoMemory text = ⊤

-- the canonical text of stops: the line of each, ended by a line feed
abbrev pub script_text : List Stop → List ℕ
script_text [] = []
script_text (stop ∷ stops) = stop_line stop ++ 10 ∷ script_text stops

-- the canonical text of few stops that a script can ask for
pub record IsCanonical (text : List ℕ) (stops : List Stop) : Type 0 where
  pub few : length stops ≤ most_lines
  pub sayable : All IsSayable stops
  pub spelled : text ≡ script_text stops
