-- The trace: a line for each event, and one for each entry that it notes. This project's own rules.
use Rattle.std.specs.Prelude.{ℕ, ◌<◌, ◌≤◌, ◌==◌, Bool, if◌then◌else◌, List, [], ◌∷◌, ◌++◌, length, take, slice_get, codes, decimal}
use Rattle.std.specs.Option.{option_map_or}
use Rattle.gc_text.specs.Hexadecimal.{hex8, hex16, hex_of}
use Rattle.gm_words.specs.Platform.{Part, fetch_source, data_source}
use Rattle.gm_words.specs.declared.entry.Entry.{Entry}
use Rattle.gm_words.specs.declared.entry.Entry.TheVariants as entries

-- the path of the part with this number
abbrev pub path_at : List Part → ℕ → List ℕ
path_at parts object = option_map_or (λ p. p.path) (slice_get parts object) []

-- the letter of a source: instructions, data, or the DMA engine
abbrev pub source_letter : ℕ → List ℕ
source_letter src = if src == fetch_source then codes "i" else if src == data_source then codes "d" else codes "m"

-- what an access asks for
abbrev pub request_words : ℕ → ℕ → Bool → ℕ → List ℕ
request_words src id write addr =
    source_letter src ++ codes " " ++ decimal id ++ (if write then codes " w " else codes " r ") ++ hex16 addr

-- of how many bytes it is, who served it, the bytes, and whether it was refused
abbrev pub answer_words : ℕ → Bool → List ℕ → Bool → List ℕ
answer_words size device bytes fault =
    decimal size ++ (if device then codes " dev " else codes " ram ") ++ hex_of bytes ++ (if fault then codes " fault" else [])

-- the number of a line's level
abbrev pub level_word : Bool → List ℕ
level_word level = if level then codes " 1" else codes " 0"

-- the words of an entry, in a machine of these parts
abbrev pub entry_words : List Part → Entry → List ℕ
entry_words parts (entries.Served src id write addr size bytes device fault) =
    codes "served " ++ request_words src id.0 write addr ++ codes " " ++ answer_words size device (take size bytes) fault
entry_words parts (entries.Retired pc word) = codes "retired " ++ hex16 pc ++ codes " " ++ hex8 word
entry_words parts (entries.Trapped cause tval) = codes "trapped " ++ hex16 cause ++ codes " " ++ hex16 tval
entry_words parts (entries.Line bit level) = codes "line " ++ decimal bit ++ level_word level
entry_words parts entries.Slept = codes "slept"
entry_words parts (entries.Hit object) = codes "hit " ++ path_at parts object.0
entry_words parts (entries.Miss object) = codes "miss " ++ path_at parts object.0
entry_words parts (entries.Refused object) = codes "refused " ++ path_at parts object.0

-- the line of an entry
abbrev pub entry_line : List Part → Entry → List ℕ
entry_line parts e = entry_words parts e ++ codes "\n"

-- the lines of entries
abbrev pub entry_lines : List Part → List Entry → List ℕ
entry_lines parts [] = []
entry_lines parts (e ∷ es) = entry_line parts e ++ entry_lines parts es

-- the line of an event at a tick: its object and its slot
abbrev pub event_head : List Part → ℕ → ℕ → ℕ → List ℕ
event_head parts tick object slot =
    codes "@" ++ decimal tick ++ codes " " ++ path_at parts object ++ codes " " ++ decimal slot ++ codes "\n"
