-- What is noted of an access, and how memory is read. This project's own rules.
use Rattle.std.specs.Prelude.{ℕ, ◌-◌, ◌==◌, ◌&&◌, nat_lt, Bool, not, if◌then◌else◌, List, [], ◌∷◌, ◌++◌, take, drop, replicate}
use Rattle.rv_step.specs.Flat.{uart_base}
use Rattle.rv_step.specs.FlatMem.{ram_base}
use Rattle.pkt_pool.specs.Packet.{carried_bytes, is_write}
use Rattle.gm_words.specs.Platform.{data_source}
use Rattle.gm_words.specs.declared.entry.Entry.{Entry}
use Rattle.gm_words.specs.declared.entry.Entry.TheVariants as entries
use Rattle.pkt_pool.specs.declared.packet.Packet.{Packet}

-- the bytes of RAM that are read
abbrev pub ram_bytes : List ℕ → ℕ → ℕ → List ℕ
ram_bytes m address count = take count (drop (address - ram_base) m)

-- eight bytes of an entry: these, and zeros behind
abbrev pub entry_bytes : List ℕ → List ℕ
entry_bytes bytes = take 8 (bytes ++ replicate 8 0)

-- what is noted where request p got response r: accesses of the hart and of the DMA engine
abbrev pub served_entries : Packet → Packet → Bool → List Entry
served_entries p r device =
    if nat_lt p.src 3
    then entries.Served p.src p.id (is_write p.cmd) p.addr p.size (entry_bytes (carried_bytes r)) device r.fault ∷ []
    else []

-- the bytes that an entry brings to the console: a byte that the hart writes at the UART's offset 0, unrefused
abbrev pub console_bytes : Entry → List ℕ
console_bytes (entries.Served src id write addr size bytes device fault) =
    if (src == data_source) && write && (addr == uart_base) && (size == 1) && not fault then take 1 bytes else []
console_bytes (entries.Retired pc word) = []
console_bytes (entries.Trapped cause tval) = []
console_bytes (entries.Line bit level) = []
console_bytes entries.Slept = []
console_bytes (entries.Hit object) = []
console_bytes (entries.Miss object) = []
console_bytes (entries.Refused object) = []

-- the bytes that entries bring to the console
abbrev pub console_of : List Entry → List ℕ
console_of [] = []
console_of (e ∷ es) = console_bytes e ++ console_of es
