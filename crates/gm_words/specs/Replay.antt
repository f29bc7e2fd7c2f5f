-- What a run is measured by: its entries are checked, one by one, against the instruction set over flat memory.
-- This project's own rule. It knows no ticks, packets, caches or kinds of CPU.
use Rattle.std.specs.Prelude.{ℕ, ◌==◌, ◌&&◌, ◌||◌, Bool, true, false, not, if◌then◌else◌, List, [], ◌∷◌, take, Option, Some, None}
use Rattle.rv_step.specs.declared.arch.Arch.{Arch}
use Rattle.rv_step.specs.declared.demand.Demand.{Demand}
use Rattle.rv_step.specs.declared.demand.Demand.TheVariants as demand
use Rattle.rv_step.specs.Bytes.{number, bytes_of}
use Rattle.rv_step.specs.Demand.{need}
use Rattle.rv_step.specs.FlatMem.{in_ram, ram_put}
use Rattle.rv_step.specs.Retire.{finish}
use Rattle.rv_step.specs.Trap.{enter_trap, interrupt_cause, instruction_access, load_access, store_access}
use Rattle.gm_words.specs.HartLine.{with_line, is_line}
use Rattle.gm_words.specs.Platform.{fetch_source, data_source, dma_source}
use Rattle.gm_words.specs.Routes.{Route, is_unmapped}
use Rattle.gm_words.specs.Entries.{entry_bytes, ram_bytes}
use Rattle.gm_words.specs.declared.entry.Entry.{Entry}
use Rattle.gm_words.specs.declared.entry.Entry.TheVariants as entries

-- how far the current instruction is: not begun; its word was fetched; the word's access gave this number, 0 for a store;
-- or the word's access was refused
pub data Progress : Type 0 where
  AtBoundary : Progress
  Fetched : (word : ℕ) → Progress
  Accessed : (word value : ℕ) → Progress
  Faulted : (word : ℕ) → Progress

-- what a program sees of the machine: the hart's state, the current instruction, and memory as one list of bytes
pub record ProgramState : Type 0 where
  pub arch : Arch
  pub progress : Progress
  pub memory : List ℕ

-- two lists of bytes are the same
abbrev pub same_bytes : List ℕ → List ℕ → Bool
same_bytes [] [] = true
same_bytes [] (y ∷ ys) = false
same_bytes (x ∷ xs) [] = false
same_bytes (x ∷ xs) (y ∷ ys) = (x == y) && same_bytes xs ys

-- the state where the check holds
abbrev pub when : Bool → ProgramState → Option ProgramState
when true p = Some p
when false p = None

-- a served access, as its entry says
pub record Access : Type 0 where
  pub write : Bool
  pub address : ℕ
  pub size : ℕ
  pub bytes : List ℕ
  pub device : Bool
  pub fault : Bool

-- the access is an unrefused one of memory, and of these bytes where it reads
abbrev pub is_of_memory : List ℕ → Access → Bool
is_of_memory m x =
    in_ram m x.address x.size && not x.device && not x.fault
    && (x.write || same_bytes x.bytes (entry_bytes (ram_bytes m x.address x.size)))

-- memory after the access
abbrev pub memory_after : List ℕ → Access → List ℕ
memory_after m x = if x.write then ram_put m x.address (take x.size x.bytes) else m

-- the number that the access brings: what it read, or 0
abbrev pub number_of : Access → ℕ
number_of x = if x.write then 0 else number (take x.size x.bytes)

-- a fetch: between two instructions, the hart awake, four bytes of memory at pc are read
abbrev pub replay_fetch : ProgramState → Access → Progress → Option ProgramState
replay_fetch p x AtBoundary =
    when (not p.arch.asleep && not x.write && (x.address == p.arch.pc) && (x.size == 4) && is_of_memory p.memory x)
    (record p { progress = Fetched (number_of x) })
replay_fetch p x (Fetched w) = None
replay_fetch p x (Accessed w v) = None
replay_fetch p x (Faulted w) = None

-- the access is the one that the word asks for
abbrev pub is_demanded : Demand → Access → Bool
is_demanded (demand.Load address size) x = not x.write && (x.address == address) && (x.size == size)
is_demanded (demand.Store address size v) x =
    x.write && (x.address == address) && (x.size == size) && same_bytes x.bytes (entry_bytes (bytes_of size v))
is_demanded demand.Nothing x = false
is_demanded demand.Sleep x = false
is_demanded (demand.Trap cause tval) x = false

-- the access of the word w at a device: what it read is a recorded input
abbrev pub replay_device : ProgramState → Access → ℕ → Option ProgramState
replay_device p x w =
    if x.fault then Some (record p { progress = Faulted w }) else Some (record p { progress = Accessed w (number_of x) })

-- the access of the word w: memory's bytes, or a device's answer
abbrev pub replay_access : ProgramState → Access → ℕ → Option ProgramState
replay_access p x w =
    if in_ram p.memory x.address x.size
    then when (is_of_memory p.memory x) (record p { progress = Accessed w (number_of x); memory = memory_after p.memory x })
    else if x.device then replay_device p x w
    else None

-- a data access: the current word asks for it
abbrev pub replay_data : ProgramState → Access → Progress → Option ProgramState
replay_data p x (Fetched w) = if is_demanded (need p.arch w) x then replay_access p x w else None
replay_data p x AtBoundary = None
replay_data p x (Accessed w v) = None
replay_data p x (Faulted w) = None

-- a transfer of the DMA engine: eight bytes of memory
abbrev pub replay_transfer : ProgramState → Access → Option ProgramState
replay_transfer p x = when ((x.size == 8) && is_of_memory p.memory x) (record p { memory = memory_after p.memory x })

-- an access of a source
abbrev pub replay_served : ProgramState → ℕ → Access → Option ProgramState
replay_served p src x =
    if src == fetch_source then replay_fetch p x p.progress
    else if src == data_source then replay_data p x p.progress
    else if src == dma_source then replay_transfer p x
    else None

-- the word asks for no access
abbrev pub asks_nothing : Demand → Bool
asks_nothing demand.Nothing = true
asks_nothing demand.Sleep = true
asks_nothing (demand.Load address size) = false
asks_nothing (demand.Store address size v) = false
asks_nothing (demand.Trap cause tval) = false

-- the word w retires with the number v
abbrev pub retire : ProgramState → ℕ → ℕ → ProgramState
retire p w v = record p { arch = finish p.arch w v; progress = AtBoundary }

-- a retirement: of the current word at pc, which asks for no access, or whose access was made
abbrev pub replay_retired : ProgramState → ℕ → ℕ → Progress → Option ProgramState
replay_retired p pc word (Fetched w) = when ((pc == p.arch.pc) && (word == w) && asks_nothing (need p.arch w)) (retire p w 0)
replay_retired p pc word (Accessed w v) = when ((pc == p.arch.pc) && (word == w)) (retire p w v)
replay_retired p pc word AtBoundary = None
replay_retired p pc word (Faulted w) = None

-- between two instructions an interrupt is entered with its cause; without one, an awake hart traps whose pc isn't in memory
abbrev pub boundary_trap : ProgramState → ℕ → ℕ → Option ℕ → Bool
boundary_trap p cause tval (Some i) = (cause == i) && (tval == 0)
boundary_trap p cause tval None =
    not p.arch.asleep && not (in_ram p.memory p.arch.pc 4) && (cause == instruction_access) && (tval == p.arch.pc)

-- a fetched word traps by itself, or since the address of its access is of no range
abbrev pub word_trap : List Route → ℕ → ℕ → Demand → Bool
word_trap rs cause tval (demand.Trap c t) = (cause == c) && (tval == t)
word_trap rs cause tval (demand.Load address size) = (cause == load_access) && (tval == address) && is_unmapped rs address
word_trap rs cause tval (demand.Store address size v) = (cause == store_access) && (tval == address) && is_unmapped rs address
word_trap rs cause tval demand.Nothing = false
word_trap rs cause tval demand.Sleep = false

-- a word whose access was refused traps
abbrev pub access_trap : ℕ → ℕ → Demand → Bool
access_trap cause tval (demand.Load address size) = (cause == load_access) && (tval == address)
access_trap cause tval (demand.Store address size v) = (cause == store_access) && (tval == address)
access_trap cause tval demand.Nothing = false
access_trap cause tval demand.Sleep = false
access_trap cause tval (demand.Trap c t) = false

-- a trap is due, by the current instruction
abbrev pub is_trap_due : List Route → ProgramState → ℕ → ℕ → Progress → Bool
is_trap_due rs p cause tval AtBoundary = boundary_trap p cause tval (interrupt_cause p.arch)
is_trap_due rs p cause tval (Fetched w) = word_trap rs cause tval (need p.arch w)
is_trap_due rs p cause tval (Faulted w) = access_trap cause tval (need p.arch w)
is_trap_due rs p cause tval (Accessed w v) = false

-- it is between two instructions
abbrev pub is_at_boundary : Progress → Bool
is_at_boundary AtBoundary = true
is_at_boundary (Fetched w) = false
is_at_boundary (Accessed w v) = false
is_at_boundary (Faulted w) = false

-- the state after an entry, where the entry is right; the routes say which addresses are of a range
abbrev pub replay_entry : List Route → ProgramState → Entry → Option ProgramState
replay_entry rs p (entries.Served src id write addr size bytes device fault) =
    replay_served p src (record { write = write; address = addr; size = size; bytes = bytes; device = device; fault = fault })
replay_entry rs p (entries.Retired pc word) = replay_retired p pc word p.progress
replay_entry rs p (entries.Trapped cause tval) =
    when (is_trap_due rs p cause tval p.progress) (record p { arch = enter_trap p.arch cause tval; progress = AtBoundary })
replay_entry rs p (entries.Line bit level) = when (is_line bit) (record p { arch = with_line p.arch bit level })
replay_entry rs p entries.Slept = when (is_at_boundary p.progress && p.arch.asleep) p
replay_entry rs p (entries.Hit object) = Some p
replay_entry rs p (entries.Miss object) = Some p
replay_entry rs p (entries.Refused object) = Some p

-- the state after entries, where each is right
unfoldable pub replay : List Route → ProgramState → List Entry → Option ProgramState
replay rs p [] = Some p
replay rs p (e ∷ es) = elim (replay_entry rs p e) [
  | Some q ↦ replay rs q es
  | None ↦ None
]
