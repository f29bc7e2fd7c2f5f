-- What a wake means for the program: what the hart's CPU makes of it, and what other parts serve. This project's own law.
use Rattle.std.specs.Prelude.{◌≡◌, ℕ, zero, suc, ◌+◌, ◌≤◌, ◌==◌, ◌&&◌, ◌||◌, Bool, true, false, not, if◌then◌else◌, List, [], ◌∷◌, ◌++◌, length, take, Option, Some, None}
use Rattle.rv_step.specs.declared.arch.Arch.{Arch}
use Rattle.rv_step.specs.declared.demand.Demand.{Demand}
use Rattle.rv_step.specs.declared.demand.Demand.TheVariants as demand
use Rattle.rv_step.specs.Bytes.{number, bytes_of}
use Rattle.rv_step.specs.Demand.{need}
use Rattle.rv_step.specs.FlatMem.{in_ram, ram_put}
use Rattle.rv_step.specs.Retire.{finish}
use Rattle.rv_step.specs.Trap.{enter_trap, interrupt_cause, instruction_access, load_access, store_access}
use Rattle.gm_model.specs.Accesses.{fetch_request, load_request, store_request}
use Rattle.gm_words.specs.HartLine.{with_line, is_line}
use Rattle.pkt_pool.specs.Packet.{carried_bytes, is_response, read_response, write_response}
use Rattle.gm_words.specs.Platform.{is_in_ram}
use Rattle.gm_words.specs.Replay.{same_bytes, asks_nothing}
use Rattle.gm_words.specs.Routes.{Route, is_unmapped}
use Rattle.gm_words.specs.Entries.{ram_bytes, served_entries}
use Rattle.gm_words.specs.Moves.{Service, Moves}
use Rattle.gm_model.specs.View.{Mind, Doing, Boundary, Fetching, Decoded, Accessing, is_of_hart}
use Rattle.gm_words.specs.declared.act.Act.{Act}
use Rattle.gm_words.specs.declared.answer.Answer.TheVariants as answers
use Rattle.pkt_pool.specs.declared.cmd.Cmd.{Cmd}
use Rattle.pkt_pool.specs.declared.cmd.Cmd.TheVariants as cmds
use Rattle.gm_words.specs.declared.entry.Entry.{Entry}
use Rattle.gm_words.specs.declared.entry.Entry.TheVariants as entries
use Rattle.pkt_pool.specs.declared.packet.Packet.{Packet}
use Rattle.gm_words.specs.declared.wake.Wake.{Wake}
use Rattle.gm_words.specs.declared.wake.Wake.TheVariants as wakes
use Rattle.gm_laws.specs.Words.{weigh}
use Rattle.gm_laws.specs.Face.{Face, came_in, passed_packets}

abbrev pub bit : Bool → ℕ
bit true = 1
bit false = 0

-- 1 for a packet that the hart waits for
abbrev pub core : Packet → ℕ
core x = bit (is_of_hart x.src)

-- how many the hart waits for
abbrev pub owed : Doing → ℕ
owed Boundary = 0
owed Fetching = 1
owed (Decoded w) = 0
owed (Accessing w) = 1

abbrev pub is_reading : Cmd → Bool
is_reading cmds.Read = true
is_reading cmds.ReadResp = true
is_reading cmds.Write = false
is_reading cmds.WriteResp = false
is_reading cmds.WriteBack = false

abbrev pub is_writing : Cmd → Bool
is_writing cmds.Read = false
is_writing cmds.ReadResp = false
is_writing cmds.Write = true
is_writing cmds.WriteResp = true
is_writing cmds.WriteBack = false

-- what a packet asks for or answers, wherever it is on its way
pub record Content : Type 0 where
  pub cmd : Cmd
  pub addr : ℕ
  pub size : ℕ
  pub bytes : List ℕ
  pub fault : Bool

abbrev pub content_of : Packet → Content
content_of x = record { cmd = x.cmd; addr = x.addr; size = x.size; bytes = x.bytes; fault = x.fault }

-- a response from no range is a fault, and a request is none
abbrev pub is_true : List Route → Content → Bool
is_true rs x = if is_response x.cmd then (not (is_unmapped rs x.addr) || x.fault) else not x.fault

-- the fetch at pc, or its response
abbrev pub is_fetch : List Route → ℕ → Arch → Doing → Content → Bool
is_fetch rs ram a Fetching x = not a.asleep && (x.addr == a.pc) && (x.size == 4) && is_in_ram ram a.pc 4 && is_reading x.cmd && is_true rs x
is_fetch rs ram a Boundary x = false
is_fetch rs ram a (Decoded w) x = false
is_fetch rs ram a (Accessing w) x = false

-- the access that a word asks for, or its response
abbrev pub is_access : List Route → Content → Demand → Bool
is_access rs x (demand.Load address size) = (x.addr == address) && (x.size == size) && is_reading x.cmd && is_true rs x
is_access rs x (demand.Store address size v) =
    (x.addr == address) && (x.size == size) && is_writing x.cmd && is_true rs x && same_bytes (take x.size x.bytes) (bytes_of size v)
is_access rs x demand.Nothing = false
is_access rs x demand.Sleep = false
is_access rs x (demand.Trap cause tval) = false

abbrev pub is_data : List Route → Arch → Doing → Content → Bool
is_data rs a (Accessing w) x = is_access rs x (need a w)
is_data rs a Boundary x = false
is_data rs a Fetching x = false
is_data rs a (Decoded w) x = false

-- by the source: so far only the hart makes requests
abbrev pub suits : List Route → ℕ → Mind → ℕ → Content → Bool
suits rs ram m zero x = is_fetch rs ram m.arch m.doing x
suits rs ram m (suc zero) x = is_data rs m.arch m.doing x
suits rs ram m (suc (suc n)) x = false

-- a packet that may be under way while the hart stands there
abbrev pub is_expected : List Route → ℕ → Mind → Packet → Bool
is_expected rs ram m x = suits rs ram m x.src (content_of x)

-- 1 for a packet that may not be
abbrev pub bad : List Route → ℕ → Mind → Packet → ℕ
bad rs ram m x = bit (not (is_expected rs ram m x))

-- one request that is served, with what is noted, from RAM's bytes m to n
pub data IsService (rs : List Route) (q r : Packet) : List ℕ → List Entry → List ℕ → Type 0 where
  read : (m : List ℕ) → q.cmd ≡ cmds.Read → r ≡ read_response q (ram_bytes m q.addr q.size) → in_ram m q.addr q.size ≡ true
      → is_unmapped rs q.addr ≡ false → IsService rs q r m (served_entries q r false) m
  written : (m : List ℕ) → q.cmd ≡ cmds.Write → r ≡ write_response q → in_ram m q.addr q.size ≡ true
      → is_unmapped rs q.addr ≡ false → IsService rs q r m (served_entries q r false) (ram_put m q.addr (carried_bytes q))
  device_read : (m front : List ℕ) (f : Bool) → q.cmd ≡ cmds.Read → (let p = read_response q front in r ≡ record p { fault = f }) → length front ≡ q.size
      → in_ram m q.addr q.size ≡ false → is_unmapped rs q.addr ≡ false → IsService rs q r m (served_entries q r true) m
  device_written : (m : List ℕ) (f : Bool) → q.cmd ≡ cmds.Write → (let p = write_response q in r ≡ record p { fault = f })
      → in_ram m q.addr q.size ≡ false → is_unmapped rs q.addr ≡ false → IsService rs q r m (served_entries q r true) m
  nobody_read : (m front : List ℕ) → q.cmd ≡ cmds.Read → (let p = read_response q front in r ≡ record p { fault = true }) → is_unmapped rs q.addr ≡ true → IsService rs q r m [] m
  nobody_written : (m : List ℕ) → q.cmd ≡ cmds.Write → (let p = write_response q in r ≡ record p { fault = true }) → is_unmapped rs q.addr ≡ true → IsService rs q r m [] m
  unchanged : (m : List ℕ) → r ≡ q → IsService rs q r m [] m

-- an entry that says nothing of the program
abbrev pub is_silent : Entry → Bool
is_silent (entries.Hit object) = true
is_silent (entries.Miss object) = true
is_silent (entries.Refused object) = true
is_silent (entries.Served src id write addr size bytes device fault) = false
is_silent (entries.Retired pc word) = false
is_silent (entries.Trapped cause tval) = false
is_silent (entries.Line b level) = false
is_silent entries.Slept = false

-- requests that are served one after another, with what is noted
pub data Serves (rs : List Route) : List ℕ → List Service → List Entry → List ℕ → Type 0 where
  none : (m : List ℕ) → Serves rs m [] [] m
  aside : (m n : List ℕ) (vs : List Service) (e : Entry) (es : List Entry) → is_silent e ≡ true → Serves rs m vs es n → Serves rs m vs (e ∷ es) n
  serves : (m n o : List ℕ) (v : Service) (vs : List Service) (xs es : List Entry) → IsService rs v.request v.response m xs n → Serves rs n vs es o
      → Serves rs m (v ∷ vs) (xs ++ es) o

-- an instruction or a trap is over, and the hart may sleep
abbrev pub over : Entry → Bool → List Entry
over e true = e ∷ entries.Slept ∷ []
over e false = e ∷ []

abbrev pub mind : Arch → Doing → Mind
mind a d = record { arch = a; doing = d }

-- what the CPU makes of a wake: which packets it makes and consumes, what it notes, and where the hart stands then
pub data Thought (ram : ℕ) (a : Arch) : Doing → List Packet → List Packet → List Entry → Mind → Type 0 where
  silent : (d : Doing) (zs : List Packet) → weigh core zs ≡ 0 → Thought ram a d [] zs [] (mind a d)
  lined : (d : Doing) (b : ℕ) (level : Bool) → is_line b ≡ true → Thought ram a d [] [] (entries.Line b level ∷ []) (mind (with_line a b level) d)
  interrupted : (c : ℕ) → interrupt_cause a ≡ Some c
      → Thought ram a Boundary [] [] (over (entries.Trapped c 0) (enter_trap a c 0).asleep) (mind (enter_trap a c 0) Boundary)
  misfetched : interrupt_cause a ≡ None → a.asleep ≡ false → is_in_ram ram a.pc 4 ≡ false
      → Thought ram a Boundary [] [] (over (entries.Trapped instruction_access a.pc) (enter_trap a instruction_access a.pc).asleep) (mind (enter_trap a instruction_access a.pc) Boundary)
  fetches : (n : ℕ) → a.asleep ≡ false → is_in_ram ram a.pc 4 ≡ true → Thought ram a Boundary (fetch_request n a.pc ∷ []) [] [] (mind a Fetching)
  finished : (z : Packet) (w : ℕ) → w ≡ number (take 4 z.bytes) → asks_nothing (need a w) ≡ true → z.src ≡ 0 → is_response z.cmd ≡ true
      → Thought ram a Fetching [] (z ∷ []) (over (entries.Retired a.pc w) (finish a w 0).asleep) (mind (finish a w 0) Boundary)
  trapped : (z : Packet) (w c t : ℕ) → w ≡ number (take 4 z.bytes) → need a w ≡ demand.Trap c t → z.src ≡ 0 → is_response z.cmd ≡ true
      → Thought ram a Fetching [] (z ∷ []) (over (entries.Trapped c t) (enter_trap a c t).asleep) (mind (enter_trap a c t) Boundary)
  decoded : (z : Packet) (w : ℕ) → w ≡ number (take 4 z.bytes) → z.src ≡ 0 → is_response z.cmd ≡ true → Thought ram a Fetching [] (z ∷ []) [] (mind a (Decoded w))
  loads : (n w address size : ℕ) → need a w ≡ demand.Load address size → Thought ram a (Decoded w) (load_request ram n address size ∷ []) [] [] (mind a (Accessing w))
  stores : (n w address size v : ℕ) → need a w ≡ demand.Store address size v
      → Thought ram a (Decoded w) (store_request ram n address size v ∷ []) [] [] (mind a (Accessing w))
  fetched_loads : (z : Packet) (n w address size : ℕ) → w ≡ number (take 4 z.bytes) → need a w ≡ demand.Load address size → z.src ≡ 0 → is_response z.cmd ≡ true
      → Thought ram a Fetching (load_request ram n address size ∷ []) (z ∷ []) [] (mind a (Accessing w))
  fetched_stores : (z : Packet) (n w address size v : ℕ) → w ≡ number (take 4 z.bytes) → need a w ≡ demand.Store address size v → z.src ≡ 0 → is_response z.cmd ≡ true
      → Thought ram a Fetching (store_request ram n address size v ∷ []) (z ∷ []) [] (mind a (Accessing w))
  loaded : (z : Packet) (w address size : ℕ) → need a w ≡ demand.Load address size → z.fault ≡ false → z.src ≡ 1 → is_response z.cmd ≡ true
      → Thought ram a (Accessing w) [] (z ∷ []) (over (entries.Retired a.pc w) (finish a w (number (take size z.bytes))).asleep) (mind (finish a w (number (take size z.bytes))) Boundary)
  load_refused : (z : Packet) (w address size : ℕ) → need a w ≡ demand.Load address size → z.fault ≡ true → z.src ≡ 1 → is_response z.cmd ≡ true
      → Thought ram a (Accessing w) [] (z ∷ []) (over (entries.Trapped load_access address) (enter_trap a load_access address).asleep) (mind (enter_trap a load_access address) Boundary)
  stored : (z : Packet) (w address size v : ℕ) → need a w ≡ demand.Store address size v → z.fault ≡ false → z.src ≡ 1 → is_response z.cmd ≡ true
      → Thought ram a (Accessing w) [] (z ∷ []) (over (entries.Retired a.pc w) (finish a w 0).asleep) (mind (finish a w 0) Boundary)
  store_refused : (z : Packet) (w address size v : ℕ) → need a w ≡ demand.Store address size v → z.fault ≡ true → z.src ≡ 1 → is_response z.cmd ≡ true
      → Thought ram a (Accessing w) [] (z ∷ []) (over (entries.Trapped store_access address) (enter_trap a store_access address).asleep) (mind (enter_trap a store_access address) Boundary)

-- RAM's bytes as the part shows them, else those that are given
abbrev pub seen : Option (List ℕ) → List ℕ → List ℕ
seen None m = m
seen (Some n) m = n

-- what the program's law may ask of a wake: what a CPU is shown is expected, and not more than it waits for; an inactive one is shown
-- nothing of a hart; and a line is one of the hart's
pub record MayThink (rs : List Route) (ram : ℕ) (m : Mind) (f : Face) (w : Wake) : Type 0 where
  pub held : weigh (bad rs ram m) f.packets ≡ 0
  pub shows : came_in (bad rs ram m) w answers.Nothing ≡ 0
  pub owned : f.mind ≡ Some m → weigh core f.packets + came_in core w answers.Nothing ≤ owed m.doing
  pub foreign : f.mind ≡ None → f.cpu ≡ true → came_in core w answers.Nothing ≡ 0
  pub done : f.mind ≡ None → (x : Packet) (l : ℕ) → w ≡ wakes.AtomicDone x l → core x ≡ 0
  pub timed : f.cpu ≡ true → f.instant ≡ false → (x : Packet) (l : ℕ) → w ≡ wakes.AtomicDone x l → core x ≡ 0
  pub response : (x : Packet) (l : ℕ) → w ≡ wakes.AtomicDone x l → is_response x.cmd ≡ true
  pub lines : (b : ℕ) (l : Bool) → w ≡ wakes.Line b l → is_line b ≡ true

-- what a part without lines serves is right over RAM's bytes where it has them, and over any where it has none
pub record Recalls (rs : List Route) (ram : ℕ) (f g : Face) (es : List Entry) (v : Moves) : Type 0 where
  pub serves : (m : List ℕ) → length m ≡ ram → seen f.memory m ≡ m → Serves rs m v.served es (seen g.memory m)
  pub stays : f.memory ≡ None → g.memory ≡ None
  pub remains : g.memory ≡ None → f.memory ≡ None

-- what a part that isn't the active CPU does
pub record Mindless (rs : List Route) (ram : ℕ) (f g : Face) (acts : List Act) (es : List Entry) (v : Moves) : Type 0 where
  pub mind : g.mind ≡ None
  pub made : weigh core v.made ≡ 0
  pub fits : (m : Mind) → weigh (bad rs ram m) v.made ≡ 0
  pub answered : weigh core v.answered + weigh core v.absorbed ≡ 0
  pub passed : weigh core (passed_packets acts) ≡ 0
  pub recalls : f.caches ≡ false → Recalls rs ram f g es v

-- and what the active CPU does
pub record Thinks (ram : ℕ) (m : Mind) (f g : Face) (acts : List Act) (es : List Entry) (v : Moves) : Type 0 where
  pub after : Mind
  pub mind : g.mind ≡ Some after
  pub thought : Thought ram m.arch m.doing v.made v.answered es after
  pub memory : (f.memory ≡ None) × (g.memory ≡ None)
  pub served : v.served ≡ []
  pub absorbed : v.absorbed ≡ []
  pub passed : f.instant ≡ false → weigh core (passed_packets acts) ≡ 0
