-- The state of a cache: its lines by set, the lines that are on their way to it, and what it has to send at its two ports.
-- This project's own rules, after caches that take requests while lines are on their way.
use Rattle.std.specs.Prelude.{ℕ, ◌-◌, ◌/◌, ◌%◌, ◌==◌, if◌then◌else◌, Bool, false, List, [], ◌∷◌, ◌++◌, map, find, replicate, slice_index_or, slice_set, Option, Some, None}
use Rattle.cache_tags.specs.Line.{Line}
use Rattle.gm_model.specs.Flows.{Outlet}
use Rattle.gm_model.specs.ObjState.{Common, common_start}
use Rattle.gm_model.specs.View.{queued_packets}
use Rattle.gm_words.specs.Flow.{Flow, quiet_flow}
use Rattle.gm_words.specs.PortUses.{request_class, response_class}
use Rattle.gm_words.specs.declared.params.Params.{Params}
use Rattle.pkt_pool.specs.declared.packet.Packet.{Packet}

-- a line that is on its way, and the requests that wait for it, the one that came first in front
pub record Register : Type 0 where
  pub address : ℕ
  pub targets : List Packet

-- a cache: the source of its own requests; how many sets it has, ways in each, registers, targets in each, and write places; how long
-- a packet takes through it; of each set its lines, the most recently used first; its registers, the one that was opened first in
-- front; what it has to send above and below; and whether the requestor above waits
pub record CacheState : Type 0 where
  pub common : Common
  pub source : ℕ
  pub sets : ℕ
  pub ways : ℕ
  pub mshrs : ℕ
  pub targets : ℕ
  pub writeq : ℕ
  pub latency : ℕ
  pub lines : List (List Line)
  pub registers : List Register
  pub answers : Flow
  pub leaving : Flow
  pub waiter : Bool

-- a cache at its start: it has no line, and nothing is on its way
abbrev pub cache_start : Params → ℕ → ℕ → ℕ → ℕ → ℕ → ℕ → ℕ → CacheState
cache_start p source sets ways mshrs targets writeq latency = record {
  common = common_start p;
  source = source;
  sets = sets;
  ways = ways;
  mshrs = mshrs;
  targets = targets;
  writeq = writeq;
  latency = latency;
  lines = replicate sets [];
  registers = [];
  answers = quiet_flow;
  leaving = quiet_flow;
  waiter = false;
}

-- Lines.

-- the address of the line that an address lies in
abbrev pub base_of : CacheState → ℕ → ℕ
base_of s a = a - a % s.common.line

-- the number of the set of an address
abbrev pub set_of : CacheState → ℕ → ℕ
set_of s a = (a / s.common.line) % s.sets

-- the lines of that set
abbrev pub set_at : CacheState → ℕ → List Line
set_at s a = slice_index_or s.lines (set_of s a) []

-- the cache with other lines in the set of an address
abbrev pub with_set : CacheState → ℕ → List Line → CacheState
with_set s a ls = record s { lines = slice_set s.lines (set_of s a) ls }

-- the line of this address in a set
abbrev pub find_line : ℕ → List Line → Option Line
find_line a ls = find (λ l. l.address == a) ls

-- the line that begins at an address, where the cache has it
abbrev pub line_in : CacheState → ℕ → Option Line
line_in s a = find_line a (set_at s a)

-- Registers.

abbrev pub find_register : ℕ → List Register → Option Register
find_register a rs = find (λ r. r.address == a) rs

-- the registers without that of a line
abbrev pub without_register : ℕ → List Register → List Register
without_register a [] = []
without_register a (r ∷ rs) = if r.address == a then rs else r ∷ without_register a rs

-- a packet more waits for a line that is on its way, behind the others
abbrev pub joined : ℕ → Packet → List Register → List Register
joined a x [] = []
joined a x (r ∷ rs) = if r.address == a then record r { targets = r.targets ++ x ∷ [] } ∷ rs else r ∷ joined a x rs

-- all packets that wait, by register
abbrev pub targets_in : List Register → List Packet
targets_in [] = []
targets_in (r ∷ rs) = r.targets ++ targets_in rs

-- The two ports.

abbrev pub above : ℕ
above = 0

abbrev pub below : ℕ
below = 1

-- where answers go out, and what leaves for memory; each has a slot of its own
abbrev pub answers_outlet : Outlet
answers_outlet = record { port = above; slot = above; class = response_class }

abbrev pub leaving_outlet : Outlet
leaving_outlet = record { port = below; slot = below; class = request_class }

-- the packets that a cache holds
abbrev pub packets_in : CacheState → List Packet
packets_in s = queued_packets s.answers.items ++ targets_in s.registers ++ queued_packets s.leaving.items
