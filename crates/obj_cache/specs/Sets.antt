-- The lines of a cache as contracts see them. This project's own rule.
use Rattle.std.specs.Prelude.{ℕ, ◌-◌, ◌/◌, ◌%◌, List, [], length, take, drop, slice_get, slice_index_or, slice_set, Option, Some, None}
use Rattle.cache_tags.specs.Line.{Line, in_front, come_in}
use Rattle.gm_cache.specs.State.{find_line}
use Rattle.gm_cache.specs.Rule.{line_after}
use Rattle.pkt_pool.specs.Packet.{read_response, write_response}
use Rattle.pkt_pool.specs.declared.cmd.Cmd.{Cmd}
use Rattle.pkt_pool.specs.declared.cmd.Cmd.TheVariants as cmds
use Rattle.pkt_pool.specs.declared.packet.Packet.{Packet}

-- how many ways a set has, how many bytes a line has, and of each set its lines, the most recently used first
pub record Sets : Type 0 where
  pub ways : ℕ
  pub line : ℕ
  pub lines : List (List Line)

-- the number of the set of an address
abbrev pub set_of : Sets → ℕ → ℕ
set_of s a = (a / s.line) % length s.lines

-- the lines of that set
abbrev pub set_at : Sets → ℕ → List Line
set_at s a = slice_index_or s.lines (set_of s a) []

-- the sets with other lines in that of an address
abbrev pub with_set : Sets → ℕ → List Line → Sets
with_set s a ls = record s { lines = slice_set s.lines (set_of s a) ls }

-- the n-th line of a set, the most recently used first
abbrev pub nth_in : Sets → ℕ → ℕ → Option Line
nth_in s set n = slice_get (slice_index_or s.lines set []) n

-- the line that begins at an address, where it is there
abbrev pub line_in : Sets → ℕ → Option Line
line_in s a = find_line a (set_at s a)

-- the sets once the line at an address has served a request, if it is there
abbrev pub served_in : Sets → Option Line → Packet → Sets
served_in s None x = s
served_in s (Some l) x = with_set s l.address (in_front (line_after l x x.cmd) (set_at s l.address))

-- what becomes of a request that a line serves: a response, or, of a write-back, nothing
abbrev pub response_by : Line → Packet → Cmd → Packet
response_by l x cmds.Read = read_response x (take x.size (drop (x.addr - l.address) l.bytes))
response_by l x cmds.Write = write_response x
response_by l x cmds.WriteBack = x
response_by l x cmds.ReadResp = x
response_by l x cmds.WriteResp = x

abbrev pub response_in : Option Line → Packet → Packet
response_in None x = x
response_in (Some l) x = response_by l x x.cmd

-- the sets once a line has come
abbrev pub come_to : Sets → Line → Sets
come_to s l = with_set s l.address (come_in s.ways l (set_at s l.address))

-- so many bytes at an address of its line, if that is there
abbrev pub bytes_in : Sets → ℕ → ℕ → Option (List ℕ)
bytes_in s address count = elim (line_in s (address - address % s.line)) [
  | Some l ↦ Some (take count (drop (address - l.address) l.bytes))
  | None ↦ None
]
