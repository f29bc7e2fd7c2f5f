-- What a cache does: it serves accesses of lines that it has, asks for a line that it lacks, and writes dirty lines back as they leave.
-- This project's own rules. They are total: a packet that lies in no line passes through as an uncached one does.
use Rattle.std.specs.Prelude.{ℕ, zero, suc, ◌+◌, ◌-◌, ◌%◌, ◌==◌, nat_le, nat_lt, ◌&&◌, ◌||◌, not, Bool, true, false, if◌then◌else◌, List, [], ◌∷◌, ◌++◌, length, take, drop, Option, Some, None, is_some}
use Rattle.cache_tags.specs.Line.{Line, new_line, rewritten, in_front, come_in, leaving_line}
use Rattle.gm_cache.specs.State.{Register, CacheState, base_of, set_at, with_set, line_in, find_register, without_register, joined, targets_in, above, below, answers_outlet, leaving_outlet}
use Rattle.gm_model.specs.Flows.{Moved, put_in, ask_in, hold_in, again_in, gone_in, call_at}
use Rattle.gm_model.specs.Memory.{covers, queued_bytes}
use Rattle.gm_model.specs.Xbar.{first_there, read_of}
use Rattle.gm_words.specs.Changes.{Change}
use Rattle.gm_words.specs.Entries.{served_entries}
use Rattle.gm_words.specs.Flow.{Queued, OutState}
use Rattle.gm_words.specs.Moves.{Moves, no_moves}
use Rattle.gm_words.specs.declared.act.Act.{Act}
use Rattle.gm_words.specs.declared.answer.Answer.{Answer}
use Rattle.gm_words.specs.declared.answer.Answer.TheVariants as answers
use Rattle.gm_words.specs.declared.entry.Entry.{Entry}
use Rattle.gm_words.specs.declared.entry.Entry.TheVariants as entries
use Rattle.gm_words.specs.declared.wake.Wake.{Wake}
use Rattle.gm_words.specs.declared.wake.Wake.TheVariants as wakes
use Rattle.pkt_pool.specs.Packet.{carried_bytes, is_write_back, read_response, request, write_response}
use Rattle.pkt_pool.specs.declared.cmd.Cmd.{Cmd}
use Rattle.pkt_pool.specs.declared.cmd.Cmd.TheVariants as cmds
use Rattle.pkt_pool.specs.declared.packet.Packet.{Packet}

-- When a request is refused.

-- how many write-backs a queue has
abbrev pub back_bit : Cmd → ℕ
back_bit cmds.Read = 0
back_bit cmds.Write = 0
back_bit cmds.ReadResp = 0
back_bit cmds.WriteResp = 0
back_bit cmds.WriteBack = 1

unfoldable pub backs : List Queued → ℕ
backs [] = 0
backs (x ∷ xs) = back_bit x.packet.cmd + backs xs

-- a register holds as many targets as it may
abbrev pub has_full : ℕ → List Register → Bool
has_full n [] = false
has_full n (r ∷ rs) = nat_le n (length r.targets) || has_full n rs

-- a request could need a register, a target or a write place, and there may be none: each line on its way may drive a dirty one out, and
-- so may a write-back from above
unfoldable pub is_blocked : CacheState → Bool
is_blocked s =
    nat_le s.mshrs (length s.registers) || has_full s.targets s.registers
    || nat_lt (s.writeq - backs s.leaving.items) (length s.registers + 1)

-- Steps of a wake.

-- a cache in the middle of a wake: the next packet number, and what was asked for and noted so far
pub record CacheMoved : Type 0 where
  pub cache : CacheState
  pub next : ℕ
  pub acts : List Act
  pub changes : List Change
  pub entries : List Entry
  pub moves : Moves

abbrev pub begun : CacheState → ℕ → CacheMoved
begun s next = record { cache = s; next = next; acts = []; changes = []; entries = []; moves = no_moves }

abbrev pub noting : List Entry → CacheMoved → CacheMoved
noting es m = record m { entries = m.entries ++ es }

-- a step of the answers, and of what leaves
abbrev pub above_moved : Moved → CacheMoved → CacheMoved
above_moved f m =
    record m { cache = record m.cache { answers = f.flow }; acts = m.acts ++ f.acts; changes = m.changes ++ f.changes }

abbrev pub below_moved : Moved → CacheMoved → CacheMoved
below_moved f m =
    record m { cache = record m.cache { leaving = f.flow }; acts = m.acts ++ f.acts; changes = m.changes ++ f.changes }

-- a packet comes into one of the queues at a tick, and may be offered after the latency
abbrev pub sending_above : Packet → ℕ → CacheMoved → CacheMoved
sending_above x now m =
    above_moved (put_in answers_outlet x (now + m.cache.latency) m.cache.answers.items m.cache.answers.out) m

abbrev pub sending_below : Packet → ℕ → CacheMoved → CacheMoved
sending_below x now m =
    below_moved (put_in leaving_outlet x (now + m.cache.latency) m.cache.leaving.items m.cache.leaving.out) m

-- a request of the cache's own for a whole line
abbrev pub line_request : CacheState → ℕ → Cmd → ℕ → List ℕ → Packet
line_request s n cmd a bytes = request n s.source cmd a s.common.line bytes false

-- it is made, and leaves
abbrev pub requesting : Cmd → ℕ → List ℕ → ℕ → CacheMoved → CacheMoved
requesting cmd a bytes now m =
    let x : Packet = line_request m.cache m.next cmd a bytes in
    record (sending_below x now m) { next = m.next + 1; moves = record m.moves { made = m.moves.made ++ x ∷ [] } }

-- a line that leaves its set: a dirty one is written back
abbrev pub evicting : Option Line → ℕ → CacheMoved → CacheMoved
evicting None now m = m
evicting (Some v) now m = if v.dirty then requesting cmds.WriteBack v.address v.bytes now m else m

-- a line comes into its set, whose least recently used one leaves where no way is free
abbrev pub installing : Line → ℕ → CacheMoved → CacheMoved
installing l now m =
    evicting (leaving_line m.cache.ways (set_at m.cache l.address)) now
    (record m { cache = with_set m.cache l.address (come_in m.cache.ways l (set_at m.cache l.address)) })

-- a line is used: it is the most recently used one of its set
abbrev pub using : Line → CacheMoved → CacheMoved
using l m = record m { cache = with_set m.cache l.address (in_front l (set_at m.cache l.address)) }

-- a line after a request
abbrev pub line_after : Line → Packet → Cmd → Line
line_after l x cmds.Read = l
line_after l x cmds.Write = rewritten l (x.addr - l.address) (carried_bytes x)
line_after l x cmds.WriteBack = rewritten l (x.addr - l.address) (carried_bytes x)
line_after l x cmds.ReadResp = l
line_after l x cmds.WriteResp = l

-- a request becomes a response, which leaves above, and is noted
abbrev pub answering : Packet → Packet → ℕ → CacheMoved → CacheMoved
answering x y now m =
    let t : CacheMoved = noting (served_entries x y false) (sending_above y now m) in
    record t { moves = record t.moves { served = t.moves.served ++ record { request = x; response = y } ∷ [] } }

-- a write-back ends: its bytes were taken over
abbrev pub absorbing : Packet → CacheMoved → CacheMoved
absorbing x m = record m { moves = record m.moves { absorbed = m.moves.absorbed ++ x ∷ [] } }

-- what a line that serves a request answers
abbrev pub respond : Line → Packet → Cmd → ℕ → CacheMoved → CacheMoved
respond l x cmds.Read now m = answering x (read_response x (take x.size (drop (x.addr - l.address) l.bytes))) now m
respond l x cmds.Write now m = answering x (write_response x) now m
respond l x cmds.WriteBack now m = absorbing x m
respond l x cmds.ReadResp now m = m
respond l x cmds.WriteResp now m = m

-- a line serves a request, if it is there
abbrev pub serving_in : Option Line → Packet → ℕ → CacheMoved → CacheMoved
serving_in None x now m = m
serving_in (Some l) x now m = respond l x x.cmd now (using (line_after l x x.cmd) m)

abbrev pub serving : ℕ → Packet → ℕ → CacheMoved → CacheMoved
serving a x now m = serving_in (line_in m.cache a) x now m

-- it serves requests in order
unfoldable pub serving_all : ℕ → List Packet → ℕ → CacheMoved → CacheMoved
serving_all a [] now m = m
serving_all a (x ∷ xs) now m = serving_all a xs now (serving a x now m)

abbrev pub with_registers : List Register → CacheMoved → CacheMoved
with_registers rs m = record m { cache = record m.cache { registers = rs } }

-- the end of each wake: who waits is called where its request could be taken
abbrev pub calling_in : Bool → Bool → CacheMoved → CacheMoved
calling_in true false m = record m { cache = record m.cache { waiter = false }; acts = m.acts ++ call_at above ∷ [] }
calling_in true true m = m
calling_in false blocked m = m

abbrev pub calling : CacheMoved → CacheMoved
calling m = calling_in m.cache.waiter (is_blocked m.cache) m

-- Requests from above.

-- a request lies in a line of so many bytes
abbrev pub fits : ℕ → Packet → Cmd → Bool
fits line x cmds.Read = nat_le (x.addr % line + x.size) line
fits line x cmds.Write = nat_le (x.addr % line + length (carried_bytes x)) line
fits line x cmds.WriteBack = (x.addr % line == 0) && (length (carried_bytes x) == line)
fits line x cmds.ReadResp = false
fits line x cmds.WriteResp = false

abbrev pub lies_in : CacheState → Packet → Cmd → Bool
lies_in s x cmd = fits s.common.line x cmd

-- it is one of memory, and lies in a line
abbrev pub is_cached : CacheState → Packet → Bool
is_cached s x = not x.uncached && lies_in s x x.cmd

-- an access: the line is there; or it is on its way; or it is asked for
abbrev pub access_in : ℕ → Packet → ℕ → Option Line → Option Register → CacheMoved → CacheMoved
access_in a x now (Some l) r m = serving_in (Some l) x now (noting (entries.Hit (record { 0 = m.cache.common.object }) ∷ []) m)
access_in a x now None (Some r) m =
    with_registers (joined a x m.cache.registers) (noting (entries.Miss (record { 0 = m.cache.common.object }) ∷ []) m)
access_in a x now None None m =
    requesting cmds.Read a [] now
    (with_registers (m.cache.registers ++ record { address = a; targets = x ∷ [] } ∷ []) (noting (entries.Miss (record { 0 = m.cache.common.object }) ∷ []) m))

-- a write-back: its bytes are the line's; or it waits for the line; or it is the line
abbrev pub back_in : ℕ → Packet → ℕ → Option Line → Option Register → CacheMoved → CacheMoved
back_in a x now (Some l) r m = serving_in (Some l) x now m
back_in a x now None (Some r) m = with_registers (joined a x m.cache.registers) m
back_in a x now None None m = installing (new_line a true (carried_bytes x)) now (absorbing x m)

-- a packet of the line at an address
abbrev pub cached_in : ℕ → Packet → ℕ → Cmd → CacheMoved → CacheMoved
cached_in a x now cmds.Read m = access_in a x now (line_in m.cache a) (find_register a m.cache.registers) m
cached_in a x now cmds.Write m = access_in a x now (line_in m.cache a) (find_register a m.cache.registers) m
cached_in a x now cmds.WriteBack m = back_in a x now (line_in m.cache a) (find_register a m.cache.registers) m
cached_in a x now cmds.ReadResp m = m
cached_in a x now cmds.WriteResp m = m

-- a packet that is taken; one that lies in no line passes
abbrev pub taking : Packet → ℕ → Bool → CacheMoved → CacheMoved
taking x now true m = cached_in (base_of m.cache x.addr) x now x.cmd m
taking x now false m = sending_below x now m

-- Responses from below.

-- it is a line that a register waits for, and whole
abbrev pub is_fill : CacheState → Packet → Bool
is_fill s y = not y.uncached && (length (carried_bytes y) == s.common.line) && (y.addr % s.common.line == 0)

-- a line that was asked for is installed, and serves who waits for it
abbrev pub filling : Packet → List Packet → ℕ → Option Line → CacheMoved → CacheMoved
filling y targets now None m = serving_all y.addr targets now (installing (new_line y.addr false (carried_bytes y)) now m)
filling y targets now (Some l) m = serving_all y.addr targets now m

-- a response that isn't for a register passes
abbrev pub fill_in : Packet → ℕ → Option Register → CacheMoved → CacheMoved
fill_in y now None m = sending_above y now m
fill_in y now (Some r) m =
    let t : CacheMoved = with_registers (without_register y.addr m.cache.registers) m in
    filling y r.targets now (line_in t.cache y.addr) (record t { moves = record t.moves { answered = t.moves.answered ++ y ∷ [] } })

abbrev pub returning : Packet → ℕ → Bool → CacheMoved → CacheMoved
returning y now true m = fill_in y now (find_register y.addr m.cache.registers) m
returning y now false m = sending_above y now m

-- The step rule.

-- what a wake gives
pub record CacheStepped : Type 0 where
  pub moved : CacheMoved
  pub answer : Answer

abbrev pub ended : Answer → CacheMoved → CacheStepped
ended answer m = record { moved = calling m; answer = answer }

-- a request from above: it is refused exactly where the cache is blocked, and its requestor waits
abbrev pub from_above : CacheState → ℕ → Packet → ℕ → Bool → CacheStepped
from_above s next x now true = record {
  moved = noting (entries.Refused (record { 0 = s.common.object }) ∷ []) (begun (record s { waiter = true }) next);
  answer = answers.Refused;
}
from_above s next x now false = ended answers.Taken (taking x now (is_cached s x) (begun s next))

-- a packet at a port: the response to a request below, and anything else above
abbrev pub offered : CacheState → ℕ → ℕ → Packet → ℕ → CacheStepped
offered s next zero x now = from_above s next x now (is_blocked s)
offered s next (suc p) y now = ended answers.Taken (returning y now (is_fill s y) (begun s next))

-- the tick from which the packet behind the first may be offered
abbrev pub next_ready : List Queued → ℕ
next_ready [] = 0
next_ready (x ∷ []) = 0
next_ready (x ∷ y ∷ ys) = y.ready

abbrev pub later : ℕ → ℕ → ℕ
later m n = if nat_lt m n then n else m

-- a step of the queue of a port
abbrev pub port_moved : ℕ → (List Queued → OutState → Moved) → (List Queued → OutState → Moved) → CacheMoved → CacheMoved
port_moved zero f g m = above_moved (f m.cache.answers.items m.cache.answers.out) m
port_moved (suc p) f g m = below_moved (g m.cache.leaving.items m.cache.leaving.out) m

-- the first packet of a queue is gone, and the next may be offered once it is ready
abbrev pub sent_in : ℕ → ℕ → CacheMoved → CacheMoved
sent_in p now m =
    port_moved p (λ items out. gone_in answers_outlet (later now (next_ready items)) items)
    (λ items out. gone_in leaving_outlet (later now (next_ready items)) items) m

-- what a wake does to a cache, with the next packet number, at a tick
unfoldable pub cache_step : CacheState → ℕ → Wake → ℕ → CacheStepped
cache_step s next (wakes.Event slot) now =
    ended answers.Nothing (port_moved slot.0 (ask_in above) (ask_in below) (begun s next))
cache_step s next (wakes.Offer port x) now = offered s next port.0 x now
cache_step s next (wakes.Taken port) now = ended answers.Nothing (sent_in port.0 now (begun s next))
cache_step s next (wakes.Refused port) now = ended answers.Nothing (port_moved port.0 hold_in hold_in (begun s next))
cache_step s next (wakes.Retry port) now =
    ended answers.Nothing (port_moved port.0 (again_in above) (again_in below) (begun s next))
cache_step s next (wakes.Line bit level) now = record { moved = begun s next; answer = answers.Nothing }
cache_step s next (wakes.AtomicDone p latency) now = record {
  moved = record (begun s next) { moves = record no_moves { answered = p ∷ [] } };
  answer = answers.Nothing;
}

-- Packets without time.

-- so many bytes at an address of the newest write-back in a list that covers it, if one does
abbrev pub newest_bytes : List Packet → ℕ → ℕ → Option (List ℕ)
newest_bytes [] address count = None
newest_bytes (x ∷ xs) address count = first_there (newest_bytes xs address count) (own (covers x address)) where
  own : Bool → Option (List ℕ)
  own true = Some (take count (drop (address - x.addr) (carried_bytes x)))
  own false = None

-- so many bytes at an address of its line, if it is there
abbrev pub line_bytes : CacheState → ℕ → ℕ → Option (List ℕ)
line_bytes s address count = elim (line_in s (base_of s address)) [
  | Some l ↦ Some (take count (drop (address - l.address) l.bytes))
  | None ↦ None
]

-- a read gets the bytes of its line, else those of the newest write-back that waits for a line, else of the newest that leaves; and
-- another read is left as it is
abbrev pub cache_functional : CacheState → Packet → Packet
cache_functional s p =
    read_of p
    (first_there (line_bytes s p.addr p.size)
    (first_there (newest_bytes (targets_in s.registers) p.addr p.size) (queued_bytes s.leaving.items p.addr p.size)))
