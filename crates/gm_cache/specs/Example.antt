-- A small cache, computed: it is woken with requests, responses and events in turn, and what each wake gives is written out. The numbers
-- come from another interpreter of the same rule, which shares nothing with this one. This project's own example.
use Rattle.std.specs.Prelude.{◌≡◌, ℕ, zero, suc, ◌+◌, map, Bool, true, false, List, [], ◌∷◌, length}
use Rattle.cache_tags.specs.Line.{Line, new_line}
use Rattle.gm_cache.specs.State.{Register, CacheState, cache_start}
use Rattle.gm_cache.specs.Rule.{CacheStepped, cache_step, cache_functional}
use Rattle.gm_words.specs.Changes.{Change, Schedule}
use Rattle.gm_words.specs.Entries.{entry_bytes}
use Rattle.gm_words.specs.Flow.{Queued}
use Rattle.gm_words.specs.declared.act.Act.{Act}
use Rattle.gm_words.specs.declared.act.Act.TheVariants as acts
use Rattle.gm_words.specs.declared.answer.Answer.{Answer}
use Rattle.gm_words.specs.declared.answer.Answer.TheVariants as answers
use Rattle.gm_words.specs.declared.entry.Entry.{Entry}
use Rattle.gm_words.specs.declared.entry.Entry.TheVariants as entries
use Rattle.gm_words.specs.declared.own.Own.TheVariants as owns
use Rattle.gm_words.specs.declared.params.Params.{Params}
use Rattle.gm_words.specs.declared.wake.Wake.{Wake}
use Rattle.gm_words.specs.declared.wake.Wake.TheVariants as wakes
use Rattle.pkt_pool.specs.Packet.{carried_bytes, read_response, request}
use Rattle.pkt_pool.specs.declared.cmd.Cmd.{Cmd}
use Rattle.pkt_pool.specs.declared.cmd.Cmd.TheVariants as cmds
use Rattle.pkt_pool.specs.declared.packet.Packet.{Packet}

-- Wakes.

-- so many bytes, each one more than that before it
abbrev pub counted : ℕ → ℕ → List ℕ
counted v zero = []
counted v (suc n) = v ∷ counted (v + 1) n

-- requests with a number at an address: the hart's to read and to write, in memory and of a device; and, by a cache above, to read a
-- line and to write one back
abbrev pub read_of : ℕ → ℕ → ℕ → Packet
read_of n address size = request n 1 cmds.Read address size [] false

abbrev pub write_of : ℕ → ℕ → List ℕ → Packet
write_of n address bytes = request n 1 cmds.Write address (length bytes) bytes false

abbrev pub device_read_of : ℕ → ℕ → ℕ → Packet
device_read_of n address size = request n 1 cmds.Read address size [] true

abbrev pub line_read_of : ℕ → ℕ → Packet
line_read_of n address = request n 9 cmds.Read address 16 [] false

abbrev pub back_of : ℕ → ℕ → List ℕ → Packet
back_of n address bytes = request n 9 cmds.WriteBack address 16 bytes false

-- responses: a line that the cache asked for, and what a device was read for
abbrev pub fill_of : ℕ → ℕ → List ℕ → Packet
fill_of n address bytes = read_response (request n 4 cmds.Read address 16 [] false) bytes

abbrev pub device_answer_of : ℕ → ℕ → List ℕ → Packet
device_answer_of n address bytes = read_response (device_read_of n address (length bytes)) bytes

-- a wake at a tick
pub record Timed : Type 0 where
  pub tick : ℕ
  pub wake : Wake

abbrev pub at : ℕ → Wake → Timed
at tick wake = record { tick = tick; wake = wake }

abbrev pub event : ℕ → Wake
event slot = wakes.Event (record { 0 = slot })

abbrev pub offer : ℕ → Packet → Wake
offer port x = wakes.Offer (record { 0 = port }) x

abbrev pub taken : ℕ → Wake
taken port = wakes.Taken (record { 0 = port })

abbrev pub refused : ℕ → Wake
refused port = wakes.Refused (record { 0 = port })

abbrev pub retry : ℕ → Wake
retry port = wakes.Retry (record { 0 = port })

-- What a wake gives.

-- what a cache asks for: it offers a packet at a port, with its number, source, command, address, size and the bytes that it brings; or it
-- calls who waits at a port; there is nothing else
pub data Ask : Type 0 where
  Offers : (port number source : ℕ) → Cmd → (address size : ℕ) → List ℕ → Ask
  Calls : (port : ℕ) → Ask
  Else : Ask

-- the bytes that a packet brings
abbrev pub brought : Packet → Cmd → List ℕ
brought x cmds.Read = []
brought x cmds.Write = carried_bytes x
brought x cmds.WriteBack = carried_bytes x
brought x cmds.ReadResp = carried_bytes x
brought x cmds.WriteResp = []

abbrev pub ask_of : Act → Ask
ask_of (acts.Offer port x) = Offers port.0 x.id.0 x.src x.cmd x.addr x.size (brought x x.cmd)
ask_of (acts.CallRetry port) = Calls port.0
ask_of (acts.SetLine bit level) = Else
ask_of (acts.Atomic port x) = Else

-- what is noted: a hit, a miss and a refusal by this cache, and an access of the hart that was served
abbrev pub hits : Entry
hits = entries.Hit (record { 0 = 3 })

abbrev pub misses : Entry
misses = entries.Miss (record { 0 = 3 })

abbrev pub refuses : Entry
refuses = entries.Refused (record { 0 = 3 })

abbrev pub served_at : ℕ → Bool → ℕ → List ℕ → Entry
served_at n write address bytes = entries.Served 1 (record { 0 = n }) write address (length bytes) (entry_bytes bytes) false false

-- a wake is answered; then the next packet number, what was asked for, what the cache did to its events, and what was noted
pub data Row : Type 0 where
  Gives : Answer → (next : ℕ) → List Ask → List Change → List Entry → Row

abbrev pub row_of : CacheStepped → Row
row_of t = Gives t.answer t.moved.next (map ask_of t.moved.acts) t.moved.changes t.moved.entries

-- how a cache stands: its lines by set, the addresses of its registers with the numbers of who waits, the numbers of what it has to send
-- above and below, each with its tick, and whether somebody waits
pub record Seen : Type 0 where
  pub lines : List (List Line)
  pub registers : List (ℕ × List ℕ)
  pub answers : List (ℕ × ℕ)
  pub leaving : List (ℕ × ℕ)
  pub waiter : Bool

abbrev pub number_of : Packet → ℕ
number_of x = x.id.0

abbrev pub place_of : Queued → ℕ × ℕ
place_of q = (q.packet.id.0, q.ready)

abbrev pub waiting_at : Register → ℕ × List ℕ
waiting_at r = (r.address, map number_of r.targets)

abbrev pub seen_of : CacheState → Seen
seen_of s = record {
  lines = s.lines;
  registers = map waiting_at s.registers;
  answers = map place_of s.answers.items;
  leaving = map place_of s.leaving.items;
  waiter = s.waiter;
}

-- a cache and the next packet number
pub record Stage : Type 0 where
  pub cache : CacheState
  pub next : ℕ

abbrev pub stepped_at : Stage → Timed → CacheStepped
stepped_at g w = cache_step g.cache g.next w.wake w.tick

abbrev pub stage_of : CacheStepped → Stage
stage_of t = record { cache = t.moved.cache; next = t.moved.next }

-- the stage after wakes in turn
abbrev pub after : List Timed → Stage → Stage
after [] g = g
after (w ∷ ws) g = after ws (stage_of (stepped_at g w))

-- what each of them gives
abbrev pub rows_of : List Timed → Stage → List Row
rows_of [] g = []
rows_of (w ∷ ws) g = row_of (stepped_at g w) ∷ rows_of ws (stage_of (stepped_at g w))

-- what they give, and how the cache stands then
pub record Told : Type 0 where
  pub rows : List Row
  pub seen : Seen

abbrev pub told_of : List Timed → Stage → Told
told_of ws g = record { rows = rows_of ws g; seen = seen_of (after ws g).cache }

-- The cache.

abbrev pub small_params : Params
small_params = record { object = record { 0 = 3 }; line = 16; ram = 4096; own = owns.Exit 0 }

-- two sets of two ways, with lines of 16 bytes, two registers for two requests each, and so many write places; packets have a latency of
-- 10 ticks, and its own first one the number 50
abbrev pub small_cache : ℕ → Stage
small_cache places = record { cache = cache_start small_params 4 2 2 2 2 places 10; next = 50 }

-- Wakes in turn.

-- an uncached read passes; a miss asks for a line, and another request joins it, with which the register is full: a third one is refused. What
-- leaves is refused, and offered again
abbrev pub passing_wakes : List Timed
passing_wakes =
    at 0 (offer 0 (device_read_of 1 5000 4))
    ∷ at 4 (offer 0 (read_of 2 36 4))
    ∷ at 6 (offer 0 (write_of 3 40 (counted 201 2)))
    ∷ at 7 (offer 0 (read_of 4 16 8))
    ∷ at 10 (event 1)
    ∷ at 10 (taken 1)
    ∷ at 14 (event 1)
    ∷ at 14 (refused 1)
    ∷ at 15 (retry 1)
    ∷ at 15 (taken 1)
    ∷ at 20 (offer 1 (device_answer_of 1 5000 (counted 90 4)))
    ∷ []

-- the stage then
abbrev pub after_passing : Stage
after_passing = after passing_wakes (small_cache 2)

-- the fill serves both, in order, and who waits is called; then a read and a write hit, and answers go out: the next at the same tick, later, and
-- at once
abbrev pub filling_wakes : List Timed
filling_wakes =
    at 25 (offer 1 (fill_of 50 32 (counted 100 16)))
    ∷ at 26 (offer 0 (read_of 4 16 8))
    ∷ at 27 (offer 0 (read_of 5 44 4))
    ∷ at 28 (offer 0 (write_of 6 32 (counted 211 8)))
    ∷ at 30 (event 0)
    ∷ at 30 (refused 0)
    ∷ at 33 (retry 0)
    ∷ at 33 (taken 0)
    ∷ at 35 (event 0)
    ∷ at 35 (taken 0)
    ∷ at 35 (event 0)
    ∷ at 35 (refused 0)
    ∷ at 36 (event 1)
    ∷ at 36 (taken 1)
    ∷ at 40 (retry 0)
    ∷ at 40 (taken 0)
    ∷ []

-- the stage then
abbrev pub after_filling : Stage
after_filling = after filling_wakes after_passing

-- both registers are used, and a request is refused and called at the next fill; write-backs hit a clean line and a dirty one
abbrev pub writing_back_wakes : List Timed
writing_back_wakes =
    at 40 (offer 0 (line_read_of 7 48))
    ∷ at 40 (offer 0 (write_of 8 36 (counted 1 4)))
    ∷ at 40 (event 0)
    ∷ at 40 (taken 0)
    ∷ at 40 (event 0)
    ∷ at 40 (taken 0)
    ∷ at 41 (offer 1 (fill_of 51 16 (counted 120 16)))
    ∷ at 42 (offer 0 (back_of 9 16 (counted 140 16)))
    ∷ at 50 (event 1)
    ∷ at 50 (taken 1)
    ∷ at 50 (offer 1 (fill_of 52 48 (counted 160 16)))
    ∷ at 50 (offer 0 (back_of 10 32 (counted 180 16)))
    ∷ []

-- the stage then
abbrev pub after_writing_back : Stage
after_writing_back = after writing_back_wakes after_filling

-- at one tick the answer goes out first; a write-back drives a clean line out, one finds a free way, and one drives a dirty line out, which leaves
abbrev pub driving_out_wakes : List Timed
driving_out_wakes =
    at 50 (offer 0 (device_read_of 11 5008 8))
    ∷ at 51 (event 0)
    ∷ at 51 (taken 0)
    ∷ at 60 (event 0)
    ∷ at 60 (taken 0)
    ∷ at 60 (event 1)
    ∷ at 60 (taken 1)
    ∷ at 61 (offer 1 (device_answer_of 11 5008 (counted 30 8)))
    ∷ at 62 (offer 0 (read_of 12 20 4))
    ∷ at 63 (offer 0 (back_of 13 80 (counted 20 16)))
    ∷ at 64 (offer 0 (back_of 14 0 (counted 40 16)))
    ∷ at 65 (offer 0 (back_of 15 48 (counted 60 16)))
    ∷ []

-- the stage then
abbrev pub after_driving_out : Stage
after_driving_out = after driving_out_wakes after_writing_back

-- a register is used and a write-back leaves: no place is left for another, and who waits is called as it has left; a write-back joins the register
abbrev pub lacking_places_wakes : List Timed
lacking_places_wakes =
    at 66 (offer 0 (read_of 16 64 4))
    ∷ at 67 (offer 0 (back_of 17 64 (counted 80 16)))
    ∷ at 71 (event 0)
    ∷ at 71 (taken 0)
    ∷ at 72 (event 0)
    ∷ at 72 (taken 0)
    ∷ at 75 (event 1)
    ∷ at 75 (refused 1)
    ∷ at 76 (offer 0 (read_of 18 32 1))
    ∷ at 78 (retry 1)
    ∷ at 78 (taken 1)
    ∷ at 78 (offer 0 (back_of 17 64 (counted 80 16)))
    ∷ []

-- the stage then
abbrev pub after_lacking_places : Stage
after_lacking_places = after lacking_places_wakes after_driving_out

-- the fill drives a dirty line out, is read, and gets the write-back's bytes; the line that left is asked for again, behind its write-back
abbrev pub filling_over_dirty_wakes : List Timed
filling_over_dirty_wakes =
    at 78 (event 1)
    ∷ at 78 (taken 1)
    ∷ at 79 (offer 0 (read_of 18 32 1))
    ∷ at 80 (offer 1 (fill_of 54 64 (counted 220 16)))
    ∷ at 81 (offer 0 (read_of 18 32 1))
    ∷ at 82 (offer 0 (read_of 19 112 2))
    ∷ at 90 (event 0)
    ∷ at 90 (taken 0)
    ∷ at 90 (event 1)
    ∷ at 90 (taken 1)
    ∷ at 91 (event 1)
    ∷ at 91 (taken 1)
    ∷ at 91 (offer 0 (read_of 19 112 2))
    ∷ []

-- the stage then
abbrev pub after_filling_over_dirty : Stage
after_filling_over_dirty = after filling_over_dirty_wakes after_lacking_places

-- a fill that drives a dirty line out leaves the cache blocked: who waits is called only as that line has left
abbrev pub staying_blocked_wakes : List Timed
staying_blocked_wakes =
    at 92 (offer 0 (write_of 20 66 (counted 7 2)))
    ∷ at 95 (offer 1 (fill_of 56 32 (counted 10 16)))
    ∷ at 101 (event 1)
    ∷ at 101 (taken 1)
    ∷ at 105 (event 0)
    ∷ at 105 (taken 0)
    ∷ at 105 (event 1)
    ∷ at 105 (taken 1)
    ∷ at 106 (offer 0 (write_of 20 66 (counted 7 2)))
    ∷ at 107 (offer 0 (write_of 21 98 (counted 230 3)))
    ∷ at 108 (offer 0 (read_of 22 96 8))
    ∷ at 109 (offer 1 (fill_of 57 112 (counted 30 16)))
    ∷ at 116 (event 0)
    ∷ at 116 (taken 0)
    ∷ at 117 (event 1)
    ∷ at 117 (taken 1)
    ∷ at 119 (event 0)
    ∷ at 119 (taken 0)
    ∷ at 119 (event 1)
    ∷ at 119 (taken 1)
    ∷ at 119 (offer 0 (read_of 22 96 8))
    ∷ []

-- the stage then
abbrev pub after_staying_blocked : Stage
after_staying_blocked = after staying_blocked_wakes after_filling_over_dirty

-- a fill drives a clean line out, and a read sees what was written before it; then two write-backs leave, and even a hit is refused
abbrev pub filling_over_clean_wakes : List Timed
filling_over_clean_wakes =
    at 120 (offer 1 (fill_of 59 96 (counted 130 16)))
    ∷ at 121 (offer 0 (back_of 23 16 (counted 50 16)))
    ∷ at 122 (offer 0 (back_of 24 48 (counted 70 16)))
    ∷ at 123 (offer 0 (back_of 25 112 (counted 90 16)))
    ∷ at 124 (offer 0 (read_of 26 64 4))
    ∷ []

-- the stage then
abbrev pub after_filling_over_clean : Stage
after_filling_over_clean = after filling_over_clean_wakes after_staying_blocked

-- everything leaves, and who waits is called once
abbrev pub ending_wakes : List Timed
ending_wakes =
    at 130 (event 0)
    ∷ at 130 (taken 0)
    ∷ at 130 (event 0)
    ∷ at 130 (taken 0)
    ∷ at 131 (event 1)
    ∷ at 131 (taken 1)
    ∷ at 133 (event 1)
    ∷ at 133 (taken 1)
    ∷ at 134 (offer 0 (read_of 26 64 4))
    ∷ at 144 (event 0)
    ∷ at 144 (taken 0)
    ∷ []

-- the stage then
abbrev pub after_ending : Stage
after_ending = after ending_wakes after_filling_over_clean

-- where write places are left, a request is refused as both registers are used
abbrev pub using_registers_wakes : List Timed
using_registers_wakes =
    at 0 (offer 0 (read_of 1 0 4))
    ∷ at 1 (offer 0 (read_of 2 16 4))
    ∷ at 2 (offer 0 (read_of 3 4 4))
    ∷ at 10 (event 1)
    ∷ at 10 (taken 1)
    ∷ at 11 (event 1)
    ∷ at 11 (taken 1)
    ∷ at 12 (offer 1 (fill_of 50 0 (counted 100 16)))
    ∷ []

-- what each wake gives, and how the cache stands after some
pub record WakesGiveRows : Type 0 where
  pub passing : told_of passing_wakes (small_cache 2)
      ≡ record {
        rows =
            Gives answers.Taken 50 [] (Schedule 1 10 10 ∷ []) []
            ∷ Gives answers.Taken 51 [] [] (misses ∷ [])
            ∷ Gives answers.Taken 51 [] [] (misses ∷ [])
            ∷ Gives answers.Refused 51 [] [] (refuses ∷ [])
            ∷ Gives answers.Nothing 51 (Offers 1 1 1 cmds.Read 5000 4 [] ∷ []) [] []
            ∷ Gives answers.Nothing 51 [] (Schedule 1 10 14 ∷ []) []
            ∷ Gives answers.Nothing 51 (Offers 1 50 4 cmds.Read 32 16 [] ∷ []) [] []
            ∷ Gives answers.Nothing 51 [] [] []
            ∷ Gives answers.Nothing 51 (Offers 1 50 4 cmds.Read 32 16 [] ∷ []) [] []
            ∷ Gives answers.Nothing 51 [] [] []
            ∷ Gives answers.Taken 51 [] (Schedule 0 0 30 ∷ []) []
            ∷ [];
        seen = record {
          lines =
              []
              ∷ []
              ∷ [];
          registers = (32, 2 ∷ 3 ∷ []) ∷ [];
          answers = (1, 30) ∷ [];
          leaving = [];
          waiter = true;
        };
      }
  pub filling : told_of filling_wakes after_passing
      ≡ record {
        rows =
            Gives answers.Taken 51 (Calls 0 ∷ []) [] (served_at 2 false 36 (104 ∷ 105 ∷ 106 ∷ 107 ∷ []) ∷ served_at 3 true 40 (201 ∷ 202 ∷ []) ∷ [])
            ∷ Gives answers.Taken 52 [] (Schedule 1 10 36 ∷ []) (misses ∷ [])
            ∷ Gives answers.Taken 52 [] [] (hits ∷ served_at 5 false 44 (112 ∷ 113 ∷ 114 ∷ 115 ∷ []) ∷ [])
            ∷ Gives answers.Taken 52 [] [] (hits ∷ served_at 6 true 32 (211 ∷ 212 ∷ 213 ∷ 214 ∷ 215 ∷ 216 ∷ 217 ∷ 218 ∷ []) ∷ [])
            ∷ Gives answers.Nothing 52 (Offers 0 1 1 cmds.ReadResp 5000 4 (90 ∷ 91 ∷ 92 ∷ 93 ∷ []) ∷ []) [] []
            ∷ Gives answers.Nothing 52 [] [] []
            ∷ Gives answers.Nothing 52 (Offers 0 1 1 cmds.ReadResp 5000 4 (90 ∷ 91 ∷ 92 ∷ 93 ∷ []) ∷ []) [] []
            ∷ Gives answers.Nothing 52 [] (Schedule 0 0 35 ∷ []) []
            ∷ Gives answers.Nothing 52 (Offers 0 2 1 cmds.ReadResp 36 4 (104 ∷ 105 ∷ 106 ∷ 107 ∷ []) ∷ []) [] []
            ∷ Gives answers.Nothing 52 [] (Schedule 0 0 35 ∷ []) []
            ∷ Gives answers.Nothing 52 (Offers 0 3 1 cmds.WriteResp 40 2 [] ∷ []) [] []
            ∷ Gives answers.Nothing 52 [] [] []
            ∷ Gives answers.Nothing 52 (Offers 1 51 4 cmds.Read 16 16 [] ∷ []) [] []
            ∷ Gives answers.Nothing 52 [] [] []
            ∷ Gives answers.Nothing 52 (Offers 0 3 1 cmds.WriteResp 40 2 [] ∷ []) [] []
            ∷ Gives answers.Nothing 52 [] (Schedule 0 0 40 ∷ []) []
            ∷ [];
        seen = record {
          lines =
              (new_line 32 true (211 ∷ 212 ∷ 213 ∷ 214 ∷ 215 ∷ 216 ∷ 217 ∷ 218 ∷ 201 ∷ 202 ∷ 110 ∷ 111 ∷ 112 ∷ 113 ∷ 114 ∷ 115 ∷ [])
              ∷ [])
              ∷ []
              ∷ [];
          registers = (16, 4 ∷ []) ∷ [];
          answers = (5, 37) ∷ (6, 38) ∷ [];
          leaving = [];
          waiter = false;
        };
      }
  pub writing_back : told_of writing_back_wakes after_filling
      ≡ record {
        rows =
            Gives answers.Taken 53 [] (Schedule 1 10 50 ∷ []) (misses ∷ [])
            ∷ Gives answers.Refused 53 [] [] (refuses ∷ [])
            ∷ Gives answers.Nothing 53 (Offers 0 5 1 cmds.ReadResp 44 4 (112 ∷ 113 ∷ 114 ∷ 115 ∷ []) ∷ []) [] []
            ∷ Gives answers.Nothing 53 [] (Schedule 0 0 40 ∷ []) []
            ∷ Gives answers.Nothing 53 (Offers 0 6 1 cmds.WriteResp 32 8 [] ∷ []) [] []
            ∷ Gives answers.Nothing 53 [] [] []
            ∷ Gives answers.Taken 53 (Calls 0 ∷ []) (Schedule 0 0 51 ∷ []) (served_at 4 false 16 (120 ∷ 121 ∷ 122 ∷ 123 ∷ 124 ∷ 125 ∷ 126 ∷ 127 ∷ []) ∷ [])
            ∷ Gives answers.Taken 53 [] [] []
            ∷ Gives answers.Nothing 53 (Offers 1 52 4 cmds.Read 48 16 [] ∷ []) [] []
            ∷ Gives answers.Nothing 53 [] [] []
            ∷ Gives answers.Taken 53 [] [] []
            ∷ Gives answers.Taken 53 [] [] []
            ∷ [];
        seen = record {
          lines =
              (new_line 32 true (180 ∷ 181 ∷ 182 ∷ 183 ∷ 184 ∷ 185 ∷ 186 ∷ 187 ∷ 188 ∷ 189 ∷ 190 ∷ 191 ∷ 192 ∷ 193 ∷ 194 ∷ 195 ∷ [])
              ∷ [])
              ∷ (new_line 48 false (160 ∷ 161 ∷ 162 ∷ 163 ∷ 164 ∷ 165 ∷ 166 ∷ 167 ∷ 168 ∷ 169 ∷ 170 ∷ 171 ∷ 172 ∷ 173 ∷ 174 ∷ 175 ∷ [])
              ∷ new_line 16 true (140 ∷ 141 ∷ 142 ∷ 143 ∷ 144 ∷ 145 ∷ 146 ∷ 147 ∷ 148 ∷ 149 ∷ 150 ∷ 151 ∷ 152 ∷ 153 ∷ 154 ∷ 155 ∷ [])
              ∷ [])
              ∷ [];
          registers = [];
          answers = (4, 51) ∷ (7, 60) ∷ [];
          leaving = [];
          waiter = false;
        };
      }
  pub driving_out : told_of driving_out_wakes after_writing_back
      ≡ record {
        rows =
            Gives answers.Taken 53 [] (Schedule 1 10 60 ∷ []) []
            ∷ Gives answers.Nothing 53 (Offers 0 4 1 cmds.ReadResp 16 8 (120 ∷ 121 ∷ 122 ∷ 123 ∷ 124 ∷ 125 ∷ 126 ∷ 127 ∷ []) ∷ []) [] []
            ∷ Gives answers.Nothing 53 [] (Schedule 0 0 60 ∷ []) []
            ∷ Gives answers.Nothing 53
            (Offers 0 7 9 cmds.ReadResp 48 16 (160 ∷ 161 ∷ 162 ∷ 163 ∷ 164 ∷ 165 ∷ 166 ∷ 167 ∷ 168 ∷ 169 ∷ 170 ∷ 171 ∷ 172 ∷ 173 ∷ 174 ∷ 175 ∷ []) ∷ []) [] []
            ∷ Gives answers.Nothing 53 [] [] []
            ∷ Gives answers.Nothing 53 (Offers 1 11 1 cmds.Read 5008 8 [] ∷ []) [] []
            ∷ Gives answers.Nothing 53 [] [] []
            ∷ Gives answers.Taken 53 [] (Schedule 0 0 71 ∷ []) []
            ∷ Gives answers.Taken 53 [] [] (hits ∷ served_at 12 false 20 (144 ∷ 145 ∷ 146 ∷ 147 ∷ []) ∷ [])
            ∷ Gives answers.Taken 53 [] [] []
            ∷ Gives answers.Taken 53 [] [] []
            ∷ Gives answers.Taken 54 [] (Schedule 1 10 75 ∷ []) []
            ∷ [];
        seen = record {
          lines =
              (new_line 0 true (40 ∷ 41 ∷ 42 ∷ 43 ∷ 44 ∷ 45 ∷ 46 ∷ 47 ∷ 48 ∷ 49 ∷ 50 ∷ 51 ∷ 52 ∷ 53 ∷ 54 ∷ 55 ∷ [])
              ∷ new_line 32 true (180 ∷ 181 ∷ 182 ∷ 183 ∷ 184 ∷ 185 ∷ 186 ∷ 187 ∷ 188 ∷ 189 ∷ 190 ∷ 191 ∷ 192 ∷ 193 ∷ 194 ∷ 195 ∷ [])
              ∷ [])
              ∷ (new_line 48 true (60 ∷ 61 ∷ 62 ∷ 63 ∷ 64 ∷ 65 ∷ 66 ∷ 67 ∷ 68 ∷ 69 ∷ 70 ∷ 71 ∷ 72 ∷ 73 ∷ 74 ∷ 75 ∷ [])
              ∷ new_line 80 true (20 ∷ 21 ∷ 22 ∷ 23 ∷ 24 ∷ 25 ∷ 26 ∷ 27 ∷ 28 ∷ 29 ∷ 30 ∷ 31 ∷ 32 ∷ 33 ∷ 34 ∷ 35 ∷ [])
              ∷ [])
              ∷ [];
          registers = [];
          answers = (11, 71) ∷ (12, 72) ∷ [];
          leaving = (53, 75) ∷ [];
          waiter = false;
        };
      }
  pub lacking_places : told_of lacking_places_wakes after_driving_out
      ≡ record {
        rows =
            Gives answers.Taken 55 [] [] (misses ∷ [])
            ∷ Gives answers.Refused 55 [] [] (refuses ∷ [])
            ∷ Gives answers.Nothing 55 (Offers 0 11 1 cmds.ReadResp 5008 8 (30 ∷ 31 ∷ 32 ∷ 33 ∷ 34 ∷ 35 ∷ 36 ∷ 37 ∷ []) ∷ []) [] []
            ∷ Gives answers.Nothing 55 [] (Schedule 0 0 72 ∷ []) []
            ∷ Gives answers.Nothing 55 (Offers 0 12 1 cmds.ReadResp 20 4 (144 ∷ 145 ∷ 146 ∷ 147 ∷ []) ∷ []) [] []
            ∷ Gives answers.Nothing 55 [] [] []
            ∷ Gives answers.Nothing 55
            (Offers 1 53 4 cmds.WriteBack 16 16 (140 ∷ 141 ∷ 142 ∷ 143 ∷ 144 ∷ 145 ∷ 146 ∷ 147 ∷ 148 ∷ 149 ∷ 150 ∷ 151 ∷ 152 ∷ 153 ∷ 154 ∷ 155 ∷ []) ∷ []) [] []
            ∷ Gives answers.Nothing 55 [] [] []
            ∷ Gives answers.Refused 55 [] [] (refuses ∷ [])
            ∷ Gives answers.Nothing 55
            (Offers 1 53 4 cmds.WriteBack 16 16 (140 ∷ 141 ∷ 142 ∷ 143 ∷ 144 ∷ 145 ∷ 146 ∷ 147 ∷ 148 ∷ 149 ∷ 150 ∷ 151 ∷ 152 ∷ 153 ∷ 154 ∷ 155 ∷ []) ∷ []) [] []
            ∷ Gives answers.Nothing 55 (Calls 0 ∷ []) (Schedule 1 10 78 ∷ []) []
            ∷ Gives answers.Taken 55 [] [] []
            ∷ [];
        seen = record {
          lines =
              (new_line 0 true (40 ∷ 41 ∷ 42 ∷ 43 ∷ 44 ∷ 45 ∷ 46 ∷ 47 ∷ 48 ∷ 49 ∷ 50 ∷ 51 ∷ 52 ∷ 53 ∷ 54 ∷ 55 ∷ [])
              ∷ new_line 32 true (180 ∷ 181 ∷ 182 ∷ 183 ∷ 184 ∷ 185 ∷ 186 ∷ 187 ∷ 188 ∷ 189 ∷ 190 ∷ 191 ∷ 192 ∷ 193 ∷ 194 ∷ 195 ∷ [])
              ∷ [])
              ∷ (new_line 48 true (60 ∷ 61 ∷ 62 ∷ 63 ∷ 64 ∷ 65 ∷ 66 ∷ 67 ∷ 68 ∷ 69 ∷ 70 ∷ 71 ∷ 72 ∷ 73 ∷ 74 ∷ 75 ∷ [])
              ∷ new_line 80 true (20 ∷ 21 ∷ 22 ∷ 23 ∷ 24 ∷ 25 ∷ 26 ∷ 27 ∷ 28 ∷ 29 ∷ 30 ∷ 31 ∷ 32 ∷ 33 ∷ 34 ∷ 35 ∷ [])
              ∷ [])
              ∷ [];
          registers = (64, 16 ∷ 17 ∷ []) ∷ [];
          answers = [];
          leaving = (54, 76) ∷ [];
          waiter = false;
        };
      }
  pub filling_over_dirty : told_of filling_over_dirty_wakes after_lacking_places
      ≡ record {
        rows =
            Gives answers.Nothing 55 (Offers 1 54 4 cmds.Read 64 16 [] ∷ []) [] []
            ∷ Gives answers.Nothing 55 [] [] []
            ∷ Gives answers.Refused 55 [] [] (refuses ∷ [])
            ∷ Gives answers.Taken 56 (Calls 0 ∷ []) (Schedule 1 10 90 ∷ Schedule 0 0 90 ∷ []) (served_at 16 false 64 (220 ∷ 221 ∷ 222 ∷ 223 ∷ []) ∷ [])
            ∷ Gives answers.Taken 57 [] [] (misses ∷ [])
            ∷ Gives answers.Refused 57 [] [] (refuses ∷ [])
            ∷ Gives answers.Nothing 57 (Offers 0 16 1 cmds.ReadResp 64 4 (220 ∷ 221 ∷ 222 ∷ 223 ∷ []) ∷ []) [] []
            ∷ Gives answers.Nothing 57 [] [] []
            ∷ Gives answers.Nothing 57
            (Offers 1 55 4 cmds.WriteBack 32 16 (180 ∷ 181 ∷ 182 ∷ 183 ∷ 184 ∷ 185 ∷ 186 ∷ 187 ∷ 188 ∷ 189 ∷ 190 ∷ 191 ∷ 192 ∷ 193 ∷ 194 ∷ 195 ∷ []) ∷ []) [] []
            ∷ Gives answers.Nothing 57 (Calls 0 ∷ []) (Schedule 1 10 91 ∷ []) []
            ∷ Gives answers.Nothing 57 (Offers 1 56 4 cmds.Read 32 16 [] ∷ []) [] []
            ∷ Gives answers.Nothing 57 [] [] []
            ∷ Gives answers.Taken 58 [] (Schedule 1 10 101 ∷ []) (misses ∷ [])
            ∷ [];
        seen = record {
          lines =
              (new_line 64 true (80 ∷ 81 ∷ 82 ∷ 83 ∷ 84 ∷ 85 ∷ 86 ∷ 87 ∷ 88 ∷ 89 ∷ 90 ∷ 91 ∷ 92 ∷ 93 ∷ 94 ∷ 95 ∷ [])
              ∷ new_line 0 true (40 ∷ 41 ∷ 42 ∷ 43 ∷ 44 ∷ 45 ∷ 46 ∷ 47 ∷ 48 ∷ 49 ∷ 50 ∷ 51 ∷ 52 ∷ 53 ∷ 54 ∷ 55 ∷ [])
              ∷ [])
              ∷ (new_line 48 true (60 ∷ 61 ∷ 62 ∷ 63 ∷ 64 ∷ 65 ∷ 66 ∷ 67 ∷ 68 ∷ 69 ∷ 70 ∷ 71 ∷ 72 ∷ 73 ∷ 74 ∷ 75 ∷ [])
              ∷ new_line 80 true (20 ∷ 21 ∷ 22 ∷ 23 ∷ 24 ∷ 25 ∷ 26 ∷ 27 ∷ 28 ∷ 29 ∷ 30 ∷ 31 ∷ 32 ∷ 33 ∷ 34 ∷ 35 ∷ [])
              ∷ [])
              ∷ [];
          registers = (32, 18 ∷ []) ∷ (112, 19 ∷ []) ∷ [];
          answers = [];
          leaving = (57, 101) ∷ [];
          waiter = false;
        };
      }
  pub staying_blocked : told_of staying_blocked_wakes after_filling_over_dirty
      ≡ record {
        rows =
            Gives answers.Refused 58 [] [] (refuses ∷ [])
            ∷ Gives answers.Taken 59 [] (Schedule 0 0 105 ∷ []) (served_at 18 false 32 (10 ∷ []) ∷ [])
            ∷ Gives answers.Nothing 59 (Offers 1 57 4 cmds.Read 112 16 [] ∷ []) [] []
            ∷ Gives answers.Nothing 59 [] (Schedule 1 10 105 ∷ []) []
            ∷ Gives answers.Nothing 59 (Offers 0 18 1 cmds.ReadResp 32 1 (10 ∷ []) ∷ []) [] []
            ∷ Gives answers.Nothing 59 [] [] []
            ∷ Gives answers.Nothing 59
            (Offers 1 58 4 cmds.WriteBack 0 16 (40 ∷ 41 ∷ 42 ∷ 43 ∷ 44 ∷ 45 ∷ 46 ∷ 47 ∷ 48 ∷ 49 ∷ 50 ∷ 51 ∷ 52 ∷ 53 ∷ 54 ∷ 55 ∷ []) ∷ []) [] []
            ∷ Gives answers.Nothing 59 (Calls 0 ∷ []) [] []
            ∷ Gives answers.Taken 59 [] (Schedule 0 0 116 ∷ []) (hits ∷ served_at 20 true 66 (7 ∷ 8 ∷ []) ∷ [])
            ∷ Gives answers.Taken 60 [] (Schedule 1 10 117 ∷ []) (misses ∷ [])
            ∷ Gives answers.Refused 60 [] [] (refuses ∷ [])
            ∷ Gives answers.Taken 61 [] [] (served_at 19 false 112 (30 ∷ 31 ∷ []) ∷ [])
            ∷ Gives answers.Nothing 61 (Offers 0 20 1 cmds.WriteResp 66 2 [] ∷ []) [] []
            ∷ Gives answers.Nothing 61 [] (Schedule 0 0 119 ∷ []) []
            ∷ Gives answers.Nothing 61 (Offers 1 59 4 cmds.Read 96 16 [] ∷ []) [] []
            ∷ Gives answers.Nothing 61 [] (Schedule 1 10 119 ∷ []) []
            ∷ Gives answers.Nothing 61 (Offers 0 19 1 cmds.ReadResp 112 2 (30 ∷ 31 ∷ []) ∷ []) [] []
            ∷ Gives answers.Nothing 61 [] [] []
            ∷ Gives answers.Nothing 61
            (Offers 1 60 4 cmds.WriteBack 80 16 (20 ∷ 21 ∷ 22 ∷ 23 ∷ 24 ∷ 25 ∷ 26 ∷ 27 ∷ 28 ∷ 29 ∷ 30 ∷ 31 ∷ 32 ∷ 33 ∷ 34 ∷ 35 ∷ []) ∷ []) [] []
            ∷ Gives answers.Nothing 61 (Calls 0 ∷ []) [] []
            ∷ Gives answers.Taken 61 [] [] (misses ∷ [])
            ∷ [];
        seen = record {
          lines =
              (new_line 64 true (80 ∷ 81 ∷ 7 ∷ 8 ∷ 84 ∷ 85 ∷ 86 ∷ 87 ∷ 88 ∷ 89 ∷ 90 ∷ 91 ∷ 92 ∷ 93 ∷ 94 ∷ 95 ∷ [])
              ∷ new_line 32 false (10 ∷ 11 ∷ 12 ∷ 13 ∷ 14 ∷ 15 ∷ 16 ∷ 17 ∷ 18 ∷ 19 ∷ 20 ∷ 21 ∷ 22 ∷ 23 ∷ 24 ∷ 25 ∷ [])
              ∷ [])
              ∷ (new_line 112 false (30 ∷ 31 ∷ 32 ∷ 33 ∷ 34 ∷ 35 ∷ 36 ∷ 37 ∷ 38 ∷ 39 ∷ 40 ∷ 41 ∷ 42 ∷ 43 ∷ 44 ∷ 45 ∷ [])
              ∷ new_line 48 true (60 ∷ 61 ∷ 62 ∷ 63 ∷ 64 ∷ 65 ∷ 66 ∷ 67 ∷ 68 ∷ 69 ∷ 70 ∷ 71 ∷ 72 ∷ 73 ∷ 74 ∷ 75 ∷ [])
              ∷ [])
              ∷ [];
          registers = (96, 21 ∷ 22 ∷ []) ∷ [];
          answers = [];
          leaving = [];
          waiter = false;
        };
      }
  pub filling_over_clean : told_of filling_over_clean_wakes after_staying_blocked
      ≡ record {
        rows =
            Gives answers.Taken 61 [] (Schedule 0 0 130 ∷ [])
            (served_at 21 true 98 (230 ∷ 231 ∷ 232 ∷ []) ∷ served_at 22 false 96 (130 ∷ 131 ∷ 230 ∷ 231 ∷ 232 ∷ 135 ∷ 136 ∷ 137 ∷ []) ∷ [])
            ∷ Gives answers.Taken 62 [] (Schedule 1 10 131 ∷ []) []
            ∷ Gives answers.Taken 62 [] [] []
            ∷ Gives answers.Taken 63 [] [] []
            ∷ Gives answers.Refused 63 [] [] (refuses ∷ [])
            ∷ [];
        seen = record {
          lines =
              (new_line 96 true (130 ∷ 131 ∷ 230 ∷ 231 ∷ 232 ∷ 135 ∷ 136 ∷ 137 ∷ 138 ∷ 139 ∷ 140 ∷ 141 ∷ 142 ∷ 143 ∷ 144 ∷ 145 ∷ [])
              ∷ new_line 64 true (80 ∷ 81 ∷ 7 ∷ 8 ∷ 84 ∷ 85 ∷ 86 ∷ 87 ∷ 88 ∷ 89 ∷ 90 ∷ 91 ∷ 92 ∷ 93 ∷ 94 ∷ 95 ∷ [])
              ∷ [])
              ∷ (new_line 112 true (90 ∷ 91 ∷ 92 ∷ 93 ∷ 94 ∷ 95 ∷ 96 ∷ 97 ∷ 98 ∷ 99 ∷ 100 ∷ 101 ∷ 102 ∷ 103 ∷ 104 ∷ 105 ∷ [])
              ∷ new_line 48 true (70 ∷ 71 ∷ 72 ∷ 73 ∷ 74 ∷ 75 ∷ 76 ∷ 77 ∷ 78 ∷ 79 ∷ 80 ∷ 81 ∷ 82 ∷ 83 ∷ 84 ∷ 85 ∷ [])
              ∷ [])
              ∷ [];
          registers = [];
          answers = (21, 130) ∷ (22, 130) ∷ [];
          leaving = (61, 131) ∷ (62, 133) ∷ [];
          waiter = true;
        };
      }
  pub ending : told_of ending_wakes after_filling_over_clean
      ≡ record {
        rows =
            Gives answers.Nothing 63 (Offers 0 21 1 cmds.WriteResp 98 3 [] ∷ []) [] []
            ∷ Gives answers.Nothing 63 [] (Schedule 0 0 130 ∷ []) []
            ∷ Gives answers.Nothing 63 (Offers 0 22 1 cmds.ReadResp 96 8 (130 ∷ 131 ∷ 230 ∷ 231 ∷ 232 ∷ 135 ∷ 136 ∷ 137 ∷ []) ∷ []) [] []
            ∷ Gives answers.Nothing 63 [] [] []
            ∷ Gives answers.Nothing 63
            (Offers 1 61 4 cmds.WriteBack 48 16 (60 ∷ 61 ∷ 62 ∷ 63 ∷ 64 ∷ 65 ∷ 66 ∷ 67 ∷ 68 ∷ 69 ∷ 70 ∷ 71 ∷ 72 ∷ 73 ∷ 74 ∷ 75 ∷ []) ∷ []) [] []
            ∷ Gives answers.Nothing 63 (Calls 0 ∷ []) (Schedule 1 10 133 ∷ []) []
            ∷ Gives answers.Nothing 63
            (Offers 1 62 4 cmds.WriteBack 16 16 (50 ∷ 51 ∷ 52 ∷ 53 ∷ 54 ∷ 55 ∷ 56 ∷ 57 ∷ 58 ∷ 59 ∷ 60 ∷ 61 ∷ 62 ∷ 63 ∷ 64 ∷ 65 ∷ []) ∷ []) [] []
            ∷ Gives answers.Nothing 63 [] [] []
            ∷ Gives answers.Taken 63 [] (Schedule 0 0 144 ∷ []) (hits ∷ served_at 26 false 64 (80 ∷ 81 ∷ 7 ∷ 8 ∷ []) ∷ [])
            ∷ Gives answers.Nothing 63 (Offers 0 26 1 cmds.ReadResp 64 4 (80 ∷ 81 ∷ 7 ∷ 8 ∷ []) ∷ []) [] []
            ∷ Gives answers.Nothing 63 [] [] []
            ∷ [];
        seen = record {
          lines =
              (new_line 64 true (80 ∷ 81 ∷ 7 ∷ 8 ∷ 84 ∷ 85 ∷ 86 ∷ 87 ∷ 88 ∷ 89 ∷ 90 ∷ 91 ∷ 92 ∷ 93 ∷ 94 ∷ 95 ∷ [])
              ∷ new_line 96 true (130 ∷ 131 ∷ 230 ∷ 231 ∷ 232 ∷ 135 ∷ 136 ∷ 137 ∷ 138 ∷ 139 ∷ 140 ∷ 141 ∷ 142 ∷ 143 ∷ 144 ∷ 145 ∷ [])
              ∷ [])
              ∷ (new_line 112 true (90 ∷ 91 ∷ 92 ∷ 93 ∷ 94 ∷ 95 ∷ 96 ∷ 97 ∷ 98 ∷ 99 ∷ 100 ∷ 101 ∷ 102 ∷ 103 ∷ 104 ∷ 105 ∷ [])
              ∷ new_line 48 true (70 ∷ 71 ∷ 72 ∷ 73 ∷ 74 ∷ 75 ∷ 76 ∷ 77 ∷ 78 ∷ 79 ∷ 80 ∷ 81 ∷ 82 ∷ 83 ∷ 84 ∷ 85 ∷ [])
              ∷ [])
              ∷ [];
          registers = [];
          answers = [];
          leaving = [];
          waiter = false;
        };
      }
  pub using_registers : told_of using_registers_wakes (small_cache 4)
      ≡ record {
        rows =
            Gives answers.Taken 51 [] (Schedule 1 10 10 ∷ []) (misses ∷ [])
            ∷ Gives answers.Taken 52 [] [] (misses ∷ [])
            ∷ Gives answers.Refused 52 [] [] (refuses ∷ [])
            ∷ Gives answers.Nothing 52 (Offers 1 50 4 cmds.Read 0 16 [] ∷ []) [] []
            ∷ Gives answers.Nothing 52 [] (Schedule 1 10 11 ∷ []) []
            ∷ Gives answers.Nothing 52 (Offers 1 51 4 cmds.Read 16 16 [] ∷ []) [] []
            ∷ Gives answers.Nothing 52 [] [] []
            ∷ Gives answers.Taken 52 (Calls 0 ∷ []) (Schedule 0 0 22 ∷ []) (served_at 1 false 0 (100 ∷ 101 ∷ 102 ∷ 103 ∷ []) ∷ [])
            ∷ [];
        seen = record {
          lines =
              (new_line 0 false (100 ∷ 101 ∷ 102 ∷ 103 ∷ 104 ∷ 105 ∷ 106 ∷ 107 ∷ 108 ∷ 109 ∷ 110 ∷ 111 ∷ 112 ∷ 113 ∷ 114 ∷ 115 ∷ [])
              ∷ [])
              ∷ []
              ∷ [];
          registers = (16, 2 ∷ []) ∷ [];
          answers = (1, 22) ∷ [];
          leaving = [];
          waiter = false;
        };
      }

-- reads without time: the line has its bytes, also where an older write-back of it leaves; else a write-back has them, as it waits for its
-- line or leaves; and another read is left as it is
pub record ReadsWithoutTime : Type 0 where
  pub of_a_write_back_that_waits : cache_functional after_lacking_places.cache (read_of 200 66 4)
      ≡ read_response (read_of 200 66 4) (82 ∷ 83 ∷ 84 ∷ 85 ∷ [])
  pub of_a_line : cache_functional after_filling_over_clean.cache (read_of 200 52 4)
      ≡ read_response (read_of 200 52 4) (74 ∷ 75 ∷ 76 ∷ 77 ∷ [])
  pub of_a_write_back_that_leaves : cache_functional after_filling_over_clean.cache (read_of 200 18 8)
      ≡ read_response (read_of 200 18 8) (52 ∷ 53 ∷ 54 ∷ 55 ∷ 56 ∷ 57 ∷ 58 ∷ 59 ∷ [])
  pub of_nobody : cache_functional after_filling_over_clean.cache (read_of 200 144 4) ≡ read_of 200 144 4
