-- What a cache has of each line and what it sends of it, what holds of its lines and registers, and what each wake does to a line.
-- This project's own laws.
use Rattle.std.specs.Prelude.{◌≡◌, ℕ, zero, suc, ◌+◌, ◌-◌, ◌%◌, ◌<◌, ◌≤◌, ◌==◌, ◌&&◌, ◌||◌, not, Bool, true, false, if◌then◌else◌, List, [], ◌∷◌, ◌++◌, length, take, drop, slice_index_or, Option, Some, None, is_some}
use Rattle.cache_tags.specs.Line.{Line, new_line, put_at}
use Rattle.gm_cache.specs.State.{Register, CacheState, cache_start, base_of, set_of, find_line, line_in, find_register}
use Rattle.gm_cache.specs.Rule.{backs, is_blocked, is_cached, is_fill, CacheMoved, cache_step}
use Rattle.gm_words.specs.Allowed.{IsAllowed}
use Rattle.gm_words.specs.Entries.{served_entries}
use Rattle.gm_words.specs.Flow.{Queued}
use Rattle.gm_words.specs.declared.entry.Entry.{Entry}
use Rattle.gm_words.specs.declared.entry.Entry.TheVariants as entries
use Rattle.gm_words.specs.declared.params.Params.{Params}
use Rattle.gm_words.specs.declared.wake.Wake.{Wake}
use Rattle.gm_words.specs.declared.wake.Wake.TheVariants as wakes
use Rattle.pkt_pool.specs.Packet.{carried_bytes, read_response, write_response}
use Rattle.pkt_pool.specs.declared.cmd.Cmd.{Cmd}
use Rattle.pkt_pool.specs.declared.cmd.Cmd.TheVariants as cmds
use Rattle.pkt_pool.specs.declared.packet.Packet.{Packet}

-- A line's view.

-- what a cache has of a line: nothing, the line as it came or written since with these bytes, or a register that waits for it
pub data LineState : Type 0 where
  Absent : LineState
  Clean : List ℕ → LineState
  Dirty : List ℕ → LineState
  Filling : LineState

-- what a cache sends of a line: it asks for it, or writes its bytes back
pub data Request : Type 0 where
  ReadLine : Request
  Back : List ℕ → Request

-- what a cache has of a line, and what it sends of it, the request that leaves first in front
pub record LineView : Type 0 where
  pub line : LineState
  pub sent : List Request

-- a view by its parts
abbrev pub line_view : LineState → List Request → LineView
line_view line sent = record { line = line; sent = sent }

-- what a packet asks of its line
abbrev pub request_of : Packet → Cmd → List Request
request_of x cmds.Read = ReadLine ∷ []
request_of x cmds.Write = []
request_of x cmds.WriteBack = Back (carried_bytes x) ∷ []
request_of x cmds.ReadResp = []
request_of x cmds.WriteResp = []

-- what it asks of the line at an address: nothing where it lies in another, or in none
abbrev pub requests_in : CacheState → ℕ → Packet → List Request
requests_in s a x = if is_cached s x && (base_of s x.addr == a) then request_of x x.cmd else []

-- what the packets of a queue ask of the line, in order
abbrev pub requests : CacheState → ℕ → List Queued → List Request
requests s a [] = []
requests s a (x ∷ xs) = requests_in s a x.packet ++ requests s a xs

-- what a cache has of a line that is there
abbrev pub line_state : Line → LineState
line_state l = if l.dirty then Dirty l.bytes else Clean l.bytes

-- what it has of a line, by the line and the register that are found
abbrev pub state_in : Option Line → Option Register → LineState
state_in (Some l) r = line_state l
state_in None (Some r) = Filling
state_in None None = Absent

-- the view of the line at an address
unfoldable pub view_of : CacheState → ℕ → LineView
view_of s a = line_view (state_in (line_in s a) (find_register a s.registers)) (requests s a s.leaving.items)

-- What holds of the lines and the registers.

-- a line belongs to this set, begins where a line may, and is whole
abbrev pub IsLineOf : CacheState → ℕ → Line → Type 0
IsLineOf s i l = (set_of s l.address ≡ i) × (l.address % s.common.line ≡ 0) × (length l.bytes ≡ s.common.line)

-- the lines of one set, no two of one address
abbrev pub AreLines : CacheState → ℕ → List Line → Type 0
AreLines s i [] = Unit {0}
AreLines s i (l ∷ ls) = IsLineOf s i l × (find_line l.address ls ≡ None) × AreLines s i ls

-- the sets of a cache: each has its own lines, and not more than there are ways
pub record HasSets (s : CacheState) : Type 0 where
  pub some_bytes : 0 < s.common.line
  pub some_sets : 0 < s.sets
  pub some_ways : 0 < s.ways
  pub count : length s.lines ≡ s.sets
  pub each : (i : ℕ) → AreLines s i (slice_index_or s.lines i [])
  pub few : (i : ℕ) → length (slice_index_or s.lines i []) ≤ s.ways

-- a packet that waits for the line at an address lies in that line
abbrev pub IsTarget : CacheState → ℕ → Packet → Type 0
IsTarget s a x = (is_cached s x ≡ true) × (base_of s x.addr ≡ a)

-- so do all these packets
abbrev pub AreTargets : CacheState → ℕ → List Packet → Type 0
AreTargets s a [] = Unit {0}
AreTargets s a (x ∷ xs) = IsTarget s a x × AreTargets s a xs

-- a register is of a line, and has targets, but not more than it may
abbrev pub IsRegister : CacheState → Register → Type 0
IsRegister s r =
    (r.address % s.common.line ≡ 0) × (1 ≤ length r.targets) × (length r.targets ≤ s.targets) × AreTargets s r.address r.targets

-- the registers, no two of one address
abbrev pub AreRegisters : CacheState → List Register → Type 0
AreRegisters s [] = Unit {0}
AreRegisters s (r ∷ rs) = IsRegister s r × (find_register r.address rs ≡ None) × AreRegisters s rs

-- the registers of a cache: not more than it may have, and there is a write place for the victim of each line that is on its way
pub record HasRegisters (s : CacheState) : Type 0 where
  pub some_targets : 1 ≤ s.targets
  pub each : AreRegisters s s.registers
  pub used : length s.registers ≤ s.mshrs
  pub places : backs s.leaving.items + length s.registers ≤ s.writeq

-- a line that is there has no register
abbrev pub AreApart : CacheState → Type 0
AreApart s = (a : ℕ) (l : Line) → line_in s a ≡ Some l → find_register a s.registers ≡ None

-- what holds of the lines and the registers of a cache
pub record HasTags (s : CacheState) : Type 0 where
  pub sets : HasSets s
  pub registers : HasRegisters s
  pub apart : AreApart s

-- What a wake does to a line.

-- a line's view stays; or the line leaves, a dirty one as a write-back of its bytes behind what is sent of it
pub data Moves (u v : LineView) : Type 0 where
  Stay : v ≡ u → Moves u v
  LeaveDirty : (bytes : List ℕ) → u.line ≡ Dirty bytes → v.line ≡ Absent → v.sent ≡ u.sent ++ Back bytes ∷ [] → Moves u v
  LeaveClean : (bytes : List ℕ) → u.line ≡ Clean bytes → v.line ≡ Absent → v.sent ≡ u.sent → Moves u v

-- the line at an address has this view afterwards, and each other line stays or leaves
pub record Lifts (s : CacheState) (b : ℕ) (after : LineView) (t : CacheState) : Type 0 where
  pub own : view_of t b ≡ after
  pub other : (a : ℕ) → (b ≡ a → ⊥) → Moves (view_of s a) (view_of t a)

-- no line's view changes
abbrev pub KeepsLines : CacheState → CacheState → Type 0
KeepsLines s t = (a : ℕ) → view_of t a ≡ view_of s a

-- no line's view changes, and nothing is noted
pub record Keeps (s : CacheState) (t : CacheMoved) : Type 0 where
  pub lines : KeepsLines s t.cache
  pub entries : t.entries ≡ []

-- a read or a write
abbrev pub is_access : Cmd → Bool
is_access cmds.Read = true
is_access cmds.Write = true
is_access cmds.WriteBack = false
is_access cmds.ReadResp = false
is_access cmds.WriteResp = false

-- what is noted of a request that a line serves: a read gets the line's bytes at its address
abbrev pub noted_by : Line → Packet → Cmd → List Entry
noted_by l x cmds.Read = served_entries x (read_response x (take x.size (drop (x.addr - l.address) l.bytes))) false
noted_by l x cmds.Write = served_entries x (write_response x) false
noted_by l x cmds.WriteBack = []
noted_by l x cmds.ReadResp = []
noted_by l x cmds.WriteResp = []

-- a line after a request that it served: a write puts its bytes over the line's, a write-back brings all of them, and both leave it dirty
abbrev pub after_request : Line → Packet → Cmd → Line
after_request l x cmds.Read = l
after_request l x cmds.Write = new_line l.address true (put_at l.bytes (x.addr - l.address) (carried_bytes x))
after_request l x cmds.WriteBack = new_line l.address true (carried_bytes x)
after_request l x cmds.ReadResp = l
after_request l x cmds.WriteResp = l

-- a line after requests, and what is noted of them, in order
abbrev pub after_requests : Line → List Packet → Line
after_requests l [] = l
after_requests l (x ∷ xs) = after_requests (after_request l x x.cmd) xs

abbrev pub noted_by_all : Line → List Packet → List Entry
noted_by_all l [] = []
noted_by_all l (x ∷ xs) = noted_by l x x.cmd ++ noted_by_all (after_request l x x.cmd) xs

-- what an offer from above does, where b is the address of the packet's line: it is refused, passes, or is one of the line's
pub data FromAbove (s : CacheState) (x : Packet) (b : ℕ) (t : CacheState) (es : List Entry) : Type 0 where
  Denies : is_blocked s ≡ true → KeepsLines s t → es ≡ entries.Refused (record { 0 = s.common.object }) ∷ [] → FromAbove s x b t es
  -- it lies in no line
  Passes : is_cached s x ≡ false → KeepsLines s t → es ≡ [] → FromAbove s x b t es
  -- the line is there, and serves it
  Hits : (l : Line) → is_cached s x ≡ true → is_access x.cmd ≡ true → line_in s b ≡ Some l
      → Lifts s b (line_view (line_state (after_request l x x.cmd)) (view_of s b).sent) t
      → es ≡ entries.Hit (record { 0 = s.common.object }) ∷ noted_by l x x.cmd → FromAbove s x b t es
  -- the line is on its way: it waits with the others
  Joins : is_cached s x ≡ true → is_access x.cmd ≡ true → (view_of s b).line ≡ Filling → Lifts s b (line_view Filling (view_of s b).sent) t
      → es ≡ entries.Miss (record { 0 = s.common.object }) ∷ [] → FromAbove s x b t es
  -- the line is asked for
  Opens : is_cached s x ≡ true → is_access x.cmd ≡ true → (view_of s b).line ≡ Absent
      → Lifts s b (line_view Filling ((view_of s b).sent ++ ReadLine ∷ [])) t
      → es ≡ entries.Miss (record { 0 = s.common.object }) ∷ [] → FromAbove s x b t es
  -- a write-back: the line is dirty with its bytes
  Replaces : is_cached s x ≡ true → x.cmd ≡ cmds.WriteBack → Lifts s b (line_view (Dirty (carried_bytes x)) (view_of s b).sent) t
      → es ≡ [] → FromAbove s x b t es
  -- a write-back whose line is on its way waits with the others
  BackJoins : is_cached s x ≡ true → x.cmd ≡ cmds.WriteBack → (view_of s b).line ≡ Filling
      → Lifts s b (line_view Filling (view_of s b).sent) t → es ≡ [] → FromAbove s x b t es

-- a response is a whole line that a register waits for
abbrev pub is_awaited : CacheState → Packet → Bool
is_awaited s y = is_fill s y && is_some (find_register y.addr s.registers)

-- what a response from below does: it passes; or its line is there, and has served who waited for it, in order
pub data FromBelow (s : CacheState) (y : Packet) (t : CacheState) (es : List Entry) : Type 0 where
  Returns : is_awaited s y ≡ false → KeepsLines s t → es ≡ [] → FromBelow s y t es
  FillsLine : (r : Register) → is_fill s y ≡ true → find_register y.addr s.registers ≡ Some r → (view_of s y.addr).line ≡ Filling
      → Lifts s y.addr (line_view (line_state (after_requests (new_line y.addr false (carried_bytes y)) r.targets)) (view_of s y.addr).sent) t
      → es ≡ noted_by_all (new_line y.addr false (carried_bytes y)) r.targets → FromBelow s y t es

-- the first packet that leaves is gone: what it asked of a line is sent no more
abbrev pub WithoutHead : CacheState → CacheState → List Queued → Type 0
WithoutHead s t [] = KeepsLines s t
WithoutHead s t (x ∷ rest) = (a : ℕ) → view_of s a ≡ line_view (view_of t a).line (requests_in s a x.packet ++ (view_of t a).sent)

-- and nothing is noted
pub record SendsHead (s : CacheState) (t : CacheMoved) : Type 0 where
  pub lines : WithoutHead s t.cache s.leaving.items
  pub entries : t.entries ≡ []

-- what the offer of a packet above does, and below
abbrev pub OfferMoves : CacheState → ℕ → Packet → CacheMoved → Type 0
OfferMoves s zero x t = FromAbove s x (base_of s x.addr) t.cache t.entries
OfferMoves s (suc p) y t = FromBelow s y t.cache t.entries

-- what it does that a packet was taken which the cache offered above, and below
abbrev pub TakenMoves : CacheState → ℕ → CacheMoved → Type 0
TakenMoves s zero t = Keeps s t
TakenMoves s (suc p) t = SendsHead s t

-- what a wake does to each line, and what it notes
abbrev pub MovesLines : CacheState → Wake → CacheMoved → Type 0
MovesLines s (wakes.Event slot) t = Keeps s t
MovesLines s (wakes.Offer port x) t = OfferMoves s port.0 x t
MovesLines s (wakes.Taken port) t = TakenMoves s port.0 t
MovesLines s (wakes.Refused port) t = Keeps s t
MovesLines s (wakes.Retry port) t = Keeps s t
MovesLines s (wakes.Line bit level) t = Keeps s t
MovesLines s (wakes.AtomicDone p latency) t = Keeps s t

-- Who waits.

-- the packets of a register, if there is one
abbrev pub waiting_in : Option Register → List Packet
waiting_in None = []
waiting_in (Some r) = r.targets

-- the packets that wait for the line at an address, in order
unfoldable pub waiting_of : CacheState → ℕ → List Packet
waiting_of s a = waiting_in (find_register a s.registers)

-- these wait for the line at an address afterwards, and for each other line the same as before
pub record Waits (s : CacheState) (b : ℕ) (after : List Packet) (t : CacheState) : Type 0 where
  pub own : waiting_of t b ≡ after
  pub other : (a : ℕ) → (b ≡ a → ⊥) → waiting_of t a ≡ waiting_of s a

-- for each line the same wait
abbrev pub KeepsWaiting : CacheState → CacheState → Type 0
KeepsWaiting s t = (a : ℕ) → waiting_of t a ≡ waiting_of s a

-- a packet from above that is taken waits where its line isn't there; but a write-back only where the line is on its way
abbrev pub has_to_wait : CacheState → Packet → Bool
has_to_wait s x =
    not (is_blocked s) && is_cached s x && not (is_some (line_in s (base_of s x.addr)))
    && (is_access x.cmd || is_some (find_register (base_of s x.addr) s.registers))

-- if it waits, then behind the others
abbrev pub WaitsAbove : CacheState → Packet → CacheState → Bool → Type 0
WaitsAbove s x t true = Waits s (base_of s x.addr) (waiting_of s (base_of s x.addr) ++ x ∷ []) t
WaitsAbove s x t false = KeepsWaiting s t

-- if it is the line, nobody waits for it afterwards
abbrev pub WaitsBelow : CacheState → Packet → CacheState → Bool → Type 0
WaitsBelow s y t true = Waits s y.addr [] t
WaitsBelow s y t false = KeepsWaiting s t

-- what the offer of a packet above, or below, does to those who wait
abbrev pub OfferWaits : CacheState → ℕ → Packet → CacheState → Type 0
OfferWaits s zero x t = WaitsAbove s x t (has_to_wait s x)
OfferWaits s (suc p) y t = WaitsBelow s y t (is_awaited s y)

-- what a wake does to those who wait
abbrev pub MovesWaiting : CacheState → Wake → CacheState → Type 0
MovesWaiting s (wakes.Event slot) t = KeepsWaiting s t
MovesWaiting s (wakes.Offer port x) t = OfferWaits s port.0 x t
MovesWaiting s (wakes.Taken port) t = KeepsWaiting s t
MovesWaiting s (wakes.Refused port) t = KeepsWaiting s t
MovesWaiting s (wakes.Retry port) t = KeepsWaiting s t
MovesWaiting s (wakes.Line bit level) t = KeepsWaiting s t
MovesWaiting s (wakes.AtomicDone p latency) t = KeepsWaiting s t

-- The laws.

-- at its start a cache has no line and sends nothing
pub record IsFresh (s : CacheState) : Type 0 where
  pub tags : HasTags s
  pub lines : (a : ℕ) → view_of s a ≡ line_view Absent []

-- whatever a cache is configured with, so it starts
abbrev pub StartsWithTags : Type 0
StartsWithTags = (p : Params) (source sets ways mshrs targets writeq latency : ℕ) → IsAllowed p → 1 ≤ sets → 1 ≤ ways → 1 ≤ targets
    → IsFresh (cache_start p source sets ways mshrs targets writeq latency)

-- whatever the wake and its packet, what holds of the lines and the registers stays
abbrev pub WakesKeepTags : Type 0
WakesKeepTags = (s : CacheState) (next : ℕ) (w : Wake) (now : ℕ) → HasTags s → HasTags (cache_step s next w now).moved.cache

-- whatever the wake and its packet, each line's view changes as is said of the wake
abbrev pub WakesMoveLines : Type 0
WakesMoveLines = (s : CacheState) (next : ℕ) (w : Wake) (now : ℕ) → HasTags s → MovesLines s w (cache_step s next w now).moved

-- whatever the wake and its packet, those who wait change as is said of the wake
abbrev pub WakesMoveWaiting : Type 0
WakesMoveWaiting = (s : CacheState) (next : ℕ) (w : Wake) (now : ℕ) → HasTags s → MovesWaiting s w (cache_step s next w now).moved.cache
