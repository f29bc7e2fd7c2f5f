-- What a cache keeps: its sets, and in each of them lines, the most recently used first. This project's own rules.
use Rattle.std.specs.Prelude.{ℕ, ◌≡◌, ◌≢◌, ◌==◌, ◌-◌, ◌/◌, ◌%◌, List, [], length, map, find, replicate, slice_index_or, slice_set, slice_get, All, Option}
use Rattle.std.specs.Option.{option_map}
use Rattle.cache_tags.specs.declared.place.Place.{Place}
use Rattle.cache_tags.specs.declared.place.LineAt.{LineAt}
use Rattle.cache_tags.specs.declared.place.Victim.{Victim}
use Rattle.cache_tags.specs.Line.{Line, in_front, in_place, come_in, leaving_line, victim}
use Rattle.cache_tags.specs.Held.{Held, of_address, in_way, used, written_in, with_line, line_info, IsSoundSet}

-- how many ways a set has, how many bytes a line has, and the lines of each set, the most recently used first
pub record Kept : Type 0 where
  pub ways : ℕ
  pub line : ℕ
  pub sets : List (List Held)

-- the address of the line that an address lies in
abbrev pub base_of : Kept → ℕ → ℕ
base_of t a = a - a % t.line

-- the number of the set of an address
abbrev pub set_of : Kept → ℕ → ℕ
set_of t a = (a / t.line) % length t.sets

-- what a set holds
abbrev pub set_at : Kept → ℕ → List Held
set_at t s = slice_index_or t.sets s []

abbrev pub with_set : Kept → ℕ → List Held → Kept
with_set t s hs = record t { sets = slice_set t.sets s hs }

-- the lines of a set
abbrev pub lines_at : Kept → ℕ → List Line
lines_at t s = map (λ h. h.line) (set_at t s)

-- the lines of all sets
abbrev pub lines_of : Kept → List (List Line)
lines_of t = map (λ hs. map (λ h. h.line) hs) t.sets

-- the lines of all sets, with others in one set
abbrev pub with_lines : Kept → ℕ → List Line → List (List Line)
with_lines t s ls = slice_set (lines_of t) s ls

-- those with this line of a set as the most recently used
abbrev pub lines_with_used : Kept → ℕ → Line → List (List Line)
lines_with_used t s l = with_lines t s (in_front l (lines_at t s))

-- those with this line of a set in place of the one of its address
abbrev pub lines_with_changed : Kept → ℕ → Line → List (List Line)
lines_with_changed t s l = with_lines t s (in_place l (lines_at t s))

-- those with this line come into a set
abbrev pub lines_with_new : Kept → ℕ → Line → List (List Line)
lines_with_new t s l = with_lines t s (come_in t.ways l (lines_at t s))

-- the line that an address lies in, where it is kept
abbrev pub line_of : Kept → ℕ → Option Line
line_of t a = find (λ l. l.address == base_of t a) (lines_at t (set_of t a))

-- the line at a place, where there is one
abbrev pub line_at : Kept → Place → Option Line
line_at t at = option_map (λ h. h.line) (in_way at.way (set_at t at.set))

-- the place of the line that an address lies in
abbrev pub found : Kept → ℕ → Option Place
found t a = option_map (λ h. record { set = set_of t a; way = h.way }) (of_address (base_of t a) (set_at t (set_of t a)))

-- the line at a place is used
abbrev pub touched : Kept → Place → Kept
touched t at = with_set t at.set (used at.way (set_at t at.set))

-- bytes are written to the line at a place, from an offset on
abbrev pub written : Kept → Place → ℕ → List ℕ → Kept
written t at offset bytes = with_set t at.set (written_in at.way offset bytes (set_at t at.set))

-- a line comes into its set
abbrev pub installed : Kept → Line → Kept
installed t l = with_set t (set_of t l.address) (with_line t.ways l (set_at t (set_of t l.address)))

-- the line that leaves as one of this address comes
abbrev pub victim_of : Kept → ℕ → Option Victim
victim_of t a = option_map victim (leaving_line t.ways (lines_at t (set_of t a)))

-- a cache with so many sets that keeps nothing
abbrev pub empty : ℕ → ℕ → ℕ → Kept
empty sets ways line = record { ways = ways; line = line; sets = replicate sets [] }

-- nothing is kept
abbrev pub emptied : Kept → Kept
emptied t = empty (length t.sets) t.ways t.line

-- the n-th line of a set, the most recently used first
abbrev pub nth_line : Kept → ℕ → ℕ → Option LineAt
nth_line t s n = option_map (line_info s) (slice_get (set_at t s) n)

-- at each place stands what stood there
abbrev pub KeepsPlaces : Kept → Kept → Type 0
KeepsPlaces old new = (p : Place) → line_at new p ≡ line_at old p

-- at each other place stands what stood there
abbrev pub KeepsOtherPlaces : Kept → Kept → Place → Type 0
KeepsOtherPlaces old new at = (p : Place) → p ≢ at → line_at new p ≡ line_at old p

-- a line belongs to a set, and begins at a multiple of the size of lines
abbrev pub BelongsTo : Kept → ℕ → Held → Type 0
BelongsTo t s h = (set_of t h.line.address ≡ s) × (h.line.address % t.line ≡ 0)

-- each set is sound, and its lines belong to it
pub record IsSoundCache (t : Kept) : Type 0 where
  pub sound : (s : ℕ) → IsSoundSet (record { ways = t.ways; line = t.line; held = set_at t s })
  pub own : (s : ℕ) → All (BelongsTo t s) (set_at t s)
