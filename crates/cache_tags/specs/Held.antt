-- The lines of one set, the most recently used first. This project's own rules.
use Rattle.std.specs.Prelude.{ℕ, ◌-◌, ◌<◌, ◌≤◌, ◌≡◌, ◌==◌, if◌then◌else◌, not, List, ◌∷◌, ◌++◌, length, take, map, filter, find, count_by, All, slice_get, Option}
use Rattle.std.specs.Option.{option_map_or}
use Rattle.cache_tags.specs.declared.place.LineAt.{LineAt}
use Rattle.cache_tags.specs.Line.{Line, rewritten}

-- a line that a set holds, and the way that it stands in
pub record Held : Type 0 where
  pub way : ℕ
  pub line : Line

-- a set: how many ways it has, how many bytes a line has, and its lines, the most recently used first
pub record CacheSet : Type 0 where
  pub ways : ℕ
  pub line : ℕ
  pub held : List Held

-- what it holds of an address
abbrev pub of_address : ℕ → List Held → Option Held
of_address a hs = find (λ h. h.line.address == a) hs

-- what stands in a way
abbrev pub in_way : ℕ → List Held → Option Held
in_way w hs = find (λ h. h.way == w) hs

-- the line in a way is used: it comes to the front, and the others stay in their order
abbrev pub used : ℕ → List Held → List Held
used w hs = filter (λ h. h.way == w) hs ++ filter (λ h. not (h.way == w)) hs

-- bytes are written to a line that stands in a way, from an offset on
abbrev pub write_in : ℕ → ℕ → List ℕ → Held → Held
write_in w offset bytes h = if h.way == w then record h { line = rewritten h.line offset bytes } else h

-- bytes are written to the line in a way, from an offset on, and no line moves
abbrev pub written_in : ℕ → ℕ → List ℕ → List Held → List Held
written_in w offset bytes hs = map (write_in w offset bytes) hs

-- what leaves a set of so many ways as a line comes: the least recently used line, where no way is free
abbrev pub leaving : ℕ → List Held → Option Held
leaving ways hs = slice_get hs (ways - 1)

-- the way of the line that comes: that of the line that leaves, and else the first that is free
abbrev pub next_way : ℕ → List Held → ℕ
next_way ways hs = option_map_or (λ h. h.way) (leaving ways hs) (length hs)

-- a line comes, and is the most recently used
abbrev pub with_line : ℕ → Line → List Held → List Held
with_line ways l hs = record { way = next_way ways hs; line = l } ∷ take (ways - 1) hs

-- a line of the set with this number, as it is told
abbrev pub line_info : ℕ → Held → LineAt
line_info s h = record { addr = h.line.address; dirty = h.line.dirty; at = record { set = s; way = h.way } }

-- the lines are no more than the ways, and are whole; at most one is of an address, and one in a way; and the ways that are
-- taken come before those that are free
pub record IsSoundSet (s : CacheSet) : Type 0 where
  pub few : length s.held ≤ s.ways
  pub whole : All (λ h. length h.line.bytes ≡ s.line) s.held
  pub one_line : (a : ℕ) → count_by (λ h. h.line.address == a) s.held ≤ 1
  pub one_way : (w : ℕ) → count_by (λ h. h.way == w) s.held ≤ 1
  pub within : All (λ h. h.way < length s.held) s.held
