-- How the lines of a set are stored: by way, beside the ways in the order of their use. This project's own rules.
use Rattle.std.specs.Prelude.{ℕ, ◌≡◌, ◌<◌, ◌≤◌, false, List, [], length, take, map, slice_index_or}
use Rattle.cache_tags.specs.declared.stored.Stored.{Stored}
use Rattle.cache_tags.specs.Line.{Line}
use Rattle.cache_tags.specs.Held.{Held, CacheSet, IsSoundSet}

-- a line of so many bytes, as it is stored
abbrev pub shown : ℕ → Stored → Line
shown size s = record { address = s.addr; dirty = s.dirty; bytes = take size s.bytes }

-- what stands in a way, by the lines of all ways
abbrev pub held_in : List Line → ℕ → Held
held_in lines w = record { way = w; line = slice_index_or lines w (record { address = 0; dirty = false; bytes = [] }) }

-- the lines in the order of these ways
abbrev pub in_order : List ℕ → List Line → List Held
in_order ws lines = map (held_in lines) ws

-- the set that these lines are: the ways of the lines stand in front of the order
abbrev pub stored_set : ℕ → ℕ → List ℕ → List Stored → CacheSet
stored_set ways size order lines =
    record { ways = ways; line = size; held = in_order (take (length lines) order) (map (shown size) lines) }

-- the set is sound, and there is room for its ways
pub record IsStoredSet (ways size : ℕ) (order : List ℕ) (lines : List Stored) (capacity : ℕ) : Type 0 where
  pub some : 0 < ways
  pub few : length lines ≤ ways
  pub room : ways ≤ capacity
  pub fit : ways ≤ 16
  pub places : length order ≡ 16
  pub bytes : size ≤ 64
  pub sound : IsSoundSet (stored_set ways size order lines)
