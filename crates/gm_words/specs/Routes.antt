-- Which addresses are of a range, and of whose. This project's own rule.
use Rattle.std.specs.Prelude.{ℕ, ◌+◌, Bool, if◌then◌else◌, List, [], ◌∷◌, ◌++◌, Option, Some, None, is_none}
use Rattle.gm_words.specs.Platform.{Range, is_within, Part}

-- the addresses of a range go to an object
pub record Route : Type 0 where
  pub range : Range
  pub object : ℕ

-- the object to which an address goes, if it is of a range
abbrev pub destination : List Route → ℕ → Option ℕ
destination [] address = None
destination (r ∷ rs) address = if is_within address r.range then Some r.object else destination rs address

-- the address is of no range
abbrev pub is_unmapped : List Route → ℕ → Bool
is_unmapped rs address = is_none (destination rs address)

-- the route to a part that has a range
abbrev pub route_to : ℕ → Option Range → List Route
route_to object None = []
route_to object (Some r) = record { range = r; object = object } ∷ []

-- the routes to the parts, which are numbered from a number on
abbrev pub routes_of : ℕ → List Part → List Route
routes_of object [] = []
routes_of object (p ∷ ps) = route_to object p.range ++ routes_of (object + 1) ps
