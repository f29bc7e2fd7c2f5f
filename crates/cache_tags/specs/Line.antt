-- Lines, as a cache keeps them. This project's own rules.
use Rattle.std.specs.Prelude.{ℕ, ◌+◌, ◌-◌, ◌==◌, if◌then◌else◌, Bool, true, List, [], ◌∷◌, ◌++◌, length, take, drop, replicate, slice_get, Option}
use Rattle.cache_tags.specs.declared.place.Victim.{Victim}

-- a line: the address of its first byte, whether it was written since it came, and its bytes
pub record Line : Type 0 where
  pub address : ℕ
  pub dirty : Bool
  pub bytes : List ℕ

-- the line of this address with these bytes, dirty or not
abbrev pub new_line : ℕ → Bool → List ℕ → Line
new_line a dirty bytes = record { address = a; dirty = dirty; bytes = bytes }

-- bytes with others over them, from an offset on
abbrev pub put_at : List ℕ → ℕ → List ℕ → List ℕ
put_at bytes offset others = take offset bytes ++ others ++ drop (offset + length others) bytes

-- a line with bytes over its own: it is dirty then
abbrev pub rewritten : Line → ℕ → List ℕ → Line
rewritten l offset bytes = record { address = l.address; dirty = true; bytes = put_at l.bytes offset bytes }

-- the bytes of a line in front of 64, with zeros behind
abbrev pub padded : List ℕ → List ℕ
padded bytes = bytes ++ replicate (64 - length bytes) 0

-- a list of lines without the line of this address
abbrev pub without_line : ℕ → List Line → List Line
without_line a [] = []
without_line a (l ∷ ls) = if l.address == a then ls else l ∷ without_line a ls

-- a line is used: it comes to the front, and the others stay in their order
abbrev pub in_front : Line → List Line → List Line
in_front l ls = l ∷ without_line l.address ls

-- the line of its address is this one now
abbrev pub in_place : Line → List Line → List Line
in_place l [] = []
in_place l (k ∷ ks) = (if k.address == l.address then l else k) ∷ in_place l ks

-- a line comes into a set of so many ways: the least recently used line leaves where no way is free
abbrev pub come_in : ℕ → Line → List Line → List Line
come_in ways l ls = l ∷ take (ways - 1) ls

-- the line that leaves a set of so many ways as one comes: the least recently used, where no way is free
abbrev pub leaving_line : ℕ → List Line → Option Line
leaving_line ways ls = slice_get ls (ways - 1)

-- a line that leaves, with its bytes in front and zeros behind
abbrev pub victim : Line → Victim
victim l = record { addr = l.address; dirty = l.dirty; bytes = padded l.bytes }
