-- The files that are kept in memory, the newest first, and what is done to them. Source: this project's own rule.
use Rattle.std.specs.Prelude.{ℕ, ◌+◌, ◌-◌, Bool, if◌then◌else◌, ◌&&◌, ◌||◌, nat_lt, nat_le, is_some, List, [], ◌∷◌, ◌++◌, length, Option, Some, None}
use Rattle.std.specs.Str.{bytes_eq}

-- the files, each a name and its bytes, and how many bytes may be kept in all
pub record Kept : Type 0 where
  pub files : List (List ℕ × List ℕ)
  pub room : ℕ

-- the bytes of the file of a name
abbrev pub file_of : List (List ℕ × List ℕ) → List ℕ → Option (List ℕ)
file_of [] name = None
file_of (f ∷ fs) name = if bytes_eq f.0 name then Some f.1 else file_of fs name

-- the files but that of this name
abbrev pub without : List ℕ → List (List ℕ × List ℕ) → List (List ℕ × List ℕ)
without name [] = []
without name (f ∷ fs) = if bytes_eq f.0 name then fs else f ∷ without name fs

-- an empty file of this name, in place of the one that had it
abbrev pub with_empty : List ℕ → List (List ℕ × List ℕ) → List (List ℕ × List ℕ)
with_empty name fs = (name, []) ∷ without name fs

-- the newest file gains these bytes
abbrev pub with_grown : List ℕ → List (List ℕ × List ℕ) → List (List ℕ × List ℕ)
with_grown bytes [] = []
with_grown bytes (f ∷ fs) = (f.0, f.1 ++ bytes) ∷ fs

-- the name of the newest file
abbrev pub newest_name : List (List ℕ × List ℕ) → Option (List ℕ)
newest_name [] = None
newest_name (f ∷ fs) = Some f.0

-- how many bytes the files have
abbrev pub total_length : List (List ℕ × List ℕ) → ℕ
total_length [] = 0
total_length (f ∷ fs) = length f.1 + total_length fs

-- how many more bytes may be kept
abbrev pub spare_room : Kept → ℕ
spare_room k = k.room - total_length k.files

-- a name has at most 64 bytes, and a new one is one of at most 16
abbrev pub has_place : List ℕ → List (List ℕ × List ℕ) → Bool
has_place name fs = nat_le (length name) 64 && (is_some (file_of fs name) || nat_lt (length fs) 16)

-- the files with this one, in place of the one that had its name
abbrev pub with_file : List ℕ → List ℕ → List (List ℕ × List ℕ) → List (List ℕ × List ℕ)
with_file name bytes fs = (name, bytes) ∷ without name fs

-- how many bytes a file of this name may have
abbrev pub room_for : List ℕ → Kept → ℕ
room_for name k = k.room - total_length (without name k.files)

-- a file has its place, and fits in the room
abbrev pub can_add : List ℕ → List ℕ → Kept → Bool
can_add name bytes k = has_place name k.files && nat_le (length bytes) (room_for name k)
