-- How the files lie in one block of bytes: the oldest first there, and the newest first among the entries. Source: this project's own rule.
use Rattle.std.specs.Prelude.{◌≡◌, ℕ, ◌+◌, ◌≤◌, Bool, List, [], ◌∷◌, take, drop, vec_len, vec_capacity}
use Rattle.std.specs.Str.{bytes_eq}
use Rattle.gc_outside.specs.declared.kept_files.Entry.{Entry}
use Rattle.gc_outside.specs.declared.kept_files.KeptFiles.TheInside.{Inside}

-- how many bytes the files of these entries have
abbrev pub entries_length : List Entry → ℕ
entries_length [] = 0
entries_length (e ∷ es) = e.length + entries_length es

-- the files of these entries: each lies behind all older ones
abbrev pub files_in : List ℕ → List Entry → List (List ℕ × List ℕ)
files_in bytes [] = []
files_in bytes (e ∷ es) = (e.name.bytes, take e.length (drop (entries_length es) bytes)) ∷ files_in bytes es

-- the entry is that of the file of this name
abbrev pub is_named : List ℕ → Entry → Bool
is_named name e = bytes_eq e.name.bytes name

-- the newest file has so many more bytes
abbrev pub with_longer : ℕ → List Entry → List Entry
with_longer by [] = []
with_longer by (e ∷ es) = record e { length = e.length + by } ∷ es

-- the entries share out the bytes, and there is memory for as many as may be kept
pub record IsShared (a : Inside) : Type 0 where
  pub shared : entries_length a.entries.items ≡ vec_len a.bytes
  pub within : vec_len a.bytes ≤ a.room
  pub has_memory : a.room ≤ vec_capacity a.bytes
