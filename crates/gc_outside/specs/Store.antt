-- The files of a store, and what its calls do to them. Source: this project's own rule.
use Rattle.std.specs.Prelude.{◌≡◌, ◌≢◌, ℕ, ◌<◌, ◌≤◌, ◌⊎◌, Bool, true, false, List, [], ◌++◌, length, Option, Some, None, IsSome, IsSomeAnd, unwrap_or, Result, Ok, Err}
use Rattle.gc_outside.specs.declared.store.Got.{Got}
use Rattle.gc_outside.specs.declared.store.Got.TheVariants.{Bytes, Absent, Longer}
use Rattle.gc_outside.specs.declared.store.GetError.{GetError}
use Rattle.gc_outside.specs.declared.store.GetError.TheVariants.{Failed, NoMemory}

-- the file of each name, if it is there
abbrev pub Files : Type 0
Files = List ℕ → Option (List ℕ)

-- the answer for a file that is there or not, of which at most so many bytes were asked for
abbrev pub AnswersFile : ℕ → Option (List ℕ) → Got → Type 0
AnswersFile most file (Bytes bytes) = file ≡ Some bytes
AnswersFile most file Absent = file ≡ None
AnswersFile most file Longer = IsSomeAnd file (λ bytes. most < length bytes)

-- the answer is that of the file of this name, where the store tells its files
abbrev pub Answers : ℕ → List ℕ → Option Files → Got → Type 0
Answers most name None got = Unit {0}
Answers most name (Some files) got = AnswersFile most (files name) got

-- no answer has more bytes than were asked for
abbrev pub IsWithin : ℕ → Got → Type 0
IsWithin most (Bytes bytes) = length bytes ≤ most
IsWithin most Absent = Unit {0}
IsWithin most Longer = Unit {0}

-- the store failed at a get; want of memory is no failure of the store
abbrev pub is_failed : Result Got GetError → Bool
is_failed (Ok got) = false
is_failed (Err Failed) = true
is_failed (Err NoMemory) = false

-- a put is open; where the store tells its files, it is that of this name
abbrev pub Opens : List ℕ → Option Files → Option (List ℕ) → Type 0
Opens name None put = IsSome put
Opens name (Some files) put = put ≡ Some name

-- every file stands as before
abbrev pub SameFiles : Files → Files → Type 0
SameFiles old new = (n : List ℕ) → new n ≡ old n

-- every file but that of this name stands as before
abbrev pub SameOthers : List ℕ → Files → Files → Type 0
SameOthers name old new = (n : List ℕ) → n ≢ name → new n ≡ old n

-- the file of this name becomes this one, or goes, and every other stands as before
pub record ChangesFile (name : List ℕ) (file : Option (List ℕ)) (old new : Files) : Type 0 where
  pub changed : new name ≡ file
  pub others : SameOthers name old new

-- the file of this name is empty or as before, and every other stands as before
pub record LeavesOrEmpties (name : List ℕ) (old new : Files) : Type 0 where
  pub named : (new name ≡ old name) ⊎ (new name ≡ Some [])
  pub others : SameOthers name old new

-- what was put into a file so far
abbrev pub put_bytes : Files → List ℕ → List ℕ
put_bytes files name = unwrap_or (files name) []

-- the open file gains these bytes
abbrev pub AppendsToOpen : Option (List ℕ) → List ℕ → Files → Files → Type 0
AppendsToOpen None bytes old new = ⊥
AppendsToOpen (Some name) bytes old new = ChangesFile name (Some (put_bytes old name ++ bytes)) old new

-- the file of this name holds a front of these bytes, and every other stands as before
pub record HoldsFront (name bytes : List ℕ) (old new : Files) : Type 0 where
  pub front : List ℕ
  pub rest : List ℕ
  pub whole : bytes ≡ front ++ rest
  pub cut : new name ≡ Some front
  pub others : SameOthers name old new

-- the open file holds a front of what was put, these bytes the last
abbrev pub CutsOpen : Option (List ℕ) → List ℕ → Files → Files → Type 0
CutsOpen None bytes old new = ⊥
CutsOpen (Some name) bytes old new = HoldsFront name (put_bytes old name ++ bytes) old new
