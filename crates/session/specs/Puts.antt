-- What a call leaves of the store's files. Source: this project's own rule.
use Rattle.std.specs.Prelude.{◌≡◌, ◌≢◌, ℕ, ◌⊎◌, List, ◌++◌, Option, Some, None}
use Rattle.elf_image.specs.Written.{elf_bytes}
use Rattle.gc_outside.specs.Store.{Files, ChangesFile, SameOthers}
use Rattle.gc_outside.specs.Told.{Told}
use Rattle.session.specs.Inputs.{HasProgram}
use Rattle.session.specs.Outside.{StoreSeen, SameStore}
use Rattle.session.specs.Words.{Request, Flat, Machine, Assembly, AssemblyRequest, request_of}
use Rattle.session.specs.declared.status.Status.{Status}
use Rattle.session.specs.declared.status.Status.TheVariants as status

-- the file of this name stands as before or holds a front of these bytes, and every other stands as before
pub record IsPutInPart (name bytes : List ℕ) (old new : Files) : Type 0 where
  pub named : (new name ≡ old name) ⊎ ((front : List ℕ) × (rest : List ℕ) × (bytes ≡ front ++ rest) × (new name ≡ Some front))
  pub others : SameOthers name old new

-- the file of this name was put with these bytes, and no put is open
pub record IsPut (name bytes : List ℕ) (old new : StoreSeen) : Type 0 where
  pub file : Told (ChangesFile name (Some bytes)) old.files new.files
  pub ended : new.open_put ≡ None

-- the put of that file failed, and no put is open
pub record IsPutCut (name bytes : List ℕ) (old new : StoreSeen) : Type 0 where
  pub file : Told (IsPutInPart name bytes) old.files new.files
  pub ended : new.open_put ≡ None

-- what the put of a program's ELF file leaves: the file, a part of it where the store failed, or all as it was
abbrev pub ProgramPuts : Status → List ℕ → List ℕ → StoreSeen → StoreSeen → Type 0
ProgramPuts status.Done name words old new = IsPut name (elf_bytes words) old new
ProgramPuts status.Store name words old new = IsPutCut name (elf_bytes words) old new
ProgramPuts status.Sink name words old new = SameStore old new ⊎ IsPutCut name (elf_bytes words) old new
ProgramPuts _ name words old new = SameStore old new

-- what `asm` leaves: it puts the program of the source's words, or, where its work isn't done, nothing
abbrev pub AssemblyPuts : Status → AssemblyRequest → StoreSeen → StoreSeen → Type 0
AssemblyPuts s q old new =
    ((words : List ℕ) × HasProgram q.source old.files words × ProgramPuts s q.image words old new)
    ⊎ ((s ≢ status.Done) × SameStore old new)

-- `asm` alone puts a file
abbrev pub RequestPuts : Status → Option Request → StoreSeen → StoreSeen → Type 0
RequestPuts s None old new = SameStore old new
RequestPuts s (Some (Flat q)) old new = SameStore old new
RequestPuts s (Some (Machine q)) old new = SameStore old new
RequestPuts s (Some (Assembly q)) old new = AssemblyPuts s q old new

-- what a call with these words and this status leaves of the store's files
unfoldable pub Puts : Status → List (List ℕ) → StoreSeen → StoreSeen → Type 0
Puts s words old new = RequestPuts s (request_of words) old new
