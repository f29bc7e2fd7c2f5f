-- A store in memory that fails where it is told to. Source: this project's own rule.
use Rattle.std.specs.Prelude.{ℕ, Bool, false, if◌then◌else◌, ◌&&◌, not, nat_le, List, length, Option, None}
use Rattle.gc_outside.specs.Faults.{faults_after}
use Rattle.gc_outside.specs.PlannedFaults.{Plan, is_planned, called}
use Rattle.gc_outside.specs.KeptFiles.{Kept, with_empty, with_grown, newest_name, spare_room, has_place, can_add, with_file}

-- the files, whether a put is open (it is that of the newest file), which calls are to fail, and how many failed
pub record MemStoreState : Type 0 where
  pub kept : Kept
  pub is_open : Bool
  pub plan : Plan
  pub faults : ℕ

-- the name of the file whose put is open
abbrev pub open_name : MemStoreState → Option (List ℕ)
open_name s = if s.is_open then newest_name s.kept.files else None

-- a call goes well where it is not to fail
abbrev pub goes_well : MemStoreState → Bool
goes_well s = not (is_planned s.plan)

-- the store after a call that changed no file
abbrev pub after_call : Bool → MemStoreState → MemStoreState
after_call good s = record s { plan = called s.plan; faults = faults_after good s.faults }

-- the store after a get
abbrev pub got : MemStoreState → MemStoreState
got s = after_call (goes_well s) s

-- a put of this name begins
abbrev pub begins : List ℕ → MemStoreState → Bool
begins name s = goes_well s && has_place name s.kept.files

-- the store after that call
abbrev pub begun : List ℕ → MemStoreState → MemStoreState
begun name s =
    let good = begins name s in
    record (after_call good s) {
      kept = if good then record s.kept { files = with_empty name s.kept.files } else s.kept;
      is_open = good;
    }

-- these bytes go into the open file
abbrev pub pieces : List ℕ → MemStoreState → Bool
pieces bytes s = goes_well s && nat_le (length bytes) (spare_room s.kept)

-- the store after that call
abbrev pub pieced : List ℕ → MemStoreState → MemStoreState
pieced bytes s =
    let good = pieces bytes s in
    record (after_call good s) {
      kept = if good then record s.kept { files = with_grown bytes s.kept.files } else s.kept;
      is_open = good;
    }

-- the store after the end of a put
abbrev pub ended : MemStoreState → MemStoreState
ended s = record (after_call (goes_well s) s) { is_open = false }

-- the store after a file was added whole: no put is open where it fits, and else nothing changes
abbrev pub added : List ℕ → List ℕ → MemStoreState → MemStoreState
added name bytes s =
    if can_add name bytes s.kept
    then record s { kept = record s.kept { files = with_file name bytes s.kept.files }; is_open = false }
    else s
