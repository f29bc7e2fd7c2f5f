-- A store in memory that never fails. Source: this project's own rule.
use Rattle.std.specs.Prelude.{◌≡◌, ℕ, ◌-◌, ◌<◌, if◌then◌else◌, List, [], length, take, Option, Some, None}
use Rattle.gc_outside.specs.declared.sure_store.OpenPut.{OpenPut}
use Rattle.gc_outside.specs.declared.sure_store.OpenPut.TheVariants.{Closed, Open, Lost}
use Rattle.gc_outside.specs.Store.{Files}
use Rattle.gc_outside.specs.KeptFiles.{Kept, file_of, with_empty, with_grown, with_file, newest_name, spare_room, has_place, can_add}
use Rattle.gc_outside.specs.SureSink.{plus, told_if_none}

-- the files, which put is open, and how many bytes and files there was no room for
pub record SureStoreState : Type 0 where
  pub kept : Kept
  pub put : OpenPut
  pub over : ℕ

-- a lost file was counted
abbrev pub IsCounted : OpenPut → ℕ → Type 0
IsCounted put over = put ≡ Lost → 0 < over

-- the files are told where nothing was over
abbrev pub told_files : SureStoreState → Option Files
told_files s = told_if_none s.over (file_of s.kept.files)

-- the name of the file whose put is open, of a lost one no name
abbrev pub put_name : OpenPut → List (List ℕ × List ℕ) → Option (List ℕ)
put_name Closed fs = None
put_name Open fs = newest_name fs
put_name Lost fs = Some []

-- the store after a put began: its file is lost, and counted, where it has no place
abbrev pub sure_begun : List ℕ → SureStoreState → SureStoreState
sure_begun name s =
    if has_place name s.kept.files
    then record s { kept = record s.kept { files = with_empty name s.kept.files }; put = Open }
    else record s { put = Lost; over = plus s.over 1 }

-- the store after bytes were put into the newest file: what fits is kept, the rest counted
abbrev pub kept_piece : List ℕ → SureStoreState → SureStoreState
kept_piece bytes s = record s {
  kept = record s.kept { files = with_grown (take (spare_room s.kept) bytes) s.kept.files };
  over = plus s.over (length bytes - spare_room s.kept);
}

-- the store after bytes were put into the open file; those of a lost file are counted
abbrev pub pieced_into : OpenPut → List ℕ → SureStoreState → SureStoreState
pieced_into Closed bytes s = s
pieced_into Open bytes s = kept_piece bytes s
pieced_into Lost bytes s = record s { over = plus s.over (length bytes) }

-- the store after a file was added whole: no put is open where it fits, and else nothing changes
abbrev pub sure_added : List ℕ → List ℕ → SureStoreState → SureStoreState
sure_added name bytes s =
    if can_add name bytes s.kept
    then record s { kept = record s.kept { files = with_file name bytes s.kept.files }; put = Closed }
    else s
