-- What the sure store tells after its calls.
use Rattle.std.specs.Prelude.{◌≡◌, ℕ, ◌-◌, ◌<◌, List, [], length, take, Option, Some, IsSome}
use Rattle.std.proofs.Common.{refl, arith, eqb, inl, inr}
use Rattle.std.proofs.lemmas.Bool.{cases_Bool, eqb-true, ne_eqb}
use Rattle.std.proofs.lemmas.List.{take_all}
use Rattle.gc_outside.specs.Told.{Told}
use Rattle.gc_outside.specs.declared.sure_store.OpenPut.{OpenPut}
use Rattle.gc_outside.specs.declared.sure_store.OpenPut.TheVariants.{Closed, Open, Lost}
use Rattle.gc_outside.specs.Store.{ChangesFile, AppendsToOpen}
use Rattle.gc_outside.specs.KeptFiles.{file_of, spare_room, has_place}
use Rattle.gc_outside.specs.SureSink.{plus, told_if_none}
use Rattle.gc_outside.specs.SureStore.{SureStoreState, told_files, put_name, sure_begun, pieced_into, kept_piece, IsCounted}
use Rattle.gc_outside.proofs.Files.{started, grown, some_named}

-- nothing is told once some was over
untold : {A : Type 0} (R : A → A → Type 0) (before : Option A) (over : ℕ) (after : A) → 0 < over → Told R before (told_if_none over after)
untold R before over after some = rw (ne_eqb over 0 (λ none. omega (arith, none))) tt

-- a relation of two contents that are both told, or both not
both_told : {A : Type 0} (R : A → A → Type 0) (over : ℕ) (before after : A) → R before after → Told R (told_if_none over before) (told_if_none over after)
both_told R over before after holds =
    elim (cases_Bool (eqb over 0)) [
      | inl none ↦ rw none holds
      | inr some ↦ rw some tt
    ]

-- a file that is started is empty
pub sure_begun-tells : (name : List ℕ) (s : SureStoreState) → Told (ChangesFile name (Some [])) (told_files s) (told_files (sure_begun name s))
sure_begun-tells name s =
    elim (cases_Bool (has_place name s.kept.files)) [
      | inl fits ↦ rw fits (both_told (ChangesFile name (Some [])) s.over (file_of s.kept.files) _ (started name s.kept.files))
      | inr lost ↦ rw lost (untold (ChangesFile name (Some [])) (told_files s) (plus s.over 1) (file_of s.kept.files) (omega arith))
    ]

-- the newest file gains the bytes, or some were over
kept_piece-tells : (bytes : List ℕ) (s : SureStoreState) → 0 < length s.kept.files → Told (AppendsToOpen (put_name Open s.kept.files) bytes) (told_files s) (told_files (kept_piece bytes s))
kept_piece-tells bytes s some =
    elim (cases_Bool (eqb (plus s.over (length bytes - spare_room s.kept)) 0)) [
      | inl none ↦
          let zero : plus s.over (length bytes - spare_room s.kept) ≡ 0 = eqb-true _ _ none in
          let same : s.over ≡ 0 = omega (arith, zero) in
          let all : take (spare_room s.kept) bytes ≡ bytes = take_all (spare_room s.kept) bytes (omega (arith, zero)) in
          rw (none, same, all) (grown bytes s.kept.files some)
      | inr over ↦ rw over tt
    ]

-- a piece is appended to the open file
pub pieced_into-tells : (bytes : List ℕ) (s : SureStoreState) (put : OpenPut) → IsCounted put s.over → IsSome (put_name put s.kept.files) → Told (AppendsToOpen (put_name put s.kept.files) bytes) (told_files s) (told_files (pieced_into put bytes s))
pieced_into-tells bytes s Closed counted named = absurd (cc)
pieced_into-tells bytes s Open counted named = kept_piece-tells bytes s (some_named s.kept.files named)
pieced_into-tells bytes s Lost counted named =
    let some = counted refl in
    untold (AppendsToOpen (Some []) bytes) (told_files s) (plus s.over (length bytes)) (file_of s.kept.files) (omega arith)
