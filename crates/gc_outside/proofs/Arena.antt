-- What becomes of the files in a block of bytes as entries and bytes come and go.
use Rattle.std.specs.Prelude.{◌≡◌, ℕ, zero, suc, ◌+◌, ◌-◌, ◌<◌, ◌≤◌, true, false, if◌then◌else◌, List, [], ◌∷◌, ◌++◌, length, take, drop, remove, Option, Some, None, position}
use Rattle.std.proofs.Common.{refl, sym, ◌∙◌, ap, arith, get_or, length-take-le, length-append, length-drop, add-one}
use Rattle.std.proofs.lemmas.List.{drop-take, drop-drop, take-take, take_all, take_at, drop_at, take-append-le, drop-append-le}
use Rattle.std.proofs.lemmas.List.Quantifiers.{position-Some}
use Rattle.std.proofs.lemmas.List.Sums.{fails_before_first}
use Rattle.std.proofs.lemmas.Bool.{ltb-false, ltb-true, cases_Bool, or_cases, and_parts}
use Rattle.std.specs.List.{position_or_len}
use Rattle.std.specs.Prelude.{nat_lt, nat_le}
use Rattle.std.specs.Str.{bytes_eq}
use Rattle.std.specs.Borrow.{Bor}
use Rattle.std.specs.Prelude.{Result, Ok, Err, IsOk, is_ok, unwrap_or}
use Rattle.std.specs.Option.{option_copied}
use Rattle.std.proofs.Common.{inl, inr}
use Rattle.gc_outside.specs.declared.kept_files.Entry.{Entry}
use Rattle.gc_outside.specs.KeptFiles.{file_of, without, with_grown, total_length, has_place}
use Rattle.std.specs.Prelude.{vec_len, is_some}
use Rattle.gc_outside.specs.declared.kept_files.KeptFiles.TheInside.{Inside}
use Rattle.gc_outside.specs.Arena.{entries_length, files_in, is_named, with_longer, IsShared}

-- an entry, for what is read past the end
abbrev pub no_entry : Entry
no_entry = record { name = record { bytes = []; spare = [] }; length = 0 }

-- the entries before one, and it, are some of all
pub entries_length-drop : (es : List Entry) (i : ℕ) (d : Entry) → i < length es → (get_or es i d).length + entries_length (drop (i + 1) es) ≤ entries_length es
entries_length-drop [] i d below = absurd (omega arith)
entries_length-drop (e ∷ es) zero d below = omega arith
entries_length-drop (e ∷ es) (suc i) d below = rw add-one (let rest = entries_length-drop es i d (omega arith) in let h = rw add-one at rest in omega arith)

-- a part of a list is a part of each front that has it
part-take : (bytes : List ℕ) (from n k : ℕ) → from + n ≤ k → take n (drop from (take k bytes)) ≡ take n (drop from bytes)
part-take bytes from n k fits =
    sym (drop-take from n (take k bytes)) ∙ ap (drop from) (take-take (from + n) k bytes fits) ∙ drop-take from n bytes

-- the files lie in the front of the bytes that the entries share out
pub files_in-same_front : (es : List Entry) (k : ℕ) (old new : List ℕ) → entries_length es ≤ k → take k new ≡ take k old → files_in new es ≡ files_in old es
files_in-same_front [] k old new fits same = refl
files_in-same_front (e ∷ es) k old new fits same =
    let head : take e.length (drop (entries_length es) new) ≡ take e.length (drop (entries_length es) old) =
    sym (part-take new (entries_length es) e.length k (omega arith)) ∙ ap (λ l. take e.length (drop (entries_length es) l)) same ∙ part-take old (entries_length es) e.length k (omega arith) in
    (λ i. (e.name.bytes, head i) ∷ files_in-same_front es k old new (omega arith) same i)

-- more bytes at the end change no file
pub files_in-append : (es : List Entry) (bytes more : List ℕ) → entries_length es ≤ length bytes → files_in (bytes ++ more) es ≡ files_in bytes es
files_in-append es bytes more fits =
    files_in-same_front es (length bytes) bytes (bytes ++ more) fits (take-append-le (length bytes) bytes more (omega arith))

-- the files have as many bytes as their entries say
pub total_length-files_in : (es : List Entry) (bytes : List ℕ) → entries_length es ≤ length bytes → total_length (files_in bytes es) ≡ entries_length es
total_length-files_in [] bytes fits = refl
total_length-files_in (e ∷ es) bytes fits =
    let rest = total_length-files_in es bytes (omega arith) in
    omega (arith, rest, length-take-le e.length (drop (entries_length es) bytes) (omega (arith, length-drop (entries_length es) bytes)))

-- all bytes are those of the files
pub total_length-shared : (a : Inside) → IsShared a → total_length (files_in a.bytes.items a.entries.items) ≡ vec_len a.bytes
total_length-shared a shares =
    total_length-files_in a.entries.items a.bytes.items (omega (arith, shares.shared, a.bytes.ok.0)) ∙ shares.shared

-- the newest file gains the bytes that are put at the end
pub files_in-longer : (es : List Entry) (bytes more : List ℕ) → entries_length es ≡ length bytes → files_in (bytes ++ more) (with_longer (length more) es) ≡ with_grown more (files_in bytes es)
files_in-longer [] bytes more shared = refl
files_in-longer (e ∷ es) bytes more shared =
    let rest : drop (entries_length es) (bytes ++ more) ≡ drop (entries_length es) bytes ++ more = drop-append-le (entries_length es) bytes more (omega arith) in
    let had : take e.length (drop (entries_length es) bytes) ≡ drop (entries_length es) bytes = take_all e.length (drop (entries_length es) bytes) (omega (arith, length-drop (entries_length es) bytes)) in
    let has : take (e.length + length more) (drop (entries_length es) bytes ++ more) ≡ drop (entries_length es) bytes ++ more =
    take_all _ _ (omega (arith, length-drop (entries_length es) bytes, length-append (drop (entries_length es) bytes) more)) in
    (λ i. (e.name.bytes, (ap (take (e.length + length more)) rest ∙ has ∙ ap (λ l. l ++ more) (sym had)) i) ∷ files_in-append es bytes more (omega arith) i)

-- it has so many more bytes, and there are as many entries
pub entries_length-longer : (es : List Entry) (by : ℕ) → 0 < length es → entries_length (with_longer by es) ≡ entries_length es + by
entries_length-longer [] by some = absurd (omega arith)
entries_length-longer (e ∷ es) by some = omega arith

pub length-longer : (es : List Entry) (by : ℕ) → length (with_longer by es) ≡ length es
length-longer [] by = refl
length-longer (e ∷ es) by = refl

-- there is a file for each entry
pub length-files_in : (es : List Entry) (bytes : List ℕ) → length (files_in bytes es) ≡ length es
length-files_in [] bytes = refl
length-files_in (e ∷ es) bytes = ap suc (length-files_in es bytes)

-- the entries but one have the bytes of all but its own
pub entries_length-remove : (es : List Entry) (i : ℕ) (d : Entry) → i < length es → entries_length (remove es i) + (get_or es i d).length ≡ entries_length es
entries_length-remove [] i d below = absurd (omega arith)
entries_length-remove (e ∷ es) zero d below = omega arith
entries_length-remove (e ∷ es) (suc i) d below = omega (arith, entries_length-remove es i d (omega arith))

-- those after one have no more
entries_length-after : (es : List Entry) (i : ℕ) → entries_length (drop (suc i) es) ≤ entries_length (remove es i)
entries_length-after [] i = omega arith
entries_length-after (e ∷ es) zero = omega arith
entries_length-after (e ∷ es) (suc i) = omega (arith, entries_length-after es i)

-- what lies behind a gap moves down by its length
drop-closed : (old : List ℕ) (from n at : ℕ) → from ≤ at → from ≤ length old → drop at (take from old ++ drop (from + n) old) ≡ drop (at + n) old
drop-closed old from n at behind fits =
    let parts : from + (at - from) ≡ at = omega arith in
    let all : (from + n) + (at - from) ≡ at + n = omega arith in
    ap (λ k. drop k (take from old ++ drop (from + n) old)) (sym parts)
    ∙ sym (drop-drop (at - from) from (take from old ++ drop (from + n) old))
    ∙ ap (drop (at - from)) (drop_at (take from old) (drop (from + n) old) from (length-take-le from old fits))
    ∙ drop-drop (at - from) (from + n) old
    ∙ ap (λ k. drop k old) all

-- a file of this name is there, so that there is one less without it
pub length-without : (name : List ℕ) (fs : List (List ℕ × List ℕ)) → is_some (file_of fs name) ≡ true → length (without name fs) + 1 ≡ length fs
length-without name [] there = absurd (cc)
length-without name (f ∷ fs) there =
    elim (cases_Bool (bytes_eq f.0 name)) [
      | inl same ↦ rw same (omega arith)
      | inr other ↦ let h = rw other at there in rw other (omega (arith, length-without name fs h))
    ]

-- the other files and the one of this name have all bytes
pub total_length-without : (name : List ℕ) (fs : List (List ℕ × List ℕ)) → total_length (without name fs) + length (unwrap_or (file_of fs name) []) ≡ total_length fs
total_length-without name [] = refl
total_length-without name (f ∷ fs) =
    elim (cases_Bool (bytes_eq f.0 name)) [
      | inl same ↦ rw same (omega arith)
      | inr other ↦ rw other (omega (arith, total_length-without name fs))
    ]

-- there are no more files without one
pub length-without-le : (name : List ℕ) (fs : List (List ℕ × List ℕ)) → length (without name fs) ≤ length fs
length-without-le name [] = omega arith
length-without-le name (f ∷ fs) =
    elim (cases_Bool (bytes_eq f.0 name)) [
      | inl same ↦ rw same (omega arith)
      | inr other ↦ rw other (omega (arith, length-without-le name fs))
    ]

-- where a file may be started there is a free place once the old one is out
pub length-without_placed : (name : List ℕ) (fs : List (List ℕ × List ℕ)) → has_place name fs ≡ true → length fs ≤ 16 → length (without name fs) < 16
length-without_placed name fs place few =
    elim (or_cases (is_some (file_of fs name)) (nat_lt (length fs) 16) (and_parts (nat_le (length name) 64) _ place).1) [
      | inl there ↦ omega (arith, length-without name fs there)
      | inr free ↦ omega (arith, ltb-true (length fs) 16 free, length-without-le name fs)
    ]

-- none is taken out where none is there
pub without-absent : (name : List ℕ) (fs : List (List ℕ × List ℕ)) → file_of fs name ≡ None → without name fs ≡ fs
without-absent name [] absent = refl
without-absent name (f ∷ fs) absent =
    elim (cases_Bool (bytes_eq f.0 name)) [
      | inl same ↦ let h = rw same at absent in absurd (cc)
      | inr other ↦ let h = rw other at absent in rw other (ap (λ l. f ∷ l) (without-absent name fs h))
    ]

module _ (name : List ℕ) (d : Entry) where
  -- no entry before this place has the name, and the one here has it
  abbrev pub IsFirst : List Entry → ℕ → Type 0
  IsFirst es i = (i < length es) × (is_named name (get_or es i d) ≡ true) × ((k : ℕ) → k < i → is_named name (get_or es k d) ≡ false)

  IsFirst-tail : (e : Entry) (es : List Entry) (i : ℕ) → IsFirst (e ∷ es) (suc i) → IsFirst es i
  IsFirst-tail e es i first = (omega arith, first.1, λ k below. first.2 (suc k) (omega arith))

  -- the place that a search of the name gives
  pub IsFirst-position : (es : List Entry) (i : ℕ) → position (is_named name) es ≡ Some i → IsFirst es i
  IsFirst-position es i found = position-Some (is_named name) es i d found

  -- the file of a name lies where its entry says
  pub file_of-first : (es : List Entry) (i : ℕ) (bytes : List ℕ) → IsFirst es i
      → file_of (files_in bytes es) name ≡ Some (take (get_or es i d).length (drop (entries_length (drop (suc i) es)) bytes))
  file_of-first [] i bytes first = absurd (omega arith)
  file_of-first (e ∷ es) zero bytes first = rw first.1 refl
  file_of-first (e ∷ es) (suc i) bytes first = rw (first.2 zero (omega arith)) (file_of-first es i bytes (IsFirst-tail e es i first))

  -- without its entry and its bytes, the others stay
  pub without-first : (es : List Entry) (i : ℕ) (old new : List ℕ) → IsFirst es i → entries_length es ≤ length old
      → new ≡ take (entries_length (drop (suc i) es)) old ++ drop (entries_length (drop (suc i) es) + (get_or es i d).length) old
      → files_in new (remove es i) ≡ without name (files_in old es)
  without-first [] i old new first fits closed = absurd (omega arith)
  without-first (e ∷ es) zero old new first fits closed =
      rw first.1 (files_in-same_front es (entries_length es) old new (omega arith)
      (ap (take (entries_length es)) closed ∙ take_at (take (entries_length es) old) _ (entries_length es) (length-take-le (entries_length es) old (omega arith))))
  without-first (e ∷ es) (suc i) old new first fits closed =
      let less = entries_length-remove es i d (omega arith) in
      let after = entries_length-after es i in
      let head : drop (entries_length (remove es i)) new ≡ drop (entries_length es) old =
      ap (drop (entries_length (remove es i))) closed
      ∙ drop-closed old (entries_length (drop (suc i) es)) (get_or es i d).length (entries_length (remove es i)) after (omega arith)
      ∙ ap (λ n. drop n old) less in
      let rest = without-first es i old new (IsFirst-tail e es i first) (omega arith) closed in
      rw (first.2 zero (omega arith)) (λ j. (e.name.bytes, take e.length (head j)) ∷ rest j)

  -- an entry without this name at each place
  nowhere : (es : List Entry) → position (is_named name) es ≡ None → (k : ℕ) → k < length es → is_named name (get_or es k d) ≡ false
  nowhere es none k below =
      elim (cases_Bool (nat_lt (position_or_len (is_named name) es) (length es))) [
        | inl found ↦ absurd (let h = rw found at none in cc)
        | inr past ↦ fails_before_first (is_named name) es k d (omega (arith, ltb-false _ _ past))
      ]

  file_of-nowhere : (es : List Entry) (bytes : List ℕ) → ((k : ℕ) → k < length es → is_named name (get_or es k d) ≡ false) → file_of (files_in bytes es) name ≡ None
  file_of-nowhere [] bytes none = refl
  file_of-nowhere (e ∷ es) bytes none = rw (none zero (omega arith)) (file_of-nowhere es bytes (λ k below. none (suc k) (omega arith)))

  -- no entry has the name
  pub file_of-none : (es : List Entry) (bytes : List ℕ) → position (is_named name) es ≡ None → file_of (files_in bytes es) name ≡ None
  file_of-none es bytes none = file_of-nowhere es bytes (nowhere es none)

-- what is copied is there where what is lent is
pub is_some-copied : (lent : Option (Bor (List ℕ))) → is_some (option_copied lent) ≡ is_some lent
is_some-copied None = refl
is_some-copied (Some x) = refl

-- what a call that succeeded leaves
pub left_by_ok : {T E : Type 0} (r : Result T E) (done undone : List ℕ) → IsOk r → (if is_ok r then done else undone) ≡ done
left_by_ok (Ok x) done undone ok = refl
left_by_ok (Err e) done undone ok = absurd (cc)

-- what is lent of a file, or nothing
pub unwrap_or-copied : (lent : Option (Bor (List ℕ))) (none : Bor (List ℕ)) → none.now ≡ [] → (unwrap_or lent none).now ≡ unwrap_or (option_copied lent) []
unwrap_or-copied None none empty = empty
unwrap_or-copied (Some x) none empty = refl
