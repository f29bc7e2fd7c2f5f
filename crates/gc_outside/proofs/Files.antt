-- What the files of each name are as files are started and grow.
use Rattle.std.specs.Prelude.{◌≡◌, ◌≢◌, ℕ, ◌<◌, true, false, List, [], ◌∷◌, length, Some, IsSome}
use Rattle.std.proofs.Common.{refl, sym, ◌∙◌, ap, arith, inl, inr}
use Rattle.std.specs.Str.{bytes_eq}
use Rattle.std.proofs.lemmas.Bool.{cases_Bool, false_from_ne_true}
use Rattle.std.proofs.lemmas.Slice.Eq.{bytes_eq-Decides}
use Rattle.gc_outside.specs.KeptFiles.{file_of, without, with_empty, with_grown, newest_name}
use Rattle.gc_outside.specs.Store.{ChangesFile, LeavesOrEmpties, AppendsToOpen, CutsOpen}

-- a name is itself
same_name : (name : List ℕ) → bytes_eq name name ≡ true
same_name name = (bytes_eq-Decides name name).1 refl

-- and no other
other_name : (name n : List ℕ) → n ≢ name → bytes_eq name n ≡ false
other_name name n other = false_from_ne_true (bytes_eq name n) (λ same. other (sym ((bytes_eq-Decides name n).0 same)))

-- without one name the others are as they were
file_of-without : (name n : List ℕ) (fs : List (List ℕ × List ℕ)) → n ≢ name → file_of (without name fs) n ≡ file_of fs n
file_of-without name n [] other = refl
file_of-without name n (f ∷ fs) other =
    elim (cases_Bool (bytes_eq f.0 name)) [
      | inl same ↦
          let is : f.0 ≡ name = (bytes_eq-Decides f.0 name).0 same in
          let not_n : bytes_eq f.0 n ≡ false = ap (λ m. bytes_eq m n) is ∙ other_name name n other in
          rw (same, not_n) refl
      | inr differs ↦ rw differs (elim (cases_Bool (bytes_eq f.0 n)) [
        | inl same ↦ rw same refl
        | inr not_n ↦ rw not_n (file_of-without name n fs other)
      ])
    ]

-- a file that is started is empty, and the others stand
pub started : (name : List ℕ) (fs : List (List ℕ × List ℕ)) → ChangesFile name (Some []) (file_of fs) (file_of (with_empty name fs))
started name fs = record {
  changed = rw (same_name name) refl;
  others = λ n other. rw (other_name name n other) (file_of-without name n fs other);
}

-- the newest file gains the bytes, and the others stand
pub grown : (bytes : List ℕ) (fs : List (List ℕ × List ℕ)) → 0 < length fs → AppendsToOpen (newest_name fs) bytes (file_of fs) (file_of (with_grown bytes fs))
grown bytes [] some = absurd (omega arith)
grown bytes (f ∷ fs) some = record {
  changed = rw (same_name f.0) refl;
  others = λ n other. rw (other_name f.0 n other) refl;
}

-- where nothing was done, the open file holds what was put
pub cut_nothing : (bytes : List ℕ) (fs : List (List ℕ × List ℕ)) → 0 < length fs → CutsOpen (newest_name fs) bytes (file_of fs) (file_of fs)
cut_nothing bytes [] some = absurd (omega arith)
cut_nothing bytes (f ∷ fs) some = record {
  front = f.1;
  rest = bytes;
  whole = rw (same_name f.0) refl;
  cut = rw (same_name f.0) refl;
  others = λ n other. refl;
}

-- where nothing was done, every file stands
pub left_alone : (name : List ℕ) (fs : List (List ℕ × List ℕ)) → LeavesOrEmpties name (file_of fs) (file_of fs)
left_alone name fs = record { named = inl refl; others = λ n other. refl }

-- there is a newest file where it has a name
pub some_named : (fs : List (List ℕ × List ℕ)) → IsSome (newest_name fs) → 0 < length fs
some_named [] named = absurd (cc)
some_named (f ∷ fs) named = omega arith
