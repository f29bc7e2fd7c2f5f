-- Files that a call needs.
use Rattle.std.proofs.Common.{◌≡◌, ℕ, zero, suc, ◌<◌, ◌≤◌, ◌⊎◌, inl, inr, List, [], ◌∷◌, length, Option, Some, None, refl, sym, ap, ◌∙◌, subst, arith}
use Rattle.std.specs.Prelude.{IsSomeAnd}
use Rattle.gc_outside.specs.Store.{Files, Answers}
use Rattle.gc_outside.specs.declared.store.Got.TheVariants.{Bytes, Absent, Longer}
use Rattle.gc_outside.proofs.Outputs.{rose_later}
use Rattle.session.specs.Ending.{Ending, absent_refusal, long_refusal, store_refusal, memory_refusal}
use Rattle.session.specs.Outside.{StoreSeen, StoreFailed, SameStore, OnlyReads}
use Rattle.session.specs.Fetched.{IsFileOf, HasFile, FileStops, FileLeadsTo}

-- some list is longer than n
longer_than : (n : ℕ) → (xs : List ℕ) × (n < length xs)
longer_than zero = (0 ∷ [], omega arith)
longer_than (suc n) = let more = longer_than n in (0 ∷ more.0, omega (arith, more.1))

-- what an answer says of the file, where the store tells it
pub got_bytes : (files : Option Files) (name bytes : List ℕ) (most : ℕ) → Answers most name files (Bytes bytes) → IsFileOf files name (Some bytes)
got_bytes None name bytes most h = tt
got_bytes (Some files) name bytes most h = sym h

pub got_absent : (files : Option Files) (name : List ℕ) (most : ℕ) → Answers most name files Absent → IsFileOf files name None
got_absent None name most h = tt
got_absent (Some files) name most h = sym h

pub got_longer : (files : Option Files) (name : List ℕ) (most : ℕ) → Answers most name files Longer
    → (bytes : List ℕ) × IsFileOf files name (Some bytes) × (most < length bytes)
got_longer None name most h = let more = longer_than most in (more.0, tt, more.1)
got_longer (Some files) name most h = by_file (files name) refl h where
  by_file : (file : Option (List ℕ)) → files name ≡ file → IsSomeAnd file (λ (bytes : List ℕ). most < length bytes) → (bytes : List ℕ) × (Some bytes ≡ files name) × (most < length bytes)
  by_file None is long = absurd long
  by_file (Some bytes) is long = (bytes, sym is, long)

-- a store that was only read before is as it was
pub has_earlier : (name : List ℕ) (most : ℕ) (old mid : StoreSeen) (bytes : List ℕ) → OnlyReads old mid → HasFile name most mid.files bytes → HasFile name most old.files bytes
has_earlier name most old mid bytes k h =
    let P : Option Files → Type 0 = λ files. HasFile name most files bytes in subst P k.same.files h

stops_earlier : (name : List ℕ) (most : ℕ) (old mid new : StoreSeen) (e : Ending) → OnlyReads old mid → FileStops name most mid new e → FileStops name most old new e
stops_earlier name most old mid new e k (inl h) = inl (rose_later old.faults mid.faults new.faults k.count h.0, h.1)
stops_earlier name most old mid new e k (inr (inl h)) = inr (inl h)
stops_earlier name most old mid new e k (inr (inr (inl h))) =
    let P : Option Files → Type 0 = λ files. IsFileOf files name None in inr (inr (inl (subst P k.same.files h.0, h.1)))
stops_earlier name most old mid new e k (inr (inr (inr h))) =
    let P : Option Files → Type 0 = λ files. IsFileOf files name (Some h.0) in inr (inr (inr (h.0, subst P k.same.files h.1, h.2, h.3)))

pub leads_earlier : (name : List ℕ) (most : ℕ) (Next : List ℕ → Ending → Type 0) (old mid new : StoreSeen) (e : Ending) → OnlyReads old mid
    → FileLeadsTo name most Next mid new e → FileLeadsTo name most Next old new e
leads_earlier name most Next old mid new e k (inl h) = inl (stops_earlier name most old mid new e k h)
leads_earlier name most Next old mid new e k (inr h) = inr (h.0, has_earlier name most old mid h.0 k h.1, h.2)

-- reading twice is reading
pub reads_then : (old mid new : StoreSeen) → OnlyReads old mid → OnlyReads mid new → OnlyReads old new
reads_then old mid new first second = record {
  same = record { files = second.same.files ∙ first.same.files; open_put = second.same.open_put ∙ first.same.open_put };
  count = omega (arith, first.count, second.count);
}
