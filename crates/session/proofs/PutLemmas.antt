-- A file that is put whole, in three calls of a store.
use Rattle.std.proofs.Common.{◌≡◌, ◌≢◌, ℕ, ◌⊎◌, inl, inr, refl, sym, ap, ◌∙◌, subst, ◌++◌, append-nil, List, [], Option, Some, None}
use Rattle.std.specs.Option.{unwrap_or}
use Rattle.gc_outside.specs.Told.{Told}
use Rattle.gc_outside.specs.Store.{Files, ChangesFile, SameFiles, SameOthers, LeavesOrEmpties, Opens, AppendsToOpen, CutsOpen, HoldsFront, put_bytes}
use Rattle.session.specs.Puts.{IsPutInPart}

-- what stands once the put was begun, and a piece was put into it
module _ (name bytes : List ℕ) (s0 s1 s2 : Files) (begun : ChangesFile name (Some []) s0 s1) (pieced : ChangesFile name (Some (put_bytes s1 name ++ bytes)) s1 s2) where
  empty : put_bytes s1 name ≡ []
  empty = ap (λ (o : Option (List ℕ)). unwrap_or o []) begun.changed

  pieced_file : s2 name ≡ Some bytes
  pieced_file = pieced.changed ∙ ap (λ (b : List ℕ). Some (b ++ bytes)) empty

  pieced_others : SameOthers name s0 s2
  pieced_others n k = pieced.others n k ∙ begun.others n k

  pieced_cut : (s3 : Files) → HoldsFront name (put_bytes s2 name ++ []) s2 s3 → IsPutInPart name bytes s0 s3
  pieced_cut s3 h =
      let all : put_bytes s2 name ++ [] ≡ bytes = append-nil (put_bytes s2 name) ∙ ap (λ (o : Option (List ℕ)). unwrap_or o []) pieced_file in
      record {
        named = inr (h.front, h.rest, sym all ∙ h.whole, h.cut);
        others = λ n k. h.others n k ∙ pieced_others n k;
      }

-- the last call failed
pub put_part : (name bytes : List ℕ) (f0 f1 f2 f3 : Option Files) (put1 put2 : Option (List ℕ)) → Told (ChangesFile name (Some [])) f0 f1 → Opens name f1 put1
    → Told (AppendsToOpen put1 bytes) f1 f2 → put2 ≡ put1 → Told (CutsOpen put2 []) f2 f3 → Told (IsPutInPart name bytes) f0 f3
put_part name bytes None None None None put1 put2 a o b e c = tt
put_part name bytes None None None (Some s3) put1 put2 a o b e c = absurd c
put_part name bytes None None (Some s2) f3 put1 put2 a o b e c = absurd b
put_part name bytes None (Some s1) f2 f3 put1 put2 a o b e c = absurd a
put_part name bytes (Some s0) f1 f2 None put1 put2 a o b e c = tt
put_part name bytes (Some s0) None None (Some s3) put1 put2 a o b e c = absurd c
put_part name bytes (Some s0) None (Some s2) (Some s3) put1 put2 a o b e c = absurd b
put_part name bytes (Some s0) (Some s1) None (Some s3) put1 put2 a o b e c = absurd c
put_part name bytes (Some s0) (Some s1) (Some s2) (Some s3) put1 put2 a o b e c =
    let P : Option (List ℕ) → Type 0 = λ p. AppendsToOpen p bytes s1 s2 in
    let Q : Option (List ℕ) → Type 0 = λ p. CutsOpen p [] s2 s3 in
    pieced_cut name bytes s0 s1 s2 a (subst P o b) s3 (subst Q (e ∙ o) c)
