-- Laws of what is wrong: the faults that are found in a document are those that it has, and the first of them is the least.
use Rattle.std.proofs.Common.{◌≡◌, ◌≢◌, ◌⊎◌, ℕ, zero, suc, ◌<◌, ◌%◌, ◌==◌, ◌&&◌, ◌||◌, nat_le, nat_lt, pos, negsuc, inl, inr, Bool, true, false, cond, is_some, List, [], ◌∷◌, length, get_or, Option, Some, None, All, Contains, Ordering, Less, Equal, Greater, nat_cmp, codes, refl, sym, ap, subst, ◌∙◌, arith}
use Rattle.std.proofs.lemmas.Bool.{and_parts, eqb-true, leb-true, false≢true}
use Rattle.std.proofs.lemmas.Bool.Decides.{nat_tests}
use Rattle.std.proofs.lemmas.Cmp.{nat_list_cmp_total}
use Rattle.std.proofs.lemmas.List.Elements.{All-append, All-cons, All-contains, All-contains_itself, All-head, All-nil, All-tail, All-weaker, Contains-append_left, Contains-append_right}
use Rattle.std.proofs.lemmas.List.Folds.{list_any_none}
use Rattle.std.proofs.lemmas.Map.Text.{is_eq-slice_cmp}
use Rattle.std.proofs.lemmas.Slice.Eq.{bytes_eq-Decides}
use Rattle.std.specs.Cmp.Lexicographic.{slice_cmp}
use Rattle.std.specs.Int.{is_power_of_two}
use Rattle.std.specs.List.{flat_map, list_any}
use Rattle.std.specs.Option.{option_map_or}
use Rattle.std.specs.Ordering.{is_eq, match_ordering, ordering_reverse}
use Rattle.std.specs.Str.{bytes_eq}
use Rattle.gc_base.specs.declared.limits.TheConstants.{RAM_MIN, RAM_MAX, PAGE, SETS_MAX}
use Rattle.toml.specs.Data.{Data, string, integer, float, boolean, datetime, array, table, Members, no_members, member, get_member}
use Rattle.cfg_tree.proofs.FaultLaws.{none_before_first}
use Rattle.cfg_tree.specs.Faults.{earliest, faults, first_fault, found, is_before, is_key, is_section, key_faults, key_path, present_faults, rank, section_faults, shape_faults, table_faults, unknown_keys, unknown_names, value_faults}
use Rattle.cfg_tree.specs.Rows.{KeyRow, SectionRow, is_allowed, is_right, model_of, section_rows, whole_number}
use Rattle.cfg_tree.specs.Wrong.{HasName, HasTable, IsFault, IsFaultOf, IsInRange, IsLeastFault, IsNumberIn, MayBe, StandsNoLater}
use Rattle.cfg_tree.specs.declared.fault.FaultKind.{FaultKind}
use Rattle.cfg_tree.specs.declared.fault.FaultKind.TheVariants.{Unknown, Missing, Value, Shape}
use Rattle.cfg_tree.specs.declared.fault.Found.{Found}
use Rattle.cfg_tree.specs.declared.rows.ValueKind.{ValueKind}
use Rattle.cfg_tree.specs.declared.rows.ValueKind.TheVariants.{UpTo, Sets, Line, Ram, Model}

-- ---- elements of joined lists

Contains-head : {A : Type 0} (x : A) (xs : List A) → Contains (x ∷ xs) x
Contains-head x xs = (0, omega arith, refl)

pub Contains-cons : {A : Type 0} (head x : A) (xs : List A) → Contains xs x → Contains (head ∷ xs) x
Contains-cons head x xs p = (suc p.0, omega (arith, p.1), p.2)

Contains-cons_cases : {A : Type 0} (head x : A) (xs : List A) → Contains (head ∷ xs) x → (head ≡ x) ⊎ Contains xs x
Contains-cons_cases {A} head x xs p = by_index p.0 p.1 p.2
  where
    by_index : (k : ℕ) → k < suc (length xs) → get_or (head ∷ xs) k x ≡ x → (head ≡ x) ⊎ Contains xs x
    by_index zero within same = inl same
    by_index (suc k) within same = inr (k, omega arith, same)

-- what a part of a joined list has, the list has
Contains-flat_map : {A B : Type 0} (f : A → List B) (xs : List A) (x : A) (y : B) → Contains xs x → Contains (f x) y → Contains (flat_map f xs) y
Contains-flat_map f [] x y h g = absurd (omega (arith, h.1))
Contains-flat_map f (z ∷ zs) x y h g =
    elim (Contains-cons_cases z x zs h) [
      | inl here ↦ Contains-append_left (f z) (flat_map f zs) y (subst (λ w. Contains (f w) y) (sym here) g)
      | inr later ↦ Contains-append_right (f z) (flat_map f zs) y (Contains-flat_map f zs x y later g)
    ]

All-flat_map : {A B : Type 0} (P : B → Type 0) (f : A → List B) (xs : List A) → All (λ x. All P (f x)) xs → All P (flat_map f xs)
All-flat_map P f [] h = All-nil P
All-flat_map P f (x ∷ xs) h =
    All-append P (f x) (flat_map f xs) (All-head (λ z. All P (f z)) x xs h) (All-flat_map P f xs (All-tail (λ z. All P (f z)) x xs h))

All-one : {A : Type 0} (P : A → Type 0) (x : A) → P x → All P (x ∷ [])
All-one P x p = All-cons P x [] p (All-nil P)

-- ---- names

neither : (a b : Bool) → (a || b) ≡ false → (a ≡ false) × (b ≡ false)
neither true b e = absurd (false≢true (sym e))
neither false b e = (refl, e)

same_bytes : (xs ys : List ℕ) → xs ≡ ys → bytes_eq xs ys ≡ true
same_bytes xs ys e = (bytes_eq-Decides xs ys).1 e

other_bytes : (xs ys : List ℕ) → xs ≢ ys → bytes_eq xs ys ≡ false
other_bytes xs ys other = by_test (bytes_eq xs ys) refl
  where
    by_test : (b : Bool) → bytes_eq xs ys ≡ b → b ≡ false
    by_test true e = absurd (other ((bytes_eq-Decides xs ys).0 e))
    by_test false e = refl

-- a name that no row has
none_named : {R : Type 0} (n : R → List ℕ) (rows : List R) (name : List ℕ) → list_any (λ r. bytes_eq (n r) name) rows ≡ false → All (λ r. n r ≢ name) rows
none_named n [] name e = All-nil (λ r. n r ≢ name)
none_named n (r ∷ rows) name e =
    let (here, later) = neither (bytes_eq (n r) name) (list_any (λ q. bytes_eq (n q) name) rows) e in
    All-cons (λ q. n q ≢ name) r rows (λ same. false≢true (sym here ∙ same_bytes (n r) name same)) (none_named n rows name later)

not_named : {R : Type 0} (n : R → List ℕ) (rows : List R) (name : List ℕ) → All (λ r. n r ≢ name) rows → list_any (λ r. bytes_eq (n r) name) rows ≡ false
not_named n rows name h =
    list_any_none (λ r. bytes_eq (n r) name) rows (All-weaker (λ r. n r ≢ name) (λ r. bytes_eq (n r) name ≡ false) (λ r. other_bytes (n r) name) rows h)

-- ---- values

number_of : (p : ℕ → Bool) (d : Data) → option_map_or p (whole_number d) false ≡ true → (n : ℕ) × (d ≡ integer (pos n)) × (p n ≡ true)
number_of p (string x) e = absurd (false≢true e)
number_of p (integer (pos n)) e = (n, refl, e)
number_of p (integer (negsuc n)) e = absurd (false≢true e)
number_of p (float x) e = absurd (false≢true e)
number_of p (boolean x) e = absurd (false≢true e)
number_of p (datetime x) e = absurd (false≢true e)
number_of p (array x) e = absurd (false≢true e)
number_of p (table x) e = absurd (false≢true e)

-- a number that passes its key's test is in its range, and the other way round
in_range : (kind : ValueKind) (n : ℕ) → is_allowed kind n ≡ true → IsInRange kind n
in_range (UpTo most) n e = let (least, greatest) = and_parts (nat_le 1 n) (nat_le n most) e in (leb-true 1 n least, leb-true n most greatest)
in_range Sets n e = let (power, greatest) = and_parts (is_power_of_two n) (nat_le n SETS_MAX) e in (power, leb-true n SETS_MAX greatest)
in_range Line n e = one_of (n == 16) (n == 32) (n == 64) refl refl refl e
  where
    one_of : (a b c : Bool) → (n == 16) ≡ a → (n == 32) ≡ b → (n == 64) ≡ c → (a || b || c) ≡ true → (n ≡ 16) ⊎ ((n ≡ 32) ⊎ (n ≡ 64))
    one_of true b c p q r h = inl (eqb-true n 16 p)
    one_of false true c p q r h = inr (inl (eqb-true n 32 q))
    one_of false false true p q r h = inr (inr (eqb-true n 64 r))
    one_of false false false p q r h = absurd (false≢true h)
in_range Ram n e =
    let (range, pages) = and_parts (nat_le RAM_MIN n && nat_le n RAM_MAX) (n % PAGE == 0) e in
    let (least, most) = and_parts (nat_le RAM_MIN n) (nat_le n RAM_MAX) range in
    (leb-true RAM_MIN n least, leb-true n RAM_MAX most, eqb-true (n % PAGE) 0 pages)
in_range Model n e = absurd (false≢true e)

allowed : (kind : ValueKind) (n : ℕ) → IsInRange kind n → is_allowed kind n ≡ true
allowed (UpTo most) n r = grind (arith, nat_tests)
allowed Sets n r = rw r.0 (grind (arith, nat_tests))
allowed Line n (inl e) = rw e refl
allowed Line n (inr (inl e)) = rw e refl
allowed Line n (inr (inr e)) = rw e refl
allowed Ram n r = grind (arith, nat_tests)
allowed Model n r = absurd r

word_of : (s : List ℕ) → is_some (model_of (string s)) ≡ true → (string s ≡ string (codes "timing")) ⊎ (string s ≡ string (codes "atomic"))
word_of s e = by_word (bytes_eq s (codes "timing")) (bytes_eq s (codes "atomic")) refl refl e
  where
    by_word : (a b : Bool) → bytes_eq s (codes "timing") ≡ a → bytes_eq s (codes "atomic") ≡ b
        → is_some (cond a (Some true) (cond b (Some false) None)) ≡ true → (string s ≡ string (codes "timing")) ⊎ (string s ≡ string (codes "atomic"))
    by_word true b p q h = inl (ap string ((bytes_eq-Decides s (codes "timing")).0 p))
    by_word false true p q h = inr (ap string ((bytes_eq-Decides s (codes "atomic")).0 q))
    by_word false false p q h = absurd (false≢true h)

in_number : (kind : ValueKind) (d : Data) → option_map_or (is_allowed kind) (whole_number d) false ≡ true → IsNumberIn kind d
in_number kind d e = let (n, is, test) = number_of (is_allowed kind) d e in (n, is, in_range kind n test)

-- a value that is right is one that its key may have, and the other way round
pub may_be : (kind : ValueKind) (d : Data) → is_right kind d ≡ true → MayBe kind d
may_be (UpTo most) d e = in_number (UpTo most) d e
may_be Sets d e = in_number Sets d e
may_be Line d e = in_number Line d e
may_be Ram d e = in_number Ram d e
may_be Model (string s) e = word_of s e
may_be Model (integer x) e = absurd (false≢true e)
may_be Model (float x) e = absurd (false≢true e)
may_be Model (boolean x) e = absurd (false≢true e)
may_be Model (datetime x) e = absurd (false≢true e)
may_be Model (array x) e = absurd (false≢true e)
may_be Model (table x) e = absurd (false≢true e)

right : (kind : ValueKind) (d : Data) → MayBe kind d → is_right kind d ≡ true
right (UpTo most) d h = rw h.1 (allowed (UpTo most) h.0 h.2)
right Sets d h = rw h.1 (allowed Sets h.0 h.2)
right Line d h = rw h.1 (allowed Line h.0 h.2)
right Ram d h = rw h.1 (allowed Ram h.0 h.2)
right Model d (inl e) = rw e refl
right Model d (inr e) = rw e refl

not_right : (kind : ValueKind) (d : Data) → (MayBe kind d → ⊥) → is_right kind d ≡ false
not_right kind d wrong = by_test (is_right kind d) refl
  where
    by_test : (b : Bool) → is_right kind d ≡ b → b ≡ false
    by_test true e = absurd (wrong (may_be kind d e))
    by_test false e = refl

-- ---- each fault that is found is one

module _ (t : Members) where
  strange_sections : (ms : Members) → ((name : List ℕ) → HasName ms name → HasName t name) → All (IsFault t) (unknown_names ms)
  strange_sections no_members has = All-nil (IsFault t)
  strange_sections (member name d ms) has =
      All-append (IsFault t) _ (unknown_names ms) (one (is_section name) refl) (strange_sections ms (λ n h. has n (inr h)))
    where
      one : (b : Bool) → is_section name ≡ b → All (IsFault t) (cond b [] (found Unknown name ∷ []))
      one true e = All-nil (IsFault t)
      one false e = All-one (IsFault t) _ (inl (record { stands = has name (inl refl); strange = none_named (λ s. s.name) section_rows name e }))

  module _ (s : SectionRow) (row : Contains section_rows s) where
    strange_keys : (keys : Members) → HasTable t s keys → (ms : Members) → ((name : List ℕ) → HasName ms name → HasName keys name) → All (IsFault t) (unknown_keys s ms)
    strange_keys keys within no_members has = All-nil (IsFault t)
    strange_keys keys within (member name d ms) has =
        All-append (IsFault t) _ (unknown_keys s ms) (one (is_key s.keys name) refl) (strange_keys keys within ms (λ n h. has n (inr h)))
      where
        one : (b : Bool) → is_key s.keys name ≡ b → All (IsFault t) (cond b [] (found Unknown (key_path s.name name) ∷ []))
        one true e = All-nil (IsFault t)
        one false e =
            All-one (IsFault t) _ (inr (record {
              section = s;
              keys = keys;
              name = name;
              within = within;
              stands = has name (inl refl);
              strange = none_named (λ k. k.name) s.keys name e;
              place = refl;
            }))

    wrong_value : (keys : Members) → HasTable t s keys → (k : KeyRow) → Contains s.keys k → (o : Option Data) → get_member k.name keys ≡ o
        → All (IsFault t) (value_faults (key_path s.name k.name) k o)
    wrong_value keys within k key None e =
        All-one (IsFault t) _ (inr (record { section = s; keys = keys; key = k; within = within; row = key; lacking = e; place = refl }))
    wrong_value keys within k key (Some d) e = one (is_right k.kind d) refl
      where
        one : (b : Bool) → is_right k.kind d ≡ b → All (IsFault t) (cond b [] (found Value (key_path s.name k.name) ∷ []))
        one true f = All-nil (IsFault t)
        one false f =
            All-one (IsFault t) _ (inr (record {
              section = s;
              keys = keys;
              key = k;
              value = d;
              within = within;
              row = key;
              stands = e;
              wrong = λ may. false≢true (sym f ∙ right k.kind d may);
              place = refl;
            }))

    wrong_keys : (keys : Members) → HasTable t s keys → All (IsFault t) (flat_map (key_faults s.name keys) s.keys)
    wrong_keys keys within =
        All-flat_map (IsFault t) (key_faults s.name keys) s.keys
        (All-weaker (Contains s.keys) (λ k. All (IsFault t) (key_faults s.name keys k)) (λ k key. wrong_value keys within k key (get_member k.name keys) refl) s.keys (All-contains_itself s.keys))

    no_table : (d : Data) → get_member s.name t ≡ Some d → ((keys : Members) → d ≢ table keys) → All (IsFault t) (found Value s.name ∷ [])
    no_table d e other = All-one (IsFault t) _ (inl (record { section = s; value = d; row = row; stands = e; other = other; place = refl }))

    wrong_table : (d : Data) → get_member s.name t ≡ Some d → All (IsFault t) (table_faults s d)
    wrong_table (string x) e = no_table (string x) e (λ keys f. cc)
    wrong_table (integer x) e = no_table (integer x) e (λ keys f. cc)
    wrong_table (float x) e = no_table (float x) e (λ keys f. cc)
    wrong_table (boolean x) e = no_table (boolean x) e (λ keys f. cc)
    wrong_table (datetime x) e = no_table (datetime x) e (λ keys f. cc)
    wrong_table (array x) e = no_table (array x) e (λ keys f. cc)
    wrong_table (table keys) e =
        let within : HasTable t s keys = record { row = row; stands = e } in
        All-append (IsFault t) (unknown_keys s keys) (flat_map (key_faults s.name keys) s.keys) (strange_keys keys within keys (λ n h. h)) (wrong_keys keys within)

    alone : (d : Data) → get_member s.name t ≡ Some d → (o : Option (List ℕ)) → s.after ≡ o → All (IsFault t) (shape_faults t s o)
    alone d e None f = All-nil (IsFault t)
    alone d e (Some after) f = one (get_member after t) refl
      where
        one : (o : Option Data) → get_member after t ≡ o → All (IsFault t) (cond (is_some o) [] (found Shape s.name ∷ []))
        one None g = All-one (IsFault t) _ (record { section = s; value = d; after = after; row = row; stands = e; follows = f; lacking = g; place = refl })
        one (Some x) g = All-nil (IsFault t)

    wrong_section : (o : Option Data) → get_member s.name t ≡ o → All (IsFault t) (present_faults t s o)
    wrong_section None e = one s.required refl
      where
        one : (b : Bool) → s.required ≡ b → All (IsFault t) (cond b (found Missing s.name ∷ []) [])
        one true f = All-one (IsFault t) _ (inl (record { section = s; row = row; required = f; lacking = e; place = refl }))
        one false f = All-nil (IsFault t)
    wrong_section (Some d) e = All-append (IsFault t) (shape_faults t s s.after) (table_faults s d) (alone d e s.after refl) (wrong_table d e)

  all_wrong : All (IsFault t) (faults t)
  all_wrong =
      All-append (IsFault t) (unknown_names t) (flat_map (section_faults t) section_rows)
      (strange_sections t (λ n h. h))
      (All-flat_map (IsFault t) (section_faults t) section_rows
      (All-weaker (Contains section_rows) (λ s. All (IsFault t) (section_faults t s)) (λ s row. wrong_section s row (get_member s.name t) refl) section_rows (All-contains_itself section_rows)))

-- ---- each fault is found

strange_name_found : (ms : Members) (name : List ℕ) → HasName ms name → is_section name ≡ false → Contains (unknown_names ms) (found Unknown name)
strange_name_found no_members name h e = absurd h
strange_name_found (member first d ms) name (inl here) e =
    let none : is_section first ≡ false = ap is_section here ∙ e in
    Contains-append_left _ (unknown_names ms) (found Unknown name)
    (subst (λ b. Contains (cond b [] (found Unknown first ∷ [])) (found Unknown name)) (sym none) (subst (λ n. Contains (found Unknown n ∷ []) (found Unknown name)) (sym here) (Contains-head _ [])))
strange_name_found (member first d ms) name (inr later) e = Contains-append_right _ (unknown_names ms) (found Unknown name) (strange_name_found ms name later e)

strange_key_found : (s : SectionRow) (ms : Members) (name : List ℕ) → HasName ms name → is_key s.keys name ≡ false → Contains (unknown_keys s ms) (found Unknown (key_path s.name name))
strange_key_found s no_members name h e = absurd h
strange_key_found s (member first d ms) name (inl here) e =
    let none : is_key s.keys first ≡ false = ap (is_key s.keys) here ∙ e in
    Contains-append_left _ (unknown_keys s ms) (found Unknown (key_path s.name name))
    (subst (λ b. Contains (cond b [] (found Unknown (key_path s.name first) ∷ [])) (found Unknown (key_path s.name name))) (sym none)
    (subst (λ n. Contains (found Unknown (key_path s.name n) ∷ []) (found Unknown (key_path s.name name))) (sym here) (Contains-head _ [])))
strange_key_found s (member first d ms) name (inr later) e =
    Contains-append_right _ (unknown_keys s ms) (found Unknown (key_path s.name name)) (strange_key_found s ms name later e)

module _ (t : Members) where
  in_section : (s : SectionRow) (o : Option Data) (f : Found) → Contains section_rows s → get_member s.name t ≡ o → Contains (present_faults t s o) f → Contains (faults t) f
  in_section s o f row e h =
      Contains-append_right (unknown_names t) (flat_map (section_faults t) section_rows) f
      (Contains-flat_map (section_faults t) section_rows s f row (subst (λ x. Contains (present_faults t s x) f) (sym e) h))

  in_table : (s : SectionRow) (keys : Members) (f : Found) → HasTable t s keys → Contains (table_faults s (table keys)) f → Contains (faults t) f
  in_table s keys f within h =
      in_section s (Some (table keys)) f within.row within.stands (Contains-append_right (shape_faults t s s.after) (table_faults s (table keys)) f h)

  in_key : (s : SectionRow) (keys : Members) (k : KeyRow) (o : Option Data) (f : Found) → HasTable t s keys → Contains s.keys k → get_member k.name keys ≡ o
      → Contains (value_faults (key_path s.name k.name) k o) f → Contains (faults t) f
  in_key s keys k o f within key e h =
      in_table s keys f within
      (Contains-append_right (unknown_keys s keys) (flat_map (key_faults s.name keys) s.keys) f
      (Contains-flat_map (key_faults s.name keys) s.keys k f key (subst (λ x. Contains (value_faults (key_path s.name k.name) k x) f) (sym e) h)))

  not_table : (s : SectionRow) (d : Data) → ((keys : Members) → d ≢ table keys) → Contains (table_faults s d) (found Value s.name)
  not_table s (string x) other = Contains-head _ []
  not_table s (integer x) other = Contains-head _ []
  not_table s (float x) other = Contains-head _ []
  not_table s (boolean x) other = Contains-head _ []
  not_table s (datetime x) other = Contains-head _ []
  not_table s (array x) other = Contains-head _ []
  not_table s (table keys) other = absurd (other keys refl)

  at_place : (kind : FaultKind) (path place : List ℕ) → path ≡ place → Contains (faults t) (found kind place) → Contains (faults t) (found kind path)
  at_place kind path place e h = subst (λ p. Contains (faults t) (found kind p)) (sym e) h

  each_found : (kind : FaultKind) (path : List ℕ) → IsFaultOf kind t path → Contains (faults t) (found kind path)
  each_found Unknown path (inl f) =
      Contains-append_left (unknown_names t) (flat_map (section_faults t) section_rows) (found Unknown path)
      (strange_name_found t path f.stands (not_named (λ s. s.name) section_rows path f.strange))
  each_found Unknown path (inr f) =
      at_place Unknown path _ f.place
      (in_table f.section f.keys _ f.within
      (Contains-append_left (unknown_keys f.section f.keys) (flat_map (key_faults f.section.name f.keys) f.section.keys) _
      (strange_key_found f.section f.keys f.name f.stands (not_named (λ k. k.name) f.section.keys f.name f.strange))))
  each_found Missing path (inl f) =
      at_place Missing path _ f.place
      (in_section f.section None _ f.row f.lacking
      (subst (λ b. Contains (cond b (found Missing f.section.name ∷ []) []) (found Missing f.section.name)) (sym f.required) (Contains-head _ [])))
  each_found Missing path (inr f) =
      at_place Missing path _ f.place (in_key f.section f.keys f.key None _ f.within f.row f.lacking (Contains-head _ []))
  each_found Value path (inl f) =
      at_place Value path _ f.place
      (in_section f.section (Some f.value) _ f.row f.stands
      (Contains-append_right (shape_faults t f.section f.section.after) (table_faults f.section f.value) _ (not_table f.section f.value f.other)))
  each_found Value path (inr f) =
      at_place Value path _ f.place
      (in_key f.section f.keys f.key (Some f.value) _ f.within f.row f.stands
      (subst (λ b. Contains (cond b [] (found Value (key_path f.section.name f.key.name) ∷ [])) (found Value (key_path f.section.name f.key.name)))
      (sym (not_right f.key.kind f.value f.wrong)) (Contains-head _ [])))
  each_found Shape path f =
      at_place Shape path _ f.place
      (in_section f.section (Some f.value) _ f.row f.stands
      (Contains-append_left (shape_faults t f.section f.section.after) (table_faults f.section f.value) _
      (subst (λ o. Contains (shape_faults t f.section o) (found Shape f.section.name)) (sym f.follows)
      (subst (λ (o : Option Data). Contains (cond (is_some o) [] (found Shape f.section.name ∷ [])) (found Shape f.section.name)) (sym f.lacking) (Contains-head _ [])))))

-- ---- the first fault

no_later : (f g : Found) → is_before g f ≡ false → StandsNoLater f g
no_later f g e = by_order (slice_cmp nat_cmp g.path f.path) refl e
  where
    by_order : (o : Ordering) → slice_cmp nat_cmp g.path f.path ≡ o → match_ordering o true (nat_lt (rank g.kind) (rank f.kind)) false ≡ false → StandsNoLater f g
    by_order Less p h = absurd (false≢true (sym h))
    by_order Equal p h =
        let same : bytes_eq g.path f.path ≡ true = sym (is_eq-slice_cmp g.path f.path) ∙ ap is_eq p in
        inr (sym ((bytes_eq-Decides g.path f.path).0 same), grind (arith, nat_tests))
    by_order Greater p h = inl (nat_list_cmp_total.antisymm f.path g.path ∙ ap ordering_reverse p)

kept : (fs : List Found) (g f : Found) → earliest (Some g) fs ≡ Some f → (g ≡ f) ⊎ Contains fs f
kept [] g f e = inl (cc)
kept (h ∷ fs) g f e = by_test (is_before h g) (λ k s. kept fs k f s) e
  where
    by_test : (b : Bool) → ((k : Found) → earliest (Some k) fs ≡ Some f → (k ≡ f) ⊎ Contains fs f)
        → earliest (cond b (Some h) (Some g)) fs ≡ Some f → (g ≡ f) ⊎ Contains (h ∷ fs) f
    by_test true later s =
        elim (later h s) [
          | inl same ↦ inr (subst (λ x. Contains (h ∷ fs) x) same (Contains-head h fs))
          | inr more ↦ inr (Contains-cons h f fs more)
        ]
    by_test false later s =
        elim (later g s) [
          | inl same ↦ inl same
          | inr more ↦ inr (Contains-cons h f fs more)
        ]

one_of_them : (fs : List Found) (f : Found) → earliest None fs ≡ Some f → Contains fs f
one_of_them [] f e = absurd (cc)
one_of_them (g ∷ fs) f e =
    elim (kept fs g f e) [
      | inl same ↦ subst (λ x. Contains (g ∷ fs) x) same (Contains-head g fs)
      | inr later ↦ Contains-cons g f fs later
    ]

-- the first fault of a document is a fault of it
pub first_is_wrong : (t : Members) (f : Found) → first_fault t ≡ Some f → IsFault t f
first_is_wrong t f e = All-contains (IsFault t) (faults t) f (all_wrong t) (one_of_them (faults t) f e)

-- and no fault stands earlier
pub first_is_least : (t : Members) (f : Found) → first_fault t ≡ Some f → IsLeastFault t f
first_is_least t f e = record {
  wrong = first_is_wrong t f e;
  least = λ g h. no_later f g (All-contains (λ x. is_before x f ≡ false) (faults t) g (none_before_first t f e) (each_found t g.kind g.path h));
}
