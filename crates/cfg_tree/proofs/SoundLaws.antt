-- Laws of sound documents: nothing is wrong in one, so it is accepted; and what the cause of a fault says of the least one.
use Rattle.std.proofs.Common.{◌≡◌, ◌≢◌, ℕ, inl, inr, Bool, true, false, cond, is_some, List, [], ◌∷◌, map, Option, Some, None, All, Contains, refl, sym, ap, subst, ◌∙◌, arith}
use Rattle.std.specs.Prelude.{IfSome, IsTrue}
use Rattle.std.proofs.lemmas.Bool.{false≢true, or_cases}
use Rattle.std.proofs.lemmas.List.Elements.{All-contains, All-from_recursion, All-map, All-weaker}
use Rattle.std.proofs.lemmas.Slice.Eq.{bytes_eq-Decides}
use Rattle.std.specs.List.{flat_map, list_any}
use Rattle.std.specs.Str.{bytes_eq}
use Rattle.toml.specs.Data.{Data, string, integer, float, boolean, datetime, array, table, Members, no_members, member, get_member}
use Rattle.toml.specs.Parse.{parse_document}
use Rattle.cfg_tree.proofs.ValidLemmas.{both_empty, each_empty, none_found}
use Rattle.cfg_tree.proofs.WrongLaws.{Contains-cons, first_is_least, first_is_wrong, may_be}
use Rattle.cfg_tree.specs.Faults.{faults, first_fault, found, is_key, is_section, key_faults, key_path, present_faults, section_faults, shape_faults, table_faults, unknown_keys, unknown_names, value_faults}
use Rattle.cfg_tree.specs.Reading.{HasFirstFault, HasLeastFault, IsCause, IsDocument, TellsLeastFault, WritesSound}
use Rattle.cfg_tree.specs.Rows.{KeyRow, SectionRow, is_right, section_rows}
use Rattle.cfg_tree.specs.Wrong.{HasKey, HasName, HasTable, IsFaultOf, MayBe, IsSoundAt, IsSoundDocument, IsSoundSection, IsSoundTable}
use Rattle.cfg_tree.specs.declared.fault.CfgFault.{CfgFault}
use Rattle.cfg_tree.specs.declared.fault.CfgFault.TheVariants as told
use Rattle.cfg_tree.specs.declared.fault.FaultKind.{FaultKind}
use Rattle.cfg_tree.specs.declared.fault.FaultKind.TheVariants.{Unknown, Missing, Value, Shape}
use Rattle.cfg_tree.specs.declared.fault.Found.{Found}

-- a name that rows have is not one that none has
name_is_known : {R : Type 0} (n : R → List ℕ) (rows : List R) (name : List ℕ) → Contains (map n rows) name → All (λ r. n r ≢ name) rows → ⊥
name_is_known n rows name known strange =
    All-contains (λ x. x ≢ name) (map n rows) name (All-map (λ x. x ≢ name) n rows strange) known refl

there_or_not : {A : Type 0} (o : Option A) (x : A) → o ≡ Some x → o ≡ None → ⊥
there_or_not o x there lacking = absurd (cc)

module _ (t : Members) (sound : IsSoundDocument t) where
  section_at : (s : SectionRow) (o : Option Data) → Contains section_rows s → get_member s.name t ≡ o → IsSoundAt t s o
  section_at s o row e =
      subst (IsSoundAt t s) e (All-contains (λ r. IsSoundAt t r (get_member r.name t)) section_rows s sound.whole row)

  table_at : (s : SectionRow) (keys : Members) → HasTable t s keys → IsSoundTable s keys
  table_at s keys within =
      let there : IsSoundSection t s (table keys) = section_at s (Some (table keys)) within.row within.stands in
      let same : there.keys ≡ keys = cc in
      subst (IsSoundTable s) same there.sound

  key_at : (s : SectionRow) (keys : Members) (k : KeyRow) → HasTable t s keys → Contains s.keys k → HasKey keys k
  key_at s keys k within key = All-contains (HasKey keys) s.keys k (table_at s keys within).whole key

  follows : (o : Option (List ℕ)) (after : List ℕ) → o ≡ Some after → IfSome o (λ name. IsTrue (is_some (get_member name t))) → get_member after t ≡ None → ⊥
  follows None after e h lacking = cc
  follows (Some name) after e h lacking =
      let same : name ≡ after = cc in
      let there : is_some (get_member after t) ≡ true = subst (λ n. is_some (get_member n t) ≡ true) same h in
      false≢true (sym (ap is_some lacking) ∙ there)

  -- nothing is wrong in a sound document
  nothing_wrong : (kind : FaultKind) (path : List ℕ) → IsFaultOf kind t path → ⊥
  nothing_wrong Unknown path (inl f) = name_is_known (λ s. s.name) section_rows path (sound.known path f.stands) f.strange
  nothing_wrong Unknown path (inr f) =
      name_is_known (λ k. k.name) f.section.keys f.name ((table_at f.section f.keys f.within).known f.name f.stands) f.strange
  nothing_wrong Missing path (inl f) = let free = section_at f.section None f.row f.lacking in false≢true (sym free ∙ f.required)
  nothing_wrong Missing path (inr f) =
      let there = key_at f.section f.keys f.key f.within f.row in
      there_or_not (get_member f.key.name f.keys) there.value there.stands f.lacking
  nothing_wrong Value path (inl f) = let there = section_at f.section (Some f.value) f.row f.stands in f.other there.keys there.is
  nothing_wrong Value path (inr f) =
      let there = key_at f.section f.keys f.key f.within f.row in
      let stands = there.stands in
      let also = f.stands in
      let same : there.value ≡ f.value = cc in
      f.wrong (subst (λ d. MayBe f.key.kind d) same there.allowed)
  nothing_wrong Shape path f =
      let there = section_at f.section (Some f.value) f.row f.stands in
      follows f.section.after f.after f.follows there.follows f.lacking

-- bytes write one document
one_document : (bytes : List ℕ) (t u : Members) → IsDocument bytes t → IsDocument bytes u → t ≡ u
one_document bytes t u d e = let w = d.written in let x = e.written in cc

refuses_none : (bytes : List ℕ) (f : Found) → WritesSound bytes → HasFirstFault bytes f → ⊥
refuses_none bytes f w h =
    let same : h.table ≡ w.table = one_document bytes h.table w.table h.document w.document in
    let sound : IsSoundDocument h.table = subst IsSoundDocument (sym same) w.sound in
    nothing_wrong h.table sound f.kind f.path (first_is_wrong h.table f h.first)

-- what has a cause isn't told of a sound document
pub refused_for_memory : (bytes : List ℕ) (fault : CfgFault) → IsCause bytes fault → WritesSound bytes → fault ≡ told.NoMemory
refused_for_memory bytes told.Text h w = let none = h w.document.utf8 in absurd (there_or_not (parse_document bytes) w.table w.document.written none)
refused_for_memory bytes (told.Unknown path) h w = absurd (refuses_none bytes (found Unknown path) w h)
refused_for_memory bytes (told.Missing path) h w = absurd (refuses_none bytes (found Missing path) w h)
refused_for_memory bytes (told.Value path) h w = absurd (refuses_none bytes (found Value path) w h)
refused_for_memory bytes (told.Shape path) h w = absurd (refuses_none bytes (found Shape path) w h)
refused_for_memory bytes told.NoMemory h w = refl

least_of_first : (bytes : List ℕ) (f : Found) → HasFirstFault bytes f → HasLeastFault bytes f
least_of_first bytes f h = record { table = h.table; document = h.document; least = first_is_least h.table f h.first }

-- what has a cause tells the least fault
pub tells_least : (bytes : List ℕ) (fault : CfgFault) → IsCause bytes fault → TellsLeastFault bytes fault
tells_least bytes told.Text h = tt
tells_least bytes (told.Unknown path) h = least_of_first bytes (found Unknown path) h
tells_least bytes (told.Missing path) h = least_of_first bytes (found Missing path) h
tells_least bytes (told.Value path) h = least_of_first bytes (found Value path) h
tells_least bytes (told.Shape path) h = least_of_first bytes (found Shape path) h
tells_least bytes told.NoMemory h = tt

-- ---- a document with no fault is sound

-- a name that the test finds among the rows
named : {R : Type 0} (n : R → List ℕ) (rows : List R) (name : List ℕ) → list_any (λ r. bytes_eq (n r) name) rows ≡ true → Contains (map n rows) name
named n [] name e = absurd (false≢true e)
named n (r ∷ rows) name e =
    elim (or_cases (bytes_eq (n r) name) (list_any (λ q. bytes_eq (n q) name) rows) e) [
      | inl here ↦ (0, omega arith, (bytes_eq-Decides (n r) name).0 here)
      | inr later ↦ Contains-cons (n r) name (map n rows) (named n rows name later)
    ]

passed : (b : Bool) (f : Found) → cond b [] (f ∷ []) ≡ [] → b ≡ true
passed true f e = refl
passed false f e = absurd (cc)

known_sections : (ms : Members) → unknown_names ms ≡ [] → (name : List ℕ) → HasName ms name → Contains (map (λ s. s.name) section_rows) name
known_sections no_members e name h = absurd h
known_sections (member first d ms) e name h =
    let (here, later) = both_empty (cond (is_section first) [] (found Unknown first ∷ [])) (unknown_names ms) e in
    elim h [
      | inl same ↦ subst (Contains (map (λ s. s.name) section_rows)) same (named (λ s. s.name) section_rows first (passed (is_section first) _ here))
      | inr more ↦ known_sections ms later name more
    ]

known_keys : (s : SectionRow) (ms : Members) → unknown_keys s ms ≡ [] → (name : List ℕ) → HasName ms name → Contains (map (λ k. k.name) s.keys) name
known_keys s no_members e name h = absurd h
known_keys s (member first d ms) e name h =
    let (here, later) = both_empty (cond (is_key s.keys first) [] (found Unknown (key_path s.name first) ∷ [])) (unknown_keys s ms) e in
    elim h [
      | inl same ↦ subst (Contains (map (λ k. k.name) s.keys)) same (named (λ k. k.name) s.keys first (passed (is_key s.keys first) _ here))
      | inr more ↦ known_keys s ms later name more
    ]

has_key : (path : List ℕ) (keys : Members) (k : KeyRow) (o : Option Data) → get_member k.name keys ≡ o → value_faults path k o ≡ [] → HasKey keys k
has_key path keys k None e h = absurd (cc)
has_key path keys k (Some d) e h = record { value = d; stands = e; allowed = may_be k.kind d (passed (is_right k.kind d) _ h) }

section_follows : (t : Members) (s : SectionRow) (o : Option (List ℕ)) → shape_faults t s o ≡ [] → IfSome o (λ after. IsTrue (is_some (get_member after t)))
section_follows t s None e = tt
section_follows t s (Some after) e = passed (is_some (get_member after t)) _ e

sound_section : (t : Members) (s : SectionRow) (d : Data) → shape_faults t s s.after ≡ [] → table_faults s d ≡ [] → IsSoundSection t s d
sound_section t s (string x) e h = absurd (cc)
sound_section t s (integer x) e h = absurd (cc)
sound_section t s (float x) e h = absurd (cc)
sound_section t s (boolean x) e h = absurd (cc)
sound_section t s (datetime x) e h = absurd (cc)
sound_section t s (array x) e h = absurd (cc)
sound_section t s (table keys) e h =
    let (names, values) = both_empty (unknown_keys s keys) (flat_map (key_faults s.name keys) s.keys) h in
    record {
      keys = keys;
      is = refl;
      sound = record {
        known = known_keys s keys names;
        whole = All-weaker (λ k. key_faults s.name keys k ≡ []) (HasKey keys) (λ k. has_key (key_path s.name k.name) keys k (get_member k.name keys) refl) s.keys
            (All-from_recursion (λ k. key_faults s.name keys k ≡ []) s.keys (each_empty (key_faults s.name keys) s.keys values));
      };
      follows = section_follows t s s.after e;
    }

optional : (b : Bool) (f : Found) → cond b (f ∷ []) [] ≡ [] → b ≡ false
optional true f e = absurd (cc)
optional false f e = refl

sound_at : (t : Members) (s : SectionRow) (o : Option Data) → present_faults t s o ≡ [] → IsSoundAt t s o
sound_at t s None e = optional s.required _ e
sound_at t s (Some d) e = let (shape, values) = both_empty (shape_faults t s s.after) (table_faults s d) e in sound_section t s d shape values

-- a document with no first fault is sound
pub sound_document : (t : Members) → first_fault t ≡ None → IsSoundDocument t
sound_document t e =
    let (names, sections) = both_empty (unknown_names t) (flat_map (section_faults t) section_rows) (none_found (faults t) e) in
    record {
      known = known_sections t names;
      whole = All-weaker (λ s. section_faults t s ≡ []) (λ s. IsSoundAt t s (get_member s.name t)) (λ s. sound_at t s (get_member s.name t)) section_rows
          (All-from_recursion (λ s. section_faults t s ≡ []) section_rows (each_empty (section_faults t) section_rows sections));
    }
