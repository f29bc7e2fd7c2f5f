-- What is wrong at a path of a document, and what a document has with which nothing is. This project's own rules.
use Rattle.std.specs.Prelude.{◌≡◌, ◌≢◌, ◌⊎◌, ℕ, ◌%◌, ◌≤◌, pos, true, false, List, map, IsTrue, All, Contains, Option, Some, None, IfSome, is_some, codes}
use Rattle.std.specs.Cmp.Lexicographic.{slice_cmp}
use Rattle.std.specs.Int.{is_power_of_two}
use Rattle.std.specs.Ordering.{nat_cmp}
use Rattle.std.specs.declared.cmp.Ordering.TheVariants.{Less}
use Rattle.toml.specs.Data.{Data, string, integer, table, Members, no_members, member, get_member}
use Rattle.gc_base.specs.declared.limits.TheConstants.{RAM_MIN, RAM_MAX, PAGE, SETS_MAX}
use Rattle.cfg_tree.specs.Faults.{key_path, rank}
use Rattle.cfg_tree.specs.Rows.{KeyRow, SectionRow, section_rows}
use Rattle.cfg_tree.specs.Valid.{IsUpTo}
use Rattle.cfg_tree.specs.declared.fault.FaultKind.{FaultKind}
use Rattle.cfg_tree.specs.declared.fault.FaultKind.TheVariants.{Unknown, Missing, Value, Shape}
use Rattle.cfg_tree.specs.declared.fault.Found.{Found}
use Rattle.cfg_tree.specs.declared.rows.ValueKind.{ValueKind}
use Rattle.cfg_tree.specs.declared.rows.ValueKind.TheVariants.{UpTo, Sets, Line, Ram, Model}

-- a name that a table has
abbrev pub HasName : Members → List ℕ → Type 0
HasName no_members name = ⊥
HasName (member first d ms) name = (first ≡ name) ⊎ HasName ms name

-- what the number of a key may be
abbrev pub IsInRange : ValueKind → ℕ → Type 0
IsInRange (UpTo most) n = IsUpTo most n
IsInRange Sets n = IsTrue (is_power_of_two n) × (n ≤ SETS_MAX)
IsInRange Line n = (n ≡ 16) ⊎ ((n ≡ 32) ⊎ (n ≡ 64))
IsInRange Ram n = (RAM_MIN ≤ n) × (n ≤ RAM_MAX) × (n % PAGE ≡ 0)
IsInRange Model n = ⊥

-- a whole number in the range of its key
abbrev pub IsNumberIn : ValueKind → Data → Type 0
IsNumberIn kind d = (n : ℕ) × (d ≡ integer (pos n)) × IsInRange kind n

-- what the value of a key may be: one of two words, or a whole number in its range
abbrev pub MayBe : ValueKind → Data → Type 0
MayBe (UpTo most) d = IsNumberIn (UpTo most) d
MayBe Sets d = IsNumberIn Sets d
MayBe Line d = IsNumberIn Line d
MayBe Ram d = IsNumberIn Ram d
MayBe Model d = (d ≡ string (codes "timing")) ⊎ (d ≡ string (codes "atomic"))

-- a section of the format, with the table that a document has for it
pub record HasTable (t : Members) (s : SectionRow) (keys : Members) : Type 0 where
  pub row : Contains section_rows s
  pub stands : get_member s.name t ≡ Some (table keys)

-- a name of the document that no section has
pub record IsStrangeSection (t : Members) (path : List ℕ) : Type 0 where
  pub stands : HasName t path
  pub strange : All (λ s. s.name ≢ path) section_rows

-- a name in a section that none of its keys has
pub record IsStrangeKey (t : Members) (path : List ℕ) : Type 0 where
  pub section : SectionRow
  pub keys : Members
  pub name : List ℕ
  pub within : HasTable t section keys
  pub stands : HasName keys name
  pub strange : All (λ k. k.name ≢ name) section.keys
  pub place : path ≡ key_path section.name name

-- a section that must be there and isn't
pub record IsMissingSection (t : Members) (path : List ℕ) : Type 0 where
  pub section : SectionRow
  pub row : Contains section_rows section
  pub required : section.required ≡ true
  pub lacking : get_member section.name t ≡ None
  pub place : path ≡ section.name

-- a key that a section which is there lacks
pub record IsMissingKey (t : Members) (path : List ℕ) : Type 0 where
  pub section : SectionRow
  pub keys : Members
  pub key : KeyRow
  pub within : HasTable t section keys
  pub row : Contains section.keys key
  pub lacking : get_member key.name keys ≡ None
  pub place : path ≡ key_path section.name key.name

-- a section that is no table
pub record IsNoTable (t : Members) (path : List ℕ) : Type 0 where
  pub section : SectionRow
  pub value : Data
  pub row : Contains section_rows section
  pub stands : get_member section.name t ≡ Some value
  pub other : (keys : Members) → value ≢ table keys
  pub place : path ≡ section.name

-- a key whose value has another type or is out of its range
pub record IsWrongValue (t : Members) (path : List ℕ) : Type 0 where
  pub section : SectionRow
  pub keys : Members
  pub key : KeyRow
  pub value : Data
  pub within : HasTable t section keys
  pub row : Contains section.keys key
  pub stands : get_member key.name keys ≡ Some value
  pub wrong : MayBe key.kind value → ⊥
  pub place : path ≡ key_path section.name key.name

-- a section without the one that it follows
pub record StandsAlone (t : Members) (path : List ℕ) : Type 0 where
  pub section : SectionRow
  pub value : Data
  pub after : List ℕ
  pub row : Contains section_rows section
  pub stands : get_member section.name t ≡ Some value
  pub follows : section.after ≡ Some after
  pub lacking : get_member after t ≡ None
  pub place : path ≡ section.name

-- a fault of this kind at a path
abbrev pub IsFaultOf : FaultKind → Members → List ℕ → Type 0
IsFaultOf Unknown t path = IsStrangeSection t path ⊎ IsStrangeKey t path
IsFaultOf Missing t path = IsMissingSection t path ⊎ IsMissingKey t path
IsFaultOf Value t path = IsNoTable t path ⊎ IsWrongValue t path
IsFaultOf Shape t path = StandsAlone t path

-- a fault of a document
abbrev pub IsFault : Members → Found → Type 0
IsFault t f = IsFaultOf f.kind t f.path

-- a fault stands no later than another: at a lesser path in byte order, or at the same one and of no later kind
abbrev pub StandsNoLater : Found → Found → Type 0
StandsNoLater f g = (slice_cmp nat_cmp f.path g.path ≡ Less) ⊎ ((f.path ≡ g.path) × (rank f.kind ≤ rank g.kind))

-- a fault of a document than which no fault of it stands earlier
pub record IsLeastFault (t : Members) (f : Found) : Type 0 where
  pub wrong : IsFault t f
  pub least : (g : Found) → IsFault t g → StandsNoLater f g

-- a key that a section has, with a value that it may have
pub record HasKey (keys : Members) (k : KeyRow) : Type 0 where
  pub value : Data
  pub stands : get_member k.name keys ≡ Some value
  pub allowed : MayBe k.kind value

-- a table that has each key of its section, and no other name
pub record IsSoundTable (s : SectionRow) (keys : Members) : Type 0 where
  pub known : (name : List ℕ) → HasName keys name → Contains (map (λ k. k.name) s.keys) name
  pub whole : All (HasKey keys) s.keys

-- the value of a section is a sound table, and the section that it follows is there
pub record IsSoundSection (t : Members) (s : SectionRow) (d : Data) : Type 0 where
  pub keys : Members
  pub is : d ≡ table keys
  pub sound : IsSoundTable s keys
  pub follows : IfSome s.after (λ after. IsTrue (is_some (get_member after t)))

-- a section that may be left out isn't there, or is sound
abbrev pub IsSoundAt : Members → SectionRow → Option Data → Type 0
IsSoundAt t s None = s.required ≡ false
IsSoundAt t s (Some d) = IsSoundSection t s d

-- a document that has what the format asks for, and nothing else
pub record IsSoundDocument (t : Members) : Type 0 where
  pub known : (name : List ℕ) → HasName t name → Contains (map (λ s. s.name) section_rows) name
  pub whole : All (λ s. IsSoundAt t s (get_member s.name t)) section_rows
