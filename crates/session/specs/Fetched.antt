-- Files that a call needs, one after another. Source: this project's own rule.
use Rattle.std.specs.Prelude.{◌≡◌, ℕ, ◌<◌, ◌≤◌, ◌⊎◌, List, length, Option, Some, None}
use Rattle.gc_outside.specs.Store.{Files}
use Rattle.session.specs.Ending.{Ending, absent_refusal, long_refusal, store_refusal, memory_refusal}
use Rattle.session.specs.Outside.{StoreSeen, StoreFailed}

-- a step stops with this ending; or it gives a value, and what follows comes to this ending
abbrev pub Then : {A : Type 0} → (Ending → Type 0) → (A → Type 0) → (A → Ending → Type 0) → Ending → Type 0
Then {A} Stops Gives Next e = Stops e ⊎ ((a : A) × Gives a × Next a e)

-- the file of this name is this one, or is absent, where the store tells its files
abbrev pub IsFileOf : Option Files → List ℕ → Option (List ℕ) → Type 0
IsFileOf None name file = Unit {0}
IsFileOf (Some files) name file = file ≡ files name

-- the file of this name is there, has these bytes, and no more than it may
pub record HasFile (name : List ℕ) (most : ℕ) (files : Option Files) (bytes : List ℕ) : Type 0 where
  pub is : IsFileOf files name (Some bytes)
  pub within : length bytes ≤ most

-- at the file of this name the store failed, or memory was not found; or it is absent, or longer than it may be
abbrev pub FileStops : List ℕ → ℕ → StoreSeen → StoreSeen → Ending → Type 0
FileStops name most old new e =
    (StoreFailed old new × (e ≡ store_refusal name))
    ⊎ ((e ≡ memory_refusal)
    ⊎ ((IsFileOf old.files name None × (e ≡ absent_refusal name))
    ⊎ ((bytes : List ℕ) × IsFileOf old.files name (Some bytes) × (most < length bytes) × (e ≡ long_refusal name))))

-- the file can't be had; or it is had, and its bytes lead to this ending
abbrev pub FileLeadsTo : List ℕ → ℕ → (List ℕ → Ending → Type 0) → StoreSeen → StoreSeen → Ending → Type 0
FileLeadsTo name most Next old new e = Then (FileStops name most old new) (HasFile name most old.files) Next e
