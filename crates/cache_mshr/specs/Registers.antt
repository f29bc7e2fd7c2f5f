-- The miss registers of a cache as contracts see them: which lines are on their way to it, and which packets wait for each. This project's own rule.
use Rattle.std.specs.Prelude.{◌≡◌, ℕ, ◌≤◌, ◌==◌, ◌||◌, Bool, false, if◌then◌else◌, List, [], ◌∷◌, ◌++◌, length, drop, Option, Some, None}

-- an open register: its key, the address of its line, and the packets that wait for that line, the one that came first in front
pub record Register : Type 0 where
  pub key : ℕ
  pub address : ℕ
  pub targets : List ℕ

-- the open registers, the one that was opened first in front; how many registers there are; how many targets each has places for
pub record Registers : Type 0 where
  pub used : List Register
  pub count : ℕ
  pub places : ℕ

-- the key of the register that is open for a line, if one is
abbrev pub key_of : ℕ → List Register → Option ℕ
key_of a [] = None
key_of a (r ∷ rs) = if r.address == a then Some r.key else key_of a rs

-- a register of this key is open
abbrev pub is_open : ℕ → List Register → Bool
is_open k [] = false
is_open k (r ∷ rs) = (r.key == k) || is_open k rs

-- the targets of the register of a key
abbrev pub targets_of : ℕ → List Register → List ℕ
targets_of k [] = []
targets_of k (r ∷ rs) = if r.key == k then r.targets else targets_of k rs

-- the registers, where that of a key has these targets
abbrev pub with_targets : ℕ → List ℕ → List Register → List Register
with_targets k ts [] = []
with_targets k ts (r ∷ rs) = if r.key == k then record r { targets = ts } ∷ rs else r ∷ with_targets k ts rs

-- the registers but that of a key
abbrev pub without : ℕ → List Register → List Register
without k [] = []
without k (r ∷ rs) = if r.key == k then rs else r ∷ without k rs

-- one holds so many targets
abbrev pub has_full : ℕ → List Register → Bool
has_full n [] = false
has_full n (r ∷ rs) = (length r.targets == n) || has_full n rs

-- all registers are used, or one holds as many targets as it has places for
abbrev pub is_full : Registers → Bool
is_full m = (length m.used == m.count) || has_full m.places m.used

-- What the calls do.

-- a register is opened, with one target
abbrev pub opened : ℕ → ℕ → ℕ → Registers → Registers
opened k a packet m = record m { used = m.used ++ record { key = k; address = a; targets = packet ∷ [] } ∷ [] }

-- a packet waits in the register of a key, behind its other targets
abbrev pub joined : ℕ → ℕ → Registers → Registers
joined k packet m = record m { used = with_targets k (targets_of k m.used ++ packet ∷ []) m.used }

-- the first target of a register is taken out
abbrev pub first_gone : ℕ → Registers → Registers
first_gone k m = record m { used = with_targets k (drop 1 (targets_of k m.used)) m.used }

-- the register of a key is closed
abbrev pub closed : ℕ → Registers → Registers
closed k m = record m { used = without k m.used }

-- What holds of them.

-- no two are open for one line, and no two have one key
abbrev pub AreApart : List Register → Type 0
AreApart [] = Unit {0}
AreApart (r ∷ rs) = (key_of r.address rs ≡ None) × (is_open r.key rs ≡ false) × AreApart rs

-- each holds at most so many targets
abbrev pub AreWithin : ℕ → List Register → Type 0
AreWithin n [] = Unit {0}
AreWithin n (r ∷ rs) = (length r.targets ≤ n) × AreWithin n rs

-- the open registers differ in line and key, no more are open than there are, and none holds more targets than it has places for
pub record AreSound (m : Registers) : Type 0 where
  pub apart : AreApart m.used
  pub few : length m.used ≤ m.count
  pub within : AreWithin m.places m.used
