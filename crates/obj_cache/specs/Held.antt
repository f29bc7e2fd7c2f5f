-- The registers of a cache as contracts see them. This project's own rule.
use Rattle.std.specs.Prelude.{◌≡◌, ℕ, ◌-◌, ◌%◌, ◌≤◌, ◌==◌, ◌||◌, nat_le, Bool, if◌then◌else◌, List, [], ◌∷◌, length, drop, None, All, IsTrue}
use Rattle.gm_cache.specs.State.{Register, find_register}
use Rattle.gm_cache.specs.Rule.{fits, has_full}
use Rattle.gm_words.specs.Allowed.{MayPass}
use Rattle.pkt_pool.specs.declared.packet.Packet.{Packet}

-- the lines that are on their way, with the packets that wait for each; how many registers there are, how many targets each has places
-- for, and how many bytes a line has
pub record Held : Type 0 where
  pub used : List Register
  pub count : ℕ
  pub places : ℕ
  pub line : ℕ

-- all registers are used, or one has no place for another target
abbrev pub is_full : Held → Bool
is_full h = nat_le h.count (length h.used) || has_full h.places h.used

-- a request lies in the line of so many bytes at an address
pub record IsTarget (line a : ℕ) (x : Packet) : Type 0 where
  pub size : MayPass x
  pub fits : IsTrue (fits line x x.cmd)
  pub own : x.addr - x.addr % line ≡ a

-- the packets that wait for the line at an address
abbrev pub targets_of : ℕ → List Register → List Packet
targets_of a [] = []
targets_of a (r ∷ rs) = if r.address == a then r.targets else targets_of a rs

-- the registers, where that of a line has these targets
abbrev pub with_targets : ℕ → List Packet → List Register → List Register
with_targets a ts [] = []
with_targets a ts (r ∷ rs) = if r.address == a then record r { targets = ts } ∷ rs else r ∷ with_targets a ts rs

-- the first of them is taken out
abbrev pub first_gone : ℕ → List Register → List Register
first_gone a rs = with_targets a (drop 1 (targets_of a rs)) rs

-- the registers differ in line; none has more targets than it has places for, and each target lies in its line
abbrev pub AreRegisters : ℕ → ℕ → List Register → Type 0
AreRegisters line places [] = Unit {0}
AreRegisters line places (r ∷ rs) =
    (find_register r.address rs ≡ None) × (length r.targets ≤ places) × All (IsTarget line r.address) r.targets × AreRegisters line places rs
