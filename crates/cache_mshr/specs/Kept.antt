-- How the registers are kept: by key in a slab, and their keys in the order in which they were opened. This project's own rule.
use Rattle.std.specs.Prelude.{◌≡◌, ℕ, ◌^◌, ◌<◌, ◌≤◌, ◌==◌, if◌then◌else◌, List, [], ◌∷◌, length, Option, Some, None, IsSome}
use Rattle.slab.specs.Slab.{Slab, get, slab_len}
use Rattle.cache_mshr.specs.declared.entry.Entry.{Entry}
use Rattle.cache_mshr.specs.Registers.{Register, Registers, AreSound}

-- the register of a key in front, if there is one
abbrev pub with_front : ℕ → Option Entry → List Register → List Register
with_front k None rs = rs
with_front k (Some r) rs = record { key = k; address = r.addr; targets = r.targets } ∷ rs

-- the registers of keys, in order
abbrev pub registers_of : Slab Entry → List ℕ → List Register
registers_of s [] = []
registers_of s (k ∷ ks) = with_front k (get s k) (registers_of s ks)

-- the keys but one
abbrev pub without_key : ℕ → List ℕ → List ℕ
without_key k [] = []
without_key k (j ∷ js) = if j == k then js else j ∷ without_key k js

-- each key has a register
abbrev pub AreHeld : Slab Entry → List ℕ → Type 0
AreHeld s [] = Unit {0}
AreHeld s (k ∷ ks) = IsSome (get s k) × AreHeld s ks

-- what contracts see of them
abbrev pub shown : Slab Entry → List ℕ → ℕ → ℕ → Registers
shown s keys count places = record { used = registers_of s keys; count = count; places = places }

-- the slab holds these registers and no others, and neither it nor the list of keys needs more memory for as many as there are
pub record AreKept (s : Slab Entry) (keys : List ℕ) (room count places : ℕ) : Type 0 where
  pub held : AreHeld s keys
  pub all : slab_len s ≡ length keys
  pub sound : AreSound (shown s keys count places)
  pub slab_room : count ≤ s.capacity
  pub keys_room : count ≤ room
  pub some : 0 < places
  pub most : places ≤ 16
  pub fits : count < 2 ^ 32
