-- How the registers of a cache are kept: by key in the miss registers, and the packets that wait by key in a pool. This project's own rule.
use Rattle.std.specs.Prelude.{◌≡◌, ℕ, ◌+◌, ◌*◌, ◌≤◌, ◌==◌, Bool, true, false, List, [], ◌∷◌, length, Option, Some, None, is_some, All}
use Rattle.cache_mshr.specs.Registers.{Registers, AreSound}
use Rattle.cache_mshr.specs.Registers as kept
use Rattle.gm_cache.specs.State.{Register}
use Rattle.pkt_pool.specs.declared.packet.Packet.{Packet}
use Rattle.pkt_pool.specs.Pooled.{Pooled, packet_at, count}
use Rattle.obj_cache.specs.Held.{Held, IsTarget}

-- a packet in front, if there is one
abbrev pub packets_by : Option Packet → List Packet → List Packet
packets_by None xs = xs
packets_by (Some x) xs = x ∷ xs

-- the packets of keys, in order
abbrev pub packets_of : Pooled → List ℕ → List Packet
packets_of p [] = []
packets_of p (k ∷ ks) = packets_by (packet_at p k) (packets_of p ks)

-- the registers, with the packets of their targets
abbrev pub registers_of : Pooled → List kept.Register → List Register
registers_of p [] = []
registers_of p (r ∷ rs) = record { address = r.address; targets = packets_of p r.targets } ∷ registers_of p rs

-- the packets that wait in the register of a key
abbrev pub packets_at : Pooled → Registers → ℕ → List Packet
packets_at p m k = packets_of p (kept.targets_of k m.used)

-- what contracts see of them, where a line has so many bytes
abbrev pub shown : Pooled → Registers → ℕ → Held
shown p m line = record { used = registers_of p m.used; count = m.count; places = m.places; line = line }

-- 1 for what is, and 0 for what isn't
abbrev pub bit : Bool → ℕ
bit true = 1
bit false = 0

-- how often a key stands in a list
abbrev pub times : ℕ → List ℕ → ℕ
times k [] = 0
times k (j ∷ js) = bit (j == k) + times k js

-- what the targets of the registers make together
abbrev pub sum_in : (List ℕ → ℕ) → List kept.Register → ℕ
sum_in f [] = 0
sum_in f (r ∷ rs) = f r.targets + sum_in f rs

-- how often a key is a target of a register
abbrev pub times_in : ℕ → List kept.Register → ℕ
times_in k rs = sum_in (times k) rs

-- how many targets the registers have
abbrev pub all_targets : List kept.Register → ℕ
all_targets rs = sum_in (λ ks. length ks) rs

-- each target lies in the line of its register
abbrev pub AreInLine : ℕ → Pooled → List kept.Register → Type 0
AreInLine line p [] = Unit {0}
AreInLine line p (r ∷ rs) = All (IsTarget line r.address) (packets_of p r.targets) × AreInLine line p rs

-- the pool holds the packet of each target and no others; each key is one target; and there is room for as many as there are places
pub record IsKept (p : Pooled) (m : Registers) (line : ℕ) : Type 0 where
  pub sound : AreSound m
  pub held : (k : ℕ) → times_in k m.used ≤ bit (is_some (packet_at p k))
  pub all : count p ≡ all_targets m.used
  pub in_line : AreInLine line p m.used
  pub room : p.cap ≡ m.count * m.places
  pub few : m.count ≤ 16
  pub some : 1 ≤ m.places
  pub most : m.places ≤ 16
