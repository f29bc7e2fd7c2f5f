-- A pool of packets as contracts see it. This project's own rule.
use Rattle.std.specs.Prelude.{◌≡◌, ◌≢◌, ℕ, List, Option, None, is_some, count_by, slice_index_or}
use Rattle.pkt_pool.specs.declared.packet.Packet.{Packet}

-- which packet each key from 0 on holds, if it holds one, and how many packets there is room for
pub record Pooled : Type 0 where
  pub slots : List (Option Packet)
  pub cap : ℕ

-- the packet of a key, if it holds one
abbrev pub packet_at : Pooled → ℕ → Option Packet
packet_at p key = slice_index_or p.slots key None

-- how many packets are held
abbrev pub count : Pooled → ℕ
count p = count_by is_some p.slots

-- the key holds this now, every other key what it held, and there is room for as many
pub record Changes (old new : Pooled) (key : ℕ) (slot : Option Packet) : Type 0 where
  pub changed : packet_at new key ≡ slot
  pub others : (other : ℕ) → other ≢ key → packet_at new other ≡ packet_at old other
  pub cap : new.cap ≡ old.cap
