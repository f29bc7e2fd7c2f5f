-- What a part may be configured with, and what may come to it. This project's own rules.
use Rattle.std.specs.Prelude.{◌≡◌, ◌%◌, ◌^◌, ◌≤◌, ◌==◌, ◌||◌, ◌&&◌, nat_le, not, Bool, true, false, List, [], ◌∷◌, IsTrue}
use Rattle.std.specs.Int.{is_power_of_two}
use Rattle.gc_base.specs.declared.limits.TheConstants.{RAM_MIN, RAM_MAX, PAGE, LATENCY_MAX, PERIOD_MAX, SETS_MAX, WAYS_MAX, MISS_REGISTERS_MAX, TARGETS_MAX, WRITE_QUEUE_MAX, MEMORY_QUEUE_MAX, DMA_WINDOW_MAX}
use Rattle.cfg_tree.specs.Valid.{IsUpTo}
use Rattle.gm_words.specs.HartLine.{is_line}
use Rattle.gm_words.specs.declared.own.Own.{Own}
use Rattle.gm_words.specs.declared.own.Own.TheVariants as owns
use Rattle.pkt_pool.specs.declared.packet.Packet.{Packet}
use Rattle.gm_words.specs.declared.params.Params.{Params}
use Rattle.gm_words.specs.declared.port_use.PortUse.{PortUse}
use Rattle.gm_words.specs.declared.port_use.PortUse.TheVariants as uses
use Rattle.gm_words.specs.declared.wake.Wake.{Wake}
use Rattle.gm_words.specs.declared.wake.Wake.TheVariants as wakes

-- an address goes to both ports
abbrev pub share : PortUse → PortUse → Bool
share (uses.Destination first last) (uses.Destination other end) = nat_le first end && nat_le other last
share _ _ = false

-- no address goes to the port and to one of the others
abbrev pub is_apart : PortUse → List PortUse → Bool
is_apart u [] = true
is_apart u (v ∷ vs) = not (share u v) && is_apart u vs

-- no address goes to two of the ports
abbrev pub are_apart : List PortUse → Bool
are_apart [] = true
are_apart (u ∷ us) = is_apart u us && are_apart us

-- the values of a kind's keys are within their limits; a cache asks by one of the sources 4 to 6 and has a power of two of sets,
-- and no two destinations of a crossbar share an address
abbrev pub AreAllowed : Own → Type 0
AreAllowed (owns.AtomicCpu period) = IsUpTo PERIOD_MAX period
AreAllowed (owns.TimingCpu period) = IsUpTo PERIOD_MAX period
AreAllowed (owns.Xbar latency ports) = IsUpTo LATENCY_MAX latency × IsTrue (are_apart ports)
AreAllowed (owns.Cache source sets ways mshrs targets writeq latency) =
    (4 ≤ source) × (source ≤ 6) × IsUpTo SETS_MAX sets × IsTrue (is_power_of_two sets) × IsUpTo WAYS_MAX ways × IsUpTo MISS_REGISTERS_MAX mshrs × IsUpTo TARGETS_MAX targets
    × IsUpTo WRITE_QUEUE_MAX writeq × IsUpTo LATENCY_MAX latency
AreAllowed (owns.Mem latency queue) = IsUpTo LATENCY_MAX latency × IsUpTo MEMORY_QUEUE_MAX queue
AreAllowed (owns.Uart latency chartime) = IsUpTo LATENCY_MAX latency × IsUpTo LATENCY_MAX chartime
AreAllowed (owns.Timer latency period) = IsUpTo LATENCY_MAX latency × IsUpTo PERIOD_MAX period
AreAllowed (owns.Exit latency) = IsUpTo LATENCY_MAX latency
AreAllowed (owns.Dma latency period window) =
    IsUpTo LATENCY_MAX latency × IsUpTo PERIOD_MAX period × IsUpTo DMA_WINDOW_MAX window

-- what a part may be configured with: lines of 16, 32 or 64 bytes, whole pages of RAM, and the keys of its kind
pub record IsAllowed (p : Params) : Type 0 where
  pub line : IsTrue ((p.line == 16) || (p.line == 32) || (p.line == 64))
  pub least : RAM_MIN ≤ p.ram
  pub most : p.ram ≤ RAM_MAX
  pub pages : p.ram % PAGE ≡ 0
  pub own : AreAllowed p.own

-- a packet that may come to a part: one with bytes for its whole size
abbrev pub MayPass : Packet → Type 0
MayPass p = p.size ≤ 64

-- a wake that may come to a part: the latency of a way is bounded, and a line is one of the hart's
abbrev pub MayCome : Wake → Type 0
MayCome (wakes.AtomicDone p latency) = MayPass p × (latency ≤ 2 ^ 32)
MayCome (wakes.Line bit level) = IsTrue (is_line bit)
MayCome (wakes.Event slot) = Unit {0}
MayCome (wakes.Offer port p) = MayPass p
MayCome (wakes.Taken port) = Unit {0}
MayCome (wakes.Refused port) = Unit {0}
MayCome (wakes.Retry port) = Unit {0}
