-- RAM as the program sees it, whoever holds its bytes: one part, or caches above it. And what a step of the machine is to it.
use Rattle.std.specs.Prelude.{◌≡◌, ℕ, Bool, true, false, List}
use Rattle.gm_words.specs.Moves.{Service}
use Rattle.gm_words.specs.Routes.{Route}
use Rattle.gm_words.specs.declared.entry.Entry.{Entry}
use Rattle.pkt_pool.specs.declared.packet.Packet.{Packet}
use Rattle.gm_words.specs.declared.wake.Wake.{Wake}
use Rattle.gm_words.specs.declared.wake.Wake.TheVariants as wakes
use Rattle.gm_words.specs.Replay.{ProgramState}
use Rattle.gm_model.specs.Deliver.{Item, told_wake}
use Rattle.gm_model.specs.View.{parts_mind, progress_of, awaited, all_packets}
use Rattle.gm_model.specs.Sys.{Sys, peer_in, step_at, woken}
use Rattle.gm_laws.specs.Program.{Serves}

-- the bytes that a load would see, and what holds of the parts for that, by the size of RAM
pub record MemoryView : Type 1 where
  pub view : Sys → List ℕ
  pub IsKept : ℕ → Sys → Type 0

-- the program's state where memory is seen as these bytes: the active CPU's hart, and its progress
abbrev pub state_seen : List ℕ → Sys → List Item → ProgramState
state_seen memory s items = record {
  arch = (parts_mind s.objects).arch;
  progress = progress_of s.routes (parts_mind s.objects).doing (awaited (all_packets s items));
  memory = memory;
}

-- that still holds after a step, and what was served is right over what is seen
pub record MemoryStep (y : MemoryView) (rs : List Route) (ram : ℕ) (s t : Sys) (vs : List Service) (es : List Entry) : Type 0 where
  pub kept : y.IsKept ram t
  pub serves : Serves rs (y.view s) vs es (y.view t)

-- and where nothing is served, the same is seen
pub record MemoryRests (y : MemoryView) (ram : ℕ) (s t : Sys) : Type 0 where
  pub kept : y.IsKept ram t
  pub same : y.view t ≡ y.view s

-- a wake that comes alone: all but those of an offer
abbrev pub is_lone : Wake → Bool
is_lone (wakes.Event slot) = true
is_lone (wakes.Offer port p) = false
is_lone (wakes.Taken port) = false
is_lone (wakes.Refused port) = false
is_lone (wakes.Retry port) = true
is_lone (wakes.Line bit level) = true
is_lone (wakes.AtomicDone p latency) = true

-- how the machine comes from s to t by a wake of the part i: it is woken alone; or it is shown a packet, and then the sender is told
-- its answer
pub data Happens (s t : Sys) (i : ℕ) (w : Wake) : Type 0 where
  Alone : is_lone w ≡ true → t ≡ woken s i w → Happens s t i w
  Shown : (k p : ℕ) (x : Packet) → i ≡ (peer_in s.wires k p).part → w ≡ wakes.Offer (record { 0 = (peer_in s.wires k p).port }) x
      → t ≡ woken (woken s i w) k (told_wake (step_at s i w).answer p) → Happens s t i w
