-- How much a part may ask for, note and draw, and when its events come. This project's own laws.
use Rattle.std.specs.Prelude.{◌≡◌, ℕ, ◌+◌, ◌^◌, ◌≤◌, ◌<◌, ◌==◌, max, if◌then◌else◌, List, [], ◌∷◌, length, slice_get, Some, All}
use Rattle.gc_base.specs.declared.limits.TheConstants.{LATENCY_MAX, PERIOD_MAX, LAST}
use Rattle.gm_words.specs.Allowed.{MayPass, MayCome}
use Rattle.gm_words.specs.Changes.{Change, Schedule, Remove}
use Rattle.gm_words.specs.Entries.{console_of}
use Rattle.gm_words.specs.Moves.{AreDrawn}
use Rattle.gm_words.specs.Platform.{data_source}
use Rattle.gm_words.specs.declared.act.Act.{Act}
use Rattle.gm_words.specs.declared.act.Act.TheVariants as acts
use Rattle.pkt_pool.specs.declared.packet.Packet.{Packet}
use Rattle.gm_words.specs.declared.wake.Wake.{Wake}
use Rattle.gm_words.specs.declared.wake.Wake.TheVariants as wakes
use Rattle.gm_model.specs.Deliver.{way_latency}
use Rattle.gm_model.specs.View.{stage_packets, lane_packets, queued_packets}
use Rattle.gm_laws.specs.Faces.{face_of}
use Rattle.gm_model.specs.ObjState.{ObjState, Blank, AtomicCpu, TimingCpu, Xbar, Server, CpuStage, Rest, AwaitFetch, AwaitData, Device, Memory, Uart, Exit, Timer, object_of, slots_of}
use Rattle.gm_model.specs.ObjectStep.{object_step, atomic_step}
use Rattle.gm_model.specs.Stepped.{Stepped, Passed}

-- what an atomic CPU remembers of a way is one that it was told
abbrev pub IsStageWithin : CpuStage → Type 0
IsStageWithin Rest = Unit {0}
IsStageWithin AwaitFetch = Unit {0}
IsStageWithin (AwaitData word latency) = latency ≤ 2 ^ 32

-- the limits within which a device was configured
abbrev pub IsDeviceWithin : Device → Type 0
IsDeviceWithin (Memory m) = Unit {0}
IsDeviceWithin (Uart u) = u.chartime ≤ LATENCY_MAX
IsDeviceWithin (Exit code) = Unit {0}
IsDeviceWithin (Timer t) = (1 ≤ t.period) × (t.period ≤ PERIOD_MAX)

-- the limits within which a part was configured
unfoldable pub IsWithin : ObjState → Type 0
IsWithin (Blank k) = Unit {0}
IsWithin (AtomicCpu s) = (1 ≤ s.period) × (s.period ≤ PERIOD_MAX) × IsStageWithin s.stage
IsWithin (TimingCpu s) = (1 ≤ s.period) × (s.period ≤ PERIOD_MAX) × All MayPass (stage_packets s.stage)
IsWithin (Xbar s) = (s.latency ≤ LATENCY_MAX) × (length s.lanes ≡ length s.ports) × All MayPass (lane_packets (s.side.lane ∷ s.lanes))
IsWithin (Server s) = (s.latency ≤ LATENCY_MAX) × IsDeviceWithin s.device × All MayPass (queued_packets s.flow.items)

-- each change is to one of the part's slots, and schedules with the class of that slot
abbrev pub AreOwnChanges : List ℕ → List Change → Type 0
AreOwnChanges slots [] = Unit {0}
AreOwnChanges slots (Schedule slot class at ∷ cs) = (slice_get slots slot ≡ Some class) × AreOwnChanges slots cs
AreOwnChanges slots (Remove slot ∷ cs) = (slot < length slots) × AreOwnChanges slots cs

-- the longest time from a wake to an event that it schedules soon, in ticks
abbrev pub longest_wait : ℕ
longest_wait = 2 ^ 40

-- the latest tick at which an event comes that is scheduled at a tick: soon, or, far ahead, by the last tick at which a run serves one
abbrev pub latest : ℕ → ℕ
latest now = max (now + longest_wait) LAST

-- what is scheduled comes now or later, and not too late
abbrev pub AreTimely : ℕ → List Change → Type 0
AreTimely now [] = Unit {0}
AreTimely now (Schedule slot class at ∷ cs) = (now ≤ at) × (at ≤ latest now) × AreTimely now cs
AreTimely now (Remove slot ∷ cs) = AreTimely now cs

-- packets that are sent have bytes for their whole size
abbrev pub IsFit : Act → Type 0
IsFit (acts.Offer port x) = MayPass x
IsFit (acts.CallRetry port) = Unit {0}
IsFit (acts.SetLine bit level) = Unit {0}
IsFit (acts.Atomic port x) = MayPass x

abbrev pub AreFit : List Act → Type 0
AreFit [] = Unit {0}
AreFit (a ∷ rest) = IsFit a × AreFit rest

-- how many bytes for the console may still come of a packet that is passed at once: one of a data access
abbrev pub packet_speech : Packet → ℕ
packet_speech x = if x.src == data_source then 1 else 0

abbrev pub act_speech : Act → ℕ
act_speech (acts.Atomic port x) = packet_speech x
act_speech (acts.Offer port x) = 0
act_speech (acts.CallRetry port) = 0
act_speech (acts.SetLine bit level) = 0

abbrev pub speech : List Act → ℕ
speech [] = 0
speech (a ∷ rest) = act_speech a + speech rest

-- and of a part in this event: an atomic CPU makes one data access after its fetch
abbrev pub stage_speech : CpuStage → ℕ
stage_speech Rest = 0
stage_speech AwaitFetch = 1
stage_speech (AwaitData word latency) = 0

unfoldable pub part_speech : ObjState → ℕ
part_speech (Blank k) = 0
part_speech (AtomicCpu s) = stage_speech s.stage
part_speech (TimingCpu s) = 0
part_speech (Xbar s) = 0
part_speech (Server s) = 0

-- an event begins it
abbrev pub wake_speech : Wake → ℕ
wake_speech (wakes.Event slot) = 1
wake_speech (wakes.Offer port x) = 0
wake_speech (wakes.Taken port) = 0
wake_speech (wakes.Refused port) = 0
wake_speech (wakes.Retry port) = 0
wake_speech (wakes.Line bit level) = 0
wake_speech (wakes.AtomicDone x latency) = 0

-- what a wake may do
pub record IsModest (o : ObjState) (next : ℕ) (w : Wake) (now : ℕ) (r : Stepped) : Type 0 where
  pub object : object_of r.state ≡ object_of o
  pub slots : slots_of r.state ≡ slots_of o
  pub ports : (face_of r.state).ports ≡ (face_of o).ports
  pub within : IsWithin r.state
  pub own : AreOwnChanges (slots_of o) r.changes
  pub timely : AreTimely now r.changes
  pub fit : AreFit r.acts
  pub entries : length r.entries ≤ 2
  pub drawn : AreDrawn next r.moves.made r.next
  pub few : r.next ≤ next + 1
  pub spoken : length (console_of r.entries) + (speech r.acts + part_speech r.state) ≤ part_speech o + wake_speech w

-- and what may come of a packet that is passed at once
pub record IsModestPass (o : ObjState) (x : Packet) (now : ℕ) (v : Passed) : Type 0 where
  pub object : object_of v.state ≡ object_of o
  pub slots : slots_of v.state ≡ slots_of o
  pub ports : (face_of v.state).ports ≡ (face_of o).ports
  pub within : IsWithin v.state
  pub own : AreOwnChanges (slots_of o) v.changes
  pub timely : AreTimely now v.changes
  pub fit : AreFit v.acts
  pub size : v.packet.size ≡ x.size
  pub soon : way_latency v.way ≤ LATENCY_MAX
  pub entries : length v.entries ≤ 1
  pub spoken : length (console_of v.entries) + (speech v.acts + part_speech v.state) ≤ part_speech o + packet_speech x

-- each rule is modest
pub record RulesAreModest : Type 0 where
  pub wake : (o : ObjState) (next : ℕ) (w : Wake) (now : ℕ) → IsWithin o → MayCome w → IsModest o next w now (object_step o next w now)
  pub pass : (o : ObjState) (x : Packet) (now : ℕ) → IsWithin o → IsModestPass o x now (atomic_step o x now)
