-- The invariant of the machine, between two items of a delivery: the ports, the pending events, and the program. One record for both
-- modes, whichever kinds of parts there are.
use Rattle.std.specs.Prelude.{◌≡◌, ℕ, ◌+◌, ◌<◌, ◌≤◌, ◌==◌, true, false, if◌then◌else◌, List, [], ◌∷◌, ◌++◌, length, Some, None, sum_by}
use Rattle.ev_queue.specs.PendingList.{is_pending}
use Rattle.gm_model.specs.Deliver.{Item, Sent, Done, Delivery, passes_max}
use Rattle.gm_words.specs.Moves.{Moves}
use Rattle.gm_words.specs.Routes.{is_unmapped}
use Rattle.gm_words.specs.Platform.{is_in_ram, End}
use Rattle.gm_words.specs.Replay.{replay}
use Rattle.gm_model.specs.Sys.{Sys, object_at, peer_in}
use Rattle.gm_model.specs.View.{Mind, view_ram, all_packets, part_packets, item_packets, act_packets}
use Rattle.gm_words.specs.declared.entry.Entry.{Entry}
use Rattle.pkt_pool.specs.declared.packet.Packet.{Packet}
use Rattle.gm_laws.specs.Words.{weigh}
use Rattle.gm_laws.specs.Face.{Face}
use Rattle.gm_system.specs.MemoryView.{MemoryView, state_seen}
use Rattle.gm_system.specs.Net.{Net, IsWired, Debt, Clear}
use Rattle.gm_laws.specs.Fuel.{busy, weight_of}
use Rattle.gm_laws.specs.Program.{core, owed, bad}
use Rattle.gm_laws.specs.Faces.{face_of, IsOk, AllItemsOk, PassOk}

abbrev pub faces : Sys → ℕ → Face
faces s k = face_of (object_at s k)

-- the senders of packets that are passed at once, and those that are told of them
abbrev pub IsPlaced : (ℕ → Face) → ℕ → List Item → Type 0
IsPlaced f n [] = Unit {0}
IsPlaced f n (Sent i a ∷ rest) = PassOk (f i) a × IsPlaced f n rest
IsPlaced f n (Done i x l ∷ rest) = (i < n) × IsPlaced f n rest

-- where a packet comes in that is passed at once: at a port that admits it, of a part that isn't too far from the last of its way
pub record FirstHop (f : ℕ → Face) (depth : ℕ → ℕ) (e : End) (x : Packet) : Type 0 where
  pub deep : depth e.part < passes_max
  pub there : e.port < (f e.part).ports
  pub fits : (f e.part).admits e.port x ≡ true

abbrev pub IsRouted : List (List End) → (ℕ → Face) → (ℕ → ℕ) → Type 0
IsRouted ways f depth = (i p : ℕ) (x : Packet) → (f i).instant ≡ true → p < 2 → FirstHop f depth (peer_in ways i p) x

-- what holds of the ports and of the pending events, also in the middle of an item
pub record IsNet (ram : ℕ) (s : Sys) (items : List Item) (d : Debt) : Type 0 where
  pub parts : (k : ℕ) → IsOk s.routes ram (object_at s k)
  pub wired : IsWired (peer_in s.wires) (faces s)
  pub net : Net (peer_in s.wires) (faces s) items d
  pub due : (k n : ℕ) → (faces s k).due n ≡ is_pending s.pending k n
  pub sent : AllItemsOk items
  pub routed : IsRouted s.ways (faces s) wired.depth
  pub placed : IsPlaced (faces s) (length s.objects) items

-- the packets that are passed at once by others than the part c
abbrev pub others_packets : ℕ → List Item → List Packet
others_packets c [] = []
others_packets c (Sent i a ∷ is) = (if i == c then [] else act_packets a) ++ others_packets c is
others_packets c (Done i x latency ∷ is) = (if i == c then [] else x ∷ []) ++ others_packets c is

-- what holds of the program: there is one hart, RAM is seen as y says, and the hart waits for the packets that are under way
pub record IsProgram (y : MemoryView) (ram : ℕ) (s : Sys) (items : List Item) : Type 0 where
  pub cpu : ℕ
  pub mind : Mind
  pub here : (faces s cpu).mind ≡ Some mind
  pub alone : (k : ℕ) → (k ≡ cpu → ⊥) → (faces s k).mind ≡ None
  pub kinds : (k : ℕ) → (k ≡ cpu → ⊥) → (faces s k).cpu ≡ true → (faces s cpu).instant ≡ false → (faces s k).instant ≡ true
  pub kept : y.IsKept ram s
  pub size : length (y.view s) ≡ ram
  pub owes : weigh core (all_packets s items) ≡ owed mind.doing
  pub fits : weigh (bad s.routes ram mind) (all_packets s items) ≡ 0
  pub at_once : (faces s cpu).instant ≡ true → weigh core (part_packets s.objects) ≡ 0
  pub in_time : (faces s cpu).instant ≡ false → weigh core (item_packets items) ≡ 0
  pub mapped : (address count : ℕ) → 1 ≤ count → is_in_ram ram address count ≡ true → is_unmapped s.routes address ≡ false
  pub senders : weigh core (others_packets cpu items) ≡ 0

-- the machine in the middle of an event, with these items still to be delivered, or between two events; whoever holds RAM's bytes
pub record IsSoundOver (y : MemoryView) (ram : ℕ) (s : Sys) (items : List Item) : Type 0 where
  pub net : IsNet ram s items Clear
  pub program : IsProgram y ram s items

-- one part has RAM's bytes, and none has lines of them
pub record IsStored (ram : ℕ) (s : Sys) : Type 0 where
  pub store : ℕ
  pub memory : List ℕ
  pub kept : (faces s store).memory ≡ Some memory
  pub one_store : (k : ℕ) → (k ≡ store → ⊥) → (faces s k).memory ≡ None
  pub plain : (k : ℕ) → (faces s k).caches ≡ false

-- what a load sees is those bytes
abbrev pub ram_memory : MemoryView
ram_memory = record { view = view_ram; IsKept = IsStored }

-- a machine that is sound, with its RAM held so
abbrev pub IsSound : ℕ → Sys → List Item → Type 0
IsSound ram s items = IsSoundOver ram_memory ram s items

abbrev pub fuel_of : Sys → List Item → ℕ
fuel_of s items = sum_by (λ o. busy (face_of o)) s.objects + weight_of items

-- what was noted on the way from d to e is right over the program's state in d, and leads to the one in e
pub record IsReplayed (y : MemoryView) (d e : Delivery) : Type 0 where
  pub noted : List Entry
  pub entries : e.entries ≡ d.entries ++ noted
  pub replays : replay d.sys.routes (state_seen (y.view d.sys) d.sys d.items) noted ≡ Some (state_seen (y.view e.sys) e.sys e.items)

-- no packet is lost or doubled: by each count of packet numbers, what there is and ended is what there was and was made
abbrev pub IsById : (Packet → ℕ) → Type 0
IsById h = (x y : Packet) → x.id ≡ y.id → h x ≡ h y

pub record IsConserved (d e : Delivery) (m : Moves) : Type 0 where
  pub same : (h : Packet → ℕ) → IsById h
      → weigh h (all_packets e.sys e.items) + (weigh h m.answered + weigh h m.absorbed) ≡ weigh h (all_packets d.sys d.items) + weigh h m.made

-- what never changes of a machine
pub record IsWiredAlike (s t : Sys) : Type 0 where
  pub wires : t.wires ≡ s.wires
  pub ways : t.ways ≡ s.ways
  pub routes : t.routes ≡ s.routes

-- what one item, or the wake of an event, does: the machine stays sound, what is noted is right, and no packet is lost
pub record Handled (y : MemoryView) (ram : ℕ) (d e : Delivery) (m : Moves) : Type 0 where
  pub sound : IsSoundOver y ram e.sys e.items
  pub wiring : IsWiredAlike d.sys e.sys
  pub replayed : IsReplayed y d e
  pub conserved : IsConserved d e m
