-- Where packets are, and when a machine is drained. This project's own rules.
use Rattle.std.specs.Prelude.{ℕ, ◌+◌, ◌==◌, ◌&&◌, Bool, true, false, List, [], ◌∷◌, ◌++◌, map}
use Rattle.ev_queue.specs.declared.due.Due.{Due}
use Rattle.gm_words.specs.Flow.{Lane}
use Rattle.gm_words.specs.Platform.{own_slot}
use Rattle.pkt_pool.specs.declared.packet.Packet.{Packet}
use Rattle.gm_model.specs.ObjState.{ObjState, Blank, AtomicCpu, TimingCpu, Xbar, Server, Device, Memory, Uart, Exit, Timer}
use Rattle.gm_model.specs.Command.{is_drained}
use Rattle.gm_model.specs.Sys.{Sys, object_at}
use Rattle.gm_model.specs.View.{queued_packets, stage_packets}

-- where a packet is: in the queue of a server; in a layer of a crossbar, that of a port or that of no port; with a CPU, which offers it
pub data Spot : Type 0 where
  InQueue : Spot
  InLayer : (port : ℕ) → Spot
  InSideLayer : Spot
  InHand : Spot

-- a packet's number, and where it is
pub record PacketPlace : Type 0 where
  pub packet : ℕ
  pub object : ℕ
  pub spot : Spot

abbrev pub places_at : ℕ → Spot → List Packet → List PacketPlace
places_at i spot xs = map (λ x. record { packet = x.id.0; object = i; spot = spot }) xs

-- the places of the packets in layers from a port on
abbrev pub layer_places : ℕ → ℕ → List Lane → List PacketPlace
layer_places i p [] = []
layer_places i p (l ∷ ls) = places_at i (InLayer p) (queued_packets l.flow.items) ++ layer_places i (p + 1) ls

-- the places of the packets in the object i
abbrev pub places_in : ℕ → ObjState → List PacketPlace
places_in i (Blank k) = []
places_in i (AtomicCpu s) = []
places_in i (TimingCpu s) = places_at i InHand (stage_packets s.stage)
places_in i (Xbar s) = places_at i InSideLayer (queued_packets s.side.lane.flow.items) ++ layer_places i 0 s.lanes
places_in i (Server s) = places_at i InQueue (queued_packets s.flow.items)

-- the places of the packets in the objects from a number on
abbrev pub places_from : ℕ → List ObjState → List PacketPlace
places_from i [] = []
places_from i (o ∷ os) = places_in i o ++ places_from (i + 1) os

-- the places of all packets
abbrev pub packet_places : Sys → List PacketPlace
packet_places s = places_from 0 s.objects

-- an event is one that a drained machine may have: a UART's or a timer's own
abbrev pub is_device_event : ObjState → ℕ → Bool
is_device_event (Blank k) slot = false
is_device_event (AtomicCpu s) slot = false
is_device_event (TimingCpu s) slot = false
is_device_event (Xbar s) slot = false
is_device_event (Server s) slot = has_own s.device && (slot == own_slot) where
  has_own : Device → Bool
  has_own (Memory m) = false
  has_own (Uart u) = true
  has_own (Exit code) = false
  has_own (Timer t) = true

-- each part holds nothing that has to be served first
abbrev pub are_drained : List ObjState → Bool
are_drained [] = true
are_drained (o ∷ os) = is_drained o && are_drained os

-- each event is a device's own
abbrev pub are_device_events : Sys → List Due → Bool
are_device_events s [] = true
are_device_events s (e ∷ es) = is_device_event (object_at s e.owner.0) e.slot.0 && are_device_events s es

-- no packet is anywhere, nobody waits, no instruction is under way, and only devices' own events are pending
abbrev pub is_settled : Sys → Bool
is_settled s = are_drained s.objects && are_device_events s s.pending
