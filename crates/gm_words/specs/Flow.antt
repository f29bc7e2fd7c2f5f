-- What a part has to send from one port: the packets in order, how the first of them stands, and who waits for room.
-- This project's own rule, after request and response ports whose receiver may refuse.
use Rattle.std.specs.Prelude.{ℕ, List, []}
use Rattle.pkt_pool.specs.declared.packet.Packet.{Packet}

-- how the first packet stands: there is none, its event is pending, it is offered, or it was refused and waits for a call
pub data OutState : Type 0 where
  Quiet : OutState
  Due : OutState
  Asked : OutState
  Waits : OutState

-- a packet, and the tick from which on it may be offered
pub record Queued : Type 0 where
  pub packet : Packet
  pub ready : ℕ

pub record Flow : Type 0 where
  pub items : List Queued
  pub out : OutState

-- with nothing to send
abbrev pub quiet_flow : Flow
quiet_flow = record { items = []; out = Quiet }

-- a flow, and the ports that wait for room in it, first come first
pub record Lane : Type 0 where
  pub flow : Flow
  pub waiting : List ℕ

abbrev pub empty_lane : Lane
empty_lane = record { flow = quiet_flow; waiting = [] }
