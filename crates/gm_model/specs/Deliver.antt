-- What one event causes: the acts of its wakes, delivered first in, first out. This project's own rule.
use Rattle.std.specs.Prelude.{ℕ, zero, suc, ◌+◌, List, [], ◌∷◌, ◌++◌, map, Option, Some, None}
use Rattle.gm_words.specs.Platform.{End}
use Rattle.gm_model.specs.Sys.{Sys, peer_in, step_at, woken, pass_at, passed, active_cpu}
use Rattle.gm_words.specs.declared.act.Act.{Act}
use Rattle.gm_words.specs.declared.act.Act.TheVariants as acts
use Rattle.gm_words.specs.declared.answer.Answer.{Answer}
use Rattle.gm_words.specs.declared.answer.Answer.TheVariants as answers
use Rattle.gm_words.specs.declared.entry.Entry.{Entry}
use Rattle.pkt_pool.specs.declared.packet.Packet.{Packet}
use Rattle.gm_words.specs.declared.wake.Wake.{Wake}
use Rattle.gm_words.specs.declared.wake.Wake.TheVariants as wakes
use Rattle.gm_words.specs.declared.way.Way.{Way}
use Rattle.gm_words.specs.declared.way.Way.TheVariants as ways

-- what is to be delivered: an act of a sender, or to a sender the packet that it passed on, which took a latency
pub data Item : Type 0 where
  Sent : (sender : ℕ) → Act → Item
  Done : (sender : ℕ) → Packet → (latency : ℕ) → Item

-- a machine in mid-event: what is still to be delivered, and what the event has noted
pub record Delivery : Type 0 where
  pub sys : Sys
  pub items : List Item
  pub entries : List Entry

-- an object's acts as items
abbrev pub sent_by : ℕ → List Act → List Item
sent_by i list = map (Sent i) list

-- the object i is woken: its acts go to the end of the items
abbrev pub deliver_wake : Delivery → ℕ → Wake → Delivery
deliver_wake d i w = record {
  sys = woken d.sys i w;
  items = d.items ++ sent_by i (step_at d.sys i w).acts;
  entries = d.entries ++ (step_at d.sys i w).entries;
}

-- what is told to who offered
abbrev pub told_wake : Answer → ℕ → Wake
told_wake answers.Taken p = wakes.Taken (record { 0 = p })
told_wake answers.Refused p = wakes.Refused (record { 0 = p })
told_wake answers.Nothing p = wakes.Taken (record { 0 = p })

-- an offer is shown to the peer, and then its answer told to the sender
abbrev pub deliver_offer : Delivery → ℕ → ℕ → Packet → End → Delivery
deliver_offer d i p x e =
    let w : Wake = wakes.Offer (record { 0 = e.port }) x in
    deliver_wake (deliver_wake d e.part w) i (told_wake (step_at d.sys e.part w).answer p)

-- an interrupt line's level comes to the active CPU
abbrev pub deliver_line : Delivery → Wake → Option ℕ → Delivery
deliver_line d w None = d
deliver_line d w (Some cpu) = deliver_wake d cpu w

-- the latency of a way
abbrev pub way_latency : Way → ℕ
way_latency (ways.Pass port latency) = latency
way_latency (ways.Done latency) = latency

-- a part was passed a packet: its acts go to the end
abbrev pub deliver_passed : Delivery → ℕ → Packet → Delivery
deliver_passed d k x = record {
  sys = passed d.sys k x;
  items = d.items ++ sent_by k (pass_at d.sys k x).acts;
  entries = d.entries ++ (pass_at d.sys k x).entries;
}

-- and behind them its sender is told of it
abbrev pub done_at : Delivery → ℕ → Packet → ℕ → Delivery
done_at d i x latency = record d { items = d.items ++ Done i x latency ∷ [] }

-- the most parts that a packet is passed through
abbrev pub passes_max : ℕ
passes_max = 8

-- by what became of it there: it goes on from a port, or it was served
abbrev pub pass_way : (ℕ → ℕ → Delivery) → Delivery → ℕ → Packet → ℕ → Way → Delivery
pass_way on e i y before (ways.Pass port latency) = on port.0 (before + latency)
pass_way on e i y before (ways.Done latency) = done_at e i y (before + latency)

-- a packet of the sender i is passed to the part k, and on from there, until it is served; `before` is how long its way took so far
unfoldable pub deliver_atomic : ℕ → Delivery → ℕ → ℕ → Packet → ℕ → Delivery
deliver_atomic zero d i k x before = done_at d i x before
deliver_atomic (suc n) d i k x before =
    pass_way (λ port total. deliver_atomic n (deliver_passed d k x) i (peer_in d.sys.wires k port).part (pass_at d.sys k x).packet total)
    (deliver_passed d k x) i (pass_at d.sys k x).packet before (pass_at d.sys k x).way

-- one act of the part i is delivered
abbrev pub deliver_act : Delivery → ℕ → Act → Delivery
deliver_act d i (acts.Offer port x) = deliver_offer d i port.0 x (peer_in d.sys.wires i port.0)
deliver_act d i (acts.CallRetry port) =
    let e : End = peer_in d.sys.wires i port.0 in deliver_wake d e.part (wakes.Retry (record { 0 = e.port }))
deliver_act d i (acts.SetLine bit level) = deliver_line d (wakes.Line bit level) (active_cpu d.sys.objects)
deliver_act d i (acts.Atomic port x) = deliver_atomic passes_max d i (peer_in d.sys.ways i port.0).part x 0

-- one item is delivered
abbrev pub handle : Delivery → Item → Delivery
handle d (Sent i a) = deliver_act d i a
handle d (Done i p latency) = deliver_wake d i (wakes.AtomicDone p latency)

-- the first item is taken out and delivered
abbrev pub deliver_first : Delivery → List Item → Delivery
deliver_first d [] = d
deliver_first d (i ∷ is) = handle (record d { items = is }) i

-- at most n items, in order
unfoldable pub deliver : ℕ → Delivery → Delivery
deliver zero d = d
deliver (suc n) d = deliver n (deliver_first d d.items)

-- the most items that are delivered for one event
abbrev pub items_max : ℕ
items_max = 256
