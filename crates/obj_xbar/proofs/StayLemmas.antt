-- Nothing that comes to a crossbar changes whose it is, nor its ports.
use Rattle.std.proofs.Common.{◌≡◌, ℕ, ◌==◌, sym, subst, Bool, true, false, if◌then◌else◌, List, [], ◌∷◌, length}
use Rattle.gm_words.specs.Flow.{Queued, OutState, Quiet, Due, Asked, Waits}
use Rattle.pkt_pool.specs.Packet.{top_port, is_write_back, fault_response}
use Rattle.gm_words.specs.PortUses.{source_port, port_of_slot, is_side_slot}
use Rattle.pkt_pool.specs.declared.packet.Packet.{Packet}
use Rattle.gm_words.specs.declared.port_use.PortUse.{PortUse}
use Rattle.gm_words.specs.declared.wake.Wake.{Wake}
use Rattle.gm_words.specs.declared.wake.Wake.TheVariants as wakes
use Rattle.gm_model.specs.Flows.{has_room}
use Rattle.gm_model.specs.ObjState.{ObjState, Blank, AtomicCpu, TimingCpu, Xbar, Server, XbarState}
use Rattle.gm_model.specs.ObjectStep.{object_step, atomic_step}
use Rattle.gm_model.specs.Xbar.{lane_at, layer_for, layer_of, is_next, xbar_atomic_at, xbar_offer, side_event, side_event_at, side_event_by, side_enters, xbar_taken, xbar_event, xbar_step}
use Rattle.obj_xbar.specs.Stays.{IsXbar}

module _ (object : ℕ) (ports : List PortUse) (s : XbarState) (h : IsXbar object ports (Xbar s)) (next now : ℕ) where
  offered : (to p : ℕ) (x : Packet) (b : Bool) → IsXbar object ports (xbar_offer s next to p x now b).state
  offered to p x true = h
  offered to p x false = h

  placed : (p : ℕ) (x y : Packet) (xs : List Queued) (b : Bool) → IsXbar object ports (side_event_at s next p x y xs now b).state
  placed p x y xs true = h
  placed p x y xs false = h

  ended : (p : ℕ) (x : Packet) (xs : List Queued) (b : Bool) → IsXbar object ports (side_event_by s next p x xs now b).state
  ended p x xs true = h
  ended p x xs false = placed p x (fault_response x x.cmd) xs (has_room 1 (lane_at s.lanes p))

  beside : (items : List Queued) (out : OutState) → IsXbar object ports (side_event s next now items out).state
  beside [] out = h
  beside (x ∷ xs) Quiet = h
  beside (x ∷ xs) Due = ended (source_port s.ports (top_port x.packet)) x.packet xs (is_write_back x.packet.cmd)
  beside (x ∷ xs) Asked = h
  beside (x ∷ xs) Waits = h

  fired : (slot : ℕ) (b : Bool)
      → IsXbar object ports
      (if b then side_event s next now s.side.lane.flow.items s.side.lane.flow.out else xbar_event s next (port_of_slot s.ports slot)).state
  fired slot true = beside s.side.lane.flow.items s.side.lane.flow.out
  fired slot false = h

  entered : (p : ℕ) (items : List Queued) → IsXbar object ports (side_enters s next p now items).state
  entered p [] = h
  entered p (x ∷ xs) = h

  gone : (p : ℕ) (b : Bool) → IsXbar object ports (xbar_taken s next p now b).state
  gone p true = entered p s.side.lane.flow.items
  gone p false = h

  pub stays_xbar : (w : Wake) → IsXbar object ports (xbar_step s next w now).state
  stays_xbar (wakes.Event slot) = fired slot.0 (is_side_slot s.ports slot.0)
  stays_xbar (wakes.Offer port x) = offered (layer_of s x) port.0 x (layer_of s x == length s.ports)
  stays_xbar (wakes.Taken port) = gone port.0 (is_next s.ports port.0 s.side.ahead s.side.lane.flow.items s.side.lane.flow.out)
  stays_xbar (wakes.Refused port) = h
  stays_xbar (wakes.Retry port) = h
  stays_xbar (wakes.Line bit level) = h
  stays_xbar (wakes.AtomicDone x latency) = h

woken : (object : ℕ) (ports : List PortUse) (o : ObjState) (next : ℕ) (w : Wake) (now : ℕ) → IsXbar object ports o
    → IsXbar object ports (object_step o next w now).state
unfolding object_step
woken object ports (Blank k) next w now h = absurd (cc)
woken object ports (AtomicCpu s) next w now h = absurd (cc)
woken object ports (TimingCpu s) next w now h = absurd (cc)
woken object ports (Xbar s) next w now h = stays_xbar object ports s h next now w
woken object ports (Server s) next w now h = absurd (cc)

passed_by : (object : ℕ) (ports : List PortUse) (s : XbarState) (p : Packet) (n : ℕ) (b : Bool) → IsXbar object ports (Xbar s)
    → IsXbar object ports (xbar_atomic_at s p n b).state
passed_by object ports s p n true h = h
passed_by object ports s p n false h = h

passed : (object : ℕ) (ports : List PortUse) (o : ObjState) (p : Packet) (now : ℕ) → IsXbar object ports o → IsXbar object ports (atomic_step o p now).state
unfolding atomic_step
passed object ports (Blank k) p now h = absurd (cc)
passed object ports (AtomicCpu s) p now h = absurd (cc)
passed object ports (TimingCpu s) p now h = absurd (cc)
passed object ports (Xbar s) p now h = passed_by object ports s p (layer_for s.ports p false) (layer_for s.ports p false == length s.ports) h
passed object ports (Server s) p now h = absurd (cc)

-- what a call leaves is that crossbar too
pub still_xbar : (object : ℕ) (ports : List PortUse) (o o' : ObjState) (next : ℕ) (w : Wake) (now : ℕ) → IsXbar object ports o
    → o' ≡ (object_step o next w now).state → IsXbar object ports o'
still_xbar object ports o o' next w now h e = subst (λ x. IsXbar object ports x) (sym e) (woken object ports o next w now h)

pub still_passing : (object : ℕ) (ports : List PortUse) (o o' : ObjState) (p : Packet) (now : ℕ) → IsXbar object ports o
    → o' ≡ (atomic_step o p now).state → IsXbar object ports o'
still_passing object ports o o' p now h e = subst (λ x. IsXbar object ports x) (sym e) (passed object ports o p now h)
