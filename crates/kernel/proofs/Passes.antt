-- A packet that is passed at once, part by part.
use Rattle.std.proofs.Common.{◌≡◌, ℕ, suc, zero, ◌+◌, ◌-◌, ◌*◌, ◌<◌, ◌≤◌, List, length, refl, sym, ◌∙◌, ap, subst, arith}
use Rattle.ev_queue.specs.declared.slot.Slot.{Slot}
use Rattle.gc_base.specs.declared.ids.PortNo.{PortNo}
use Rattle.gm_words.specs.Platform.{End}
use Rattle.gm_words.specs.declared.way.Way.{Way}
use Rattle.gm_words.specs.declared.way.Way.TheVariants as ways
use Rattle.gm_model.specs.Deliver.{Delivery, deliver_atomic, deliver_passed, done_at}
use Rattle.gm_model.specs.Sys.{pass_at, peer_in}
use Rattle.gm_system.specs.Ways.{HasWay}
use Rattle.gm_system.proofs.ForKernel.{way_part, way_left, way_next, way_same, way_goes, way_over}
use Rattle.pkt_pool.specs.declared.packet.Packet.{Packet}
use Rattle.kernel.specs.Ready.{IsReadyForPacket, MayGoOn}

-- after n parts, which passed it on, the packet is as it was when it came to the first part, and so is the machine; it comes to the
-- part k, and what is left of its way leads where the whole way does
pub record IsOnItsWay (d : Delivery) (first : ℕ) (p : Packet) (e : Delivery) (k : ℕ) (x : Packet) (before n : ℕ) : Type 0 where
  pub same : e ≡ d
  pub packet : x ≡ p
  pub way : HasWay (8 - n) d.sys k p
  pub leads : (sender : ℕ) → deliver_atomic (8 - n) d sender k p before ≡ deliver_atomic 8 d sender first p 0
  pub most : before ≤ 1000000 * n

pub sets_out : (d : Delivery) (table : List Slot) (first : ℕ) (p : Packet) → MayGoOn d table first p → IsOnItsWay d first p d first p 0 0
sets_out d table first p h = record { same = refl; packet = refl; way = h.way; leads = λ sender. refl; most = omega arith }

-- there is always a part more
pub not_yet_over : (d e : Delivery) (first k before n : ℕ) (p x : Packet) → IsOnItsWay d first p e k x before n → n < 8
not_yet_over d e first k before n p x h = let l = way_left (8 - n) k d.sys p h.way in omega (arith, l)

module _ (d e : Delivery) (table : List Slot) (first k before n : ℕ) (p x : Packet) (may : MayGoOn d table first p) (h : IsOnItsWay d first p e k x before n) where
  one_left : 8 - n ≡ suc (8 - (n + 1))
  one_left = omega (arith, not_yet_over d e first k before n p x h)

  way_here : HasWay (suc (8 - (n + 1))) d.sys k p
  way_here = subst (λ m. HasWay m d.sys k p) one_left h.way

  -- the part is ready for it
  pub part_ready : (table' : List Slot) → table' ≡ table → IsReadyForPacket e table' k x
  part_ready table' t =
      let here : IsReadyForPacket d table k p = may.parts k (way_part (suc (8 - (n + 1))) k d.sys p way_here) in
      subst (λ u. IsReadyForPacket u table' k x) (sym h.same) (subst (λ y. IsReadyForPacket d table' k y) (sym h.packet) (subst (λ u. IsReadyForPacket d u k p) (sym t) here))

  module _ (f : Delivery) (y : Packet) (w : Way) (passed : f ≡ deliver_passed e k x) (packet : y ≡ (pass_at e.sys k x).packet) (way : w ≡ (pass_at e.sys k x).way) where
    passed_there : f ≡ deliver_passed d k p
    passed_there = passed ∙ (ap (λ u. deliver_passed u k x) h.same ∙ ap (λ z. deliver_passed d k z) h.packet)

    packet_there : y ≡ (pass_at d.sys k p).packet
    packet_there = packet ∙ (ap (λ (u : Delivery). (pass_at u.sys k x).packet) h.same ∙ ap (λ z. (pass_at d.sys k z).packet) h.packet)

    way_there : (pass_at d.sys k p).way ≡ w
    way_there = sym (way ∙ (ap (λ (u : Delivery). (pass_at u.sys k x).way) h.same ∙ ap (λ z. (pass_at d.sys k z).way) h.packet))

    leads_here : (sender : ℕ) → deliver_atomic (suc (8 - (n + 1))) d sender k p before ≡ deliver_atomic 8 d sender first p 0
    leads_here sender = subst (λ m. deliver_atomic m d sender k p before ≡ deliver_atomic 8 d sender first p 0) one_left (h.leads sender)

    -- it was served there
    pub served_there : (latency : ℕ) → w ≡ ways.Done latency → (sender : ℕ) → done_at f sender y (before + latency) ≡ deliver_atomic 8 d sender first p 0
    served_there latency is sender =
        ap (λ u. done_at u sender y (before + latency)) passed_there
        ∙ (ap (λ z. done_at (deliver_passed d k p) sender z (before + latency)) packet_there
        ∙ (sym (way_over (8 - (n + 1)) k before latency sender d p (way_there ∙ is)) ∙ leads_here sender))

    -- or passed on from a port
    pub goes_on : (port : PortNo) (latency : ℕ) (next : End) → w ≡ ways.Pass port latency → latency ≤ 1000000 → next ≡ peer_in f.sys.wires k port.0
        → IsOnItsWay d first p f next.part y (before + latency) (n + 1)
    goes_on port latency next is little peer =
        let there : (pass_at d.sys k p).way ≡ ways.Pass port latency = way_there ∙ is in
        let on = way_next (8 - (n + 1)) k (latency) port d.sys p way_here there in
        let stays : f ≡ d = passed_there ∙ way_same d k port.0 p on.0 in
        let to : (peer_in d.sys.wires k port.0).part ≡ next.part = sym (ap (λ (q : End). q.part) (peer ∙ ap (λ (u : Delivery). peer_in u.sys.wires k port.0) stays)) in
        record {
          same = stays;
          packet = packet_there ∙ on.0.packet;
          way = subst (λ j. HasWay (8 - (n + 1)) d.sys j p) to on.1;
          leads = λ sender. ap (λ j. deliver_atomic (8 - (n + 1)) d sender j p (before + latency)) (sym to)
              ∙ (sym (way_goes (8 - (n + 1)) k before latency sender port d p way_here there) ∙ leads_here sender);
          most = omega (arith, h.most, little);
        }
