-- Items that are delivered one after another.
use Rattle.std.proofs.Common.{◌≡◌, ℕ, suc, zero, ◌+◌, ◌-◌, ◌<◌, ◌≤◌, ◌==◌, ◌⊎◌, inl, inr, true, length, refl, sym, ◌∙◌, ap, subst, arith, List, [], ◌∷◌, ◌++◌, drop}
use Rattle.std.proofs.lemmas.Bool.{cases_lt, eqb-true}
use Rattle.std.proofs.lemmas.List.{length-append}
use Rattle.ev_queue.specs.declared.slot.Slot.{Slot}
use Rattle.gm_model.specs.Sys.{Sys, peer_in, step_at}
use Rattle.gm_words.specs.Platform.{End}
use Rattle.gm_words.specs.declared.answer.Answer.{Answer}
use Rattle.gm_words.specs.declared.wake.Wake.{Wake}
use Rattle.gm_model.specs.Deliver.{Item, Sent, Done, Delivery, handle, deliver, deliver_first, deliver_wake, deliver_offer, done_at, deliver_atomic, passes_max, told_wake}
use Rattle.gc_base.specs.declared.ids.ObjId.{ObjId}
use Rattle.gc_base.specs.declared.ids.PortNo.{PortNo}
use Rattle.gm_words.specs.declared.act.Act.{Act}
use Rattle.gm_words.specs.declared.act.Act.TheVariants as acts
use Rattle.pkt_pool.specs.declared.packet.Packet.{Packet}
use Rattle.gm_words.specs.declared.wake.Wake.TheVariants as wakes
use Rattle.ev_queue.specs.declared.due.Due.{Due}
use Rattle.gm_model.specs.Fire.{event_begun}
use Rattle.obj_core.specs.Out.{item_of}
use Rattle.obj_core.specs.declared.item.Item.{Item as KeptItem}
use Rattle.obj_core.specs.declared.item.Item.TheVariants as kept
use Rattle.kernel.specs.Ready.{IsReadyForWake, IsUnderWay, Delivers, HasItemRoom, MayOffer, MayServe, not_begun}
use Rattle.kernel.proofs.Deliveries.{deliver_none, deliver_then}
use Rattle.kernel.proofs.UnderWay.{IsCountable, done_ready, first_under_way, all_delivered, items_few, under_way_countable}

-- after so many deliveries the event is still under way
pub more_under_way : (n : ℕ) (d : Delivery) (table : List Slot) → IsUnderWay d table → IsUnderWay (deliver n d) table
unfolding deliver
more_under_way zero d table h = h
more_under_way (suc n) d table h = more_under_way n (deliver_first d d.items) table (first_under_way d table h)

pub still_under_way : (n : ℕ) (d e : Delivery) (table : List Slot) → Delivers n d e → IsUnderWay d table → IsUnderWay e table
still_under_way n d e table t h = let P : Delivery → Type 0 = λ x. IsUnderWay x table in subst P (sym t.delivered) (more_under_way t.count d table h)

-- an item more
pub delivers_none : (d : Delivery) → Delivers 0 d d
unfolding deliver
delivers_none d = record { count = 0; enough = omega arith; delivered = refl }

pub delivers_more : (n : ℕ) (d e f : Delivery) → Delivers n d e → Delivers 1 e f → Delivers (n + 1) d f
delivers_more n d e f t u = record {
  count = t.count + u.count;
  enough = omega (arith, t.enough, u.enough);
  delivered = u.delivered ∙ (ap (λ x. deliver u.count x) t.delivered ∙ deliver_then t.count u.count d);
}

-- however many more than 256 are delivered, the same is left
pub delivers_all : (n : ℕ) (d e : Delivery) (table : List Slot) → 256 ≤ n → IsUnderWay d table → Delivers n d e → e ≡ deliver 256 d
delivers_all n d e table l h t =
    let more : ℕ = t.count - 256 in
    let P : ℕ → Type 0 = λ k. e ≡ deliver k d in
    let same : t.count ≡ 256 + more = omega (arith, l, t.enough) in
    subst P same t.delivered ∙ (sym (deliver_then 256 more d) ∙ deliver_none more (deliver 256 d) (all_delivered d table h))

-- where nothing is left, all were delivered
pub delivers_last : (n : ℕ) (d e : Delivery) (table : List Slot) → e.items ≡ [] → IsUnderWay d table → Delivers n d e → e ≡ deliver 256 d
delivers_last n d e table none h t = by_order (cases_lt t.count 256) where
  landed : (deliver t.count d).items ≡ []
  landed = ap (λ x. x.items) (sym t.delivered) ∙ none

  by_order : (t.count < 256) ⊎ (256 ≤ t.count) → e ≡ deliver 256 d
  by_order (inl l) =
      let left : ℕ = 256 - t.count in
      let P : ℕ → Type 0 = λ k. deliver left (deliver t.count d) ≡ deliver k d in
      let same : t.count + left ≡ 256 = omega (arith, l) in
      t.delivered ∙ (sym (deliver_none left (deliver t.count d) landed) ∙ subst P same (deliver_then t.count left d))
  by_order (inr l) = delivers_all t.count d e table l h (record { count = t.count; enough = omega arith; delivered = t.delivered })

-- there is always room for what the first item causes
pub rest_room : (d : Delivery) (table : List Slot) (i : Item) (is : List Item) → d.items ≡ i ∷ is → IsUnderWay d table → HasItemRoom (record d { items = is })
rest_room d table i is e h = omega (arith, items_few d table h, ap (λ xs. length xs) e)

-- the first item is delivered
pub first_delivered : (d e : Delivery) (i : Item) (is : List Item) → d.items ≡ i ∷ is → e ≡ handle (record d { items = is }) i → Delivers 1 d e
unfolding deliver
first_delivered d e i is f g = record {
  count = 1;
  enough = omega arith;
  delivered = g ∙ sym (ap (λ xs. deliver_first d xs) f);
}

-- with none left, nothing is delivered
pub none_delivered : (d : Delivery) → d.items ≡ [] → Delivers 1 d d
none_delivered d none = record { count = 1; enough = omega arith; delivered = sym (deliver_none 1 d none) }

-- no item is an empty list
pub none_of_length : (xs : List Item) → (length xs == 0) ≡ true → xs ≡ []
none_of_length [] h = refl
none_of_length (x ∷ xs) h = absurd (omega (arith, eqb-true (length (x ∷ xs)) 0 h))

-- what the first item is, as it is kept
pub sent_first : (items : List Item) (k : KeptItem) (sender : ObjId) (a b : Act) → items ≡ item_of k ∷ drop 1 items → k ≡ kept.Sent sender a → a ≡ b
    → items ≡ Sent sender.0 b ∷ drop 1 items
sent_first items k sender a b e f g =
    let P : KeptItem → Type 0 = λ x. items ≡ item_of x ∷ drop 1 items in
    let Q : Act → Type 0 = λ x. items ≡ Sent sender.0 x ∷ drop 1 items in
    subst Q g (subst P f e)

pub done_first : (items : List Item) (k : KeptItem) (sender : ObjId) (p : Packet) (latency : ℕ) → items ≡ item_of k ∷ drop 1 items → k ≡ kept.Done sender p latency
    → items ≡ Done sender.0 p latency ∷ drop 1 items
done_first items k sender p latency e f = let P : KeptItem → Type 0 = λ x. items ≡ item_of x ∷ drop 1 items in subst P f e

-- a sender is told at once
pub told_now : (d e : Delivery) (i latency : ℕ) (p : Packet) → d.items ≡ [] → e ≡ deliver_wake d i (wakes.AtomicDone p latency) → Delivers 0 (done_at d i p latency) e
unfolding deliver
told_now d e i latency p none f = record {
  count = 1;
  enough = omega arith;
  delivered = (let P : List Item → Type 0 = λ xs. e ≡ deliver_wake (record d { items = xs }) i (wakes.AtomicDone p latency) in
      let Q : List Item → Type 0 = λ xs. e ≡ deliver_first (record d { items = xs ++ Done i p latency ∷ [] }) (xs ++ Done i p latency ∷ []) in
      subst Q (sym none) (subst P none f));
}

-- or later
pub told_later : (d e : Delivery) (i latency : ℕ) (p : Packet) → e ≡ done_at d i p latency → Delivers 0 (done_at d i p latency) e
unfolding deliver
told_later d e i latency p f = record { count = 0; enough = omega arith; delivered = f }

-- the first item is a packet, which was passed on: `after` is the machine before its sender is told
module _ (d : Delivery) (table : List Slot) (i : ℕ) (port : PortNo) (p : Packet) (is : List Item) (e : d.items ≡ Sent i (acts.Atomic port p) ∷ is) (h : IsUnderWay d table)
    (after : Delivery) (q : Packet) (latency : ℕ) (m : done_at after i q latency ≡ deliver_atomic passes_max (record d { items = is }) i (peer_in d.sys.ways i port.0).part p 0) where
  passed_first : done_at after i q latency ≡ deliver_first d d.items
  passed_first = m ∙ sym (ap (λ xs. deliver_first d xs) e)

  passed_under_way : IsUnderWay (done_at after i q latency) table
  passed_under_way = let P : Delivery → Type 0 = λ x. IsUnderWay x table in subst P (sym passed_first) (first_under_way d table h)

  pub answer_room : HasItemRoom after
  answer_room = omega (arith, items_few (done_at after i q latency) table passed_under_way, length-append after.items (Done i q latency ∷ []))

  pub answer_ready : after.items ≡ [] → IsReadyForWake after table i (wakes.AtomicDone q latency)
  answer_ready none =
      let P : List Item → Type 0 = λ xs. IsReadyForWake (record after { items = xs }) table i (wakes.AtomicDone q latency) in
      subst P (sym none) (done_ready (done_at after i q latency) table i latency q [] (ap (λ xs. xs ++ Done i q latency ∷ []) none) passed_under_way)

  pub packet_delivered : (last : Delivery) → Delivers 0 (done_at after i q latency) last → Delivers 1 d last
  unfolding deliver
  packet_delivered last t = record {
    count = suc t.count;
    enough = omega arith;
    delivered = t.delivered ∙ ap (λ x. deliver t.count x) passed_first;
  }

-- what an event noted can be counted
pub countable : (s : Sys) (e : Due) (table : List Slot) (d w v : Delivery) → MayServe s e table → d ≡ not_begun s
    → w ≡ deliver_wake d e.owner.0 (wakes.Event e.slot) → v ≡ deliver 256 w → IsCountable v
countable s e table d w v h idle begun delivered =
    let first : w ≡ event_begun s e = begun ∙ ap (λ x. deliver_wake x e.owner.0 (wakes.Event e.slot)) idle in
    let all : v ≡ deliver 256 (event_begun s e) = delivered ∙ ap (λ x. deliver 256 x) first in
    let Q : Delivery → Type 0 = IsCountable in
    subst Q (sym all) (under_way_countable (deliver 256 (event_begun s e)) table (more_under_way 256 (event_begun s e) table h.under_way))

-- once its owner was woken, the event is under way
pub begun_under_way : (s : Sys) (e : Due) (table table' : List Slot) (d w : Delivery) → MayServe s e table → d ≡ not_begun s
    → w ≡ deliver_wake d e.owner.0 (wakes.Event e.slot) → table' ≡ table → IsUnderWay w table'
begun_under_way s e table table' d w h idle begun same =
    let first : w ≡ event_begun s e = begun ∙ ap (λ x. deliver_wake x e.owner.0 (wakes.Event e.slot)) idle in
    subst (λ t. IsUnderWay w t) (sym same) (subst (λ (v : Delivery). IsUnderWay v table) (sym first) h.under_way)

-- a packet is shown to the peer that was looked up, and then its answer told
module _ (d d' : Delivery) (table : List Slot) (i port : ℕ) (p : Packet) (e peer : End) (a : Answer) (w : Wake) (same : e ≡ peer)
    (shown : d' ≡ deliver_wake d e.part (wakes.Offer (record { 0 = e.port }) p)) (answer : a ≡ (step_at d.sys e.part (wakes.Offer (record { 0 = e.port }) p)).answer)
    (told : w ≡ told_wake a port) where
  told_is : w ≡ told_wake (step_at d.sys peer.part (wakes.Offer (record { 0 = peer.port }) p)).answer port
  told_is = told ∙ (ap (λ b. told_wake b port) answer ∙ ap (λ (q : End). told_wake (step_at d.sys q.part (wakes.Offer (record { 0 = q.port }) p)).answer port) same)

  shown_is : d' ≡ deliver_wake d peer.part (wakes.Offer (record { 0 = peer.port }) p)
  shown_is = shown ∙ ap (λ (q : End). deliver_wake d q.part (wakes.Offer (record { 0 = q.port }) p)) same

  pub told_ready : (table' : List Slot) → table' ≡ table → MayOffer d table i port p peer → IsReadyForWake d' table' i w
  told_ready table' t m =
      subst (λ x. IsReadyForWake d' x i w) (sym t) (subst (λ v. IsReadyForWake d' table i v) (sym told_is) (subst (λ x. IsReadyForWake x table i
      (told_wake (step_at d.sys peer.part (wakes.Offer (record { 0 = peer.port }) p)).answer port)) (sym shown_is) m.told))

  pub told_room : MayOffer d table i port p peer → HasItemRoom d'
  told_room m = subst HasItemRoom (sym shown_is) m.room

  pub offer_delivered : (last : Delivery) → last ≡ deliver_wake d' i w → last ≡ deliver_offer d i port p peer
  offer_delivered last h = h ∙ (ap (λ v. deliver_wake d' i v) told_is
      ∙ ap (λ x. deliver_wake x i (told_wake (step_at d.sys peer.part (wakes.Offer (record { 0 = peer.port }) p)).answer port)) shown_is)

pub shown_ready : (d : Delivery) (table : List Slot) (i port : ℕ) (p : Packet) (e peer : End) → e ≡ peer → MayOffer d table i port p peer
    → IsReadyForWake d table e.part (wakes.Offer (record { 0 = e.port }) p)
shown_ready d table i port p e peer same m = subst (λ (q : End). IsReadyForWake d table q.part (wakes.Offer (record { 0 = q.port }) p)) (sym same) m.shown

-- the peer that was looked up is called
pub called_ready : (d : Delivery) (table : List Slot) (e peer : End) → e ≡ peer → IsReadyForWake d table peer.part (wakes.Retry (record { 0 = peer.port }))
    → IsReadyForWake d table e.part (wakes.Retry (record { 0 = e.port }))
called_ready d table e peer same h = subst (λ (q : End). IsReadyForWake d table q.part (wakes.Retry (record { 0 = q.port }))) (sym same) h

pub called_delivered : (d d' : Delivery) (e peer : End) → e ≡ peer → d' ≡ deliver_wake d e.part (wakes.Retry (record { 0 = e.port }))
    → d' ≡ deliver_wake d peer.part (wakes.Retry (record { 0 = peer.port }))
called_delivered d d' e peer same h = h ∙ ap (λ (q : End). deliver_wake d q.part (wakes.Retry (record { 0 = q.port }))) same
