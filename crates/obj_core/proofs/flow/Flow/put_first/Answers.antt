use Rattle.std.proofs.Common.{◌≡◌, ◌∙◌, ap, arith, List, ◌∷◌, length, None}
use Rattle.gm_words.specs.Flow.{Queued}
use Rattle.obj_core.specs.Kept.{AreHeld, out_of}
use Rattle.obj_core.proofs.FlowLemmas.{as_there, first_held, taken_held, front_held, front_of}
use Rattle.obj_core.proofs.flow.Flow.put_first.Goals as goal

pub invariant_of-self : goal.invariant_of-self
invariant_of-self c =
    let o = c.self.inside in
    let i = c.self.invariant in
    let e = c.in-Some.ensures.items in
    let put = c.put_reserved-key.ensures in
    let h : AreHeld o.pool (c.in-Some.first ∷ c.pop_front.new.self.items) = first_held o.pool o.queue.items c.in-Some.first c.pop_front.new.self.items e i.held in
    let more = ap length c.push_front_reserved.ensures.items in
    record {
      cap = put.packet.cap ∙ c.take.ensures.taken.cap ∙ i.cap;
      held = rw c.push_front_reserved.ensures.items
          (front_held _ _ c.pop_front.new.self.items _ c.args.ready _ put.packet put.vacant c.requires (taken_held o.pool _ c.in-Some.first c.pop_front.new.self.items None c.take.ensures.taken h));
      all = omega (arith, put.one_more, as_there _ _ c.take.ensures.packet h.0 c.take.ensures.one_less, i.all, ap length e, more);
      within = omega (arith, i.within, ap length e, more);
      room = omega (arith, i.room, c.in-Some.ensures.capacity, c.push_front_reserved.ensures.capacity);
    }

pub returns-in-Some : goal.returns-in-Some
returns-in-Some c =
    let o = c.self.inside in
    let put = c.put_reserved-key.ensures in
    rw (← c.self.view_is) (rw c.push_front_reserved.ensures.items (ap (λ (qs : List Queued). record { flow = record { items = qs; out = out_of o.head }; places = o.places })
    (front_of o.pool _ _ o.queue.items c.in-Some.first c.pop_front.new.self.items None _ _ _ c.in-Some.ensures.items c.self.invariant.held c.take.ensures.taken put.packet put.vacant)))
