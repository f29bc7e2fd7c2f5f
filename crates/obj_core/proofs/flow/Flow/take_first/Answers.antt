use Rattle.std.proofs.Common.{◌≡◌, ◌∙◌, ap, arith, List, ◌∷◌, length, None}
use Rattle.gm_words.specs.Flow.{Queued}
use Rattle.obj_core.specs.Kept.{AreHeld, out_of}
use Rattle.obj_core.proofs.FlowLemmas.{as_there, first_held, taken_held, rest_of}
use Rattle.obj_core.proofs.flow.Flow.take_first.Goals as goal

pub invariant_of-self : goal.invariant_of-self
invariant_of-self c =
    let o = c.self.inside in
    let i = c.self.invariant in
    let e = c.in-Some.ensures.items in
    let h : AreHeld o.pool (c.in-Some.place ∷ c.pop_front.new.self.items) = first_held o.pool o.queue.items c.in-Some.place c.pop_front.new.self.items e i.held in
    record {
      cap = c.take.ensures.taken.cap ∙ i.cap;
      held = taken_held o.pool _ c.in-Some.place c.pop_front.new.self.items None c.take.ensures.taken h;
      all = omega (arith, as_there _ _ c.take.ensures.packet h.0 c.take.ensures.one_less, i.all, ap length e);
      within = omega (arith, i.within, ap length e);
      room = omega (arith, i.room, c.in-Some.ensures.capacity);
    }

pub returns-in-Some : goal.returns-in-Some
returns-in-Some c =
    let o = c.self.inside in
    rw (← c.self.view_is) (ap (λ (qs : List Queued). record { flow = record { items = qs; out = out_of o.head }; places = o.places })
    (rest_of o.pool _ o.queue.items c.in-Some.place c.pop_front.new.self.items None c.in-Some.ensures.items c.self.invariant.held c.take.ensures.taken))
