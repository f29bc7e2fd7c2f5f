use Rattle.std.proofs.Common.{◌≡◌, ℕ, ◌+◌, ◌∙◌, ap, sym, arith, List, length}
use Rattle.std.proofs.lemmas.List.{length-append}
use Rattle.gm_words.specs.Flow.{Queued}
use Rattle.obj_core.specs.Kept.{Kept, queued, out_of}
use Rattle.obj_core.proofs.FlowLemmas.{queued_length, put_queued, put_held}
use Rattle.obj_core.proofs.flow.Flow.put_last.Goals as goal

-- so many packets are queued as contracts see it
abbrev count_of : Kept → ℕ
count_of k = length k.flow.items

pub put_reserved-key-requires : goal.put_reserved-key-requires
put_reserved-key-requires c =
    let o = c.self.inside in
    omega (arith, c.self.invariant.cap, c.self.invariant.all, queued_length o.pool o.queue.items c.self.invariant.held, ap count_of c.self.view_is, ap (λ (k : Kept). k.places) c.self.view_is, c.requires.room)

pub push_back_reserved-requires : goal.push_back_reserved-requires
push_back_reserved-requires c =
    let o = c.self.inside in
    omega (arith, o.queue.ok.0, c.self.invariant.room, queued_length o.pool o.queue.items c.self.invariant.held, ap count_of c.self.view_is, ap (λ (k : Kept). k.places) c.self.view_is, c.requires.room)

pub invariant_of-self : goal.invariant_of-self
invariant_of-self c =
    let o = c.self.inside in
    let i = c.self.invariant in
    let put = c.put_reserved-key.ensures in
    let more : length c.push_back_reserved.new.self.items ≡ length o.queue.items + 1 = ap length c.push_back_reserved.ensures.items ∙ length-append o.queue.items _ in
    record {
      cap = put.packet.cap ∙ i.cap;
      held = rw c.push_back_reserved.ensures.items (put_held o.pool _ o.queue.items _ _ _ put.packet put.vacant c.requires.size i.held);
      all = omega (arith, put.one_more, i.all, more);
      within = omega (arith, more, queued_length o.pool o.queue.items i.held, ap count_of c.self.view_is, ap (λ (k : Kept). k.places) c.self.view_is, c.requires.room);
      room = omega (arith, i.room, c.push_back_reserved.ensures.capacity);
    }

pub returns : goal.returns
returns c =
    let o = c.self.inside in
    let put = c.put_reserved-key.ensures in
    rw (← c.self.view_is) (rw c.push_back_reserved.ensures.items (ap (λ (qs : List Queued). record { flow = record { items = qs; out = out_of o.head }; places = o.places }) (put_queued o.pool _ o.queue.items _ _ _ put.packet put.vacant c.self.invariant.held)))
