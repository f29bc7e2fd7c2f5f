use Rattle.std.proofs.Common.{◌≡◌, ◌∙◌, ◌-◌, ap, sym, arith, refl}
use Rattle.gm_model.specs.Memory.{covers, queued_bytes}
use Rattle.obj_core.specs.declared.flow.Place.{Place}
use Rattle.pkt_pool.specs.Pooled.{packet_at}
use Rattle.obj_core.proofs.FlowLemmas.{newest_below, newest_fits}
use Rattle.obj_core.proofs.flow.Flow.read.Goals as goal

pub answer-requires-clause-bytes : goal.answer-requires-clause-bytes
answer-requires-clause-bytes c =
    let o = c.self.inside in
    newest_fits o.pool o.queue.items (c.loop-n.n - 1) c.loop-n.n c.index.result.now c.in-Some.held.now c.self.invariant.held (omega (arith, c.loop-n-test.true)) c.loop-n.invariant.within
    (c.in-Some.ensures ∙ ap (λ (x : Place). packet_at o.pool x.key) c.index.ensures)

pub returns-then-covers-clause-answered : goal.returns-then-covers-clause-answered
returns-then-covers-clause-answered c =
    let o = c.self.inside in
    let a = c.args.p.now.addr in
    rw (← c.self.view_is)
    (rw (newest_below o.pool o.queue.items (c.loop-n.n - 1) c.loop-n.n a c.args.p.now.size c.index.result.now c.in-Some.held.now (omega (arith, c.loop-n-test.true))
    c.loop-n.invariant.within (c.in-Some.ensures ∙ ap (λ (x : Place). packet_at o.pool x.key) c.index.ensures)
    (rw (← c.loop-n.invariant.read) (sym c.covers.ensures ∙ c.if-covers.true)) c.loop-n.invariant.newer)
    refl)

pub returns-then-covers-clause-packet : goal.returns-then-covers-clause-packet
returns-then-covers-clause-packet c =
    let o = c.self.inside in
    let a = c.args.p.now.addr in
    rw (← c.self.view_is)
    (rw (newest_below o.pool o.queue.items (c.loop-n.n - 1) c.loop-n.n a c.args.p.now.size c.index.result.now c.in-Some.held.now (omega (arith, c.loop-n-test.true))
    c.loop-n.invariant.within (c.in-Some.ensures ∙ ap (λ (x : Place). packet_at o.pool x.key) c.index.ensures)
    (rw (← c.loop-n.invariant.read) (sym c.covers.ensures ∙ c.if-covers.true)) c.loop-n.invariant.newer)
    (rw (← c.loop-n.invariant.read) c.answer.ensures))
