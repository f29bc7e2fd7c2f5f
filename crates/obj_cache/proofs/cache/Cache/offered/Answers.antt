use Rattle.std.proofs.Common.{◌∙◌, ap, sym, arith}
use Rattle.obj_cache.proofs.Filling.{holds}
use Rattle.obj_cache.proofs.Wakes.{offers_below, offers_above, offers_refused, free, ends_at}
use Rattle.obj_cache.specs.Shown.{shown, most_held}
use Rattle.obj_cache.specs.declared.cache.Cache.{Cache}
use Rattle.obj_cache.proofs.cache.Cache.offered.Goals as goal
use Rattle.obj_cache.proofs.cache.Cache.offered.Goals.{then-port-ne0, else-port-ne0+else-is_blocked}

pub take-requires-clause-free : goal.take-requires-clause-free
take-requires-clause-free c = free (shown c.args.self.now) (sym c.is_blocked.ensures ∙ c.if-is_blocked.false)

pub take-requires-clause-above : goal.take-requires-clause-above
take-requires-clause-above c = omega (arith, (holds most_held (shown c.args.self.now) 0 c.requires.few).above)

pub take-requires-clause-below : goal.take-requires-clause-below
take-requires-clause-below c = omega (arith, (holds most_held (shown c.args.self.now) 0 c.requires.few).below)

pub returns-then-is_blocked : goal.returns-then-is_blocked
returns-then-is_blocked c =
    offers_refused c.args.port.0 c.args.p.now c.args.now (shown c.args.self.now) (shown c.refuse.new.self) c.args.q.now c.args.out.now c.refuse.new.out c.refuse.result
    c.if-port-ne0.false (sym c.is_blocked.ensures ∙ c.if-is_blocked.true) (c.refuse.ensures c.args.p.now c.args.now c.args.q.now)

pub returns : goal.returns
returns c = elim c.if-port-ne0.branch [
  | then-port-ne0 w ↦ offers_below c.args.port.0 c.args.p.now c.args.now (shown c.args.self.now) (shown c.if-port-ne0.self) (shown c.call_waiter.new.self)
      c.args.q.now c.if-port-ne0.q c.args.out.now c.if-port-ne0.out c.call_waiter.new.out w.if-port-ne0.true
      (ends_at _ (shown c.args.self.now) (shown w.returned.new.self) (shown c.if-port-ne0.self) c.args.q.now w.returned.new.q c.if-port-ne0.q c.args.out.now w.returned.new.out c.if-port-ne0.out
      (ap (λ (k : Cache). shown k) w.self-is) w.q-is w.out-is w.returned.ensures.step) (c.call_waiter.ensures c.if-port-ne0.q)
  | else-port-ne0+else-is_blocked w ↦ offers_above c.args.port.0 c.args.p.now c.args.now (shown c.args.self.now) (shown c.if-port-ne0.self) (shown c.call_waiter.new.self)
      c.args.q.now c.if-port-ne0.q c.args.out.now c.if-port-ne0.out c.call_waiter.new.out w.if-port-ne0.false (sym w.is_blocked.ensures ∙ w.if-is_blocked.false)
      (ends_at _ (shown c.args.self.now) (shown w.take.new.self) (shown c.if-port-ne0.self) c.args.q.now w.take.new.q c.if-port-ne0.q c.args.out.now w.take.new.out c.if-port-ne0.out
      (ap (λ (k : Cache). shown k) w.self-is) w.q-is w.out-is w.take.ensures.step) (c.call_waiter.ensures c.if-port-ne0.q)
]
