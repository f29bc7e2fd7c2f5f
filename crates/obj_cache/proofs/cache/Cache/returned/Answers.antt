use Rattle.std.proofs.Common.{◌∙◌, sym, arith}
use Rattle.obj_cache.proofs.Filling.{returns_filled, returns_unknown, returns_other, holds}
use Rattle.obj_cache.specs.Shown.{shown, most_held}
use Rattle.obj_cache.proofs.cache.Cache.returned.Goals as goal
use Rattle.obj_cache.proofs.cache.Cache.returned.Goals.{else-is_fill-via-then-is_fill+else-has, else-is_fill-via-else-is_fill}

pub send_above-requires-clause-room : goal.send_above-requires-clause-room
send_above-requires-clause-room c = omega (arith, (holds most_held (shown c.args.self.now) c.args.p.now.addr c.requires.few).above)

pub returns-then-has-clause-step : goal.returns-then-has-clause-step
returns-then-has-clause-step c =
    returns_filled c.args.p.now c.args.now (shown c.args.self.now) (shown c.fill.new.self) c.args.q.now c.fill.new.q c.args.out.now c.fill.new.out
    (sym c.is_fill.ensures ∙ c.if-is_fill.true) c.fill.ensures.step

pub returns-else-is_fill-clause-step : goal.returns-else-is_fill-clause-step
returns-else-is_fill-clause-step c = elim c.else-is_fill.branch [
  | else-is_fill-via-then-is_fill+else-has w ↦ returns_unknown c.args.p.now c.args.now (shown c.args.self.now) (shown c.send_above.new.self) c.args.q.now c.send_above.new.q
      c.args.out.now c.args.out.now (sym c.is_fill.ensures ∙ w.if-is_fill.true) (sym w.has.ensures.value ∙ w.if-has.false) (c.send_above.ensures.step c.args.out.now)
  | else-is_fill-via-else-is_fill w ↦ returns_other c.args.p.now c.args.now (shown c.args.self.now) (shown c.send_above.new.self) c.args.q.now c.send_above.new.q
      c.args.out.now c.args.out.now (sym c.is_fill.ensures ∙ w.if-is_fill.false) (c.send_above.ensures.step c.args.out.now)
]
