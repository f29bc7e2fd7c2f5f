use Rattle.std.proofs.Common.{refl, ◌∙◌, ap, arith, sym, subst, length, drop}
use Rattle.obj_cache.specs.Held.{targets_of, Held}
use Rattle.obj_cache.specs.Shown.{shown}
use Rattle.obj_cache.specs.Step.{HasBoth}
use Rattle.obj_cache.proofs.Coming.{with_used_registers}
use Rattle.obj_cache.proofs.Waiting.{goes_on, arrived, first_of, one_left, none_of, none_gone}
use Rattle.obj_cache.proofs.cache.Cache.serve_waiting.Goals as goal

pub loop-p-init : goal.loop-p-init
loop-p-init c = record {
  way = λ s' q' o' h. h;
  room = omega (arith, c.requires.room);
  entries = omega (arith, c.requires.entries);
  table = refl;
  stays = record { object = refl; line = refl };
  leaving = refl;
  items = refl;
}

pub serve-requires-clause-room : goal.serve-requires-clause-room
serve-requires-clause-room c =
    let left = one_left c.args.addr c.loop-p.self.registers.used c.in-Some.p (sym c.take_first.ensures.first ∙ c.in-Some.is) in
    omega (arith, left, c.loop-p.invariant.room)

pub serve-requires-clause-entries : goal.serve-requires-clause-entries
serve-requires-clause-entries c =
    let left = one_left c.args.addr c.loop-p.self.registers.used c.in-Some.p (sym c.take_first.ensures.first ∙ c.in-Some.is) in
    omega (arith, left, c.loop-p.invariant.entries)

pub serve-requires-clause-handles : goal.serve-requires-clause-handles
serve-requires-clause-handles c =
    subst (λ t. HasBoth t c.loop-p.self.object.0) (sym c.loop-p.invariant.table) (subst (λ i. HasBoth c.args.q.now.table i) (sym c.loop-p.invariant.stays.object) c.requires.handles)

pub loop-p-smaller : goal.loop-p-smaller
loop-p-smaller c =
    let left = one_left c.args.addr c.loop-p.self.registers.used c.in-Some.p (sym c.take_first.ensures.first ∙ c.in-Some.is) in
    let kept = ap (λ (h : Held). length (targets_of c.args.addr h.used)) (c.serve.ensures.registers ∙ c.take_first.ensures.rest) in
    omega (arith, kept, left)

pub loop-p-preserved : goal.loop-p-preserved
loop-p-preserved c =
    let rs = c.loop-p.self.registers.used in
    let p = c.in-Some.p in
    let some = sym c.take_first.ensures.first ∙ c.in-Some.is in
    let left = one_left c.args.addr rs p some in
    let kept = ap (λ (h : Held). length (targets_of c.args.addr h.used)) (c.serve.ensures.registers ∙ c.take_first.ensures.rest) in
    record {
      way = goes_on c.args.addr c.args.now p (drop 1 (targets_of c.args.addr rs)) (shown c.args.self.now) (shown c.loop-p.self) _ (shown c.serve.new.self)
          c.args.q.now c.loop-p.q c.serve.new.q c.args.out.now c.loop-p.out c.serve.new.out c.loop-p.invariant.way (first_of c.args.addr rs p some)
          (ap (with_used_registers (shown c.loop-p.self)) c.take_first.ensures.rest) c.serve.ensures.step;
      room = omega (arith, kept, left, c.loop-p.invariant.room, c.serve.ensures.few);
      entries = omega (arith, kept, left, c.loop-p.invariant.entries, c.serve.ensures.entries);
      table = c.serve.ensures.handles ∙ c.loop-p.invariant.table;
      stays = record { object = c.serve.ensures.stays.object ∙ c.loop-p.invariant.stays.object; line = c.serve.ensures.stays.line ∙ c.loop-p.invariant.stays.line };
      leaving = c.serve.ensures.leaving ∙ c.loop-p.invariant.leaving;
      items = c.serve.ensures.items ∙ c.loop-p.invariant.items;
    }

pub returns-clause-step : goal.returns-clause-step
returns-clause-step c =
    arrived c.args.addr c.args.now (shown c.args.self.now) (shown c.loop-p.self) _ c.args.q.now c.loop-p.q c.args.out.now c.loop-p.out c.loop-p.invariant.way
    (none_of c.args.addr c.loop-p.self.registers.used (sym c.take_first.ensures.first ∙ c.in_default.is)) (ap (with_used_registers (shown c.loop-p.self)) c.take_first.ensures.rest)

pub returns-clause-none : goal.returns-clause-none
returns-clause-none c =
    ap (λ (h : Held). targets_of c.args.addr h.used) c.take_first.ensures.rest
    ∙ none_gone c.args.addr c.loop-p.self.registers.used (none_of c.args.addr c.loop-p.self.registers.used (sym c.take_first.ensures.first ∙ c.in_default.is))
