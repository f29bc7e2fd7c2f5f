use Rattle.std.proofs.Common.{◌≡◌, ℕ, ◌+◌, ◌≤◌, length, ◌∙◌, ap, sym, arith, subst}
use Rattle.obj_cache.proofs.Coming.{with_used_registers}
use Rattle.obj_cache.proofs.Filling.{fills_absent, fills_there, holds}
use Rattle.obj_core.specs.Kept.{Kept}
use Rattle.obj_cache.specs.Held.{Held, targets_of}
use Rattle.obj_cache.specs.Shown.{shown, most_held}
use Rattle.obj_cache.specs.declared.cache.Cache.{Cache}
use Rattle.obj_cache.proofs.cache.Cache.fill.Goals as goal
use Rattle.obj_cache.proofs.cache.Cache.fill.Goals.{then-not-has, else-not-has}

pub returns-clause-step : goal.returns-clause-step
returns-clause-step c = elim c.if-not-has.branch [
  | then-not-has w ↦ fills_absent c.args.p.now c.args.now (shown c.args.self.now) (shown w.install.new.self) (shown c.serve_waiting.new.self) _
      c.args.q.now w.install.new.q c.serve_waiting.new.q c.args.out.now w.install.new.out c.serve_waiting.new.out (shown c.if-not-has.self) c.if-not-has.q c.if-not-has.out
      (ap (λ (k : Cache). shown k) w.self-is) w.q-is w.out-is (sym c.has.ensures ∙ w.if-not-has.true) c.requires.there w.install.ensures.step c.serve_waiting.ensures.step
      (ap (with_used_registers (shown c.serve_waiting.new.self)) c.close.ensures)
  | else-not-has w ↦ fills_there c.args.p.now c.args.now (shown c.args.self.now) (shown c.serve_waiting.new.self) _
      c.args.q.now c.serve_waiting.new.q c.args.out.now c.serve_waiting.new.out (shown c.if-not-has.self) c.if-not-has.q c.if-not-has.out
      (ap (λ (k : Cache). shown k) w.self-is) w.q-is w.out-is (sym c.has.ensures ∙ w.if-not-has.false) c.requires.there c.serve_waiting.ensures.step
      (ap (with_used_registers (shown c.serve_waiting.new.self)) c.close.ensures)
]

pub install-requires-clause-room : goal.install-requires-clause-room
install-requires-clause-room c = omega (arith, (holds most_held (shown c.args.self.now) c.args.p.now.addr c.requires.few).below)

pub serve_waiting-requires-clause-room : goal.serve_waiting-requires-clause-room
serve_waiting-requires-clause-room c =
    let room = (holds most_held (shown c.args.self.now) c.args.p.now.addr c.requires.few).above in
    elim c.if-not-has.branch [
      | then-not-has w ↦ has_room c.args.p.now.addr c.if-not-has.self w.install.new.self w.self-is (omega (
        arith,
        room,
        ap (λ (f : Kept). length f.flow.items) w.install.ensures.answers,
        ap (λ (h : Held). length (targets_of c.args.p.now.addr h.used)) w.install.ensures.registers,
      ))
      | else-not-has w ↦ has_room c.args.p.now.addr c.if-not-has.self c.args.self.now w.self-is (omega (arith, room))
    ] where
      has_room : (a : ℕ) (k l : Cache) → k ≡ l → length l.answers.flow.items + length (targets_of a l.registers.used) ≤ 512
          → length k.answers.flow.items + length (targets_of a k.registers.used) ≤ 512
      has_room a k l e h = subst (λ (k : Cache). length k.answers.flow.items + length (targets_of a k.registers.used) ≤ 512) (sym e) h
