use Rattle.std.proofs.Common.{◌≡◌, ◌-◌, ◌%◌, ◌∙◌, arith, sym, subst}
use Rattle.gm_cache.specs.State.{line_in, find_register}
use Rattle.gm_cache.specs.Rule.{access_in, back_in}
use Rattle.obj_cache.proofs.Coming.{takes_passing, takes_access, takes_back}
use Rattle.obj_cache.specs.Shown.{shown}
use Rattle.obj_cache.specs.Step.{Goes}
use Rattle.obj_cache.proofs.cache.Cache.take.Goals as goal

pub returns-then-not-is_cached-clause-step : goal.returns-then-not-is_cached-clause-step
returns-then-not-is_cached-clause-step c =
    takes_passing c.args.p.now c.args.now (shown c.args.self.now) (shown c.send_below.new.self) c.args.q.now c.send_below.new.q c.args.out.now c.args.out.now
    (sym c.is_cached.ensures ∙ c.if-not-is_cached.true) (c.send_below.ensures.step c.args.out.now)

pub returns-then-is_write_back-clause-step : goal.returns-then-is_write_back-clause-step
returns-then-is_write_back-clause-step c =
    let x = c.args.p.now in
    let line : c.args.self.now.line ≡ c.args.self.now.lines.line = omega arith in
    takes_back x c.args.now (shown c.args.self.now) (shown c.write_back.new.self) c.args.q.now c.write_back.new.q c.args.out.now c.write_back.new.out
    (sym c.is_cached.ensures ∙ c.if-not-is_cached.false) (sym c.is_write_back.ensures ∙ c.if-is_write_back.true)
    (subst (λ n. Goes (λ m. back_in (x.addr - x.addr % n) x c.args.now (line_in m.cache (x.addr - x.addr % n)) (find_register (x.addr - x.addr % n) m.cache.registers) m)
    (shown c.args.self.now) (shown c.write_back.new.self) c.args.q.now c.write_back.new.q c.args.out.now c.write_back.new.out) line c.write_back.ensures.step)

pub returns-else-is_write_back-clause-step : goal.returns-else-is_write_back-clause-step
returns-else-is_write_back-clause-step c =
    let x = c.args.p.now in
    let line : c.args.self.now.line ≡ c.args.self.now.lines.line = omega arith in
    takes_access x c.args.now (shown c.args.self.now) (shown c.access.new.self) c.args.q.now c.access.new.q c.args.out.now c.access.new.out
    (sym c.is_cached.ensures ∙ c.if-not-is_cached.false) (sym c.is_write_back.ensures ∙ c.if-is_write_back.false)
    (subst (λ n. Goes (λ m. access_in (x.addr - x.addr % n) x c.args.now (line_in m.cache (x.addr - x.addr % n)) (find_register (x.addr - x.addr % n) m.cache.registers) m)
    (shown c.args.self.now) (shown c.access.new.self) c.args.q.now c.access.new.q c.args.out.now c.access.new.out) line c.access.ensures.step)
