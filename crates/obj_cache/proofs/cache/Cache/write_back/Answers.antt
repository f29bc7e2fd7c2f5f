use Rattle.std.proofs.Common.{◌∙◌, ap, sym}
use Rattle.obj_cache.proofs.Coming.{back_hits, back_joins, back_comes, with_used_registers}
use Rattle.obj_cache.specs.Shown.{shown}
use Rattle.obj_cache.proofs.cache.Cache.write_back.Goals as goal

pub returns-then-has-clause-step : goal.returns-then-has-clause-step
returns-then-has-clause-step c =
    back_hits c.args.addr c.args.p.now c.args.now (shown c.args.self.now) (shown c.serve.new.self) c.args.q.now c.serve.new.q c.args.out.now c.serve.new.out
    (sym c.has.ensures ∙ c.if-has.true) c.serve.ensures.step

pub returns-then-has-2-clause-step : goal.returns-then-has-2-clause-step
returns-then-has-2-clause-step c =
    back_joins c.args.addr c.args.p.now c.args.now (shown c.args.self.now) _ c.args.q.now c.args.out.now
    (sym c.has.ensures ∙ c.if-has.false) (sym c.has-2.ensures.value ∙ c.if-has-2.true) (ap (with_used_registers (shown c.args.self.now)) c.join.ensures)

pub returns-clause-step : goal.returns-clause-step
returns-clause-step c =
    back_comes c.args.addr c.args.p.now c.args.now (shown c.args.self.now) (shown c.install.new.self) c.args.q.now c.install.new.q c.args.out.now c.install.new.out
    (sym c.has.ensures ∙ c.if-has.false) (sym c.has-2.ensures.value ∙ c.if-has-2.false) c.install.ensures.step
