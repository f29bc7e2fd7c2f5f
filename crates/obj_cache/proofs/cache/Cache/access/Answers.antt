use Rattle.std.proofs.Common.{◌∙◌, ap, sym, subst, refl, []}
use Rattle.gm_cache.specs.State.{CacheState}
use Rattle.gm_cache.specs.Rule.{requesting}
use Rattle.pkt_pool.specs.declared.cmd.Cmd.TheVariants.{Read}
use Rattle.obj_cache.proofs.Steps.{noted_out}
use Rattle.obj_cache.proofs.Coming.{access_hits, access_joins, access_opens, with_used_registers}
use Rattle.obj_cache.specs.Step.{Goes}
use Rattle.obj_cache.specs.Shown.{shown}
use Rattle.obj_cache.proofs.cache.Cache.access.Goals as goal

pub returns-then-has-clause-step : goal.returns-then-has-clause-step
returns-then-has-clause-step c =
    access_hits c.args.addr c.args.p.now c.args.now (shown c.args.self.now) (shown c.serve.new.self) c.args.q.now c.serve.new.q c.args.out.now c.note.new.self c.serve.new.out
    (sym c.has.ensures ∙ c.if-has.true) (noted_out c.args.out.now c.note.new.self _ c.note.ensures) c.serve.ensures.step

pub returns-then-has-2-clause-step : goal.returns-then-has-2-clause-step
returns-then-has-2-clause-step c =
    access_joins c.args.addr c.args.p.now c.args.now (shown c.args.self.now) _ c.args.q.now c.args.out.now c.note-2.new.self
    (sym c.has.ensures ∙ c.if-has.false) (sym c.has-2.ensures.value ∙ c.if-has-2.true) (noted_out c.args.out.now c.note-2.new.self _ c.note-2.ensures)
    (ap (with_used_registers (shown c.args.self.now)) c.join.ensures)

pub returns-clause-step : goal.returns-clause-step
returns-clause-step c =
    access_opens c.args.addr c.args.p.now c.args.now (shown c.args.self.now) (shown c.ask_below.new.self) c.args.q.now c.ask_below.new.q c.args.out.now c.note-2.new.self c.ask_below.new.out
    (sym c.has.ensures ∙ c.if-has.false) (sym c.has-2.ensures.value ∙ c.if-has-2.false) (noted_out c.args.out.now c.note-2.new.self _ c.note-2.ensures)
    (subst (λ (t : CacheState). Goes (requesting Read c.args.addr [] c.args.now) t (shown c.ask_below.new.self) c.args.q.now c.ask_below.new.q c.note-2.new.self c.ask_below.new.out)
    (ap (with_used_registers (shown c.args.self.now)) c.start.ensures) (c.ask_below.ensures.step [] refl))
