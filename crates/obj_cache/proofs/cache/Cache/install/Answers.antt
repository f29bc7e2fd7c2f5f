use Rattle.std.proofs.Common.{◌∙◌, sym, subst, Option}
use Rattle.cache_tags.specs.Line.{Line, new_line, leaving_line}
use Rattle.gm_cache.specs.State.{CacheState, set_at}
use Rattle.gm_cache.specs.Rule.{evicting}
use Rattle.pkt_pool.specs.Packet.{carried_bytes}
use Rattle.obj_cache.proofs.Parts.{installs_goes, evicts_dirty, come_state}
use Rattle.obj_cache.specs.Shown.{shown}
use Rattle.obj_cache.specs.Step.{Goes}
use Rattle.obj_cache.proofs.cache.Cache.install.Goals as goal

pub returns-then-victim-clause-step : goal.returns-then-victim-clause-step
returns-then-victim-clause-step c =
    let s : CacheState = shown c.args.self.now in
    let l = new_line c.args.addr c.args.dirty (carried_bytes c.args.p.now) in
    let v : Option Line = leaving_line s.ways (set_at s l.address) in
    installs_goes l c.args.now s (shown c.ask_below.new.self) c.args.q.now c.ask_below.new.q c.args.out.now c.ask_below.new.out
    (subst (λ (t : CacheState). Goes (evicting v c.args.now) t (shown c.ask_below.new.self) c.args.q.now c.ask_below.new.q c.args.out.now c.ask_below.new.out)
    (come_state s c.args.self.now.lines c.install.new.self l c.install.ensures.lines)
    (evicts_dirty v c.in-Some.victim c.args.now _ _ c.args.q.now _ c.args.out.now _ (sym c.install.ensures.victim ∙ c.in-Some.is) c.if-victim.true c.ask_below.ensures.step))
