use Rattle.std.proofs.Common.{arith}
use Rattle.obj_cache.proofs.Steps.{requests_goes, own_request}
use Rattle.obj_cache.specs.Shown.{shown}
use Rattle.obj_cache.proofs.cache.Cache.ask_below.Goals as goal

pub returns-clause-step : goal.returns-clause-step
returns-clause-step c = λ front e.
    requests_goes c.args.cmd c.args.addr front _ c.args.now (shown c.args.self.now) _ c.args.q.now _ c.args.out.now _
    (own_request c.args.self.now.source c.args.self.now.line c.args.self.now.lines.line c.fresh.result.0 c.args.out.now.next c.args.cmd c.args.addr front c.args.bytes.now
    c.fresh.ensures.number (omega arith) e)
    c.fresh.ensures.next (c.send_below.ensures.step c.args.out.now)
