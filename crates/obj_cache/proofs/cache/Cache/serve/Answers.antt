use Rattle.std.proofs.Common.{◌∙◌, sym}
use Rattle.obj_cache.proofs.Parts.{serve_answers, serve_takes, serve_lacks}
use Rattle.obj_cache.specs.Shown.{shown}
use Rattle.obj_cache.proofs.cache.Cache.serve.Goals as goal

pub returns-then-is_response-clause-step : goal.returns-then-is_response-clause-step
returns-then-is_response-clause-step c =
    serve_answers (shown c.args.self.now) c.args.self.now.lines c.serve.new.self c.args.addr c.args.p.now c.serve.new.p c.args.now (shown c.send_above.new.self)
    c.args.q.now c.send_above.new.q c.args.out.now c.note_served.new.out (sym c.serve.ensures.served ∙ c.if-not-serve.false) c.serve.ensures.lines c.serve.ensures.packet
    c.requires.target.fits (sym c.is_response.ensures ∙ c.if-is_response.true) (c.send_above.ensures.step c.args.out.now) c.note_served.ensures

pub returns-else-is_response-clause-step : goal.returns-else-is_response-clause-step
returns-else-is_response-clause-step c =
    serve_takes (shown c.args.self.now) c.args.self.now.lines c.serve.new.self c.args.addr c.args.p.now c.serve.new.p c.args.now c.args.q.now c.args.out.now
    (sym c.serve.ensures.served ∙ c.if-not-serve.false) c.serve.ensures.lines c.serve.ensures.packet c.requires.target.fits (sym c.is_response.ensures ∙ c.if-is_response.false)

pub returns-then-not-serve-clause-step : goal.returns-then-not-serve-clause-step
returns-then-not-serve-clause-step c =
    serve_lacks (shown c.args.self.now) c.args.self.now.lines c.serve.new.self c.args.addr c.args.p.now c.args.now c.args.q.now c.args.out.now
    (sym c.serve.ensures.served ∙ c.if-not-serve.true) c.serve.ensures.lines
