use Rattle.std.proofs.Common.{◌≡◌, ◌∙◌, ◌-◌, ◌%◌, ap, sym, None, is_some}
use Rattle.obj_cache.specs.Sets.{Sets, line_in, served_in, response_in}
use Rattle.obj_cache.specs.LinesKept.{shown}
use Rattle.obj_cache.proofs.LinesLemmas.{Served, serve_there, serve_lacks}
use Rattle.obj_cache.proofs.lines.Lines.serve.Goals as goal

pub returns-in-Some : goal.returns-in-Some
returns-in-Some c =
    let o = c.self.inside in
    let x = c.args.p.now in
    let own : x.addr - x.addr % o.tags.line ≡ c.args.addr = ap (λ (s : Sets). x.addr - x.addr % s.line) c.self.view_is ∙ c.requires.target.own in
    let h : Served o.tags c.serve_at.new.tags c.args.addr x c.serve_at.new.p =
    serve_there o.tags c.touch.new.self c.serve_at.new.tags c.args.addr c.in-Some.at x c.serve_at.new.p c.self.invariant.sound c.self.invariant.some own c.in-Some.ensures.found
    c.in-Some.ensures.line.0 c.in-Some.ensures.line.1 c.touch.ensures.touched c.touch.ensures.sound c.serve_at.ensures.tags c.serve_at.ensures.packet in
    record {
      served = rw (← c.self.view_is) h.served;
      lines = rw (← c.self.view_is) h.lines;
      packet = rw (← c.self.view_is) h.packet;
    }

pub returns-in-None : goal.returns-in-None
returns-in-None c =
    let o = c.self.inside in
    let x = c.args.p.now in
    let own : x.addr - x.addr % o.tags.line ≡ c.args.addr = ap (λ (s : Sets). x.addr - x.addr % s.line) c.self.view_is ∙ c.requires.target.own in
    let none : line_in (shown o.tags) c.args.addr ≡ None = serve_lacks o.tags c.args.addr x c.self.invariant.some own c.in-None.ensures.none in
    record {
      served = rw (← c.self.view_is) (sym (ap is_some none));
      lines = rw (← c.self.view_is) (sym (ap (λ l. served_in (shown o.tags) l x) none));
      packet = rw (← c.self.view_is) (sym (ap (λ l. response_in l x) none));
    }
