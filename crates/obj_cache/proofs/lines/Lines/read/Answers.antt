use Rattle.std.proofs.Common.{◌≡◌, ◌∙◌, ap, sym, None, is_some}
use Rattle.gm_model.specs.Xbar.{read_of}
use Rattle.obj_cache.specs.Sets.{Sets, bytes_in}
use Rattle.obj_cache.specs.LinesKept.{shown}
use Rattle.obj_cache.proofs.LinesLemmas.{HasRead, read_there, read_lacks}
use Rattle.obj_cache.proofs.lines.Lines.read.Goals as goal

pub returns-in-Some : goal.returns-in-Some
returns-in-Some c =
    let o = c.self.inside in
    let x = c.args.p.now in
    let h : HasRead o.tags x c.answer.new.p =
    read_there o.tags c.in-Some.at c.bytes-line.result.now x c.answer.new.p c.self.invariant.some c.in-Some.ensures.line.1 c.bytes-line.ensures.bytes
    c.bytes-line.ensures.whole c.answer.ensures in
    record {
      answered = h.answered ∙ ap (λ (s : Sets). is_some (bytes_in s x.addr x.size)) c.self.view_is;
      packet = h.packet ∙ ap (λ (s : Sets). read_of x (bytes_in s x.addr x.size)) c.self.view_is;
    }

pub returns-in-None : goal.returns-in-None
returns-in-None c =
    let o = c.self.inside in
    let x = c.args.p.now in
    let none : bytes_in (shown o.tags) x.addr x.size ≡ None = read_lacks o.tags x.addr x.size c.self.invariant.some c.in-None.ensures.none in
    record {
      answered = sym (ap is_some none) ∙ ap (λ (s : Sets). is_some (bytes_in s x.addr x.size)) c.self.view_is;
      packet = sym (ap (read_of x) none) ∙ ap (λ (s : Sets). read_of x (bytes_in s x.addr x.size)) c.self.view_is;
    }
