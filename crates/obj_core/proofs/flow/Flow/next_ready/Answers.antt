use Rattle.std.proofs.Common.{◌≡◌, ◌∙◌, ℕ, ap, sym, arith, Option, None}
use Rattle.std.specs.Option.{option_map}
use Rattle.std.proofs.lemmas.Option.{slice_get_past}
use Rattle.gm_words.specs.Flow.{Queued}
use Rattle.obj_core.specs.Kept.{queued}
use Rattle.obj_core.proofs.FlowLemmas.{queued_length, queued_second}
use Rattle.obj_core.proofs.flow.Flow.next_ready.Goals as goal

pub returns-then-len-lt2 : goal.returns-then-len-lt2
returns-then-len-lt2 c =
    let o = c.self.inside in
    rw (← c.self.view_is) (ap (λ (x : Option Queued). option_map (λ (q : Queued). q.ready) x)
    (sym (slice_get_past (queued o.pool o.queue.items) 1 (omega (arith, c.if-len-lt2.true, c.len.ensures, o.queue.ok.0, queued_length o.pool o.queue.items c.self.invariant.held)))))

pub returns : goal.returns
returns c =
    let o = c.self.inside in
    rw (← c.self.view_is) (queued_second o.pool o.queue.items c.index.result.now c.self.invariant.held
    (omega (arith, c.if-len-lt2.false, c.len.ensures, o.queue.ok.0)) c.index.ensures)
