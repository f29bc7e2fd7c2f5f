-- Nothing was taken, or what fits.
use Rattle.std.proofs.Common.{◌≡◌, ap, ◌∙◌, ◌++◌, take}
use Rattle.gc_outside.specs.TakenBytes.{Taken, free_room}
use Rattle.gc_outside.specs.declared.mem_sink.MemSink.TheInside.{Inside}
use Rattle.gc_outside.specs.MemSink.{MemSinkState}
use Rattle.gc_outside.proofs.Outputs.{nothing_is_front, fitting_is_front}
use Rattle.gc_outside.proofs.mem_sink.MemSinkSink.emit.Goals as goal
use Rattle.gc_outside.proofs.mem_sink.MemSinkSink.emit.Goals.{then-next_fails-via-then-next_fails, then-next_fails-via-else-next_fails+then-append-gt0}

pub returns-then-next_fails-clause-front : goal.returns-then-next_fails-clause-front
returns-then-next_fails-clause-front c =
    let old : c.self.inside.taken ≡ c.args.self.now.taken = ap (λ (s : MemSinkState). s.taken) c.self.view_is in
    elim c.then-next_fails.branch [
      | then-next_fails-via-then-next_fails w ↦
          nothing_is_front c.args.bytes.now _ _ (ap (λ (s : Inside). s.taken.bytes) w.self-inside-is ∙ ap (λ (t : Taken). t.bytes) old)
      | then-next_fails-via-else-next_fails+then-append-gt0 w ↦
          fitting_is_front (free_room c.args.self.now.taken) c.args.bytes.now _ _ (ap (λ (s : Inside). s.taken.bytes) w.self-inside-is ∙ ap (λ (t : Taken). t.bytes) w.append.ensures.exact ∙ ap (λ (t : Taken). t.bytes ++ take (free_room t) c.args.bytes.now) old)
    ]
