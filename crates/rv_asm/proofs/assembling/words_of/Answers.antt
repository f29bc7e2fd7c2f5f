use Rattle.std.proofs.Common.{◌+◌, map, length, drop, sym, ap, ◌∙◌, arith}
use Rattle.std.proofs.lemmas.List.{drop_more}
use Rattle.std.proofs.lemmas.Result.{err_from_is_err_and}
use Rattle.rv_asm.specs.declared.line.Line.TheVariants.{Blank}
use Rattle.rv_asm.specs.Seen.{labels_seen, line_seen}
use Rattle.rv_asm.specs.Source.{words_from}
use Rattle.rv_asm.specs.Steps.{behind}
use Rattle.rv_asm.proofs.Joined.{stop_whole}
use Rattle.rv_asm.proofs.assembling.words_of.Goals as goal

pub returns-in_err-add_line-clause-fault : goal.returns-in_err-add_line-clause-fault
returns-in_err-add_line-clause-fault c =
    let p = err_from_is_err_and c.from_residual.result c.from_residual.ensures.1 in
    let i = c.loop-line.line-index in
    let more = drop_more c.args.lines.now i Blank (omega arith) in
    rw (p.1, p.2)
    (stop_whole _ _ c.loop-line.words.items c.in_err-add_line.field-0.0 (c.in_err-add_line.ensures.fault (map line_seen (drop (i + 1) c.args.lines.now)))
    (ap (λ ls. behind c.loop-line.words.items (words_from (labels_seen c.args.labels.now) (c.loop-line.number + 1) (length c.loop-line.words.items) (map line_seen ls))) (sym more)
    ∙ c.loop-line.invariant.same))
