use Rattle.std.proofs.Common.{map, Ok, ap, sym, ◌∙◌, subst}
use Rattle.std.proofs.lemmas.Result.{err_from_is_err_and}
use Rattle.rv_asm.specs.Lines.{source_lines}
use Rattle.rv_asm.specs.Seen.{labels_seen, line_seen}
use Rattle.rv_asm.specs.Source.{words_of, Explains}
use Rattle.rv_asm.proofs.Given.{by_map}
use Rattle.rv_asm.proofs.assembling.assemble.Goals as goal

pub returns-in_err-words-clause-fault : goal.returns-in_err-words-clause-fault
unfolding words_of
returns-in_err-words-clause-fault c =
    let p = err_from_is_err_and c.from_residual-in_err-words.result c.from_residual-in_err-words.ensures.1 in
    let lines = c.in_ok-lines.ensures.lines ∙ ap source_lines c.as_bytes.ensures.value in
    let same =
    by_map (labels_seen c.in_ok-labels.labels) (map line_seen c.deref.result.now) (map line_seen c.deref-2.result.now) (source_lines c.args.text.now) c.in_ok-labels.ensures
    (ap (map line_seen) c.deref.ensures.value ∙ lines) (ap (map line_seen) c.deref-2.ensures.value ∙ lines) in
    rw (p.1, p.2) (subst (λ r. Explains r c.in_err-words.field-0.0) same c.in_err-words.ensures.fault)

pub returns-clause-words : goal.returns-clause-words
unfolding words_of
returns-clause-words c =
    let lines = c.in_ok-lines.ensures.lines ∙ ap source_lines c.as_bytes.ensures.value in
    let same =
    by_map (labels_seen c.in_ok-labels.labels) (map line_seen c.deref.result.now) (map line_seen c.deref-2.result.now) (source_lines c.args.text.now) c.in_ok-labels.ensures
    (ap (map line_seen) c.deref.ensures.value ∙ lines) (ap (map line_seen) c.deref-2.ensures.value ∙ lines) in
    sym same ∙ c.in_ok-words.ensures.words ∙ ap Ok (sym c.new.ensures)
