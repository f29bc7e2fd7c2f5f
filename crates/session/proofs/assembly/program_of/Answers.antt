use Rattle.std.proofs.Common.{◌≡◌, ◌∙◌, sym, ap, subst, List, ℕ, Result}
use Rattle.std.specs.Prelude.{IfOk, IfErr, Ok}
use Rattle.rv_asm.specs.Source.{words_of, Explains}
use Rattle.rv_asm.specs.declared.fault.AsmFault.{AsmFault}
use Rattle.session.specs.Sources.{source_words}
use Rattle.session.proofs.SourceLemmas.{words-utf8, words-other}
use Rattle.session.proofs.assembly.program_of.Goals as goal

pub returns-in-Ok-clause-words : goal.returns-in-Ok-clause-words
returns-in-Ok-clause-words c =
    let same : words_of c.in-Ok.text.now ≡ source_words c.args.source.now = ap words_of c.in-Ok.ensures.cases.0 ∙ sym (words-utf8 c.args.source.now c.in-Ok.ensures.cases.1) in
    subst (λ (w : Result (List ℕ) AsmFault). IfOk c.assemble.result (λ p. w ≡ Ok p.words)) same c.assemble.ensures.words

pub returns-in-Ok-clause-fault : goal.returns-in-Ok-clause-fault
returns-in-Ok-clause-fault c =
    let same : words_of c.in-Ok.text.now ≡ source_words c.args.source.now = ap words_of c.in-Ok.ensures.cases.0 ∙ sym (words-utf8 c.args.source.now c.in-Ok.ensures.cases.1) in
    subst (λ (w : Result (List ℕ) AsmFault). IfErr c.assemble.result (Explains w)) same c.assemble.ensures.fault

pub returns-in-Err-clause-fault : goal.returns-in-Err-clause-fault
returns-in-Err-clause-fault c =
    words-other c.args.source.now c.valid_up_to.result c.line_of_byte.result c.in-Err.ensures.cases.0 (c.valid_up_to.ensures ∙ c.in-Err.ensures.valid_len) c.line_of_byte.ensures
