use Rattle.std.proofs.Common.{ap, ◌∙◌, drop, take}
use Rattle.std.proofs.lemmas.List.{take_rest}
use Rattle.rv_asm.proofs.Blanks.{from_first_blank}
use Rattle.std.specs.List.{before_first}
use Rattle.rv_asm.specs.Bytes.{is_blank, without_blanks_before}
use Rattle.rv_asm.specs.Lines.{Instruction, operands_of}
use Rattle.rv_asm.proofs.line.instruction_of.Goals as goal

pub returns : goal.returns
returns c =
    let code = c.args.code.now in
    let rest =
    c.without_blanks_before.ensures
    ∙ ap without_blanks_before (take_rest code c.place_of_blank-end.result)
    ∙ ap (λ k. without_blanks_before (drop k code)) c.place_of_blank-end.ensures.value
    ∙ from_first_blank code in
    ap (λ k. Instruction (take k code) (operands_of c.without_blanks_before.result.now)) c.place_of_blank-end.ensures.value
    ∙ ap (λ r. Instruction (before_first is_blank code) (operands_of r)) rest
