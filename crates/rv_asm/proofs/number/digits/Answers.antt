use Rattle.std.proofs.Common.{◌<◌, length, sym, ◌∙◌, arith}
use Rattle.std.proofs.lemmas.List.{at_drop_all}
use Rattle.rv_asm.specs.declared.number.TheConstants.{LIMIT}
use Rattle.rv_asm.proofs.Digits.{read, read_all}
use Rattle.rv_asm.proofs.number.digits.Goals as goal

pub returns-clause-value : goal.returns-clause-value
returns-clause-value c =
    let some : 0 < length c.args.text.now = grind arith in
    sym (at_drop_all (read LIMIT c.args.radix c.loop-digit.value) c.args.text.now c.loop-digit.digit-index (omega arith))
    ∙ c.loop-digit.invariant.same
    ∙ read_all LIMIT c.args.radix c.args.text.now (omega arith) some
