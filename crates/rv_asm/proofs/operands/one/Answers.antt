use Rattle.std.proofs.Common.{◌<◌, length, sym, ◌∙◌, arith}
use Rattle.rv_asm.proofs.Parts.{one_is}
use Rattle.rv_asm.proofs.operands.one.Goals as goal

pub returns : goal.returns
returns c =
    let some : 0 < length c.args.operands.now = grind arith in
    c.last.ensures ∙ sym (one_is c.args.operands.now some)
