use Rattle.std.proofs.lemmas.Result.{err_from_is_err_and}
use Rattle.rv_asm.proofs.Parts.{three_first, three_second, three_third, three_all}
use Rattle.rv_asm.proofs.operands.three.Goals as goal

pub returns-in_err-first : goal.returns-in_err-first
returns-in_err-first c = let p = err_from_is_err_and c.from_residual.result c.from_residual.ensures.1 in rw (p.1, p.2) (three_first c.args.operands.now _ c.in_err-first.ensures)

pub returns-in_err-second : goal.returns-in_err-second
returns-in_err-second c =
    let p = err_from_is_err_and c.from_residual-in_err-second.result c.from_residual-in_err-second.ensures.1 in rw (p.1, p.2) (three_second c.args.operands.now _ _ _ c.in_ok-first.ensures c.in_err-second.ensures)

pub returns-in_err-third : goal.returns-in_err-third
returns-in_err-third c =
    let p = err_from_is_err_and c.from_residual-in_err-third.result c.from_residual-in_err-third.ensures.1 in rw (p.1, p.2) (three_third c.args.operands.now _ _ _ _ _ c.in_ok-first.ensures c.in_ok-second.ensures c.in_err-third.ensures)

pub returns : goal.returns
returns c = three_all c.args.operands.now _ _ _ _ _ c.in_ok-first.ensures c.in_ok-second.ensures c.in_ok-third.ensures
