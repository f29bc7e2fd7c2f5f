use Rattle.std.proofs.lemmas.Result.{err_from_is_err_and}
use Rattle.rv_asm.proofs.Parts.{two_first, two_second, two_both}
use Rattle.rv_asm.proofs.operands.two.Goals as goal

pub returns-in_err-first : goal.returns-in_err-first
returns-in_err-first c = let p = err_from_is_err_and c.from_residual.result c.from_residual.ensures.1 in rw (p.1, p.2) (two_first c.args.operands.now _ c.in_err-first.ensures)

pub returns-in_err-second : goal.returns-in_err-second
returns-in_err-second c =
    let p = err_from_is_err_and c.from_residual-in_err-second.result c.from_residual-in_err-second.ensures.1 in rw (p.1, p.2) (two_second c.args.operands.now _ _ _ c.in_ok-first.ensures c.in_err-second.ensures)

pub returns : goal.returns
returns c = two_both c.args.operands.now _ _ _ c.in_ok-first.ensures c.in_ok-second.ensures
