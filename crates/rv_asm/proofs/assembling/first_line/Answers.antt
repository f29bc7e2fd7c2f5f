use Rattle.std.proofs.Common.{arith}
use Rattle.rv_asm.proofs.Left.{ended_at, alone}
use Rattle.rv_asm.proofs.assembling.first_line.Goals as goal

pub returns-then-end-text-clause-ended : goal.returns-then-end-text-clause-ended
returns-then-end-text-clause-ended c =
    ended_at c.args.text.now c.place_of_byte-end.result c.place_of_byte-end.ensures.value (omega (arith, c.if-end-text.true))

pub returns-else-end-text-clause-last : goal.returns-else-end-text-clause-last
returns-else-end-text-clause-last c = alone c.args.text.now (omega (arith, c.if-end-text.false, c.place_of_byte-end.ensures.value))
