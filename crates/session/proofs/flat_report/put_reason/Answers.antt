use Rattle.std.proofs.Common.{arith}
use Rattle.std.proofs.lemmas.Fmt.{length-decimal-le}
use Rattle.session.proofs.flat_report.put_reason.Goals as goal

pub put_dec-requires : goal.put_dec-requires
put_dec-requires c = omega (arith, length-decimal-le 20 c.in-Some.n (omega arith) (omega arith) (omega arith), c.put_text.ensures.grows)
