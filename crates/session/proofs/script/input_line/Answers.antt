use Rattle.std.proofs.Common.{arith, ap, length, ◌≡◌}
use Rattle.std.proofs.lemmas.Fmt.{length-decimal-le}
use Rattle.session.proofs.script.input_line.Goals as goal

pub put_dec-requires : goal.put_dec-requires
put_dec-requires c =
    let none : length c.new-text.result ≡ 0 = ap length c.new-text.ensures in
    omega (arith, length-decimal-le 20 c.args.taken (omega arith) (omega arith) (omega arith), none, c.put_text.ensures.grows)
