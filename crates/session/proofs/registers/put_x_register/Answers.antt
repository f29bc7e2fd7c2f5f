use Rattle.std.proofs.Common.{◌≤◌, ℕ, length, decimal, arith, ap, length-append}
use Rattle.std.proofs.lemmas.Fmt.{length-decimal-le}
use Rattle.session.proofs.registers.put_x_register.Goals as goal

pub put_dec-requires : goal.put_dec-requires
put_dec-requires c =
    let d : length (decimal c.args.k) ≤ 2 = length-decimal-le 2 c.args.k (omega arith) (omega arith) (omega arith) in
    omega (arith, c.put_text.ensures.grows, ap length c.new-name.ensures)

pub returns-clause-room : goal.returns-clause-room
returns-clause-room c =
    let d : length (decimal c.args.k) ≤ 2 = length-decimal-le 2 c.args.k (omega arith) (omega arith) (omega arith) in
    omega (arith, c.put_set.ensures.room, length-append {A = ℕ}, ap length c.put_dec.ensures.value, c.put_text.ensures.grows, ap length c.new-name.ensures, ap length c.bytes.ensures.value)
