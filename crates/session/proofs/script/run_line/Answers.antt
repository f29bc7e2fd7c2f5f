use Rattle.std.proofs.Common.{arith, ap, length, ◌≡◌}
use Rattle.std.proofs.lemmas.Fmt.{length-decimal-le}
use Rattle.session.proofs.script.run_line.Goals as goal

pub put_dec-requires : goal.put_dec-requires
put_dec-requires c =
    let none : length c.new-text.result ≡ 0 = ap length c.new-text.ensures in
    omega (arith, length-decimal-le 20 c.get.result (omega arith) (omega (arith, c.get.ensures.limit)) (omega (arith, c.get.ensures.limit)), none, c.put_text.ensures.grows, c.put_reason.ensures.room, c.put_text-2.ensures.grows)

pub put_dec-requires-2 : goal.put_dec-requires-2
put_dec-requires-2 c =
    let none : length c.new-text.result ≡ 0 = ap length c.new-text.ensures in
    omega (
      arith,
      length-decimal-le 20 c.args.end.now.insts (omega arith) (omega arith) (omega arith),
      none,
      c.put_text.ensures.grows,
      c.put_reason.ensures.room,
      c.put_text-2.ensures.grows,
      c.put_dec.ensures.grows,
      c.put_text-3.ensures.grows,
    )

pub put_dec-requires-3 : goal.put_dec-requires-3
put_dec-requires-3 c =
    let none : length c.new-text.result ≡ 0 = ap length c.new-text.ensures in
    omega (
      arith,
      length-decimal-le 20 c.args.end.now.events (omega arith) (omega arith) (omega arith),
      none,
      c.put_text.ensures.grows,
      c.put_reason.ensures.room,
      c.put_text-2.ensures.grows,
      c.put_dec.ensures.grows,
      c.put_text-3.ensures.grows,
      c.put_dec-2.ensures.grows,
      c.put_text-4.ensures.grows,
    )
