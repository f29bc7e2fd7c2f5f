use Rattle.std.proofs.Common.{arith, ap, length, ◌≡◌}
use Rattle.std.proofs.lemmas.Fmt.{length-decimal-le}
use Rattle.session.proofs.flat_report.put_flat_line.Goals as goal

pub put_dec-requires : goal.put_dec-requires
put_dec-requires c =
    let none : length c.args.text.now ≡ 0 = ap length c.requires in
    omega (arith, length-decimal-le 20 c.args.run.now.steps (omega arith) (omega arith) (omega arith), c.put_text.ensures.grows, c.put_text-2.ensures.grows, c.put_reason.ensures.room)
