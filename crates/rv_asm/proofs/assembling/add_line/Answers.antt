use Rattle.std.proofs.Common.{◌≡◌, length, arith}
use Rattle.rv_asm.specs.Seen.{labels_seen, line_seen}
use Rattle.rv_asm.proofs.Joined.{steps_none, steps_some}
use Rattle.rv_asm.proofs.assembling.add_line.Goals as goal

pub returns-in-Ok-None-clause-step : goal.returns-in-Ok-None-clause-step
returns-in-Ok-None-clause-step c =
    let len : c.len.result ≡ length c.args.words.now.items = grind arith in
    let e = rw (c.in-Ok-None.field-0-is, len) at c.in-Ok-None.ensures in
    steps_none (labels_seen c.args.labels.now) c.args.number (line_seen c.args.line.now) c.args.words.now.items e

pub returns-in_ok-push-in-Ok-Some-clause-step : goal.returns-in_ok-push-in-Ok-Some-clause-step
returns-in_ok-push-in-Ok-Some-clause-step c =
    let len : c.len.result ≡ length c.args.words.now.items = grind arith in
    let e = rw (c.in-Ok-Some.field-0-is, len) at c.in-Ok-Some.ensures in
    steps_some (labels_seen c.args.labels.now) c.args.number c.in-Ok-Some.word (line_seen c.args.line.now) c.args.words.now.items c.push.new.self.items e c.in_ok-push-in-Ok-Some.ensures.items
