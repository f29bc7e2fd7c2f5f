use Rattle.std.proofs.Common.{◌≡◌, ap}
use Rattle.gm_words.specs.Platform.{End, ways_of}
use Rattle.gm_model.specs.Sys.{peer_in}
use Rattle.kernel.proofs.Delivered.{rest_room, answer_room, answer_ready, packet_delivered}
use Rattle.kernel.proofs.UnderWay.{pass_ready}
use Rattle.kernel.proofs.machine.Machine.pass_on.Goals as goal

pub pass-latency-requires-clause-room : goal.pass-latency-requires-clause-room
pass-latency-requires-clause-room g c =
    let r = c.requires in
    rw c.drop_first.ensures (rest_room _ _ _ _ r.first r.under_way)

pub pass-latency-requires-clause-allowed : goal.pass-latency-requires-clause-allowed
pass-latency-requires-clause-allowed g c =
    let r = c.requires in
    let same : c.way-first.result.part.0 ≡ (peer_in (ways_of c.args.self.now.board) c.args.sender.0 c.args.port.0).part = ap (λ (e : End). e.part) c.way-first.ensures in
    rw (c.drop_first.ensures, same) (pass_ready _ _ c.args.sender.0 _ c.args.packet _ r.first r.under_way)

pub answer-requires-clause-room : goal.answer-requires-clause-room
answer-requires-clause-room g c =
    let r = c.requires in
    let p = c.pass-latency in
    let same : c.way-first.result.part.0 ≡ (peer_in (ways_of c.args.self.now.board) c.args.sender.0 c.args.port.0).part = ap (λ (e : End). e.part) c.way-first.ensures in
    answer_room _ _ c.args.sender.0 _ c.args.packet _ r.first r.under_way _ p.new.packet p.result (rw (c.drop_first.ensures, same) at (p.ensures.delivered c.args.sender.0))

pub answer-requires-clause-ready : goal.answer-requires-clause-ready
answer-requires-clause-ready g c =
    let r = c.requires in
    let p = c.pass-latency in
    let same : c.way-first.result.part.0 ≡ (peer_in (ways_of c.args.self.now.board) c.args.sender.0 c.args.port.0).part = ap (λ (e : End). e.part) c.way-first.ensures in
    rw p.ensures.table (answer_ready _ _ c.args.sender.0 _ c.args.packet _ r.first r.under_way _ p.new.packet p.result (rw (c.drop_first.ensures, same) at (p.ensures.delivered c.args.sender.0)))

pub returns-clause-delivered : goal.returns-clause-delivered
returns-clause-delivered g c =
    let r = c.requires in
    let p = c.pass-latency in
    let same : c.way-first.result.part.0 ≡ (peer_in (ways_of c.args.self.now.board) c.args.sender.0 c.args.port.0).part = ap (λ (e : End). e.part) c.way-first.ensures in
    packet_delivered _ _ c.args.sender.0 _ c.args.packet _ r.first r.under_way _ p.new.packet p.result (rw (c.drop_first.ensures, same) at (p.ensures.delivered c.args.sender.0)) _ c.answer.ensures.told
