use Rattle.std.proofs.Common.{map}
use Rattle.std.proofs.lemmas.List.{length-map}
use Rattle.kernel.proofs.Parts.{woken_shown, answer_shown}
use Rattle.kernel.proofs.machine.Machine.wake.Goals as goal

pub returns-clause-delivered : goal.returns-clause-delivered
returns-clause-delivered g c =
    let e = c.wake_box.ensures in
    let old = c.args.self.now in
    woken_shown _ old.parts.items c.args.i.0 c.index_mut.result.now (rw length-map at c.requires.ready.ready.there) c.index_mut.ensures.value c.requires.ready.number
    old.tick old.counters.since old.counters.counts old.trace old.draining old.board
    c.args.w old.out c.for_sender.new.self c.wake_box.new.out old.queue c.wake_box.new.q c.wake_box.new.part
    c.for_sender.ensures e.state e.events e.out

pub returns-clause-answer : goal.returns-clause-answer
returns-clause-answer g c =
    let old = c.args.self.now in
    answer_shown _ old.parts.items c.args.i.0 c.index_mut.result.now (rw length-map at c.requires.ready.ready.there) c.index_mut.ensures.value c.requires.ready.number
    old.tick old.counters.since old.counters.counts old.trace old.draining old.board
    c.args.w old.out c.for_sender.new.self _ c.for_sender.ensures c.wake_box.ensures.answer
