use Rattle.std.proofs.Common.{map}
use Rattle.std.proofs.lemmas.List.{length-map}
use Rattle.kernel.proofs.Parts.{passed_shown, quick_passed}
use Rattle.kernel.proofs.machine.Machine.pass_to.Goals as goal

pub returns-clause-passed : goal.returns-clause-passed
returns-clause-passed g c =
    let e = c.pass_box.ensures in
    let old = c.args.self.now in
    passed_shown _ old.parts.items c.args.part.0 c.index_mut.result.now (rw length-map at c.requires.ready.ready.there) c.index_mut.ensures.value c.requires.ready.number
    old.tick old.counters.since old.counters.counts old.trace old.draining old.board
    c.args.packet.now old.out c.for_sender.new.self c.pass_box.new.out old.queue c.pass_box.new.q c.pass_box.new.part
    c.for_sender.ensures e.state e.events e.out

pub returns-clause-most : goal.returns-clause-most
returns-clause-most g c =
    let old = c.args.self.now in
    quick_passed _ old.parts.items c.args.part.0 c.index_mut.result.now c.args.packet.now old.tick c.pass_box.result
    (rw length-map at c.requires.ready.ready.there) c.index_mut.ensures.value c.pass_box.ensures.way c.requires.ready.latency
