use Rattle.std.proofs.Common.{arith, ◌+◌, ◌∙◌}
use Rattle.kernel.proofs.EntryLemmas.{raised_below, counted_same, counted_most, counted_events, counted_kept}
use Rattle.kernel.proofs.entries.count.Goals as goal

pub note-requires : goal.note-requires
note-requires c = raised_below (9223372036854775808 + c.loop-entry.entry-index) 18446744073709551615 (omega (arith, c.requires.few, c.loop-entry-test.true)) c.loop-entry.counters.counts _ c.loop-entry.invariant.most

pub loop-entry-preserved : goal.loop-entry-preserved
loop-entry-preserved c =
    let i = c.loop-entry.invariant in
    let es = c.args.entries.now in
    record {
      same = counted_same es c.loop-entry.entry-index _ c.loop-entry.counters c.note.new.self c.loop-entry-test.true c.note.ensures _ i.same;
      most = counted_most es c.loop-entry.entry-index _ c.loop-entry.counters c.note.new.self c.loop-entry-test.true c.note.ensures 9223372036854775808 i.most;
      events = counted_events es c.loop-entry.entry-index _ c.loop-entry.counters c.note.new.self c.loop-entry-test.true c.note.ensures ∙ i.events;
      kept = counted_kept es c.loop-entry.entry-index _ c.loop-entry.counters c.note.new.self c.loop-entry-test.true c.note.ensures c.args.counters.now i.kept;
    }
