use Rattle.std.proofs.Common.{sym, ◌∙◌, ap}
use Rattle.gm_words.specs.Entries.{console_of}
use Rattle.kernel.proofs.Runs.{none_pending, pop_may, byte_few, fired_sys, fired_entries, fired_sound, first_replayed, first_early}
use Rattle.kernel.proofs.machine.Machine.fire.Goals as goal

pub returns-in_err-due-clause-replay : goal.returns-in_err-due-clause-replay
returns-in_err-due-clause-replay g c = first_replayed _ _ c.requires.machine.sound

pub serve-requires : goal.serve-requires
serve-requires g c =
    let e = c.in_ok-due.ensures in
    pop_may _ _ c.in_ok-due.due _ c.requires.machine.sound c.requires.events (sym e.first) (first_early c.args.self.now.queue.pending c.in_ok-due.due (sym e.first) c.requires.tick) e.rest _ e.table

pub told-requires : goal.told-requires
told-requires g c =
    let e = c.in_ok-due.ensures in
    byte_few _ _ c.in_ok-due.due _ c.requires.machine.sound c.requires.events (sym e.first) (first_early c.args.self.now.queue.pending c.in_ok-due.due (sym e.first) c.requires.tick) e.rest
    _ (c.entries.ensures ∙ c.serve.ensures.entries)

pub returns-clause-fired : goal.returns-clause-fired
returns-clause-fired g c =
    let e = c.in_ok-due.ensures in
    fired_sys _ _ c.in_ok-due.due _ c.requires.machine.sound c.requires.events (sym e.first) (first_early c.args.self.now.queue.pending c.in_ok-due.due (sym e.first) c.requires.tick) e.rest
    _ c.serve.ensures.served

pub returns-clause-entries : goal.returns-clause-entries
returns-clause-entries g c =
    let e = c.in_ok-due.ensures in
    fired_entries _ _ c.in_ok-due.due _ c.requires.machine.sound c.requires.events (sym e.first) (first_early c.args.self.now.queue.pending c.in_ok-due.due (sym e.first) c.requires.tick) e.rest
    _ c.serve.ensures.entries

pub returns-clause-console : goal.returns-clause-console
returns-clause-console g c =
    let e = c.in_ok-due.ensures in
    c.told.ensures.console ∙ ap console_of
    (fired_entries _ _ c.in_ok-due.due _ c.requires.machine.sound c.requires.events (sym e.first) (first_early c.args.self.now.queue.pending c.in_ok-due.due (sym e.first) c.requires.tick) e.rest
    _ (c.entries.ensures ∙ c.serve.ensures.entries))

pub returns-clause-replay : goal.returns-clause-replay
returns-clause-replay g c = first_replayed _ _ c.requires.machine.sound

pub returns-clause-machine : goal.returns-clause-machine
returns-clause-machine g c =
    let e = c.in_ok-due.ensures in
    record {
      sound = fired_sound _ _ c.in_ok-due.due _ c.requires.machine.sound c.requires.events (sym e.first) (first_early c.args.self.now.queue.pending c.in_ok-due.due (sym e.first) c.requires.tick)
          e.rest _ _ c.serve.ensures.served (c.serve.ensures.table ∙ e.table);
    }

pub returns-in_err-due-clause-machine : goal.returns-in_err-due-clause-machine
returns-in_err-due-clause-machine g c =
    let e = c.in_err-due.ensures in
    record { sound = none_pending _ _ _ _ (sym e.first) e.rest e.table c.requires.machine.sound }
