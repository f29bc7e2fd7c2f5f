-- The older files and this one are some of all.
use Rattle.std.proofs.Common.{◌+◌, arith, ap, ◌∙◌}
use Rattle.std.proofs.lemmas.List.{take_rest}
use Rattle.gc_outside.specs.Arena.{entries_length}
use Rattle.gc_outside.proofs.Arena.{entries_length-drop, no_entry}
use Rattle.gc_outside.proofs.kept_files.span.Goals as goal

pub entries_length-start-requires : goal.entries_length-start-requires
entries_length-start-requires c =
    rw take_rest (omega (arith, entries_length-drop c.args.entries.now c.args.at no_entry c.requires.entry))

pub overflow_add-result : goal.overflow_add-result
overflow_add-result c =
    let start = c.entries_length-start.ensures ∙ ap entries_length (take_rest c.args.entries.now (c.args.at + 1)) in
    omega (arith, start, entries_length-drop c.args.entries.now c.args.at c.index-entries-at.result c.requires.entry)

pub returns-clause-within : goal.returns-clause-within
returns-clause-within c =
    let start = c.entries_length-start.ensures ∙ ap entries_length (take_rest c.args.entries.now (c.args.at + 1)) in
    omega (arith, start, entries_length-drop c.args.entries.now c.args.at c.index-entries-at.result c.requires.entry)
