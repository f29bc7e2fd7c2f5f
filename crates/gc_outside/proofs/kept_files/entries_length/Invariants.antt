-- What the loop has summed so far and what is left make the whole.
use Rattle.std.proofs.Common.{◌≡◌, ◌+◌, drop}
use Rattle.gc_outside.specs.Arena.{entries_length}
use Rattle.gc_outside.proofs.kept_files.entries_length.Given as goal

abbrev pub invariant-loop-entry : goal.invariant-loop-entry
invariant-loop-entry l = l.length + entries_length (drop l.entry-index l.entries) ≡ entries_length l.entries
