use Rattle.std.proofs.Common.{◌≡◌, drop}
use Rattle.gm_words.specs.Entries.{console_of}
use Rattle.kernel.proofs.entries.console.Given as goal

-- the bytes are those of the rest
abbrev pub invariant-loop-entry : goal.invariant-loop-entry
invariant-loop-entry l = console_of (drop l.entry-index l.entries) ≡ console_of l.entries
