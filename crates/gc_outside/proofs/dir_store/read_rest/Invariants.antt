-- What is kept is what was read, it never passes the most, and each round adds to it.
use Rattle.std.proofs.Common.{◌-◌, ◌≤◌, vec_len}
use Rattle.std.specs.Io.KnownBytes.{Consumes}
use Rattle.gc_outside.proofs.dir_store.read_rest.Given as goal

abbrev pub invariant-loop-count : goal.invariant-loop-count
invariant-loop-count g l = (vec_len l.bytes ≤ l.most)
    × Consumes (g.F.Read.remaining l.initial.file) (g.F.Read.remaining l.file) l.bytes.items

abbrev pub decreases-loop-count : goal.decreases-loop-count
decreases-loop-count g l = l.most - vec_len l.bytes
