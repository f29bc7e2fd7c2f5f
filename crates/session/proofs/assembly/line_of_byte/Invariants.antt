use Rattle.std.proofs.Common.{◌≡◌, ◌+◌, ◌≤◌, ◌==◌, filter, length, take}
use Rattle.session.proofs.assembly.line_of_byte.Given as goal

-- one more than the line feeds so far
abbrev pub invariant-loop-byte : goal.invariant-loop-byte
invariant-loop-byte l = record {
  feeds : l.line ≡ length (filter (λ b. b == 10) (take l.byte-index (take l.place l.text))) + 1;
  few : l.line ≤ l.byte-index + 1;
}
