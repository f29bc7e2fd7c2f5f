use Rattle.std.proofs.Common.{◌≡◌, ◌≤◌, ◌+◌, map, drop, length}
use Rattle.rv_asm.specs.Seen.{labels_seen, line_seen}
use Rattle.rv_asm.specs.Source.{words_from}
use Rattle.rv_asm.specs.Steps.{behind}
use Rattle.rv_asm.proofs.assembling.words_of.Given as goal

abbrev pub invariant-loop-line : goal.invariant-loop-line
invariant-loop-line l = record {
  number : l.number ≡ l.line-index;
  few : length l.words.items ≤ l.line-index;
  same : behind l.words.items (words_from (labels_seen l.labels) (l.number + 1) (length l.words.items) (map line_seen (drop l.line-index l.lines)))
      ≡ words_from (labels_seen l.labels) 1 0 (map line_seen l.lines);
}
