use Rattle.std.proofs.Common.{◌≡◌, ◌+◌, ◌≤◌, ℕ, List, map, drop}
use Rattle.std.specs.Option.{option_or}
use Rattle.rv_asm.specs.Labels.{labels_from, place_of}
use Rattle.rv_asm.specs.Seen.{labels_seen, line_seen}
use Rattle.rv_asm.proofs.labels.labels_of.Given as goal

abbrev pub invariant-loop-line : goal.invariant-loop-line
invariant-loop-line l = record {
  line : l.place.line ≡ l.line-index;
  words : l.place.words ≤ l.line-index;
  same : (name : List ℕ) → option_or (labels_seen l.labels name) (place_of (labels_from (l.place.line + 1) l.place.words (map line_seen (drop l.line-index l.lines))) name)
      ≡ place_of (labels_from 1 0 (map line_seen l.lines)) name;
}
