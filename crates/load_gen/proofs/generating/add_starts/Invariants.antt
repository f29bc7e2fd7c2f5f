use Rattle.std.proofs.Common.{◌≡◌, ◌+◌, ◌-◌, ◌++◌, vec_len, vec_capacity}
use Rattle.load_gen.specs.Generated.{after, start_words}
use Rattle.load_gen.proofs.generating.add_starts.Given as goal

abbrev pub invariant-loop-k : goal.invariant-loop-k
invariant-loop-k l = record {
  words : l.words.items ++ start_words (16 - l.k) l.k l.state ≡ l.initial.words.items ++ start_words 15 1 l.initial.state;
  state : after (16 - l.k) l.state ≡ after 15 l.initial.state;
  len : vec_len l.words + 1 ≡ vec_len l.initial.words + l.k;
  capacity : vec_capacity l.words ≡ vec_capacity l.initial.words;
}
