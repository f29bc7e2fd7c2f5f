use Rattle.std.proofs.Common.{◌≡◌, ◌+◌, ◌-◌, ◌++◌, vec_len, vec_capacity}
use Rattle.load_gen.specs.Generated.{step_words}
use Rattle.load_gen.proofs.generating.add_steps.Given as goal

abbrev pub invariant-loop-step : goal.invariant-loop-step
invariant-loop-step l = record {
  words : l.words.items ++ step_words (l.steps - l._step) l.state ≡ l.initial.words.items ++ step_words l.steps l.initial.state;
  len : vec_len l.words ≡ vec_len l.initial.words + l._step;
  capacity : vec_capacity l.words ≡ vec_capacity l.initial.words;
}
