use Rattle.std.proofs.Common.{◌∙◌, ◌+◌, ◌-◌, sym, arith}
use Rattle.load_gen.proofs.GeneratedLemmas.{step_words-more, step_words-none}
use Rattle.load_gen.proofs.generating.add_steps.Goals as goal

pub loop-step-preserved : goal.loop-step-preserved
loop-step-preserved c = record {
  words = step_words-more (c.args.steps - c.loop-step._step) (c.args.steps - (c.loop-step._step + 1)) c.loop-step.state c.step.new.state
      c.word.result c.loop-step.words.items c.push_reserved.new.self.items (omega arith) c.step.ensures.moved (cc)
      c.push_reserved.ensures.items ∙ c.loop-step.invariant.words;
  len = omega arith;
  capacity = cc;
}

pub returns-clause-words : goal.returns-clause-words
returns-clause-words c =
    sym (step_words-none (c.args.steps - c.loop-step._step) c.loop-step.state c.loop-step.words.items (omega arith))
    ∙ c.loop-step.invariant.words
