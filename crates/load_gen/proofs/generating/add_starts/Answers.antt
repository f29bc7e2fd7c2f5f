use Rattle.std.proofs.Common.{◌∙◌, ◌+◌, ◌-◌, sym, arith}
use Rattle.load_gen.proofs.GeneratedLemmas.{after-more, after-none, start_words-more, start_words-none}
use Rattle.load_gen.proofs.generating.add_starts.Goals as goal

pub loop-k-preserved : goal.loop-k-preserved
loop-k-preserved c = record {
  words = start_words-more (16 - c.loop-k.k) (16 - (c.loop-k.k + 1)) c.loop-k.k c.loop-k.state c.draw.new.state c.word.result
      c.loop-k.words.items c.push_reserved.new.self.items (omega arith) c.draw.ensures.moved (cc) c.push_reserved.ensures.items
      ∙ c.loop-k.invariant.words;
  state = after-more (16 - c.loop-k.k) (16 - (c.loop-k.k + 1)) c.loop-k.state c.draw.new.state (omega arith) c.draw.ensures.moved
      ∙ c.loop-k.invariant.state;
  len = omega arith;
  capacity = cc;
}

pub returns-clause-words : goal.returns-clause-words
returns-clause-words c =
    sym (start_words-none (16 - c.loop-k.k) c.loop-k.k c.loop-k.state c.loop-k.words.items (omega arith)) ∙ c.loop-k.invariant.words

pub returns-clause-state : goal.returns-clause-state
returns-clause-state c = sym (after-none (16 - c.loop-k.k) c.loop-k.state (omega arith)) ∙ c.loop-k.invariant.state
