use Rattle.std.proofs.Common.{◌∙◌, ap}
use Rattle.rv_table.specs.Table.{word_of}
use Rattle.load_gen.proofs.GeneratedLemmas.{generated_of}
use Rattle.load_gen.proofs.generating.program.Goals as goal

pub returns : goal.returns
returns c =
    c.new.ensures
    ∙ generated_of c.args.seed c.args.blocks c.add_starts.new.state c.word.result c.word-2.result c.word-3.result c.in_ok-words.words.items
    c.push_reserved.new.self.items c.add_starts.new.words.items c.add_steps.new.words.items c.push_reserved-2.new.self.items
    c.push_reserved-3.new.self.items c.in_ok-words.ensures.items c.push_reserved.ensures.items c.add_starts.ensures.words
    c.add_steps.ensures.words c.push_reserved-2.ensures.items c.push_reserved-3.ensures.items c.add_starts.ensures.state
    (c.word.ensures ∙ ap word_of c.base.ensures.value) (c.word-2.ensures ∙ ap word_of c.exit_base.ensures.value)
    (c.word-3.ensures ∙ ap word_of c.exit_store.ensures.value)
