use Rattle.rv_asm.proofs.SpellingLaws.{register_of-names, words_of_lines-alike}
use Rattle.rv_asm.proofs.laws.spellings_are_free.Goals as goal

pub returns-clause-words : goal.returns-clause-words
returns-clause-words c = words_of_lines-alike

pub returns-clause-registers : goal.returns-clause-registers
returns-clause-registers c = register_of-names
