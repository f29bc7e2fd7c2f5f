use Rattle.rv_asm.proofs.LayoutLaws.{words_of-source_text}
use Rattle.rv_asm.proofs.laws.blanks_and_comments_are_free.Goals as goal

pub returns : goal.returns
returns c = words_of-source_text
