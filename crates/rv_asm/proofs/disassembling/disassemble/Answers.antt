use Rattle.std.proofs.Common.{ap, ◌∙◌, arith}
use Rattle.rv_asm.proofs.RoundTrip.{words_of-disassembly}
use Rattle.rv_asm.specs.Disassembly.{disassembly}
use Rattle.rv_asm.specs.Source.{words_of}
use Rattle.rv_asm.proofs.disassembling.disassemble.Goals as goal

pub returns-clause-back : goal.returns-clause-back
unfolding disassembly
returns-clause-back c = ap words_of c.in_ok-meaning_text.ensures ∙ words_of-disassembly c.args.w (omega arith)
