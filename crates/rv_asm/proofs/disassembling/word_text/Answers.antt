use Rattle.std.proofs.lemmas.List.{append-nil}
use Rattle.rv_asm.proofs.Printed.{padded-eight}
use Rattle.rv_asm.proofs.disassembling.word_text.Goals as goal

pub returns : goal.returns
returns c =
    let h = rw (c.laid_out.ensures, c.in_radix.ensures) at c.format.ensures.ok in
    simp append-nil (simp padded-eight at h)
