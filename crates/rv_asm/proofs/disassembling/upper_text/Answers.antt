use Rattle.std.proofs.lemmas.List.{append-nil}
use Rattle.rv_asm.proofs.disassembling.upper_text.Goals as goal

pub returns : goal.returns
returns c = let h = rw c.in_radix.ensures at c.format.ensures.ok in simp append-nil h
