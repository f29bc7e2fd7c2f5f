use Rattle.std.proofs.Common.{FitsSigned, w32, rules}
use Rattle.std.proofs.lemmas.Int.{to_z-of_z}
use Rattle.std.proofs.lemmas.List.{append-nil}
use Rattle.rv_asm.proofs.disassembling.branch_text.Goals as goal

pub returns : goal.returns
returns c =
    let fits : FitsSigned w32 c.args.i.imm = search rules in
    let text = simp to_z-of_z at c.in_ok-target.ensures in
    let h = rw text at c.format.ensures.ok in
    simp append-nil h
