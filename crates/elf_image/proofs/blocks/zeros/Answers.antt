use Rattle.std.proofs.Common.{ℕ}
use Rattle.std.proofs.lemmas.List.{take-replicate}
use Rattle.elf_image.proofs.blocks.zeros.Goals as goal

pub returns : goal.returns
returns c =
    let zero : ℕ = 0 in
    take-replicate c.args.count 4096 zero c.requires
