use Rattle.elf_image.proofs.BlockLaws.{nothing_loaded, tracked_start}
use Rattle.elf_image.proofs.blocks.Blocks.new.Goals as goal

pub invariant_of-result : goal.invariant_of-result
invariant_of-result c = tracked_start c.args.pieces.now _ c.requires

pub returns-clause-zero : goal.returns-clause-zero
returns-clause-zero c = λ ram. nothing_loaded c.args.pieces.now ram
