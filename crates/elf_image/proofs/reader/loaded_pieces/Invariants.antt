use Rattle.elf_image.proofs.SegmentLemmas.{IsCollected}
use Rattle.elf_image.proofs.reader.loaded_pieces.Given as goal

abbrev pub invariant-loop-index : goal.invariant-loop-index
invariant-loop-index l = IsCollected l.file l.pieces.items l.index l.index-end
