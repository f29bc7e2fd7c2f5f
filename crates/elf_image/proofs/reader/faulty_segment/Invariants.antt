use Rattle.elf_image.proofs.SegmentLemmas.{IsSearched}
use Rattle.elf_image.proofs.reader.faulty_segment.Given as goal

abbrev pub invariant-loop-index : goal.invariant-loop-index
invariant-loop-index l = IsSearched l.file l.ram l.index l.index-end
