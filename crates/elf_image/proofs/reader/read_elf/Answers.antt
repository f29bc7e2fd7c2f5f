use Rattle.std.proofs.Common.{◌∙◌, sym}
use Rattle.elf_image.proofs.SegmentLemmas.{whole_from_none, pieces_in_ram}
use Rattle.elf_image.proofs.reader.read_elf.Goals as goal

pub loaded_pieces-requires-clause-segments : goal.loaded_pieces-requires-clause-segments
loaded_pieces-requires-clause-segments c = whole_from_none c.args.file.now c.args.ram (sym c.faulty_segment.ensures ∙ c.in_default.is)

pub returns-clause-in_ram : goal.returns-clause-in_ram
returns-clause-in_ram c = rw c.in_ok-pieces.ensures (pieces_in_ram c.args.file.now c.args.ram (sym c.faulty_segment.ensures ∙ c.in_default.is))
