use Rattle.std.proofs.Common.{◌∙◌, sym, arith}
use Rattle.elf_image.proofs.SegmentLemmas.{search_found, search_goes_on}
use Rattle.elf_image.proofs.reader.faulty_segment.Goals as goal

pub returns-then-is_faulty : goal.returns-then-is_faulty
returns-then-is_faulty c =
    search_found c.args.file.now c.args.ram c.loop-index.index c.u16_at-index-end.result c.program_header.result
    (omega arith) c.program_header.ensures (sym c.is_faulty.ensures ∙ c.if-is_faulty.true) c.loop-index.invariant

pub loop-index-preserved : goal.loop-index-preserved
loop-index-preserved c =
    search_goes_on c.args.file.now c.args.ram c.loop-index.index c.u16_at-index-end.result c.program_header.result
    (omega arith) c.program_header.ensures (sym c.is_faulty.ensures ∙ c.if-is_faulty.false) c.loop-index.invariant
