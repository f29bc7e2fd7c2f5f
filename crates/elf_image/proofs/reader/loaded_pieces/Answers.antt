use Rattle.std.proofs.Common.{◌∙◌, sym, arith}
use Rattle.elf_image.proofs.SegmentLemmas.{collected_none, next_lies_in_file, collected_loaded, collected_other}
use Rattle.elf_image.proofs.reader.loaded_pieces.Goals as goal
use Rattle.elf_image.proofs.reader.loaded_pieces.Goals.{then-is_loaded+in_ok-piece+in_ok-push, else-is_loaded}

pub loop-index-init : goal.loop-index-init
loop-index-init c = rw c.new-pieces.ensures.items (collected_none c.args.file.now c.u16_at-index-end.result c.u16_at-index-end.ensures c.requires.segments)

pub piece-requires-clause-in_memory : goal.piece-requires-clause-in_memory
piece-requires-clause-in_memory c =
    (next_lies_in_file c.args.file.now c.loop-index.pieces.items c.loop-index.index c.u16_at-index-end.result c.program_header-header.result
    (omega arith) c.program_header-header.ensures (sym c.is_loaded.ensures ∙ c.if-is_loaded.true) c.loop-index.invariant).0

pub piece-requires-clause-in_file : goal.piece-requires-clause-in_file
piece-requires-clause-in_file c =
    (next_lies_in_file c.args.file.now c.loop-index.pieces.items c.loop-index.index c.u16_at-index-end.result c.program_header-header.result
    (omega arith) c.program_header-header.ensures (sym c.is_loaded.ensures ∙ c.if-is_loaded.true) c.loop-index.invariant).1

pub loop-index-preserved : goal.loop-index-preserved
loop-index-preserved c = elim c.if-is_loaded.branch [
  | then-is_loaded+in_ok-piece+in_ok-push w ↦
      rw (w.pieces-is, w.in_ok-push.ensures.items, w.in_ok-piece.ensures)
      (collected_loaded c.args.file.now c.loop-index.pieces.items c.loop-index.index c.u16_at-index-end.result
      c.program_header-header.result (omega arith) c.program_header-header.ensures (sym c.is_loaded.ensures ∙ w.if-is_loaded.true) c.loop-index.invariant)
  | else-is_loaded w ↦
      rw w.pieces-is (collected_other c.args.file.now c.loop-index.pieces.items c.loop-index.index c.u16_at-index-end.result
      c.program_header-header.result (omega arith) c.program_header-header.ensures (sym c.is_loaded.ensures ∙ w.if-is_loaded.false) c.loop-index.invariant)
]
