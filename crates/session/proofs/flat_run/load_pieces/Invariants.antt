use Rattle.std.proofs.Common.{◌≡◌}
use Rattle.elf_image.specs.Loading.{bytes_left, ram_so_far}
use Rattle.session.proofs.flat_run.load_pieces.Given as goal

-- so far RAM is what the blocks made of it
abbrev pub invariant-loop-block : goal.invariant-loop-block
invariant-loop-block l = record {
  pieces : l.blocks.pieces ≡ l.pieces;
  put : l.ram ≡ ram_so_far l.blocks 16777216;
}

abbrev pub decreases-loop-block : goal.decreases-loop-block
decreases-loop-block l = bytes_left l.blocks
