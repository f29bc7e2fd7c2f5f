use Rattle.std.proofs.Common.{◌≡◌, ◌-◌, ◌≤◌, length}
use Rattle.elf_image.specs.Loading.{SameRam, bytes_left}
use Rattle.elf_image.proofs.blocks.Blocks.next.Given as goal

-- the pieces that were passed had nothing to be put
abbrev pub invariant-loop-piece : goal.invariant-loop-piece
invariant-loop-piece l = record {
  pieces : l.self.pieces ≡ l.initial.self.pieces;
  same : SameRam l.initial.self l.self;
  left : bytes_left l.self ≤ bytes_left l.initial.self;
}

abbrev pub decreases-loop-piece : goal.decreases-loop-piece
decreases-loop-piece l = length l.self.pieces - l.self.whole
