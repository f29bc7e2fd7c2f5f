use Rattle.std.proofs.Common.{◌≡◌, ap, arith, length}
use Rattle.elf_image.specs.Loading.{Loading}
use Rattle.elf_image.proofs.BlockLaws.{next_in, tracked_mark}
use Rattle.elf_image.proofs.RamLaws.{length-bytes_of_piece}
use Rattle.elf_image.proofs.blocks.Blocks.own_bytes.Goals as goal

pub invariant_of-self : goal.invariant_of-self
invariant_of-self c =
    let l : Loading = record { pieces = c.self.inside.pieces.now; whole = c.self.inside.whole; done = c.self.inside.done } in
    let seen : l ≡ c.args.self.now = c.self.view_is in
    let next = next_in l c.args.self.now c.args.piece.now seen c.requires.next in
    let done = ap (λ (v : Loading). v.done) seen in
    tracked_mark l c.args.piece.now next c.self.inside.written.pages c.mark.new.self.pages c.min-count.result c.self.invariant
    (omega (arith, done, ap length c.items-own.ensures, length-bytes_of_piece c.args.piece.now)) (omega arith) c.mark.ensures.page c.mark.ensures.others
