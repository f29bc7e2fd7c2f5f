use Rattle.std.proofs.Common.{◌≡◌, ◌+◌, ◌≤◌, sym, ap, subst, arith, length, List, ℕ}
use Rattle.elf_image.specs.Ram.{bytes_of_piece}
use Rattle.elf_image.specs.Loading.{Loading, IsTracked}
use Rattle.elf_image.proofs.BlockLaws.{next_in, tracked_zeros, tracked_forget, zeros_are_part}
use Rattle.elf_image.proofs.blocks.Blocks.zeros.Goals as goal
use Rattle.elf_image.proofs.blocks.Blocks.zeros.Goals.{then-count-eq-PAGE, else-count-eq-PAGE}
use Rattle.elf_image.specs.declared.blocks.Blocks.TheInside.{Inside}

pub invariant_of-self : goal.invariant_of-self
invariant_of-self c =
    let l : Loading = record { pieces = c.self.inside.pieces.now; whole = c.self.inside.whole; done = c.self.inside.done } in
    let seen : l ≡ c.args.self.now = c.self.view_is in
    let next = next_in l c.args.self.now c.args.piece.now seen c.requires.next in
    let done = ap (λ (v : Loading). v.done) seen in
    let k : ℕ = c.min-count.result in
    let few : l.done + k ≤ length (bytes_of_piece c.args.piece.now) = omega arith in
    let own : length c.args.piece.now.bytes ≤ l.done = omega arith in
    let P : Inside → Type 0 = λ i. IsTracked (record { pieces = i.pieces.now; whole = i.whole; done = i.done + k }) i.written.pages in
    elim c.if-count-eq-PAGE.branch [
      | then-count-eq-PAGE w ↦
          subst P (sym w.self-inside-is) (tracked_forget l c.args.piece.now next c.self.inside.written.pages w.forget.new.self.pages k c.self.invariant few own
          w.if-count-eq-PAGE.true (omega arith) w.forget.ensures.others)
      | else-count-eq-PAGE w ↦ subst P (sym w.self-inside-is) (tracked_zeros l c.args.piece.now next c.self.inside.written.pages k c.self.invariant few own)
    ]

pub returns-clause-bytes : goal.returns-clause-bytes
returns-clause-bytes c =
    let done = ap (λ (v : Loading). v.done) c.self.view_is in
    let bytes : List ℕ = bytes_of_piece c.args.piece.now in
    rw c.zeros.ensures (zeros_are_part c.args.piece.now c.args.self.now.done c.min-count.result c.requires.zeros (omega arith))
