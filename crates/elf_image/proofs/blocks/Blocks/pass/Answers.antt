use Rattle.std.proofs.Common.{◌≡◌, ◌+◌, ◌∙◌, ap, length}
use Rattle.elf_image.specs.Ram.{bytes_of_piece}
use Rattle.elf_image.specs.Loading.{Loading, ram_so_far}
use Rattle.elf_image.proofs.BlockLaws.{next_in, same_passed, tracked_passed}
use Rattle.elf_image.proofs.blocks.Blocks.pass.Goals as goal

pub invariant_of-self : goal.invariant_of-self
invariant_of-self c =
    let l : Loading = record { pieces = c.self.inside.pieces.now; whole = c.self.inside.whole; done = c.self.inside.done } in
    let seen : l ≡ c.args.self.now = c.self.view_is in
    let next = next_in l c.args.self.now c.args.piece.now seen c.requires.next in
    let end : l.done ≡ length (bytes_of_piece c.args.piece.now) = ap (λ (v : Loading). v.done) seen ∙ c.requires.end in
    tracked_passed l c.args.piece.now next c.self.inside.written.pages c.self.invariant end

pub returns-clause-same : goal.returns-clause-same
returns-clause-same c =
    let v : Loading = c.args.self.now in
    let l : Loading = record { pieces = c.self.inside.pieces.now; whole = c.self.inside.whole; done = c.self.inside.done } in
    let seen : l ≡ v = c.self.view_is in
    λ ram fits. ap (λ (x : Loading). ram_so_far (record x { whole = x.whole + 1; done = 0 }) ram) seen
    ∙ same_passed v c.args.piece.now c.requires.next c.requires.end ram fits
