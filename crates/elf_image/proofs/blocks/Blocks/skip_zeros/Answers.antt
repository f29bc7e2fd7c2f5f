use Rattle.std.proofs.Common.{◌≡◌, ◌-◌, ◌∙◌, sym, ap, subst, arith, All, ℕ}
use Rattle.rv_step.specs.FlatMem.{ram_base}
use Rattle.elf_image.specs.Image.{LiesInRam}
use Rattle.elf_image.specs.Loading.{Loading, ram_so_far}
use Rattle.elf_image.proofs.BlockLaws.{next_in, same_skipped, tracked_skipped}
use Rattle.elf_image.proofs.blocks.Blocks.skip_zeros.Goals as goal

pub invariant_of-self : goal.invariant_of-self
invariant_of-self c =
    let l : Loading = record { pieces = c.self.inside.pieces.now; whole = c.self.inside.whole; done = c.self.inside.done } in
    let seen : l ≡ c.args.self.now = c.self.view_is in
    let next = next_in l c.args.self.now c.args.piece.now seen c.requires.next in
    let done = ap (λ (v : Loading). v.done) seen in
    let n : ℕ = c.first_from-place.result - (c.args.piece.now.addr - ram_base) in
    tracked_skipped l c.args.piece.now next c.self.inside.written.pages n c.self.invariant (omega arith) (omega arith) (omega arith)
    (λ i low high. c.first_from-place.ensures.before i (omega arith) (omega arith))

pub returns-clause-same : goal.returns-clause-same
returns-clause-same c =
    let l : Loading = record { pieces = c.self.inside.pieces.now; whole = c.self.inside.whole; done = c.self.inside.done } in
    let seen : l ≡ c.args.self.now = c.self.view_is in
    let next = next_in l c.args.self.now c.args.piece.now seen c.requires.next in
    let done = ap (λ (v : Loading). v.done) seen in
    let n : ℕ = c.first_from-place.result - (c.args.piece.now.addr - ram_base) in
    let same = same_skipped l c.args.piece.now next c.self.inside.written.pages n c.self.invariant (omega arith) (omega arith) (omega arith)
    (λ i low high. c.first_from-place.ensures.before i (omega arith) (omega arith)) in
    λ ram fits. same ram (subst (λ (x : Loading). All (LiesInRam ram) x.pieces) (sym seen) fits) ∙ ap (λ (x : Loading). ram_so_far x ram) seen
