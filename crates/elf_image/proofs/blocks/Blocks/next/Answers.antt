use Rattle.std.proofs.Common.{◌≡◌, ◌≤◌, ◌∙◌, sym, ap, subst, arith, All, Some, None, length, fold, List}
use Rattle.std.specs.Prelude.{slice_get}
use Rattle.std.proofs.lemmas.Option.{slice_get_within}
use Rattle.rv_step.specs.FlatMem.{zeroed}
use Rattle.elf_image.specs.Image.{LiesInRam}
use Rattle.elf_image.specs.Ram.{with_piece}
use Rattle.elf_image.specs.Loading.{Loading, bytes_left}
use Rattle.elf_image.specs.declared.piece.Piece.{Piece}
use Rattle.elf_image.proofs.BlockLaws.{next_in, puts_behind, all_loaded, left_behind, no_more_left}
use Rattle.elf_image.proofs.blocks.Blocks.next.Goals as goal

pub returns-in-Some-block_of-clause-put : goal.returns-in-Some-block_of-clause-put
returns-in-Some-block_of-clause-put c =
    let i = c.loop-piece.invariant in
    λ ram fits. puts_behind c.args.self.now c.loop-piece.self c.block_of.new.self ram c.in-Some-block_of.block.addr c.in-Some-block_of.block.bytes.now (i.same ram fits)
    (c.in-Some-block_of.ensures.put ram (subst (All (LiesInRam ram)) (sym i.pieces) fits))

pub loop-piece-smaller : goal.loop-piece-smaller
loop-piece-smaller c =
    let s : Loading = c.loop-piece.self in
    let within = slice_get_within s.pieces s.whole c.in-Some.piece.now (sym c.in-Some.ensures.next) in
    omega (
      arith,
      within,
      ap (λ (x : Loading). x.whole) c.pass.ensures.moved,
      ap (λ (x : Loading). length x.pieces) c.pass.ensures.moved,
      ap (λ (x : Loading). x.whole) c.block_of.ensures.moved,
      ap (λ (x : Loading). length x.pieces) c.block_of.ensures.moved,
    )

pub loop-piece-preserved : goal.loop-piece-preserved
loop-piece-preserved c =
    let i = c.loop-piece.invariant in
    let s : Loading = c.loop-piece.self in
    let b : Loading = c.block_of.new.self in
    let p : Piece = c.in-Some.piece.now in
    let next : slice_get s.pieces s.whole ≡ Some p = sym c.in-Some.ensures.next in
    let moved : b ≡ record s { done = b.done } = c.block_of.ensures.moved in
    let left : bytes_left b ≤ bytes_left s =
    subst (λ (x : Loading). bytes_left x ≤ bytes_left s) (sym moved) (no_more_left s p next b.done c.block_of.ensures.least) in
    let behind : bytes_left c.pass.new.self ≡ bytes_left b =
    ap bytes_left c.pass.ensures.moved ∙ left_behind b p (next_in b (record s { done = b.done }) p moved next) c.in_default-block_of.ensures.end in
    record {
      pieces = ap (λ (x : Loading). x.pieces) c.pass.ensures.moved ∙ ap (λ (x : Loading). x.pieces) moved ∙ i.pieces;
      same = λ ram fits.
          let lies : All (LiesInRam ram) s.pieces = subst (All (LiesInRam ram)) (sym i.pieces) fits in
          c.pass.ensures.same ram (subst (λ (x : Loading). All (LiesInRam ram) x.pieces) (sym moved) lies)
          ∙ c.in_default-block_of.ensures.same ram lies ∙ i.same ram fits;
      left = omega (arith, behind, left, i.left);
    }

pub returns-clause-end : goal.returns-clause-end
returns-clause-end c =
    let i = c.loop-piece.invariant in
    let s : Loading = c.loop-piece.self in
    let none : slice_get s.pieces s.whole ≡ None = sym c.in_default.ensures.next in
    λ ram fits. sym (i.same ram fits) ∙ all_loaded s ram none ∙ ap (λ (ps : List Piece). fold with_piece (zeroed ram) ps) i.pieces
