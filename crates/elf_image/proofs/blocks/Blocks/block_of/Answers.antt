use Rattle.std.proofs.Common.{◌≡◌, ◌+◌, ◌<◌, ◌≤◌, ◌∙◌, sym, ap, subst, arith, All, Some, length, List, ℕ}
use Rattle.std.specs.Prelude.{slice_get}
use Rattle.elf_image.specs.Image.{LiesInRam}
use Rattle.elf_image.specs.Ram.{bytes_of_piece}
use Rattle.elf_image.specs.Loading.{Loading, PutsBlock, bytes_left}
use Rattle.elf_image.specs.declared.piece.Piece.{Piece}
use Rattle.elf_image.proofs.BlockLaws.{next_in, part_within, puts, puts_behind, fewer_left}
use Rattle.elf_image.proofs.RamLaws.{length-bytes_of_piece}
use Rattle.elf_image.proofs.blocks.Blocks.block_of.Goals as goal

pub returns-then-self-items-clause-put : goal.returns-then-self-items-clause-put
returns-then-self-items-clause-put c =
    let v : Loading = c.args.self.now in
    let p : Piece = c.args.piece.now in
    let bytes : List ℕ = c.own_bytes.result.bytes.now in
    let within : v.done ≤ length (bytes_of_piece p) =
    omega (arith, ap (λ (x : Loading). x.done) c.self.view_is, ap length c.items.ensures, length-bytes_of_piece p) in
    λ ram fits. subst (λ (x : Loading). PutsBlock ram c.own_bytes.result.addr bytes v x) (sym c.own_bytes.ensures.moved)
    (puts v p c.requires.next ram fits c.own_bytes.result.addr bytes c.own_bytes.ensures.addr within c.own_bytes.ensures.bytes)

pub returns-then-self-items-clause-fewer : goal.returns-then-self-items-clause-fewer
returns-then-self-items-clause-fewer c =
    let v : Loading = c.args.self.now in
    let p : Piece = c.args.piece.now in
    let bytes : List ℕ = c.own_bytes.result.bytes.now in
    let within : v.done ≤ length (bytes_of_piece p) =
    omega (arith, ap (λ (x : Loading). x.done) c.self.view_is, ap length c.items.ensures, length-bytes_of_piece p) in
    let few = part_within (bytes_of_piece p) bytes v.done within c.own_bytes.ensures.bytes in
    subst (λ (x : Loading). bytes_left x < bytes_left v) (sym c.own_bytes.ensures.moved)
    (fewer_left v p c.requires.next (v.done + length bytes) (omega (arith, c.own_bytes.ensures.some)) few)

pub returns-clause-put : goal.returns-clause-put
returns-clause-put c =
    let v : Loading = c.args.self.now in
    let m : Loading = c.skip_zeros.new.self in
    let p : Piece = c.args.piece.now in
    let bytes : List ℕ = c.zeros.result.bytes.now in
    let next : slice_get m.pieces m.whole ≡ Some p = next_in m (record v { done = m.done }) p c.skip_zeros.ensures.moved c.requires.next in
    λ ram fits.
    let lies : All (LiesInRam ram) m.pieces = subst (λ (x : Loading). All (LiesInRam ram) x.pieces) (sym c.skip_zeros.ensures.moved) fits in
    puts_behind v m c.zeros.new.self ram c.zeros.result.addr bytes (c.skip_zeros.ensures.same ram fits)
    (subst (λ (x : Loading). PutsBlock ram c.zeros.result.addr bytes m x) (sym c.zeros.ensures.moved)
    (puts m p next ram lies c.zeros.result.addr bytes c.zeros.ensures.addr c.skip_zeros.ensures.most c.zeros.ensures.bytes))

pub returns-clause-fewer : goal.returns-clause-fewer
returns-clause-fewer c =
    let v : Loading = c.args.self.now in
    let m : Loading = c.skip_zeros.new.self in
    let p : Piece = c.args.piece.now in
    let bytes : List ℕ = c.zeros.result.bytes.now in
    let few = part_within (bytes_of_piece p) bytes m.done c.skip_zeros.ensures.most c.zeros.ensures.bytes in
    let moved : c.zeros.new.self ≡ record v { done = m.done + length bytes } =
    c.zeros.ensures.moved ∙ ap (λ (x : Loading). record x { done = m.done + length bytes }) c.skip_zeros.ensures.moved in
    subst (λ (x : Loading). bytes_left x < bytes_left v) (sym moved)
    (fewer_left v p c.requires.next (m.done + length bytes) (omega (arith, c.zeros.ensures.some, c.skip_zeros.ensures.least)) few)
