-- RAM once an image is loaded. This project's own rule: what no piece writes is zero.
use Rattle.std.specs.Prelude.{ℕ, List, ◌++◌, fold, replicate}
use Rattle.rv_step.specs.FlatMem.{ram_put}
use Rattle.elf_image.specs.declared.image.Image.{Image}
use Rattle.elf_image.specs.declared.piece.Piece.{Piece}

-- what a piece puts into memory: its bytes, and behind them its zeros
abbrev pub bytes_of_piece : Piece → List ℕ
bytes_of_piece p = p.bytes ++ replicate p.zeros 0

-- RAM with a piece in it
abbrev pub with_piece : List ℕ → Piece → List ℕ
with_piece m p = ram_put m p.addr (bytes_of_piece p)

-- RAM of so many bytes once the pieces are loaded, in order: a later one overwrites an earlier one
abbrev pub ram_of : Image → ℕ → List ℕ
ram_of image ram = fold with_piece (replicate ram 0) image.pieces
