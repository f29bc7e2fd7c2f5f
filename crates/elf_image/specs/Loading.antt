-- Pieces that are loaded block by block into RAM that is zero. This project's own rule.
use Rattle.std.specs.Prelude.{◌≡◌, ℕ, ◌+◌, ◌-◌, ◌≤◌, All, Bool, List, length, take, drop, fold, replicate, slice_get, sum_by, Option, Some, None}
use Rattle.gc_base.specs.declared.limits.TheConstants.{RAM_MAX}
use Rattle.rv_step.specs.FlatMem.{ram_base, ram_put}
use Rattle.elf_image.specs.Image.{LiesInRam}
use Rattle.elf_image.specs.Ram.{bytes_of_piece, with_piece}
use Rattle.elf_image.specs.WrittenPages.{IsZeroOutside}
use Rattle.elf_image.specs.declared.piece.Piece.{Piece}

-- how far pieces are loaded: so many whole ones, and so many bytes of the next
pub record Loading : Type 0 where
  pub pieces : List Piece
  pub whole : ℕ
  pub done : ℕ

-- nothing is loaded yet
abbrev pub unloaded : List Piece → Loading
unloaded pieces = record { pieces = pieces; whole = 0; done = 0 }

-- RAM with the first bytes of a piece in it, if there is one
abbrev pub with_front : List ℕ → Option Piece → ℕ → List ℕ
with_front m None n = m
with_front m (Some p) n = ram_put m p.addr (take n (bytes_of_piece p))

-- RAM of so many bytes, loaded so far
unfoldable pub ram_so_far : Loading → ℕ → List ℕ
ram_so_far l ram = with_front (fold with_piece (replicate ram 0) (take l.whole l.pieces)) (slice_get l.pieces l.whole) l.done

-- how many bytes of the pieces are left
unfoldable pub bytes_left : Loading → ℕ
bytes_left l = sum_by (λ p. length (bytes_of_piece p)) (drop l.whole l.pieces) - l.done

-- these bytes at this address, put into RAM of so many bytes, are the step from one state of loading to another
pub record PutsBlock (ram address : ℕ) (bytes : List ℕ) (old new : Loading) : Type 0 where
  pub size : length (ram_so_far old ram) ≡ ram
  pub above : ram_base ≤ address
  pub below : address + length bytes ≤ ram_base + ram
  pub put : ram_so_far new ram ≡ ram_put (ram_so_far old ram) address bytes

-- RAM is the same in two states of loading, if the pieces lie in it
abbrev pub SameRam : Loading → Loading → Type 0
SameRam old new = (ram : ℕ) → All (LiesInRam ram) old.pieces → ram_so_far new ram ≡ ram_so_far old ram

-- how many bytes the next piece has
abbrev pub next_size : Option Piece → ℕ
next_size None = 0
next_size (Some p) = length (bytes_of_piece p)

-- the pieces lie in the largest RAM, no more bytes of the next one are done than it has, and outside these pages RAM is zero
pub record IsTracked (l : Loading) (pages : List Bool) : Type 0 where
  pub fits : All (LiesInRam RAM_MAX) l.pieces
  pub within : l.done ≤ next_size (slice_get l.pieces l.whole)
  pub zero : (ram : ℕ) → All (LiesInRam ram) l.pieces → IsZeroOutside pages (ram_so_far l ram)
