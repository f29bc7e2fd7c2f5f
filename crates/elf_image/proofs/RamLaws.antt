-- An image that is loaded fills RAM and no more.
use Rattle.std.proofs.Common.{◌≡◌, ℕ, ◌+◌, ◌-◌, ◌≤◌, ◌∙◌, sym, ap, subst, arith, All, List, [], ◌∷◌, ◌++◌, append_assoc, append-nil, length, take, drop, fold, replicate, length-drop}
use Rattle.std.proofs.Math.Seq.{drop-append-add, take-add, take-append_seam}
use Rattle.std.proofs.lemmas.List.{drop-drop, length-append, length-replicate, length-take-le, take-append-drop}
use Rattle.std.proofs.lemmas.List.Elements.{All-head, All-tail, All-weaker}
use Rattle.rv_step.specs.FlatMem.{ram_base, ram_put}
use Rattle.elf_image.specs.Image.{LiesInRam}
use Rattle.elf_image.specs.Ram.{bytes_of_piece, with_piece, ram_of}
use Rattle.elf_image.specs.declared.image.Image.{Image}
use Rattle.elf_image.specs.declared.piece.Piece.{Piece}

-- pieces that lie in RAM lie in a larger one too
pub lie_in_larger : (ram larger : ℕ) (pieces : List Piece) → ram ≤ larger → All (LiesInRam ram) pieces → All (LiesInRam larger) pieces
lie_in_larger ram larger pieces more lie =
    All-weaker (LiesInRam ram) (LiesInRam larger) (λ p h. record { above = h.above; below = omega (arith, h.below, more) }) pieces lie

-- a piece has its bytes and its zeros
pub length-bytes_of_piece : (p : Piece) → length (bytes_of_piece p) ≡ length p.bytes + p.zeros
length-bytes_of_piece p = length-append p.bytes (replicate p.zeros 0) ∙ ap (λ n. length p.bytes + n) (length-replicate p.zeros 0)

-- RAM keeps its size when bytes are put into it
pub length-ram_put : (m : List ℕ) (address : ℕ) (bytes : List ℕ) → ram_base ≤ address → address + length bytes ≤ ram_base + length m →
    length (ram_put m address bytes) ≡ length m
length-ram_put m address bytes above below =
    let at = address - ram_base in
    let front = length-take-le at m (omega arith) in
    let back = length-drop (at + length bytes) m in
    let one = length-append (take at m ++ bytes) (drop (at + length bytes) m) in
    let two = length-append (take at m) bytes in
    omega arith

-- putting nothing leaves it as it is
pub ram_put-nothing : (m : List ℕ) (address : ℕ) → ram_put m address [] ≡ m
ram_put-nothing m address =
    let at = address - ram_base in
    let same : at + 0 ≡ at = omega arith in
    let P : ℕ → Type 0 = λ n. take at m ++ [] ++ drop n m ≡ m in
    subst P (sym same) (ap (λ (xs : List ℕ). xs ++ drop at m) (append-nil (take at m)) ∙ take-append-drop at m)

-- bytes that are put behind the ones just put
pub ram_put-more : (m : List ℕ) (address done n : ℕ) (bytes : List ℕ) → ram_base ≤ address → address + length bytes ≤ ram_base + length m
    → done ≤ length bytes → n ≤ length (drop done bytes)
    → ram_put (ram_put m address (take done bytes)) (address + done) (take n (drop done bytes)) ≡ ram_put m address (take (done + n) bytes)
ram_put-more m address done n bytes above below l k =
    let at = address - ram_base in
    let x : List ℕ = take done bytes in
    let y : List ℕ = take n (drop done bytes) in
    let front : List ℕ = take at m ++ x in
    let rest : List ℕ = drop (at + length x) m in
    let long : length front ≡ at + done = omega (arith, length-append (take at m) x, length-take-le at m (omega (arith, above, below)), length-take-le done bytes l) in
    let place : length front ≡ address + done - ram_base = omega (arith, long, above) in
    let P : ℕ → Type 0 = λ i. take i (front ++ rest) ++ y ++ drop (i + length y) (front ++ rest) ≡ take at m ++ take (done + n) bytes ++ drop (at + length (take (done + n) bytes)) m in
    let both : take (done + n) bytes ≡ x ++ y = take-add done n bytes in
    let Q : List ℕ → Type 0 = λ b. front ++ y ++ drop (length y) rest ≡ take at m ++ b ++ drop (at + length b) m in
    let behind : drop (length y) rest ≡ drop (at + length (x ++ y)) m =
    drop-drop (length y) (at + length x) m ∙ ap (λ (i : ℕ). drop i m) (omega (arith, length-append x y)) in
    let joined : front ++ y ++ drop (length y) rest ≡ take at m ++ (x ++ y) ++ drop (at + length (x ++ y)) m =
    ap (λ (d : List ℕ). front ++ y ++ d) behind ∙ ap (λ (a : List ℕ). a ++ drop (at + length (x ++ y)) m) (append_assoc (take at m) x y) in
    let parted : take (length front) (front ++ rest) ++ y ++ drop (length front + length y) (front ++ rest) ≡ front ++ y ++ drop (length y) rest =
    ap (λ (a : List ℕ). a ++ y ++ drop (length front + length y) (front ++ rest)) (take-append_seam front rest)
    ∙ ap (λ (d : List ℕ). front ++ y ++ d) (drop-append-add front rest (length y)) in
    subst P place (parted ∙ subst Q (sym both) joined)

-- and when pieces that lie in it are loaded
pub length-loaded : (ram : ℕ) (m : List ℕ) (pieces : List Piece) → length m ≡ ram → All (LiesInRam ram) pieces → length (fold with_piece m pieces) ≡ ram
length-loaded ram m [] e a = e
length-loaded ram m (p ∷ ps) e a =
    let here = All-head (LiesInRam ram) p ps a in
    let size = length-bytes_of_piece p in
    let kept = length-ram_put m p.addr (bytes_of_piece p) here.above (omega arith) in
    length-loaded ram (with_piece m p) ps (kept ∙ e) (All-tail (LiesInRam ram) p ps a)

-- RAM with an image has the size of RAM
pub length-ram_of : (image : Image) (ram : ℕ) → All (LiesInRam ram) image.pieces → length (ram_of image ram) ≡ ram
length-ram_of image ram a = length-loaded ram (replicate ram 0) image.pieces (length-replicate ram 0) a
