-- The registers' names by number, spelled out.
use Rattle.std.proofs.Common.{◌≡◌, ℕ, List, [], ◌∷◌, ◌++◌, codes, refl, ap}
use Rattle.std.specs.Fmt.{digits}
use Rattle.rv_asm.specs.Names.{registers_by_number, registers_by_use, number_named, register_of}

-- the names as the code has them
abbrev pub spelled : List (List ℕ × ℕ)
spelled =
    (codes "x0", 0)
    ∷ (codes "x1", 1)
    ∷ (codes "x2", 2)
    ∷ (codes "x3", 3)
    ∷ (codes "x4", 4)
    ∷ (codes "x5", 5)
    ∷ (codes "x6", 6)
    ∷ (codes "x7", 7)
    ∷ (codes "x8", 8)
    ∷ (codes "x9", 9)
    ∷ (codes "x10", 10)
    ∷ (codes "x11", 11)
    ∷ (codes "x12", 12)
    ∷ (codes "x13", 13)
    ∷ (codes "x14", 14)
    ∷ (codes "x15", 15)
    ∷ (codes "x16", 16)
    ∷ (codes "x17", 17)
    ∷ (codes "x18", 18)
    ∷ (codes "x19", 19)
    ∷ (codes "x20", 20)
    ∷ (codes "x21", 21)
    ∷ (codes "x22", 22)
    ∷ (codes "x23", 23)
    ∷ (codes "x24", 24)
    ∷ (codes "x25", 25)
    ∷ (codes "x26", 26)
    ∷ (codes "x27", 27)
    ∷ (codes "x28", 28)
    ∷ (codes "x29", 29)
    ∷ (codes "x30", 30)
    ∷ (codes "x31", 31)
    ∷ []

-- they are the registers
pub spelled_is : spelled ≡ registers_by_number
unfolding digits
spelled_is = refl

-- a look-up among them
pub look_up : (name : List ℕ) → number_named (spelled ++ registers_by_use) name ≡ register_of name
look_up name = ap (λ (t : List (List ℕ × ℕ)). number_named (t ++ registers_by_use) name) spelled_is
