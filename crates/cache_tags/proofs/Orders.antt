-- A list whose elements move back by a place.
use Rattle.std.proofs.Common.{◌≡◌, ℕ, zero, suc, ◌+◌, ◌<◌, List, [], ◌∷◌, ◌++◌, length, get_or, set, take, drop, refl, ap, arith, add-one}

-- the first i elements of ys stand in front of what xs has behind them
abbrev pub over : ℕ → List ℕ → List ℕ → List ℕ
over i ys xs = take i ys ++ drop i xs

over_suc : (xs ys : List ℕ) (i : ℕ) (x d : ℕ) → i < length xs → i < length ys → x ≡ get_or ys i d → set (over i ys xs) i x ≡ over (suc i) ys xs
over_suc [] ys i x d h k e = absurd (omega arith)
over_suc (a ∷ xs) [] i x d h k e = absurd (omega arith)
over_suc (a ∷ xs) (b ∷ ys) zero x d h k e = ap (λ z. z ∷ xs) e
over_suc (a ∷ xs) (b ∷ ys) (suc i) x d h k e = ap (λ zs. b ∷ zs) (over_suc xs ys i x d (omega arith) (omega arith) e)

pub over_more : (xs ys : List ℕ) (i : ℕ) (x d : ℕ) → i < length xs → i < length ys → x ≡ get_or ys i d → set (over i ys xs) i x ≡ over (i + 1) ys xs
over_more xs ys i x d h k e = rw add-one (over_suc xs ys i x d h k e)

-- an element that is not reached yet
pub over_read : (xs ys : List ℕ) (i : ℕ) (d : ℕ) → i < length xs → i < length ys → get_or (over i ys xs) i d ≡ get_or xs i d
over_read xs ys zero d h k = refl
over_read [] ys (suc i) d h k = absurd (omega arith)
over_read (a ∷ xs) [] (suc i) d h k = absurd (omega arith)
over_read (a ∷ xs) (b ∷ ys) (suc i) d h k = over_read xs ys i d (omega arith) (omega arith)
