-- The eight bytes that are noted of a packet.
use Rattle.std.proofs.lemmas.List.{append-nil}
use Rattle.std.proofs.Common.{◌≡◌, ℕ, zero, suc, ◌≤◌, ◌++◌, List, [], ◌∷◌, length, take, drop, replicate, ap, ◌∙◌, sym, arith}
use Rattle.std.proofs.lemmas.List.{take-replicate, take-append-le, take-take, length-take-le}

-- so many bytes in front of zeros, cut
pub padded : (k m n : ℕ) (xs : List ℕ) → n ≤ length xs → n ≤ k → k ≤ m → take k (take n xs ++ replicate m 0) ≡ take n xs ++ drop n (replicate k 0)
padded k m zero xs h i j = take-replicate k m 0 j
padded zero m (suc n) xs h i j = absurd (omega arith)
padded (suc k) m (suc n) [] h i j = absurd (omega arith)
padded (suc k) m (suc n) (x ∷ xs) h i j = ap (λ l. x ∷ l) (padded k m n xs (omega arith) (omega arith) (omega arith))

-- at most eight bytes
pub noted_short : (n : ℕ) (xs : List ℕ) → n ≤ length xs → n ≤ 8 → take n xs ++ drop n (replicate 8 0) ≡ take 8 (take n xs ++ replicate 8 0)
noted_short n xs h i = sym (padded 8 8 n xs h i (omega arith))

-- eight bytes or more
pub noted_long : (n : ℕ) (xs : List ℕ) → n ≤ length xs → 8 ≤ n → take 8 xs ++ drop 8 (replicate 8 0) ≡ take 8 (take n xs ++ replicate 8 0)
noted_long n xs h i =
    let whole : length (take n xs) ≡ n = length-take-le n xs h
    in let long : 8 ≤ length (take n xs) = omega (arith, whole)
    in sym (take-append-le 8 (take n xs) (replicate 8 0) long ∙ take-take 8 n xs i ∙ sym (append-nil (take 8 xs)))
