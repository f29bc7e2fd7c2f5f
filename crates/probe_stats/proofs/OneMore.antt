-- One more at a place of a list of counts.
use Rattle.std.proofs.Common.{◌≡◌, ℕ, suc, zero, ◌+◌, ◌<◌, ◌≤◌, refl, sym, ◌∙◌, ap, arith, List, [], ◌∷◌, length, get_or, set}
use Rattle.gm_words.specs.Counts.{one_more_at}
use Rattle.probe_stats.specs.Counted.{IsBelowAt}

pub one_more-set : (ks : List ℕ) (i x : ℕ) → i < length ks → x ≡ get_or ks i x → set ks i (x + 1) ≡ one_more_at ks i
one_more-set [] i x l e = absurd (omega arith)
one_more-set (k ∷ ks) zero x l e = ap (λ n. (n + 1) ∷ ks) e
one_more-set (k ∷ ks) (suc i) x l e = ap (λ ys. k ∷ ys) (one_more-set ks i x (omega arith) e)

pub one_more-past : (ks : List ℕ) (i : ℕ) → length ks ≤ i → ks ≡ one_more_at ks i
one_more-past [] i l = refl
one_more-past (k ∷ ks) zero l = absurd (omega arith)
one_more-past (k ∷ ks) (suc i) l = ap (λ ys. k ∷ ys) (one_more-past ks i (omega arith))

pub below-at : (n : ℕ) (ks : List ℕ) (i d : ℕ) → IsBelowAt n ks i → i < length ks → get_or ks i d < n
below-at n [] i d h l = absurd (omega arith)
below-at n (k ∷ ks) zero d h l = h
below-at n (k ∷ ks) (suc i) d h l = below-at n ks i d h (omega arith)
