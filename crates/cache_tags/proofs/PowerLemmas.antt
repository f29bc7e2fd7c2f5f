-- Powers of two.
use Rattle.std.proofs.Common.{◌≡◌, ℕ, zero, suc, ◌+◌, ◌*◌, ◌/◌, ◌%◌, ◌^◌, ◌<◌, true, refl, ◌∙◌, ap, arith, ◌⊎◌, inl, inr}
use Rattle.std.specs.Int.{is_power_of_two}
use Rattle.std.specs.Int.Count.{ones}
use Rattle.std.proofs.Math.Nat.{two-pow-succ}
use Rattle.std.proofs.lemmas.Bool.{cases_eq, eqb-true}
use Rattle.std.proofs.lemmas.Nat.{ones_cat, zero_from_ones}

-- a number with one bit is a power of two
power_from : (b n : ℕ) → n < 2 ^ b → ones n ≡ 1 → (k : ℕ) × (n ≡ 2 ^ k)
unfolding ones
power_from zero n h e = let none : n ≡ 0 = omega arith in let empty : ones 0 ≡ 0 = refl in absurd (omega (arith, ap ones none, empty))
power_from (suc b) n h e = by (power_from b (n / 2) (omega (arith, two-pow-succ b))) (cases_eq (n % 2) 0) where
  whole : n ≡ n / 2 * 2 ^ 1 + n % 2
  whole = omega arith

  both : ones n ≡ ones (n / 2) + ones (n % 2)
  both = ap ones whole ∙ ones_cat 1 (n / 2) (n % 2) (omega arith)

  by : (ones (n / 2) ≡ 1 → (k : ℕ) × (n / 2 ≡ 2 ^ k)) → (n % 2 ≡ 0) ⊎ (n % 2 ≡ 0 → ⊥) → (k : ℕ) × (n ≡ 2 ^ k)
  by half (inl even) =
      let empty : ones 0 ≡ 0 = refl in
      let k = half (omega (arith, both, e, ap ones even, empty)) in
      (suc k.0, omega (arith, k.1, two-pow-succ k.0))
  by half (inr odd) =
      let one : n % 2 ≡ 1 = omega arith in
      let full : ones 1 ≡ 1 = refl in
      let none : n / 2 ≡ 0 = zero_from_ones (n / 2) (omega (arith, both, e, ap ones one, full)) in
      (0, omega arith)

pub power_of : (n : ℕ) → n < 2 ^ 32 → is_power_of_two n ≡ true → (k : ℕ) × (n ≡ 2 ^ k)
power_of n h e = power_from 32 n h (eqb-true (ones n) 1 e)
