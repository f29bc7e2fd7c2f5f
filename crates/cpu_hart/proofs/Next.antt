-- The next multiple of a period is one number.
use Rattle.std.proofs.Common.{◌≡◌, ℕ, ◌≤◌, arith}
use Rattle.gc_base.specs.Multiple.{IsNextMultiple}
use Rattle.gc_base.proofs.MultipleLemmas.{next_multiple_is}
use Rattle.gm_words.specs.HartLine.{next_multiple}

-- each of two is the least
one_number : (period tick a b : ℕ) → IsNextMultiple period tick a → IsNextMultiple period tick b → a ≡ b
one_number period tick a b h g = omega (arith, h.least b g.multiple g.above, g.least a h.multiple h.above)

-- what is the next multiple is the number of the formula
pub next_multiple_formula : (period tick n : ℕ) → 1 ≤ period → IsNextMultiple period tick n → n ≡ next_multiple period tick
next_multiple_formula period tick n least h =
    one_number period tick n (next_multiple period tick) h (next_multiple_is tick period least)
