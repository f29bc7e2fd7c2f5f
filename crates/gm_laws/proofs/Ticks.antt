-- Ticks at which events may come.
use Rattle.std.proofs.Common.{ℕ, ◌+◌, ◌*◌, ◌/◌, ◌^◌, ◌≤◌, ◌<◌, arith}
use Rattle.std.proofs.Math.Nat.{div-mul-le_self, add-mul, le-max_left, le-max_right, mul-le-mul_right}
use Rattle.gc_base.proofs.MultipleLemmas.{next_multiple_is}
use Rattle.gc_base.specs.declared.limits.TheConstants.{LAST}
use Rattle.gm_words.specs.HartLine.{next_multiple}
use Rattle.gm_laws.specs.Bounds.{latest, longest_wait}

-- soon is never too late, nor is far ahead by the last tick
pub soon : (now at : ℕ) → at ≤ now + 2 ^ 40 → at ≤ latest now
soon now at h = omega (arith, h, le-max_left (now + longest_wait) LAST)

pub by_last : (now at : ℕ) → at ≤ LAST → at ≤ latest now
by_last now at h = omega (arith, h, le-max_right (now + longest_wait) LAST)

-- the next multiple of a period comes after the tick, and within a period
pub next_bounds : (period now : ℕ) → 1 ≤ period → (now ≤ next_multiple period now) × (next_multiple period now ≤ now + period)
next_bounds period now h =
    let above = (next_multiple_is now period h).above in
    (omega (arith, above), omega (arith, add-mul (now / period) 1 period, div-mul-le_self now period))

-- what a clock hasn't come to comes later
pub ahead : (n period now : ℕ) → 1 ≤ period → now / period < n → now ≤ n * period
ahead n period now one h =
    let least : now / period + 1 ≤ n = omega (arith, h) in
    omega (arith, (next_multiple_is now period one).above, mul-le-mul_right period least)
