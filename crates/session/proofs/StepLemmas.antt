-- How many steps a run over flat memory makes.
use Rattle.std.proofs.Common.{◌≡◌, ℕ, zero, suc, ◌+◌, ◌≤◌, Bool, true, false, if◌then◌else◌, arith}
use Rattle.rv_step.specs.Flat.{flat_step}
use Rattle.rv_step.specs.Run.{FlatState, flat_run, next_state, is_over, with_step}

next_state-steps : (s : FlatState) → (next_state s).steps ≤ s.steps + 1
unfolding next_state
next_state-steps s =
    elim (is_over s) as (λ (b : Bool). (if b then s else with_step s (flat_step s.arch s.ram)).steps ≤ s.steps + 1) [ true ↦ omega arith | false ↦ omega arith ]

pub flat_run-steps : (s : FlatState) (n : ℕ) → s.steps ≡ 0 → (flat_run s n).steps ≤ n
unfolding flat_run
flat_run-steps s zero h = omega arith
flat_run-steps s (suc n) h = omega (arith, next_state-steps (flat_run s n), flat_run-steps s n h)
