-- Calls that are to fail, by their number. Source: this project's own rule.
use Rattle.std.specs.Prelude.{ℕ, ◌==◌, Bool, if◌then◌else◌, nat_lt, List, [], ◌∷◌, ◌++◌, length}
use Rattle.std.specs.List.{list_any}
use Rattle.gc_outside.specs.Faults.{counted}

-- the numbers of the calls that are to fail, and how many calls there were
pub record Plan : Type 0 where
  pub failing : List ℕ
  pub calls : ℕ

-- no call is to fail, and there was none
abbrev pub no_plan : Plan
no_plan = record { failing = []; calls = 0 }

-- the next call is to fail
abbrev pub is_planned : Plan → Bool
is_planned p = list_any (λ n. n == p.calls) p.failing

-- the plan after a call
abbrev pub called : Plan → Plan
called p = record p { calls = counted p.calls }

-- one more number may be kept, of at most 16
abbrev pub has_free_number : Plan → Bool
has_free_number p = nat_lt (length p.failing) 16

-- the plan with one more call that is to fail, where its number may be kept
abbrev pub with_failing : ℕ → Plan → Plan
with_failing call p = if has_free_number p then record p { failing = p.failing ++ call ∷ [] } else p
