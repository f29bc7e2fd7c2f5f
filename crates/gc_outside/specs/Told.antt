-- What an outside object tells of its content. Source: this project's own rule.
use Rattle.std.specs.Prelude.{Option, Some, None}

-- R holds of what is told before and after a call; what isn't told before isn't told after
abbrev pub Told : {A : Type 0} → (A → A → Type 0) → Option A → Option A → Type 0
Told R before None = Unit {0}
Told R None (Some after) = ⊥
Told R (Some before) (Some after) = R before after
