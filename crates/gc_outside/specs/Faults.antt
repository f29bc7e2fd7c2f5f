-- Counts of faults. Source: this project's own rule.
use Rattle.std.specs.Prelude.{◌≡◌, ℕ, ◌+◌, ◌-◌, ◌^◌, ◌≤◌, min, Bool, not, if◌then◌else◌}

-- the count rose, or stands at its last value
abbrev pub Rose : ℕ → ℕ → Type 0
Rose before now = min (before + 1) (2 ^ 64 - 1) ≤ now

-- one more, up to the last number of 64 bits
abbrev pub counted : ℕ → ℕ
counted n = min (n + 1) (2 ^ 64 - 1)

-- one more where the call failed
abbrev pub faults_after : Bool → ℕ → ℕ
faults_after good faults = if good then faults else counted faults

-- a call that failed counted one fault, and any other left the count
abbrev pub CountsFaultIf : Bool → ℕ → ℕ → Type 0
CountsFaultIf failed before now = now ≡ faults_after (not failed) before
