-- What a call writes: one list of emissions, in their order. Source: this project's own rule.
use Rattle.std.specs.Prelude.{◌≡◌, ℕ, ◌≤◌, ◌⊎◌, Bool, true, false, List, [], ◌∷◌, ◌++◌, map}
use Rattle.gc_outside.specs.Faults.{Rose}
use Rattle.gc_outside.specs.Sink.{Appends}
use Rattle.gc_outside.specs.Told.{Told}
use Rattle.gc_outside.specs.Sinks.{SinkSeen, Sinks}

-- bytes for one of the two sinks
pub data Emission : Type 0 where
  ToConsole : List ℕ → Emission
  ToReport : List ℕ → Emission

abbrev pub bytes_of : Emission → List ℕ
bytes_of (ToConsole bytes) = bytes
bytes_of (ToReport bytes) = bytes

-- other bytes for the same sink
abbrev pub with_bytes : Emission → List ℕ → Emission
with_bytes (ToConsole bytes) others = ToConsole others
with_bytes (ToReport bytes) others = ToReport others

-- lines for the report, each in an emission of its own
abbrev pub line_emissions : List (List ℕ) → List Emission
line_emissions lines = map (λ l. ToReport l) lines

-- what emissions bring to the console
abbrev pub console_bytes : List Emission → List ℕ
console_bytes [] = []
console_bytes (ToConsole bytes ∷ later) = bytes ++ console_bytes later
console_bytes (ToReport bytes ∷ later) = console_bytes later

-- and to the report
abbrev pub report_bytes : List Emission → List ℕ
report_bytes [] = []
report_bytes (ToConsole bytes ∷ later) = report_bytes later
report_bytes (ToReport bytes ∷ later) = bytes ++ report_bytes later

-- each sink took all that they bring to it, and nothing else
pub record TakesAll (emissions : List Emission) (old new : Sinks) : Type 0 where
  pub console : Told (Appends (console_bytes emissions)) old.console.taken new.console.taken
  pub report : Told (Appends (report_bytes emissions)) old.report.taken new.report.taken

-- the sinks took the emissions before some place whole, of the one at that place a front, and nothing behind it
pub record TakesFront (emissions : List Emission) (old new : Sinks) : Type 0 where
  pub before : List Emission
  pub cut : Emission
  pub behind : List Emission
  pub place : emissions ≡ before ++ cut ∷ behind
  pub front : List ℕ
  pub rest : List ℕ
  pub split : bytes_of cut ≡ front ++ rest
  pub taken : TakesAll (before ++ with_bytes cut front ∷ []) old new

-- the console or the report failed
abbrev pub SinkFailed : Sinks → Sinks → Type 0
SinkFailed old new = Rose old.console.faults new.console.faults ⊎ Rose old.report.faults new.report.faults

-- the emissions were taken, or, where a call failed, a front of them and no more; it fails only by a fault of a sink
pub record EmitsInOrder (emissions : List Emission) (ok : Bool) (old new : Sinks) : Type 0 where
  pub all : ok ≡ true → TakesAll emissions old new
  pub front : ok ≡ false → TakesFront emissions old new
  pub cause : ok ≡ false → SinkFailed old new
  pub console_count : old.console.faults ≤ new.console.faults
  pub report_count : old.report.faults ≤ new.report.faults

-- the same of a call that has the console alone, or the report alone: the other one stays as it is
abbrev pub EmitsToConsole : List Emission → Bool → SinkSeen → SinkSeen → Type 0
EmitsToConsole emissions ok old new =
    (report : SinkSeen) → EmitsInOrder emissions ok (record { console = old; report = report }) (record { console = new; report = report })

abbrev pub EmitsToReport : List Emission → Bool → SinkSeen → SinkSeen → Type 0
EmitsToReport emissions ok old new =
    (console : SinkSeen) → EmitsInOrder emissions ok (record { console = console; report = old }) (record { console = console; report = new })
