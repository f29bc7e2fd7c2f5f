-- What a sink has taken. Source: this project's own rule.
use Rattle.std.specs.Prelude.{◌≡◌, ℕ, List, ◌++◌}

-- these bytes were appended
abbrev pub Appends : List ℕ → List ℕ → List ℕ → Type 0
Appends bytes old new = new ≡ old ++ bytes

-- a front of these bytes was appended
abbrev pub AppendsFront : List ℕ → List ℕ → List ℕ → Type 0
AppendsFront bytes old new = (front : List ℕ) × (rest : List ℕ) × (bytes ≡ front ++ rest) × (new ≡ old ++ front)
