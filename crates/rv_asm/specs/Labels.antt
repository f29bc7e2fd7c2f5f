-- this project's own rule: a label stands for the place of the next word, and is visible in the whole source
use Rattle.std.specs.Prelude.{ℕ, ◌+◌, List, [], ◌∷◌, ◌++◌, Option, Some, None, if◌then◌else◌}
use Rattle.std.specs.Str.{bytes_eq}
use Rattle.rv_asm.specs.declared.place.Place.{Place}
use Rattle.rv_asm.specs.Lines.{Line, Label, Instruction}

-- how many words a line takes
abbrev pub words_in : Line → ℕ
words_in (Instruction name operands) = 1
words_in _ = 0

-- the label that line n gives, where k words stand in front of it
abbrev pub labels_in : ℕ → ℕ → Line → List (List ℕ × Place)
labels_in n k (Label name) = (name, record { line = n; words = k }) ∷ []
labels_in n k _ = []

-- the labels of the lines from number n on, where k words stand in front of them
abbrev pub labels_from : ℕ → ℕ → List Line → List (List ℕ × Place)
labels_from n k [] = []
labels_from n k (l ∷ ls) = labels_in n k l ++ labels_from (n + 1) (k + words_in l) ls

-- where a label is given first
abbrev pub place_of : List (List ℕ × Place) → List ℕ → Option Place
place_of [] name = None
place_of (e ∷ es) name = if bytes_eq e.0 name then Some e.1 else place_of es name
