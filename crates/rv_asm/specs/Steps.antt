-- One line of a source after another. No public clause cites this module.
use Rattle.std.specs.Prelude.{◌≡◌, ℕ, ◌+◌, Option, List, ◌∷◌, ◌++◌, length, Result, Ok, Err}
use Rattle.rv_asm.specs.declared.fault.AsmFault.{AsmFault}
use Rattle.rv_asm.specs.declared.place.Place.{Place}
use Rattle.rv_asm.specs.Lines.{Line}
use Rattle.rv_asm.specs.Source.{words_from, Explains}

-- words with others behind them
abbrev pub behind : List ℕ → Result (List ℕ) AsmFault → Result (List ℕ) AsmFault
behind ws (Ok rest) = Ok (ws ++ rest)
behind ws (Err e) = Err e

-- line n makes the old words new ones, whatever lines follow
abbrev pub StepsOver : (List ℕ → Option Place) → ℕ → Line → List ℕ → List ℕ → Type 0
StepsOver labels n l old new =
    (ls : List Line) → behind old (words_from labels n (length old) (l ∷ ls)) ≡ behind new (words_from labels (n + 1) (length new) ls)

-- line n is faulty, where k words stand in front of it, whatever lines follow
abbrev pub StopsAt : (List ℕ → Option Place) → ℕ → ℕ → Line → AsmFault → Type 0
StopsAt labels n k l e = (ls : List Line) → Explains (words_from labels n k (l ∷ ls)) e
