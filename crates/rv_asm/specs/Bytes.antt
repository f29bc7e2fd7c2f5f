-- this project's own rule: spaces and tabs are blanks, and a text may be looked at from either end
use Rattle.std.specs.Prelude.{ℕ, ◌==◌, Bool, ◌||◌, List, [], ◌∷◌, reverse, Option, Some, None, if◌then◌else◌}

-- whether a byte is a space or a tab
abbrev pub is_blank : ℕ → Bool
is_blank c = c == 32 || c == 9

-- the text from its first byte that isn't a blank
abbrev pub without_blanks_before : List ℕ → List ℕ
without_blanks_before [] = []
without_blanks_before (c ∷ cs) = if is_blank c then without_blanks_before cs else c ∷ cs

-- the text up to its last byte that isn't a blank
abbrev pub without_blanks_after : List ℕ → List ℕ
without_blanks_after text = reverse (without_blanks_before (reverse text))

-- the text without the blanks at its ends
abbrev pub trimmed : List ℕ → List ℕ
trimmed text = without_blanks_after (without_blanks_before text)

-- what follows the first text in the second, which begins with it
abbrev pub without_front : List ℕ → List ℕ → Option (List ℕ)
without_front [] text = Some text
without_front (p ∷ ps) [] = None
without_front (p ∷ ps) (c ∷ cs) = if c == p then without_front ps cs else None

-- a text that is read backwards, without its first byte where that is c, in its own order
abbrev pub front_of_reversed : ℕ → List ℕ → Option (List ℕ)
front_of_reversed c [] = None
front_of_reversed c (d ∷ ds) = if d == c then Some (reverse ds) else None

-- what stands in front of a text's last byte, where that is c
abbrev pub without_last : ℕ → List ℕ → Option (List ℕ)
without_last c text = front_of_reversed c (reverse text)
