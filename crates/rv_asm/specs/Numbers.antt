-- this project's own rule: decimal numbers without leading zeros, with an optional minus sign, and hexadecimal ones
-- behind 0x, with digits in either case and as many leading zeros as one likes
use Rattle.std.specs.Prelude.{ℕ, ◌==◌, Bool, true, false, not, ◌&&◌, List, [], ◌∷◌, ℤ, pos, neg_ℤ, Option, Some, None, if◌then◌else◌, codes}
use Rattle.std.specs.Char.{is_digit}
use Rattle.std.specs.List.{list_all}
use Rattle.std.specs.Option.{option_map}
use Rattle.std.specs.Str.Parse.{digits_value}
use Rattle.rv_asm.specs.Bytes.{without_front}

-- whether a text has no byte
abbrev pub is_empty : List ℕ → Bool
is_empty [] = true
is_empty (c ∷ cs) = false

-- whether a text is one digit of the radix or more
abbrev pub has_digits : ℕ → List ℕ → Bool
has_digits radix text = not (is_empty text) && list_all (λ c. is_digit c radix) text

-- whether a zero stands in front of more
abbrev pub has_leading_zero : List ℕ → Bool
has_leading_zero [] = false
has_leading_zero (c ∷ cs) = c == 48 && not (is_empty cs)

-- the number that a text spells in hexadecimal
abbrev pub hexadecimal_number : List ℕ → Option ℕ
hexadecimal_number text = if has_digits 16 text then Some (digits_value 16 text) else None

-- the number that a text spells in decimal
abbrev pub decimal_number : List ℕ → Option ℕ
decimal_number text = if has_digits 10 text && not (has_leading_zero text) then Some (digits_value 10 text) else None

-- the number of a text that doesn't begin with 0x: what follows a minus sign where it begins with one
abbrev pub signed_number : Option (List ℕ) → List ℕ → Option ℤ
signed_number (Some size) text = option_map (λ n. neg_ℤ (pos n)) (decimal_number size)
signed_number None text = option_map pos (decimal_number text)

-- the number of a text, by what follows 0x where it begins with that
abbrev pub number_after : Option (List ℕ) → List ℕ → Option ℤ
number_after (Some digits) text = option_map pos (hexadecimal_number digits)
number_after None text = signed_number (without_front (codes "-") text) text

-- the number that a text spells
abbrev pub number_of : List ℕ → Option ℤ
number_of text = number_after (without_front (codes "0x") text) text
