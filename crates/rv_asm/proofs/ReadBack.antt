-- Numbers that are printed read back, and are tokens.
use Rattle.std.proofs.Common.{◌≡◌, ℕ, zero, suc, ◌-◌, ◌^◌, ◌<◌, ◌≤◌, List, [], ◌∷◌, ◌++◌, length, get_or, replicate, true, false, not, ◌&&◌, eqb, ℤ, pos, negsuc, neg_ℤ, Some, None, refl, ap, ◌∙◌, inl, inr, arith, decimal}
use Rattle.std.proofs.lemmas.Bool.{and_parts, cases_eq, lt-ltb, false_from_ne_true, eqb-true}
use Rattle.std.proofs.lemmas.Bool.Decides.{nat_tests}
use Rattle.std.proofs.lemmas.List.{length-append}
use Rattle.std.proofs.lemmas.Fmt.{decimal_is_IsNumeral, decimal_digit, first_decimal, digits_is_IsNumeral}
use Rattle.std.specs.Char.{digit_value, is_digit}
use Rattle.std.specs.Fmt.{digits, signed_decimal}
use Rattle.std.specs.List.{list_all}
use Rattle.std.specs.Option.{option_map}
use Rattle.std.specs.Prelude.{if◌then◌else◌, codes}
use Rattle.std.specs.Str.Parse.{AllDigits, digits_value, IsNumeral}
use Rattle.rv_asm.specs.Bytes.{without_front}
use Rattle.rv_asm.specs.Disassembly.{hexadecimal_text, eight_digits}
use Rattle.rv_asm.specs.Numbers.{is_empty, has_digits, has_leading_zero, decimal_number, signed_number, number_after, number_of}
use Rattle.rv_asm.proofs.Tokens.{is_plain, Token, list_all-weaker}

-- ---- digits

-- std's digits as a test
pub digits_pass : (radix : ℕ) (t : List ℕ) → AllDigits radix t → list_all (λ c. is_digit c radix) t ≡ true
digits_pass radix [] h = refl
digits_pass radix (c ∷ cs) h = rw (lt-ltb (digit_value c) radix h.0) (digits_pass radix cs h.1)

numeral_has_digits : (radix : ℕ) (t : List ℕ) → IsNumeral radix t → has_digits radix t ≡ true
numeral_has_digits radix [] h = absurd (omega (arith, h.0))
numeral_has_digits radix (c ∷ cs) h = digits_pass radix (c ∷ cs) h.1

-- digits up to f are plain
digit_plain : (c : ℕ) → is_digit c 16 ≡ true → is_plain c ≡ true
digit_plain c h = grind (arith, nat_tests)

smaller_digit : (c radix : ℕ) → radix ≤ 16 → is_digit c radix ≡ true → is_digit c 16 ≡ true
smaller_digit c radix le h = grind (arith, nat_tests)

numeral_token : (radix : ℕ) (t : List ℕ) → radix ≤ 16 → IsNumeral radix t → Token t
numeral_token radix t le h = record {
  some = h.0;
  plain = list_all-weaker (λ c. is_digit c radix) is_plain (λ c d. digit_plain c (smaller_digit c radix le d)) t (digits_pass radix t h.1);
}

-- ---- decimals

-- a digit is no other byte
digit_apart : (c k : ℕ) → is_digit c 10 ≡ true → is_digit k 10 ≡ false → eqb c k ≡ false
digit_apart c k h n = false_from_ne_true (eqb c k) (λ e. let same : c ≡ k = eqb-true c k e in absurd (cc (ap (λ x. is_digit x 10) same)))

-- a decimal doesn't begin with 0x or a minus sign
no_sign : (t : List ℕ) → list_all (λ c. is_digit c 10) t ≡ true → without_front (codes "-") t ≡ None
no_sign [] h = refl
no_sign (c ∷ cs) h =
    ap (λ b. if b then Some cs else None) (digit_apart c 45 (and_parts (is_digit c 10) (list_all (λ x. is_digit x 10) cs) h).0 refl)

no_prefix : (t : List ℕ) → list_all (λ c. is_digit c 10) t ≡ true → without_front (codes "0x") t ≡ None
no_prefix [] h = refl
no_prefix (c ∷ []) h = elim (eqb c 48) as (λ b. (if b then without_front (codes "x") [] else None) ≡ None) [ true ↦ refl | false ↦ refl ]
no_prefix (c ∷ d ∷ cs) h =
    let rest = (and_parts (is_digit c 10) (list_all (λ x. is_digit x 10) (d ∷ cs)) h).1 in
    let x = digit_apart d 120 (and_parts (is_digit d 10) (list_all (λ x. is_digit x 10) cs) rest).0 refl in
    let none : without_front (codes "x") (d ∷ cs) ≡ None = ap (λ b. if b then Some cs else None) x in
    elim (eqb c 48) as (λ b. (if b then without_front (codes "x") (d ∷ cs) else None) ≡ None) [ true ↦ none | false ↦ refl ]

-- nor with a zero in front of more
zero_first : (t : List ℕ) → 48 < get_or t 0 0 → has_leading_zero t ≡ false
zero_first [] h = refl
zero_first (c ∷ cs) h =
    let e : eqb c 48 ≡ false = grind (arith, nat_tests) in
    ap (λ b. b && not (is_empty cs)) e

no_zero : (n : ℕ) → n < 2 ^ 64 → has_leading_zero (decimal n) ≡ false
no_zero n h =
    elim (cases_eq n 0) [
      | inl is ↦ ap (λ k. has_leading_zero (decimal k)) is ∙ ap has_leading_zero (decimal_digit 0 (omega arith))
      | inr not ↦ zero_first (decimal n) (first_decimal n (omega arith) h)
    ]

-- digits without a leading zero as a number
digits_number : (t : List ℕ) → has_digits 10 t ≡ true → has_leading_zero t ≡ false → decimal_number t ≡ Some (digits_value 10 t)
digits_number t h k =
    ap (λ b. if b && not (has_leading_zero t) then Some (digits_value 10 t) else None) h
    ∙ ap (λ b. if not b then Some (digits_value 10 t) else None) k

-- a decimal as a number
decimal_again : (n : ℕ) → n < 2 ^ 64 → decimal_number (decimal n) ≡ Some n
decimal_again n h =
    let numeral = decimal_is_IsNumeral n h in
    digits_number (decimal n) (numeral_has_digits 10 (decimal n) numeral.0) (no_zero n h) ∙ ap Some numeral.1

pub decimal_token : (n : ℕ) → n < 2 ^ 64 → Token (decimal n)
decimal_token n h = numeral_token 10 (decimal n) (omega arith) (decimal_is_IsNumeral n h).0

-- ---- numbers with a sign

-- a number that a word of 32 bits holds
abbrev pub Small : ℤ → Type 0
Small (pos n) = n < 2 ^ 31 - 1
Small (negsuc n) = n < 2 ^ 31 - 2

pub signed_again : (z : ℤ) → Small z → number_of (signed_decimal z) ≡ Some z
signed_again (pos n) small =
    let h : n < 2 ^ 64 = omega arith in
    let all = digits_pass 10 (decimal n) (decimal_is_IsNumeral n h).0.1 in
    ap (λ o. number_after o (decimal n)) (no_prefix (decimal n) all)
    ∙ ap (λ o. signed_number o (decimal n)) (no_sign (decimal n) all)
    ∙ ap (option_map pos) (decimal_again n h)
signed_again (negsuc n) small = ap (option_map (λ k. neg_ℤ (pos k))) (decimal_again (suc n) (omega arith))

pub signed_token : (z : ℤ) → Small z → Token (signed_decimal z)
signed_token (pos n) small = decimal_token n (omega arith)
signed_token (negsuc n) small =
    let digits = decimal_token (suc n) (omega arith) in
    record { some = omega arith; plain = digits.plain }

-- ---- hexadecimal numbers

pub hexadecimal_again : (n : ℕ) → n < 2 ^ 64 → number_of (hexadecimal_text n) ≡ Some (pos n)
hexadecimal_again n h =
    let numeral = digits_is_IsNumeral 16 false (omega arith) (omega arith) n (omega arith) in
    ap (λ b. option_map pos (if b then Some (digits_value 16 (digits 16 false n)) else None)) (numeral_has_digits 16 (digits 16 false n) numeral.0)
    ∙ ap (λ k. Some (pos k)) numeral.1

pub hexadecimal_token : (n : ℕ) → n < 2 ^ 64 → Token (hexadecimal_text n)
hexadecimal_token n h =
    let digits = numeral_token 16 (digits 16 false n) (omega arith) (digits_is_IsNumeral 16 false (omega arith) (omega arith) n (omega arith)).0 in
    record { some = omega arith; plain = digits.plain }

-- ---- words in eight digits

zeros_value : (k : ℕ) (t : List ℕ) → digits_value 16 (replicate k 48 ++ t) ≡ digits_value 16 t
zeros_value zero t = refl
zeros_value (suc k) t = zeros_value k t

zeros_digits : (k : ℕ) (t : List ℕ) → AllDigits 16 t → AllDigits 16 (replicate k 48 ++ t)
zeros_digits zero t h = h
zeros_digits (suc k) t h = (omega arith, zeros_digits k t h)

eight_numeral : (n : ℕ) → n < 2 ^ 64 → IsNumeral 16 (eight_digits n)
eight_numeral n h =
    let numeral = digits_is_IsNumeral 16 false (omega arith) (omega arith) n (omega arith) in
    (omega (arith, numeral.0.0, length-append (replicate (8 - length (digits 16 false n)) 48) (digits 16 false n)), zeros_digits (8 - length (digits 16 false n)) (digits 16 false n) numeral.0.1)

pub eight_again : (n : ℕ) → n < 2 ^ 64 → number_of (codes "0x" ++ eight_digits n) ≡ Some (pos n)
eight_again n h =
    let numeral = digits_is_IsNumeral 16 false (omega arith) (omega arith) n (omega arith) in
    ap (λ b. option_map pos (if b then Some (digits_value 16 (eight_digits n)) else None)) (numeral_has_digits 16 (eight_digits n) (eight_numeral n h))
    ∙ ap (λ k. Some (pos k)) (zeros_value (8 - length (digits 16 false n)) (digits 16 false n) ∙ numeral.1)

pub eight_token : (n : ℕ) → n < 2 ^ 64 → Token (codes "0x" ++ eight_digits n)
eight_token n h =
    let digits = numeral_token 16 (eight_digits n) (omega arith) (eight_numeral n h) in
    record { some = omega arith; plain = digits.plain }
