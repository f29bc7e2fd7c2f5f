-- Operands that are printed read back, and are tokens.
use Rattle.std.proofs.Common.{◌≡◌, ℕ, zero, suc, ◌-◌, ◌^◌, ◌<◌, ◌≤◌, List, [], ◌∷◌, ◌++◌, length, drop, min, Bool, true, false, not, ◌&&◌, ◌||◌, eqb, ltb, ℤ, pos, negsuc, neg_ℤ, Option, Some, None, Ok, Err, refl, ap, ◌∙◌, subst, inl, inr, arith, decimal}
use Rattle.std.proofs.lemmas.Bool.{and_parts, cases_lt, eqb-true, ltb-true, lt-ltb}
use Rattle.std.proofs.lemmas.Bool.Decides.{nat_tests}
use Rattle.std.proofs.lemmas.Fmt.{decimal_is_IsNumeral}
use Rattle.std.proofs.lemmas.Int.{ints}
use Rattle.std.proofs.lemmas.List.{length-append, reverse-append, reverse-reverse, drop_at}
use Rattle.std.specs.Char.{is_digit}
use Rattle.std.specs.Fmt.{digits, signed_decimal}
use Rattle.std.specs.List.{list_all}
use Rattle.std.specs.Option.{ok_or, unwrap_or}
use Rattle.std.specs.Prelude.{if◌then◌else◌}
use Rattle.rv_table.specs.Fields.{Between}
use Rattle.rv_asm.specs.declared.fault.AsmKind.TheVariants.{Operand, Range}
use Rattle.rv_asm.specs.Bytes.{front_of_reversed}
use Rattle.rv_asm.specs.Disassembly.{hexadecimal_text, csr_text, target_text, address_text}
use Rattle.rv_asm.specs.Names.{register_name, register_of, number_named, name_numbered, csrs}
use Rattle.rv_asm.specs.Numbers.{number_of}
use Rattle.rv_asm.specs.Operands.{chain, register, nearest, immediate_number, csr, csr_by_name, is_open, from_first, register_before_close, register_in_brackets, address, five_bits}
use Rattle.rv_asm.specs.Targets.{Scope, target}
use Rattle.rv_asm.proofs.ReadBack.{Small, digits_pass, signed_again, signed_token, decimal_token, hexadecimal_again, hexadecimal_token}
use Rattle.rv_asm.proofs.Tokens.{is_plain, Token, none_pass, list_all-append, list_all-weaker, before_at, first_at}

-- ---- registers

-- what holds of each number below n
abbrev all_below : ℕ → (ℕ → Bool) → Bool
all_below zero p = true
all_below (suc n) p = p n && all_below n p

at_below : (n k : ℕ) (p : ℕ → Bool) → all_below n p ≡ true → k < n → p k ≡ true
at_below zero k p h lt = absurd (omega arith)
at_below (suc n) k p h lt =
    let both = and_parts (p n) (all_below n p) h in
    elim (cases_lt k n) [
      | inl less ↦ at_below n k p both.1 less
      | inr not ↦ let e : n ≡ k = omega arith in subst (λ m. p m ≡ true) e both.0
    ]

-- whether an answer is this number
abbrev pub is_number : ℕ → Option ℕ → Bool
is_number n None = false
is_number n (Some k) = eqb k n

pub number_is : (n : ℕ) (o : Option ℕ) → is_number n o ≡ true → o ≡ Some n
number_is n None h = absurd (cc)
number_is n (Some k) h = ap Some (eqb-true k n h)

-- each register's name by number
registers_read : all_below 32 (λ n. is_number n (register_of (register_name n)) && list_all is_plain (register_name n)) ≡ true
unfolding digits
registers_read = refl

register_facts : (n : ℕ) → n < 32 → (is_number n (register_of (register_name n)) ≡ true) × (list_all is_plain (register_name n) ≡ true)
register_facts n lt =
    and_parts (is_number n (register_of (register_name n))) (list_all is_plain (register_name n))
    (at_below 32 n (λ k. is_number k (register_of (register_name k)) && list_all is_plain (register_name k)) registers_read lt)

pub register_of-name : (n : ℕ) → n < 32 → register_of (register_name n) ≡ Some n
register_of-name n lt = number_is n (register_of (register_name n)) (register_facts n lt).0

pub register_again : (n : ℕ) → n < 32 → register (register_name n) ≡ Ok n
register_again n lt = ap (λ o. ok_or o Operand) (register_of-name n lt)

pub register_token : (n : ℕ) → n < 32 → Token (register_name n)
register_token n lt = record { some = omega arith; plain = (register_facts n lt).1 }

-- ---- numbers

-- a small number is the nearest
nearest_small : (z : ℤ) → Small z → nearest z ≡ z
nearest_small (pos n) small = let e : min n (2 ^ 31 - 1) ≡ n = omega arith in ap pos e
nearest_small (negsuc n) small = let e : min n (2 ^ 31 - 1 - 1) ≡ n = omega arith in ap negsuc e

-- a range of a field holds small numbers
pub small_between : (low high : ℕ) (z : ℤ) → low ≤ 2 ^ 21 → high ≤ 2 ^ 21 → Between low high z → Small z
small_between low high (pos n) l h b = omega (arith, ints)
small_between low high (negsuc n) l h b = omega (arith, ints)

immediate_is : (t : List ℕ) (z : ℤ) → number_of t ≡ Some z → Small z → immediate_number t ≡ Ok z
immediate_is t z e small = ap (λ o. chain (ok_or o Operand) (λ n. Ok (nearest n))) e ∙ ap Ok (nearest_small z small)

pub immediate_again : (z : ℤ) → Small z → immediate_number (signed_decimal z) ≡ Ok z
immediate_again z small = immediate_is (signed_decimal z) z (signed_again z small) small

pub upper_again : (n : ℕ) → n < 2 ^ 21 → immediate_number (hexadecimal_text n) ≡ Ok (pos n)
upper_again n lt = immediate_is (hexadecimal_text n) (pos n) (hexadecimal_again n (omega arith)) (omega arith)

-- ---- control and status registers

-- whether a line of a table is what its name stands for
abbrev is_first : List ℕ × ℕ → Bool
is_first e = is_number e.1 (number_named csrs e.0) && (list_all is_plain e.0 && ltb 0 (length e.0))

csrs_first : list_all is_first csrs ≡ true
csrs_first = refl

-- a name that is found stands in the table
named_first : (es : List (List ℕ × ℕ)) (n : ℕ) (name : List ℕ) → list_all is_first es ≡ true → name_numbered es n ≡ Some name → is_first (name, n) ≡ true
named_first [] n name h e = absurd (cc)
named_first (x ∷ xs) n name h e =
    let both = and_parts (is_first x) (list_all is_first xs) h in
    elim (eqb x.1 n) as (λ b. eqb x.1 n ≡ b → (if b then Some x.0 else name_numbered xs n) ≡ Some name → is_first (name, n) ≡ true) [
      | true ↦ λ t f.
          let name_is : x.0 ≡ name = cc in
          let number_is : x.1 ≡ n = eqb-true x.1 n t in
          subst (λ (y : List ℕ). is_first (y, n) ≡ true) name_is (subst (λ (k : ℕ). is_first (x.0, k) ≡ true) number_is both.0)
      | false ↦ λ t f. named_first xs n name both.1 f
    ] refl e

-- no name begins with a digit
unnamed : (t : List ℕ) → number_named csrs (48 ∷ t) ≡ None
unnamed t = refl

csr_by_text : (n : ℕ) (o : Option (List ℕ)) → n < 2 ^ 12 → name_numbered csrs n ≡ o → csr (unwrap_or o (hexadecimal_text n)) ≡ Ok (pos n)
csr_by_text n None lt e = upper_again n (omega arith)
csr_by_text n (Some name) lt e =
    let first = named_first csrs n name csrs_first e in
    let parts = and_parts (is_number n (number_named csrs name)) (list_all is_plain name && ltb 0 (length name)) first in
    ap (λ o. csr_by_name o name) (number_is n (number_named csrs name) parts.0)

pub csr_again : (n : ℕ) → n < 2 ^ 12 → csr (csr_text n) ≡ Ok (pos n)
csr_again n lt = csr_by_text n (name_numbered csrs n) lt refl

csr_text_token : (n : ℕ) (o : Option (List ℕ)) → n < 2 ^ 12 → name_numbered csrs n ≡ o → Token (unwrap_or o (hexadecimal_text n))
csr_text_token n None lt e = hexadecimal_token n (omega arith)
csr_text_token n (Some name) lt e =
    let first = named_first csrs n name csrs_first e in
    let parts = and_parts (is_number n (number_named csrs name)) (list_all is_plain name && ltb 0 (length name)) first in
    let more = and_parts (list_all is_plain name) (ltb 0 (length name)) parts.1 in
    record { some = ltb-true 0 (length name) more.1; plain = more.0 }

pub csr_token : (n : ℕ) → n < 2 ^ 12 → Token (csr_text n)
csr_token n lt = csr_text_token n (name_numbered csrs n) lt refl

-- ---- addresses

-- whether a byte may stand in a number with a sign
abbrev is_signed : ℕ → Bool
is_signed c = is_digit c 10 || eqb c 45

not_open : (c : ℕ) → is_signed c ≡ true → is_open c ≡ false
not_open c h = grind (arith, nat_tests)

digit_signed : (c : ℕ) → is_digit c 10 ≡ true → is_signed c ≡ true
digit_signed c h = rw h refl

decimal_signed : (n : ℕ) → n < 2 ^ 64 → list_all is_signed (decimal n) ≡ true
decimal_signed n h = list_all-weaker (λ c. is_digit c 10) is_signed digit_signed (decimal n) (digits_pass 10 (decimal n) (decimal_is_IsNumeral n h).0.1)

signed_signed : (z : ℤ) → Small z → list_all is_signed (signed_decimal z) ≡ true
signed_signed (pos n) small = decimal_signed n (omega arith)
signed_signed (negsuc n) small = decimal_signed (suc n) (omega arith)

-- a register in brackets
brackets_again : (base : ℕ) → base < 32 → register_before_close (register_name base ++ 41 ∷ []) ≡ Ok base
brackets_again base lt =
    ap (λ r. chain (ok_or (front_of_reversed 41 r) Operand) register) (reverse-append (register_name base) (41 ∷ []))
    ∙ ap register (reverse-reverse (register_name base))
    ∙ register_again base lt

-- an offset and a register
pub address_again : (z : ℤ) (base : ℕ) → Small z → base < 32 → address (address_text z base) ≡ Ok (z, base)
address_again z base small lt =
    let rest : List ℕ = register_name base ++ 41 ∷ [] in
    let none = none_pass is_signed is_open not_open (signed_decimal z) (signed_signed z small) in
    ap (λ t. chain (immediate_number t) (λ n. chain (register_in_brackets (from_first is_open (address_text z base))) (λ b. Ok (n, b)))) (before_at is_open (signed_decimal z) 40 rest none refl)
    ∙ ap (λ r. chain r (λ n. chain (register_in_brackets (from_first is_open (address_text z base))) (λ b. Ok (n, b)))) (immediate_again z small)
    ∙ ap (λ k. chain (register_in_brackets (drop k (address_text z base))) (λ b. Ok (z, b))) (first_at is_open (signed_decimal z) 40 rest none refl)
    ∙ ap (λ t. chain (register_in_brackets t) (λ b. Ok (z, b))) (drop_at (signed_decimal z) (40 ∷ rest) (length (signed_decimal z)) refl)
    ∙ ap (λ r. chain r (λ b. Ok (z, b))) (brackets_again base lt)

pub address_token : (z : ℤ) (base : ℕ) → Small z → base < 32 → Token (address_text z base)
address_token z base small lt =
    let offset = signed_token z small in
    let name = register_token base lt in
    record {
      some = omega (arith, offset.some, length-append (signed_decimal z) (40 ∷ (register_name base ++ 41 ∷ [])));
      plain = list_all-append is_plain (signed_decimal z) (40 ∷ (register_name base ++ 41 ∷ [])) offset.plain
          (list_all-append is_plain (register_name base) (41 ∷ []) name.plain refl);
    }

-- ---- targets

pub target_again : (s : Scope) (z : ℤ) → Small z → target s (target_text z) ≡ Ok z
target_again s (pos n) small = immediate_again (pos n) small
target_again s (negsuc n) small = ap (λ r. chain r (λ k. Ok (neg_ℤ k))) (immediate_again (pos (suc n)) (omega arith))

pub target_token : (z : ℤ) → Small z → Token (target_text z)
target_token (pos n) small = let digits = decimal_token n (omega arith) in record { some = omega arith; plain = digits.plain }
target_token (negsuc n) small = let digits = decimal_token (suc n) (omega arith) in record { some = omega arith; plain = digits.plain }

-- ---- numbers in the place of rs1

pub five_again : (n : ℕ) → n < 32 → five_bits (pos n) ≡ Ok n
five_again n lt = ap (λ b. if b then Ok n else Err Range) (lt-ltb n 32 lt)
