-- Digits that are read from the left, with a limit.
use Rattle.std.proofs.Common.{◌≡◌, ℕ, ◌+◌, ◌*◌, ◌≤◌, ◌<◌, inl, inr, List, [], ◌∷◌, length, true, false, ◌&&◌, min, Option, Some, None, refl, sym, ap, ◌∙◌, arith}
use Rattle.std.proofs.lemmas.Bool.{cases_lt}
use Rattle.std.proofs.Math.Nat.{mul-le-mul_left, mul-le-mul_right}
use Rattle.std.specs.Prelude.{if◌then◌else◌}
use Rattle.std.specs.Char.{digit_value, is_digit}
use Rattle.std.specs.List.{list_all}
use Rattle.std.specs.Str.Parse.{digits_value_after, digits_value}
use Rattle.rv_asm.specs.Numbers.{has_digits}

-- the number v with the digits behind it, at most m
abbrev pub read : ℕ → ℕ → ℕ → List ℕ → Option ℕ
read m radix v [] = Some v
read m radix v (c ∷ cs) = if is_digit c radix then read m radix (min (v * radix + digit_value c) m) cs else None

-- a number that is cut off stays at the limit
min-mul-add : (m r v d : ℕ) → 1 ≤ r → min (min v m * r + d) m ≡ min (v * r + d) m
min-mul-add m r v d one =
    elim (cases_lt m v) [
      | inl above ↦
          let a : m * 1 ≤ m * r = mul-le-mul_left m one in
          let b : m * r ≤ v * r = mul-le-mul_right r (omega arith) in
          let e : min v m ≡ m = omega arith in
          rw e (omega arith)
      | inr below ↦ let e : min v m ≡ v = omega arith in rw e refl
    ]

-- it is the digits' value, at most m
pub read_is : (m radix v : ℕ) (cs : List ℕ) → 1 ≤ radix → read m radix (min v m) cs ≡ (if list_all (λ c. is_digit c radix) cs then Some (min (digits_value_after radix v cs) m) else None)
read_is m radix v [] one = refl
read_is m radix v (c ∷ cs) one =
    elim (is_digit c radix) as (λ b. (if b then read m radix (min (min v m * radix + digit_value c) m) cs else None) ≡ (if b && list_all (λ c. is_digit c radix) cs then Some (min (digits_value_after radix (v * radix + digit_value c) cs) m) else None)) [
      | true ↦ ap (λ n. read m radix n cs) (min-mul-add m radix v (digit_value c) one) ∙ read_is m radix (v * radix + digit_value c) cs one
      | false ↦ refl
    ]

-- a text that isn't empty has digits where all its bytes are
pub has_digits_is : (radix : ℕ) (cs : List ℕ) → 0 < length cs → has_digits radix cs ≡ list_all (λ c. is_digit c radix) cs
has_digits_is radix [] some = absurd (omega arith)
has_digits_is radix (c ∷ cs) some = refl

-- what a text that isn't empty reads as
pub read_all : (m radix : ℕ) (cs : List ℕ) → 1 ≤ radix → 0 < length cs → read m radix 0 cs ≡ (if has_digits radix cs then Some (min (digits_value radix cs) m) else None)
read_all m radix cs one some =
    let e : min 0 m ≡ 0 = omega arith in
    ap (λ v. read m radix v cs) (sym e) ∙ read_is m radix 0 cs one
    ∙ ap (λ b. if b then Some (min (digits_value radix cs) m) else None) (sym (has_digits_is radix cs some))
