-- this project's own rule: what each operand may be
use Rattle.std.specs.Prelude.{ℕ, ◌-◌, ◌^◌, ◌==◌, nat_lt, drop, min, Bool, List, [], ◌∷◌, ℤ, pos, negsuc, Option, Some, None, Result, Ok, Err, if◌then◌else◌}
use Rattle.std.specs.List.{before_first, position_or_len}
use Rattle.std.specs.Option.{ok_or}
use Rattle.rv_asm.specs.declared.fault.AsmKind.{AsmKind}
use Rattle.rv_asm.specs.declared.fault.AsmKind.TheVariants.{Operand, Range}
use Rattle.rv_asm.specs.Bytes.{without_last}
use Rattle.rv_asm.specs.Names.{register_of, csrs, number_named}
use Rattle.rv_asm.specs.Numbers.{number_of}

-- the second result at the value of the first, or the fault of the first
abbrev pub chain : {A B : Type 0} → Result A AsmKind → (A → Result B AsmKind) → Result B AsmKind
chain (Err k) next = Err k
chain (Ok x) next = next x

-- a register
abbrev pub register : List ℕ → Result ℕ AsmKind
register text = ok_or (register_of text) Operand

-- a number
abbrev pub number : List ℕ → Result ℤ AsmKind
number text = ok_or (number_of text) Operand

-- a number, or the nearest one that is at most m away from 0
abbrev pub capped : ℕ → ℤ → ℤ
capped m (pos n) = pos (min n m)
capped m (negsuc n) = negsuc (min n (m - 1))

-- a number, or the nearest of those that a signed word of 32 bits holds: no field of an instruction holds as much
abbrev pub nearest : ℤ → ℤ
nearest n = capped (2 ^ 31 - 1) n

-- a number as an immediate
abbrev pub immediate_number : List ℕ → Result ℤ AsmKind
immediate_number text = chain (number text) (λ n. Ok (nearest n))

-- a control and status register: a name, or else a number
abbrev pub csr_by_name : Option ℕ → List ℕ → Result ℤ AsmKind
csr_by_name (Some n) text = Ok (pos n)
csr_by_name None text = immediate_number text

-- a control and status register
abbrev pub csr : List ℕ → Result ℤ AsmKind
csr text = csr_by_name (number_named csrs text) text

-- whether a byte is the bracket before a base register
abbrev pub is_open : ℕ → Bool
is_open c = c == 40

-- what stands from the first byte on that passes
abbrev pub from_first : (ℕ → Bool) → List ℕ → List ℕ
from_first p text = drop (position_or_len p text) text

-- a register and a closing bracket
abbrev pub register_before_close : List ℕ → Result ℕ AsmKind
register_before_close text = chain (ok_or (without_last 41 text) Operand) register

-- what follows a text's first byte as a register and a closing bracket
abbrev pub register_in_brackets : List ℕ → Result ℕ AsmKind
register_in_brackets [] = Err Operand
register_in_brackets (c ∷ cs) = register_before_close cs

-- an offset and, from the first opening bracket on, its base register in brackets
abbrev pub address : List ℕ → Result (ℤ × ℕ) AsmKind
address text =
    chain (immediate_number (before_first is_open text)) (λ n.
    chain (register_in_brackets (from_first is_open text)) (λ base. Ok (n, base)))

-- a number in the place of rs1
abbrev pub five_bits : ℤ → Result ℕ AsmKind
five_bits (pos n) = if nat_lt n 32 then Ok n else Err Range
five_bits _ = Err Range

-- one operand
abbrev pub one : List (List ℕ) → Result (List ℕ) AsmKind
one (a ∷ []) = Ok a
one _ = Err Operand

-- two operands
abbrev pub two : List (List ℕ) → Result (List ℕ × List ℕ) AsmKind
two (a ∷ b ∷ []) = Ok (a, b)
two _ = Err Operand

-- three operands
abbrev pub three : List (List ℕ) → Result (List ℕ × List ℕ × List ℕ) AsmKind
three (a ∷ b ∷ c ∷ []) = Ok (a, b, c)
three _ = Err Operand
