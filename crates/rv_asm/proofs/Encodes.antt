-- The test of an instruction's fields says what the table says of them.
use Rattle.std.proofs.Common.{◌≡◌, ℕ, true, ℤ, pos, Option, Some, None, Ok, SomeIff, Decides, arith, ap, refl}
use Rattle.std.proofs.lemmas.Bool.Decides.{nat_tests}
use Rattle.std.proofs.lemmas.Bool.{false_from_ne_true}
use Rattle.std.proofs.lemmas.Int.{ints}
use Rattle.std.specs.Option.{ok_or}
use Rattle.rv_table.specs.declared.format.Format.{Format}
use Rattle.rv_table.specs.declared.format.Format.TheVariants.{U, J, I, B, S, ShiftSix, R, ShiftFive, Csr, CsrNumber, Whole}
use Rattle.rv_table.specs.declared.inst.Inst.{Inst}
use Rattle.rv_table.specs.Fields.{Between, HasFields}
use Rattle.rv_table.specs.Table.{row_of, IsEncodable, word_of}
use Rattle.rv_asm.specs.declared.fault.AsmKind.TheVariants.{Range}
use Rattle.rv_asm.specs.Ranges.{within, holds, encoded}

-- a range
pub Decides-within : (low high : ℕ) (n : ℤ) → Decides (within low high n) (Between low high n)
Decides-within low high n = (λ t. grind (arith, ints, nat_tests), λ h. grind (arith, ints, nat_tests))

-- 0 alone
within_zero : (n : ℤ) → Decides (within 0 0 n) (n ≡ pos 0)
within_zero n = (λ t. grind (arith, ints, nat_tests), λ h. rw h refl)

-- what the test says, one format after another
fits : (f : Format) (i : Inst) → holds f i ≡ true → HasFields f i
fits U i t = grind (arith, nat_tests, (Decides-within 0 1048575 i.imm).0)
fits J i t = grind (arith, nat_tests, (Decides-within 1048576 1048574 i.imm).0)
fits I i t = grind (arith, nat_tests, (Decides-within 2048 2047 i.imm).0)
fits B i t = grind (arith, nat_tests, (Decides-within 4096 4094 i.imm).0)
fits S i t = grind (arith, nat_tests, (Decides-within 2048 2047 i.imm).0)
fits ShiftSix i t = grind (arith, nat_tests, (Decides-within 0 63 i.imm).0)
fits R i t = grind (arith, nat_tests, (within_zero i.imm).0)
fits ShiftFive i t = grind (arith, nat_tests, (Decides-within 0 31 i.imm).0)
fits Csr i t = grind (arith, nat_tests, (Decides-within 0 4095 i.imm).0)
fits CsrNumber i t = grind (arith, nat_tests, (Decides-within 0 4095 i.imm).0)
fits Whole i t = grind (arith, nat_tests, (within_zero i.imm).0)

-- and when it says so
pub holds_fitting : (f : Format) (i : Inst) → HasFields f i → holds f i ≡ true
holds_fitting U i h = grind (arith, nat_tests, (Decides-within 0 1048575 i.imm).1)
holds_fitting J i h = grind (arith, nat_tests, (Decides-within 1048576 1048574 i.imm).1)
holds_fitting I i h = grind (arith, nat_tests, (Decides-within 2048 2047 i.imm).1)
holds_fitting B i h = grind (arith, nat_tests, (Decides-within 4096 4094 i.imm).1)
holds_fitting S i h = grind (arith, nat_tests, (Decides-within 2048 2047 i.imm).1)
holds_fitting ShiftSix i h = grind (arith, nat_tests, (Decides-within 0 63 i.imm).1)
holds_fitting R i h = grind (arith, nat_tests, (within_zero i.imm).1)
holds_fitting ShiftFive i h = grind (arith, nat_tests, (Decides-within 0 31 i.imm).1)
holds_fitting Csr i h = grind (arith, nat_tests, (Decides-within 0 4095 i.imm).1)
holds_fitting CsrNumber i h = grind (arith, nat_tests, (Decides-within 0 4095 i.imm).1)
holds_fitting Whole i h = grind (arith, nat_tests, (within_zero i.imm).1)

-- what `encode` answers
pub encoded_is : (i : Inst) (r : Option ℕ) → SomeIff r (IsEncodable i) (word_of i) → ok_or r Range ≡ encoded i
unfolding IsEncodable
encoded_is i (Some w) h = rw (holds_fitting (row_of i.op).format i h.0) (ap Ok h.1)
encoded_is i None h = rw (false_from_ne_true (holds (row_of i.op).format i) (λ t. h (fits (row_of i.op).format i t))) refl
