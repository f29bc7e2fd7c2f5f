-- RISC-V unprivileged manual, "Immediate Encoding Variants": which values the fields of each format hold
use Rattle.std.specs.Prelude.{ℕ, ◌%◌, ◌==◌, nat_lt, Bool, ◌&&◌, ℤ, pos, neg_ℤ, int_le, unsigned_abs, Result, Ok, Err, if◌then◌else◌}
use Rattle.rv_table.specs.declared.format.Format.{Format}
use Rattle.rv_table.specs.declared.format.Format.TheVariants.{U, J, I, B, S, ShiftSix, R, ShiftFive, Csr, CsrNumber, Whole}
use Rattle.rv_table.specs.declared.inst.Inst.{Inst}
use Rattle.rv_table.specs.Table.{row_of, word_of}
use Rattle.rv_asm.specs.declared.fault.AsmKind.{AsmKind}
use Rattle.rv_asm.specs.declared.fault.AsmKind.TheVariants.{Range}

-- whether a number is at least -low and at most high
abbrev pub within : ℕ → ℕ → ℤ → Bool
within low high n = int_le (neg_ℤ (pos low)) n && int_le n (pos high)

-- whether a number is even
abbrev pub is_even : ℤ → Bool
is_even n = unsigned_abs n % 2 == 0

-- whether the registers' fields hold these numbers
abbrev pub are_registers : ℕ → ℕ → ℕ → Bool
are_registers a b c = nat_lt a 32 && nat_lt b 32 && nat_lt c 32

-- whether the fields of a format hold an instruction's values; a field that a format lacks holds 0 alone
abbrev pub holds : Format → Inst → Bool
holds U i = are_registers i.rd 0 0 && (i.rs1 == 0 && i.rs2 == 0) && within 0 1048575 i.imm
holds J i = are_registers i.rd 0 0 && (i.rs1 == 0 && i.rs2 == 0) && (within 1048576 1048574 i.imm && is_even i.imm)
holds I i = are_registers i.rd i.rs1 0 && i.rs2 == 0 && within 2048 2047 i.imm
holds B i = are_registers 0 i.rs1 i.rs2 && i.rd == 0 && (within 4096 4094 i.imm && is_even i.imm)
holds S i = are_registers 0 i.rs1 i.rs2 && i.rd == 0 && within 2048 2047 i.imm
holds ShiftSix i = are_registers i.rd i.rs1 0 && i.rs2 == 0 && within 0 63 i.imm
holds R i = are_registers i.rd i.rs1 i.rs2 && within 0 0 i.imm
holds ShiftFive i = are_registers i.rd i.rs1 0 && i.rs2 == 0 && within 0 31 i.imm
holds Csr i = are_registers i.rd i.rs1 0 && i.rs2 == 0 && within 0 4095 i.imm
holds CsrNumber i = are_registers i.rd i.rs1 0 && i.rs2 == 0 && within 0 4095 i.imm
holds Whole i = (i.rd == 0 && i.rs1 == 0 && i.rs2 == 0) && within 0 0 i.imm

-- the word of an instruction, where its row's fields hold its values
abbrev pub encoded : Inst → Result ℕ AsmKind
encoded i = if holds (row_of i.op).format i then Ok (word_of i) else Err Range
