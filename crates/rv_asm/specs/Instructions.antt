-- this project's own rule: the operands of each form, and the instruction that they give, before it is asked whether its
-- fields hold its values
use Rattle.std.specs.Prelude.{ℕ, List, [], pos, Result, Ok, Err}
use Rattle.rv_table.specs.declared.inst.Inst.{Inst}
use Rattle.rv_table.specs.declared.op.Op.{Op}
use Rattle.rv_table.specs.Fields.{inst_of}
use Rattle.rv_asm.specs.declared.fault.AsmKind.{AsmKind}
use Rattle.rv_asm.specs.declared.fault.AsmKind.TheVariants.{Operand}
use Rattle.rv_asm.specs.declared.form.Form.{Form}
use Rattle.rv_asm.specs.declared.form.Form.TheVariants.{Upper, Jump, Load, Immediate, Branch, Store, Registers, CsrRegister, CsrImmediate, Alone}
use Rattle.rv_asm.specs.Forms.{alone_immediate}
use Rattle.rv_asm.specs.Operands.{chain, register, csr, immediate_number, address, five_bits, two, three}
use Rattle.rv_asm.specs.Targets.{Scope, target}

-- rd, n
abbrev pub upper : Op → List (List ℕ) → Result Inst AsmKind
upper o operands =
    chain (two operands) (λ p.
    chain (register p.0) (λ rd.
    chain (immediate_number p.1) (λ imm. Ok (inst_of o rd 0 0 imm))))

-- rd, target
abbrev pub jump : Scope → Op → List (List ℕ) → Result Inst AsmKind
jump s o operands =
    chain (two operands) (λ p.
    chain (register p.0) (λ rd.
    chain (target s p.1) (λ imm. Ok (inst_of o rd 0 0 imm))))

-- rd, n(rs1)
abbrev pub load : Op → List (List ℕ) → Result Inst AsmKind
load o operands =
    chain (two operands) (λ p.
    chain (register p.0) (λ rd.
    chain (address p.1) (λ a. Ok (inst_of o rd a.1 0 a.0))))

-- rd, rs1, n
abbrev pub immediate : Op → List (List ℕ) → Result Inst AsmKind
immediate o operands =
    chain (three operands) (λ p.
    chain (register p.0) (λ rd.
    chain (register p.1) (λ rs1.
    chain (immediate_number p.2) (λ imm. Ok (inst_of o rd rs1 0 imm)))))

-- rs1, rs2, target
abbrev pub branch : Scope → Op → List (List ℕ) → Result Inst AsmKind
branch s o operands =
    chain (three operands) (λ p.
    chain (register p.0) (λ rs1.
    chain (register p.1) (λ rs2.
    chain (target s p.2) (λ imm. Ok (inst_of o 0 rs1 rs2 imm)))))

-- rs2, n(rs1)
abbrev pub store : Op → List (List ℕ) → Result Inst AsmKind
store o operands =
    chain (two operands) (λ p.
    chain (register p.0) (λ rs2.
    chain (address p.1) (λ a. Ok (inst_of o 0 a.1 rs2 a.0))))

-- rd, rs1, rs2
abbrev pub three_registers : Op → List (List ℕ) → Result Inst AsmKind
three_registers o operands =
    chain (three operands) (λ p.
    chain (register p.0) (λ rd.
    chain (register p.1) (λ rs1.
    chain (register p.2) (λ rs2. Ok (inst_of o rd rs1 rs2 (pos 0))))))

-- rd, csr, rs1
abbrev pub csr_register : Op → List (List ℕ) → Result Inst AsmKind
csr_register o operands =
    chain (three operands) (λ p.
    chain (register p.0) (λ rd.
    chain (csr p.1) (λ imm.
    chain (register p.2) (λ rs1. Ok (inst_of o rd rs1 0 imm)))))

-- rd, csr, n
abbrev pub csr_immediate : Op → List (List ℕ) → Result Inst AsmKind
csr_immediate o operands =
    chain (three operands) (λ p.
    chain (register p.0) (λ rd.
    chain (csr p.1) (λ imm.
    chain (immediate_number p.2) (λ n.
    chain (five_bits n) (λ rs1. Ok (inst_of o rd rs1 0 imm))))))

-- no operand
abbrev pub alone : Op → List (List ℕ) → Result Inst AsmKind
alone o [] = Ok (inst_of o 0 0 0 (alone_immediate o))
alone o _ = Err Operand

-- the instruction of an operation and operands in a form
abbrev pub fields_in : Form → Scope → Op → List (List ℕ) → Result Inst AsmKind
fields_in Upper s o operands = upper o operands
fields_in Jump s o operands = jump s o operands
fields_in Load s o operands = load o operands
fields_in Immediate s o operands = immediate o operands
fields_in Branch s o operands = branch s o operands
fields_in Store s o operands = store o operands
fields_in Registers s o operands = three_registers o operands
fields_in CsrRegister s o operands = csr_register o operands
fields_in CsrImmediate s o operands = csr_immediate o operands
fields_in Alone s o operands = alone o operands
