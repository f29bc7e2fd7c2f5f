-- RISC-V assembly programmer's manual: how an instruction's operands are written, by the format of its row. Loads, stores
-- and jalr write an offset in front of the register in brackets; fence and fence.i stand alone.
use Rattle.std.specs.Prelude.{ℕ, ◌%◌, ◌^◌, ◌==◌, ◌||◌, ℤ, pos, if◌then◌else◌}
use Rattle.rv_table.specs.declared.format.Format.{Format}
use Rattle.rv_table.specs.declared.format.Format.TheVariants.{U, J, I, B, S, ShiftSix, R, ShiftFive, Csr, CsrNumber, Whole}
use Rattle.rv_table.specs.declared.op.Op.{Op}
use Rattle.rv_table.specs.declared.op.Op.TheVariants.{Fence}
use Rattle.rv_table.specs.declared.rows.Row.{Row}
use Rattle.rv_table.specs.Table.{row_of}
use Rattle.rv_asm.specs.declared.form.Form.{Form}
use Rattle.rv_asm.specs.declared.form.Form.TheVariants.{Upper, Jump, Load, Immediate, Branch, Store, Registers, CsrRegister, CsrImmediate, Alone}

-- the form of a row of format I, by its opcode: LOAD and JALR, MISC-MEM, or another
abbrev pub immediate_form : ℕ → Form
immediate_form opcode = if opcode == 0x03 || opcode == 0x67 then Load else (if opcode == 0x0f then Alone else Immediate)

-- the form of a row with this format and opcode
abbrev pub form_in : Format → ℕ → Form
form_in U opcode = Upper
form_in J opcode = Jump
form_in I opcode = immediate_form opcode
form_in B opcode = Branch
form_in S opcode = Store
form_in ShiftSix opcode = Immediate
form_in R opcode = Registers
form_in ShiftFive opcode = Immediate
form_in Csr opcode = CsrRegister
form_in CsrNumber opcode = CsrImmediate
form_in Whole opcode = Alone

-- the form of a row
abbrev pub form_of_row : Row → Form
form_of_row r = form_in r.format (r.value % 2 ^ 7)

-- the form of an operation
abbrev pub form_of : Op → Form
form_of o = form_of_row (row_of o)

-- the immediate of an operation that stands alone: a plain fence orders reads, writes, input and output on both sides
abbrev pub alone_immediate : Op → ℤ
alone_immediate Fence = pos 0xff
alone_immediate _ = pos 0
