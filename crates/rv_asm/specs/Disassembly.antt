-- this project's own rule: the text of a word is its instruction's form, with registers by number and decimal numbers, and 0x
-- in front of upper immediates and unnamed control and status registers; or the plain word, where no form gives it
use Rattle.std.specs.Prelude.{ℕ, ◌-◌, ◌==◌, suc, Bool, false, ◌&&◌, List, [], ◌∷◌, ◌++◌, length, replicate, ℤ, pos, negsuc, unsigned_abs, Option, Some, None, codes, decimal, if◌then◌else◌}
use Rattle.std.specs.Fmt.{digits, signed_decimal}
use Rattle.std.specs.Ordering.{int_eq}
use Rattle.std.specs.Option.{unwrap_or}
use Rattle.rv_table.specs.declared.inst.Inst.{Inst}
use Rattle.rv_table.specs.Names.{name_of}
use Rattle.rv_table.specs.Table.{decode_of}
use Rattle.rv_asm.specs.declared.form.Form.{Form}
use Rattle.rv_asm.specs.declared.form.Form.TheVariants.{Upper, Jump, Load, Immediate, Branch, Store, Registers, CsrRegister, CsrImmediate, Alone}
use Rattle.rv_asm.specs.Forms.{form_of, alone_immediate}
use Rattle.rv_asm.specs.Names.{register_name, csrs, name_numbered}

-- a number in hexadecimal behind 0x
abbrev pub hexadecimal_text : ℕ → List ℕ
hexadecimal_text n = codes "0x" ++ digits 16 false n

-- a control and status register: its name, or its number
abbrev pub csr_text : ℕ → List ℕ
csr_text n = unwrap_or (name_numbered csrs n) (hexadecimal_text n)

-- a distance in bytes
abbrev pub target_text : ℤ → List ℕ
target_text (pos n) = codes ".+" ++ decimal n
target_text (negsuc n) = codes ".-" ++ decimal (suc n)

-- an offset and the base register behind it
abbrev pub address_text : ℤ → ℕ → List ℕ
address_text n base = signed_decimal n ++ (codes "(" ++ (register_name base ++ codes ")"))

-- the operands of an instruction in a form
abbrev pub operands_text : Form → Inst → List (List ℕ)
operands_text Upper i = register_name i.rd ∷ hexadecimal_text (unsigned_abs i.imm) ∷ []
operands_text Jump i = register_name i.rd ∷ target_text i.imm ∷ []
operands_text Load i = register_name i.rd ∷ address_text i.imm i.rs1 ∷ []
operands_text Immediate i = register_name i.rd ∷ register_name i.rs1 ∷ signed_decimal i.imm ∷ []
operands_text Branch i = register_name i.rs1 ∷ register_name i.rs2 ∷ target_text i.imm ∷ []
operands_text Store i = register_name i.rs2 ∷ address_text i.imm i.rs1 ∷ []
operands_text Registers i = register_name i.rd ∷ register_name i.rs1 ∷ register_name i.rs2 ∷ []
operands_text CsrRegister i = register_name i.rd ∷ csr_text (unsigned_abs i.imm) ∷ register_name i.rs1 ∷ []
operands_text CsrImmediate i = register_name i.rd ∷ csr_text (unsigned_abs i.imm) ∷ decimal i.rs1 ∷ []
operands_text Alone i = []

-- operands, each behind a comma and a space
abbrev pub more_operands : List (List ℕ) → List ℕ
more_operands [] = []
more_operands (o ∷ os) = codes ", " ++ (o ++ more_operands os)

-- a line: a name, and behind a space its operands
abbrev pub line_text : List ℕ → List (List ℕ) → List ℕ
line_text name [] = name
line_text name (o ∷ os) = name ++ (codes " " ++ (o ++ more_operands os))

-- a number below 2 ^ 32 in eight hexadecimal digits
abbrev pub eight_digits : ℕ → List ℕ
eight_digits n = replicate (8 - length (digits 16 false n)) 48 ++ digits 16 false n

-- a word as a number
abbrev pub word_text : ℕ → List ℕ
word_text w = line_text (codes ".word") ((codes "0x" ++ eight_digits w) ∷ [])

-- whether an instruction is what its name alone stands for
abbrev pub is_plain : Inst → Bool
is_plain i = i.rd == 0 && i.rs1 == 0 && int_eq i.imm (alone_immediate i.op)

-- an instruction of a form, the word of which is w
abbrev pub instruction_text : ℕ → Inst → Form → List ℕ
instruction_text w i Alone = if is_plain i then name_of i.op else word_text w
instruction_text w i form = line_text (name_of i.op) (operands_text form i)

-- what a word means, as text
abbrev pub meaning_text : ℕ → Option Inst → List ℕ
meaning_text w None = word_text w
meaning_text w (Some i) = instruction_text w i (form_of i.op)

-- the text of a word
unfoldable pub disassembly : ℕ → List ℕ
disassembly w = meaning_text w (decode_of w)

-- the texts of words, each on a line of its own
abbrev pub lines_text : List ℕ → List ℕ
lines_text [] = []
lines_text (w ∷ ws) = disassembly w ++ 10 ∷ lines_text ws
