-- RISC-V calling conventions, "Register Convention", for registers; privileged manual, "CSR Listing", for control and
-- status registers: the names that an assembler takes for their numbers.
use Rattle.std.specs.Prelude.{ℕ, ◌==◌, List, [], ◌∷◌, ◌++◌, map, codes, decimal, Option, Some, None, if◌then◌else◌}
use Rattle.std.specs.Borrow.{Bor}
use Rattle.std.specs.List.{range_with_len}
use Rattle.std.specs.Str.{bytes_eq}
use Rattle.rv_table.specs.declared.op.Op.{Op}
use Rattle.rv_table.specs.Names.{name_of}
use Rattle.rv_table.specs.declared.rows.Row.{Row}
use Rattle.rv_table.specs.Table.{instruction_rows}

-- a line of a table in the code
abbrev pub entry : Bor (List ℕ) × ℕ → List ℕ × ℕ
entry e = (e.0.now, e.1)

-- the first number that has the name
abbrev pub number_named : List (List ℕ × ℕ) → List ℕ → Option ℕ
number_named [] name = None
number_named (e ∷ es) name = if bytes_eq e.0 name then Some e.1 else number_named es name

-- the first name of a number
abbrev pub name_numbered : List (List ℕ × ℕ) → ℕ → Option (List ℕ)
name_numbered [] n = None
name_numbered (e ∷ es) n = if e.1 == n then Some e.0 else name_numbered es n

-- a register's name by its number
abbrev pub register_name : ℕ → List ℕ
register_name n = codes "x" ++ decimal n

-- the registers' names by what they are for
abbrev pub registers_by_use : List (List ℕ × ℕ)
registers_by_use =
    (codes "zero", 0) ∷ (codes "ra", 1) ∷ (codes "sp", 2) ∷ (codes "gp", 3) ∷ (codes "tp", 4)
    ∷ (codes "t0", 5) ∷ (codes "t1", 6) ∷ (codes "t2", 7)
    ∷ (codes "s0", 8) ∷ (codes "fp", 8) ∷ (codes "s1", 9)
    ∷ (codes "a0", 10) ∷ (codes "a1", 11) ∷ (codes "a2", 12) ∷ (codes "a3", 13)
    ∷ (codes "a4", 14) ∷ (codes "a5", 15) ∷ (codes "a6", 16) ∷ (codes "a7", 17)
    ∷ (codes "s2", 18) ∷ (codes "s3", 19) ∷ (codes "s4", 20) ∷ (codes "s5", 21) ∷ (codes "s6", 22)
    ∷ (codes "s7", 23) ∷ (codes "s8", 24) ∷ (codes "s9", 25) ∷ (codes "s10", 26) ∷ (codes "s11", 27)
    ∷ (codes "t3", 28) ∷ (codes "t4", 29) ∷ (codes "t5", 30) ∷ (codes "t6", 31)
    ∷ []

-- the registers' names by their numbers
abbrev pub registers_by_number : List (List ℕ × ℕ)
registers_by_number = map (λ n. (register_name n, n)) (range_with_len 0 32)

-- the register that a text names
abbrev pub register_of : List ℕ → Option ℕ
register_of name = number_named (registers_by_number ++ registers_by_use) name

-- the control and status registers
abbrev pub csrs : List (List ℕ × ℕ)
csrs =
    (codes "mstatus", 0x300) ∷ (codes "misa", 0x301) ∷ (codes "mie", 0x304) ∷ (codes "mtvec", 0x305)
    ∷ (codes "mscratch", 0x340) ∷ (codes "mepc", 0x341) ∷ (codes "mcause", 0x342) ∷ (codes "mtval", 0x343)
    ∷ (codes "mip", 0x344)
    ∷ (codes "mvendorid", 0xf11) ∷ (codes "marchid", 0xf12) ∷ (codes "mimpid", 0xf13) ∷ (codes "mhartid", 0xf14)
    ∷ []

-- the operation of the first row that has the name
abbrev pub operation_among : List Row → List ℕ → Option Op
operation_among [] name = None
operation_among (r ∷ rs) name = if bytes_eq (name_of r.op) name then Some r.op else operation_among rs name

-- the operation that a text names
abbrev pub operation_named : List ℕ → Option Op
operation_named name = operation_among instruction_rows name
