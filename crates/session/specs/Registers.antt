-- The lines that show a hart's registers. Source: this project's own rule.
use Rattle.std.specs.Prelude.{ℕ, zero, suc, ◌==◌, if◌then◌else◌, List, [], ◌∷◌, ◌++◌, slice_index, codes, decimal}
use Rattle.gc_text.specs.Hexadecimal.{hex16}
use Rattle.rv_step.specs.declared.arch.Arch.{Arch}

-- a name and a value in 16 hexadecimal digits
abbrev pub value_line : List ℕ → ℕ → List ℕ
value_line name v = name ++ 32 ∷ hex16 v ++ 10 ∷ []

-- the same where the value isn't 0, else nothing
abbrev pub set_line : List ℕ → ℕ → List ℕ
set_line name v = if v == 0 then [] else value_line name v

-- the lines of x1 to xn
unfoldable pub x_lines : List ℕ → ℕ → List ℕ
x_lines x zero = []
x_lines x (suc n) = x_lines x n ++ set_line (codes "x" ++ decimal (suc n)) (slice_index x (suc n))

-- the lines of the control registers
abbrev pub csr_lines : Arch → List ℕ
csr_lines a =
    set_line (codes "mstatus") a.mstatus
    ++ set_line (codes "mie") a.mie
    ++ set_line (codes "mip") a.mip
    ++ set_line (codes "mtvec") a.mtvec
    ++ set_line (codes "mscratch") a.mscratch
    ++ set_line (codes "mepc") a.mepc
    ++ set_line (codes "mcause") a.mcause
    ++ set_line (codes "mtval") a.mtval

-- pc, and each register that isn't 0
abbrev pub register_lines : Arch → List ℕ
register_lines a = value_line (codes "pc") a.pc ++ x_lines a.x 31 ++ csr_lines a
