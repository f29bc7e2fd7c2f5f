-- This project's own rule: the program that a seed gives. Each draw moves a state, which begins as the seed.
use Rattle.std.specs.Prelude.{ℕ, zero, suc, ◌+◌, ◌*◌, ◌/◌, ◌%◌, ◌^◌, ◌==◌, if◌then◌else◌, ℤ, pos, List, [], ◌∷◌, ◌++◌}
use Rattle.gc_base.specs.Seed.{next_seed}
use Rattle.rv_table.specs.declared.inst.Inst.{Inst}
use Rattle.rv_table.specs.declared.op.Op.TheVariants.{Auipc, Lui, Addi, Add, Mul, Ld, Sd, Sw}
use Rattle.rv_table.specs.Fields.{inst_of}
use Rattle.rv_table.specs.Table.{word_of}

-- the state that a draw at state s leaves
unfoldable pub moved : ℕ → ℕ
moved s = next_seed s

-- the number that it gives
unfoldable pub draw : ℕ → ℕ
draw s = moved s / 2 ^ 33

-- the state after n draws
unfoldable pub after : ℕ → ℕ → ℕ
after zero s = s
after (suc n) s = after n (moved s)

-- the words that set n registers from xk on: addi xk, x0, draw mod 2048
unfoldable pub start_words : ℕ → ℕ → ℕ → List ℕ
start_words zero k s = []
start_words (suc n) k s = word_of (inst_of Addi k 0 0 (pos (draw s % 2048))) ∷ start_words n (k + 1) (moved s)

-- the register that a draw picks, x1 to x15
abbrev pub picked : ℕ → ℕ
picked n = 1 + n % 15

-- the offset that a draw picks: that of one of 256 doublewords
abbrev pub offset : ℕ → ℤ
offset n = pos (8 * (n % 256))

-- the instruction of a step that draws a, b, c and e
abbrev pub chosen : ℕ → ℕ → ℕ → ℕ → Inst
chosen a b c e =
    if a % 4 == 0 then inst_of Add (picked b) (picked c) (picked e) (pos 0)
    else if a % 4 == 1 then inst_of Mul (picked b) (picked c) (picked e) (pos 0)
    else if a % 4 == 2 then inst_of Sd 0 31 (picked b) (offset c)
    else inst_of Ld (picked b) 31 0 (offset c)

-- the instruction of a step from state s
unfoldable pub step_inst : ℕ → Inst
step_inst s = chosen (draw s) (draw (after 1 s)) (draw (after 2 s)) (draw (after 3 s))

-- the words of n steps from state s
unfoldable pub step_words : ℕ → ℕ → List ℕ
step_words zero s = []
step_words (suc n) s = word_of (step_inst s) ∷ step_words n (after 4 s)

-- the words of the program: x31 points 0x80000 bytes behind its first word, registers are set, steps are made, and 0 is stored to the exit device
unfoldable pub generated : ℕ → ℕ → List ℕ
generated seed blocks =
    word_of (inst_of Auipc 31 0 0 (pos 0x80)) ∷ start_words 15 1 seed ++ step_words (8 * blocks) (after 15 seed)
    ++ word_of (inst_of Lui 30 0 0 (pos 0x100)) ∷ word_of (inst_of Sw 0 30 0 (pos 0)) ∷ []
