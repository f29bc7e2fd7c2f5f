-- The text of a word assembles to that word alone, and such texts line by line to their words.
use Rattle.std.proofs.Common.{◌≡◌, ℕ, ◌+◌, ◌%◌, ◌^◌, ◌<◌, ◌≤◌, List, [], ◌∷◌, ◌++◌, map, length, true, false, ◌&&◌, ◌||◌, eqb, ltb, ℤ, pos, negsuc, unsigned_abs, Option, Some, None, Ok, Err, refl, sym, ap, ◌∙◌, arith, decimal}
use Rattle.std.proofs.lemmas.Bool.{and_parts, eqb-true, ltb-true, lt-ltb}
use Rattle.std.proofs.lemmas.Bool.Decides.{Decides-int_eq}
use Rattle.std.proofs.lemmas.Int.{ints}
use Rattle.std.proofs.lemmas.List.Splits.{slice_split_at, slice_split_none}
use Rattle.std.specs.List.{list_all, All, AllByRecursion}
use Rattle.gc_text.specs.LineReader.{is_line_feed}
use Rattle.std.specs.Option.{ok_or}
use Rattle.std.specs.Ordering.{int_eq}
use Rattle.std.specs.Prelude.{if◌then◌else◌, codes}
use Rattle.std.specs.Str.{bytes_eq}
use Rattle.rv_table.specs.declared.format.Format.{Format}
use Rattle.rv_table.specs.declared.format.Format.TheVariants.{U, J, I, B, S, ShiftSix, R, ShiftFive, Csr, CsrNumber, Whole}
use Rattle.rv_table.specs.declared.inst.Inst.{Inst}
use Rattle.rv_table.specs.declared.op.Op.{Op}
use Rattle.rv_table.specs.declared.op.Op.TheVariants.{Lui}
use Rattle.rv_table.specs.Fields.{Between, HasFields, inst_of}
use Rattle.rv_table.specs.Names.{name_of}
use Rattle.rv_table.specs.Table.{row_of, decode_of, IsEncodable, word_of}
use Rattle.rv_table.proofs.Laws.{word_again}
use Rattle.rv_asm.specs.declared.fault.AsmKind.TheVariants.{Word, Operand, Range}
use Rattle.rv_asm.specs.declared.form.Form.{Form}
use Rattle.rv_asm.specs.declared.form.Form.TheVariants.{Upper, Jump, Load, Immediate, Branch, Store, Registers, CsrRegister, CsrImmediate, Alone}
use Rattle.std.specs.Fmt.{signed_decimal}
use Rattle.rv_asm.specs.Disassembly.{address_text, target_text, csr_text, hexadecimal_text, operands_text, line_text, word_text, eight_digits, instruction_text, meaning_text, disassembly, lines_text, is_plain}
use Rattle.rv_asm.specs.Forms.{form_of, form_in, immediate_form, alone_immediate}
use Rattle.rv_asm.specs.declared.place.Place.{Place}
use Rattle.rv_asm.specs.Labels.{labels_from, place_of}
use Rattle.rv_asm.specs.Lines.{Line, Instruction, line_of, source_lines}
use Rattle.rv_asm.specs.Names.{operation_named, register_name}
use Rattle.rv_asm.specs.Instructions.{fields_in}
use Rattle.rv_asm.specs.Operands.{chain, register, immediate_number, csr, address, five_bits}
use Rattle.rv_asm.specs.Targets.{Scope, target}
use Rattle.rv_asm.specs.Ranges.{encoded}
use Rattle.rv_asm.specs.Source.{instruction_word, operation_word, plain_word, word_from, words_of, words_of_lines, words_from, onto, then_words}
use Rattle.rv_asm.proofs.Encodes.{holds_fitting}
use Rattle.rv_asm.proofs.OperandBack.{register_again, register_token, small_between, immediate_again, upper_again, csr_again, csr_token, address_again, address_token, target_again, target_token, five_again}
use Rattle.rv_asm.proofs.ReadBack.{Small, signed_token, decimal_token, hexadecimal_token, eight_again, eight_token}
use Rattle.rv_asm.proofs.Tokens.{Token, Tokens, line_again, one_line}
use Rattle.rv_asm.proofs.Tokens as tokens

-- a text is one line, and the instruction there has this word wherever it stands
record Spells (t : List ℕ) (w : ℕ) : Type 0 where
  name : List ℕ
  operands : List (List ℕ)
  line : line_of t ≡ Instruction name operands
  one : All (λ x. is_line_feed x ≡ false) t
  word : (s : Scope) → instruction_word s name operands ≡ Ok w

-- a name and operands that have a word
line_back : (name : List ℕ) (os : List (List ℕ)) (w : ℕ) → Token name → Tokens os → ((s : Scope) → instruction_word s name os ≡ Ok w) → Spells (line_text name os) w
line_back name os w k ks e = record { name = name; operands = os; line = line_again name os k ks; one = one_line name os k ks; word = e }

-- ---- a word as a number

plain_back : (w : ℕ) → w < 2 ^ 32 → Spells (word_text w) w
plain_back w lt =
    line_back (codes ".word") ((codes "0x" ++ eight_digits w) ∷ []) w (record { some = omega arith; plain = refl }) (eight_token w (omega arith), tt)
    (λ s. ap (λ o. chain (ok_or o Operand) word_from) (eight_again w (omega arith)) ∙ ap (λ b. if b then Ok w else Err Range) (lt-ltb w (2 ^ 32) lt))

-- ---- an operation's name

-- it is found, and isn't that of a plain word; the checker takes the last line once for each operation
found : (o : Op) → operation_named (name_of o) ≡ Some o
found Lui = refl
found _ = refl

not_plain : (o : Op) → bytes_eq (name_of o) (codes ".word") ≡ false
not_plain Lui = refl
not_plain _ = refl

name_plain : (o : Op) → ltb 0 (length (name_of o)) && list_all tokens.is_plain (name_of o) ≡ true
name_plain Lui = refl
name_plain _ = refl

name_token : (o : Op) → Token (name_of o)
name_token o =
    let both = and_parts (ltb 0 (length (name_of o))) (list_all tokens.is_plain (name_of o)) (name_plain o) in
    record { some = ltb-true 0 (length (name_of o)) both.0; plain = both.1 }

-- operands that give an instruction are a line of its word
fields_back : (i : Inst) (form : Form) (os : List (List ℕ)) (w : ℕ) → form_of i.op ≡ form → Tokens os → ((s : Scope) → fields_in form s i.op os ≡ Ok i) → encoded i ≡ Ok w → Spells (line_text (name_of i.op) os) w
fields_back i form os w is ks e word =
    line_back (name_of i.op) os w (name_token i.op) ks
    (λ s.
    ap (λ b. if b then plain_word os else chain (ok_or (operation_named (name_of i.op)) Word) (operation_word s os)) (not_plain i.op)
    ∙ ap (λ o. chain (ok_or o Word) (operation_word s os)) (found i.op)
    ∙ ap (λ f. chain (fields_in f s i.op os) encoded) is
    ∙ ap (λ r. chain r encoded) (e s)
    ∙ word)

-- ---- the operands of each form

-- the values of read operands in their places
upper_given : (s : Scope) (o : Op) (t u : List ℕ) (d : ℕ) (n : ℤ) → register t ≡ Ok d → immediate_number u ≡ Ok n → fields_in Upper s o (t ∷ u ∷ []) ≡ Ok (inst_of o d 0 0 n)
upper_given s o t u d n e f =
    ap (λ r. chain r (λ x. chain (immediate_number u) (λ z. Ok (inst_of o x 0 0 z)))) e
    ∙ ap (λ r. chain r (λ z. Ok (inst_of o d 0 0 z))) f

jump_given : (s : Scope) (o : Op) (t u : List ℕ) (d : ℕ) (n : ℤ) → register t ≡ Ok d → target s u ≡ Ok n → fields_in Jump s o (t ∷ u ∷ []) ≡ Ok (inst_of o d 0 0 n)
jump_given s o t u d n e f =
    ap (λ r. chain r (λ x. chain (target s u) (λ z. Ok (inst_of o x 0 0 z)))) e
    ∙ ap (λ r. chain r (λ z. Ok (inst_of o d 0 0 z))) f

load_given : (s : Scope) (o : Op) (t u : List ℕ) (d a : ℕ) (n : ℤ) → register t ≡ Ok d → address u ≡ Ok (n, a) → fields_in Load s o (t ∷ u ∷ []) ≡ Ok (inst_of o d a 0 n)
load_given s o t u d a n e f =
    ap (λ r. chain r (λ x. chain (address u) (λ (at : ℤ × ℕ). Ok (inst_of o x at.1 0 at.0)))) e
    ∙ ap (λ r. chain r (λ (at : ℤ × ℕ). Ok (inst_of o d at.1 0 at.0))) f

store_given : (s : Scope) (o : Op) (t u : List ℕ) (b a : ℕ) (n : ℤ) → register t ≡ Ok b → address u ≡ Ok (n, a) → fields_in Store s o (t ∷ u ∷ []) ≡ Ok (inst_of o 0 a b n)
store_given s o t u b a n e f =
    ap (λ r. chain r (λ x. chain (address u) (λ (at : ℤ × ℕ). Ok (inst_of o 0 at.1 x at.0)))) e
    ∙ ap (λ r. chain r (λ (at : ℤ × ℕ). Ok (inst_of o 0 at.1 b at.0))) f

immediate_given : (s : Scope) (o : Op) (t u v : List ℕ) (d a : ℕ) (n : ℤ) → register t ≡ Ok d → register u ≡ Ok a → immediate_number v ≡ Ok n → fields_in Immediate s o (t ∷ u ∷ v ∷ []) ≡ Ok (inst_of o d a 0 n)
immediate_given s o t u v d a n e f g =
    ap (λ r. chain r (λ x. chain (register u) (λ y. chain (immediate_number v) (λ z. Ok (inst_of o x y 0 z))))) e
    ∙ ap (λ r. chain r (λ y. chain (immediate_number v) (λ z. Ok (inst_of o d y 0 z)))) f
    ∙ ap (λ r. chain r (λ z. Ok (inst_of o d a 0 z))) g

branch_given : (s : Scope) (o : Op) (t u v : List ℕ) (a b : ℕ) (n : ℤ) → register t ≡ Ok a → register u ≡ Ok b → target s v ≡ Ok n → fields_in Branch s o (t ∷ u ∷ v ∷ []) ≡ Ok (inst_of o 0 a b n)
branch_given s o t u v a b n e f g =
    ap (λ r. chain r (λ x. chain (register u) (λ y. chain (target s v) (λ z. Ok (inst_of o 0 x y z))))) e
    ∙ ap (λ r. chain r (λ y. chain (target s v) (λ z. Ok (inst_of o 0 a y z)))) f
    ∙ ap (λ r. chain r (λ z. Ok (inst_of o 0 a b z))) g

registers_given : (s : Scope) (o : Op) (t u v : List ℕ) (d a b : ℕ) → register t ≡ Ok d → register u ≡ Ok a → register v ≡ Ok b → fields_in Registers s o (t ∷ u ∷ v ∷ []) ≡ Ok (inst_of o d a b (pos 0))
registers_given s o t u v d a b e f g =
    ap (λ r. chain r (λ x. chain (register u) (λ y. chain (register v) (λ z. Ok (inst_of o x y z (pos 0)))))) e
    ∙ ap (λ r. chain r (λ y. chain (register v) (λ z. Ok (inst_of o d y z (pos 0))))) f
    ∙ ap (λ r. chain r (λ z. Ok (inst_of o d a z (pos 0)))) g

csr_register_given : (s : Scope) (o : Op) (t u v : List ℕ) (d a : ℕ) (n : ℤ) → register t ≡ Ok d → csr u ≡ Ok n → register v ≡ Ok a → fields_in CsrRegister s o (t ∷ u ∷ v ∷ []) ≡ Ok (inst_of o d a 0 n)
csr_register_given s o t u v d a n e f g =
    ap (λ r. chain r (λ x. chain (csr u) (λ y. chain (register v) (λ z. Ok (inst_of o x z 0 y))))) e
    ∙ ap (λ r. chain r (λ y. chain (register v) (λ z. Ok (inst_of o d z 0 y)))) f
    ∙ ap (λ r. chain r (λ z. Ok (inst_of o d z 0 n))) g

csr_immediate_given : (s : Scope) (o : Op) (t u v : List ℕ) (d a : ℕ) (n k : ℤ) → register t ≡ Ok d → csr u ≡ Ok n → immediate_number v ≡ Ok k → five_bits k ≡ Ok a → fields_in CsrImmediate s o (t ∷ u ∷ v ∷ []) ≡ Ok (inst_of o d a 0 n)
csr_immediate_given s o t u v d a n k e f g h =
    ap (λ r. chain r (λ x. chain (csr u) (λ y. chain (immediate_number v) (λ j. chain (five_bits j) (λ z. Ok (inst_of o x z 0 y)))))) e
    ∙ ap (λ r. chain r (λ y. chain (immediate_number v) (λ j. chain (five_bits j) (λ z. Ok (inst_of o d z 0 y))))) f
    ∙ ap (λ r. chain r (λ j. chain (five_bits j) (λ z. Ok (inst_of o d z 0 n)))) g
    ∙ ap (λ r. chain r (λ z. Ok (inst_of o d z 0 n))) h

-- an instruction from its fields
same_inst : (i : Inst) (d a b : ℕ) (n : ℤ) → d ≡ i.rd → a ≡ i.rs1 → b ≡ i.rs2 → n ≡ i.imm → inst_of i.op d a b n ≡ i
same_inst i d a b n e f g h =
    ap (λ x. inst_of i.op x a b n) e ∙ ap (λ x. inst_of i.op i.rd x b n) f ∙ ap (λ x. inst_of i.op i.rd i.rs1 x n) g ∙ ap (λ x. inst_of i.op i.rd i.rs1 i.rs2 x) h

-- a number that isn't below 0 is its size
natural : (high : ℕ) (z : ℤ) → Between 0 high z → (pos (unsigned_abs z) ≡ z) × (unsigned_abs z ≤ high)
natural high (pos n) b = (refl, omega (arith, ints))
natural high (negsuc n) b = absurd (omega (arith, ints))

-- an instruction with registers and an immediate
immediate_back : (i : Inst) (w : ℕ) → form_of i.op ≡ Immediate → i.rd < 32 → i.rs1 < 32 → i.rs2 ≡ 0 → Small i.imm → encoded i ≡ Ok w → Spells (line_text (name_of i.op) (operands_text Immediate i)) w
immediate_back i w is d a b small word =
    fields_back i Immediate (operands_text Immediate i) w is (register_token i.rd d, (register_token i.rs1 a, (signed_token i.imm small, tt)))
    (λ s. immediate_given s i.op (register_name i.rd) (register_name i.rs1) (signed_decimal i.imm) i.rd i.rs1 i.imm (register_again i.rd d) (register_again i.rs1 a) (immediate_again i.imm small)
    ∙ ap Ok (same_inst i i.rd i.rs1 0 i.imm refl refl (sym b) refl))
    word

load_back : (i : Inst) (w : ℕ) → form_of i.op ≡ Load → i.rd < 32 → i.rs1 < 32 → i.rs2 ≡ 0 → Small i.imm → encoded i ≡ Ok w → Spells (line_text (name_of i.op) (operands_text Load i)) w
load_back i w is d a b small word =
    fields_back i Load (operands_text Load i) w is (register_token i.rd d, (address_token i.imm i.rs1 small a, tt))
    (λ s. load_given s i.op (register_name i.rd) (address_text i.imm i.rs1) i.rd i.rs1 i.imm (register_again i.rd d) (address_again i.imm i.rs1 small a)
    ∙ ap Ok (same_inst i i.rd i.rs1 0 i.imm refl refl (sym b) refl))
    word

-- an instruction without operands
alone_back : (i : Inst) (w : ℕ) → w < 2 ^ 32 → form_of i.op ≡ Alone → i.rs2 ≡ 0 → encoded i ≡ Ok w → Spells (instruction_text w i Alone) w
alone_back i w lt is b word =
    elim (is_plain i) as (λ p. is_plain i ≡ p → Spells (if p then name_of i.op else word_text w) w) [
      | true ↦ λ t.
          let all = and_parts (eqb i.rd 0 && eqb i.rs1 0) (int_eq i.imm (alone_immediate i.op)) t in
          let two = and_parts (eqb i.rd 0) (eqb i.rs1 0) all.0 in
          let imm = (Decides-int_eq i.imm (alone_immediate i.op)).0 all.1 in
          fields_back i Alone [] w is tt (λ s. ap Ok (same_inst i 0 0 0 (alone_immediate i.op) (sym (eqb-true i.rd 0 two.0)) (sym (eqb-true i.rs1 0 two.1)) (sym b) (sym imm))) word
      | false ↦ λ f. plain_back w lt
    ] refl

-- ---- each format

-- the text of an instruction of a form
abbrev text_in : Form → ℕ → Inst → List ℕ
text_in form w i = instruction_text w i form

csr_back : (i : Inst) (w : ℕ) → form_of i.op ≡ CsrRegister → i.rd < 32 → i.rs1 < 32 → i.rs2 ≡ 0 → Between 0 4095 i.imm → encoded i ≡ Ok w → Spells (line_text (name_of i.op) (operands_text CsrRegister i)) w
csr_back i w is d a b range word =
    let n = natural 4095 i.imm range in
    fields_back i CsrRegister (operands_text CsrRegister i) w is (register_token i.rd d, (csr_token (unsigned_abs i.imm) (omega (arith, n.1)), (register_token i.rs1 a, tt)))
    (λ s. csr_register_given s i.op (register_name i.rd) (csr_text (unsigned_abs i.imm)) (register_name i.rs1) i.rd i.rs1 (pos (unsigned_abs i.imm)) (register_again i.rd d) (csr_again (unsigned_abs i.imm) (omega (arith, n.1))) (register_again i.rs1 a)
    ∙ ap Ok (same_inst i i.rd i.rs1 0 (pos (unsigned_abs i.imm)) refl refl (sym b) n.0))
    word

csr_number_back : (i : Inst) (w : ℕ) → form_of i.op ≡ CsrImmediate → i.rd < 32 → i.rs1 < 32 → i.rs2 ≡ 0 → Between 0 4095 i.imm → encoded i ≡ Ok w → Spells (line_text (name_of i.op) (operands_text CsrImmediate i)) w
csr_number_back i w is d a b range word =
    let n = natural 4095 i.imm range in
    fields_back i CsrImmediate (operands_text CsrImmediate i) w is (register_token i.rd d, (csr_token (unsigned_abs i.imm) (omega (arith, n.1)), (decimal_token i.rs1 (omega arith), tt)))
    (λ s. csr_immediate_given s i.op (register_name i.rd) (csr_text (unsigned_abs i.imm)) (decimal i.rs1) i.rd i.rs1 (pos (unsigned_abs i.imm)) (pos i.rs1) (register_again i.rd d) (csr_again (unsigned_abs i.imm) (omega (arith, n.1))) (immediate_again (pos i.rs1) (omega arith)) (five_again i.rs1 a)
    ∙ ap Ok (same_inst i i.rd i.rs1 0 (pos (unsigned_abs i.imm)) refl refl (sym b) n.0))
    word

-- a row of format I, by its opcode
opcode_back : (c : ℕ) (i : Inst) (w : ℕ) → w < 2 ^ 32 → form_of i.op ≡ immediate_form c → i.rd < 32 → i.rs1 < 32 → i.rs2 ≡ 0 → Small i.imm → encoded i ≡ Ok w → Spells (text_in (immediate_form c) w i) w
opcode_back c i w lt is d a b small word =
    elim (eqb c 0x03 || eqb c 0x67) as (λ p. form_of i.op ≡ (if p then Load else (if eqb c 0x0f then Alone else Immediate)) → Spells (text_in (if p then Load else (if eqb c 0x0f then Alone else Immediate)) w i) w) [
      | true ↦ λ e. load_back i w e d a b small word
      | false ↦ elim (eqb c 0x0f) as (λ q. form_of i.op ≡ (if q then Alone else Immediate) → Spells (text_in (if q then Alone else Immediate) w i) w) [
        | true ↦ λ e. alone_back i w lt e b word
        | false ↦ λ e. immediate_back i w e d a b small word
      ]
    ] is

-- all formats
format_back : (f : Format) (c : ℕ) (i : Inst) (w : ℕ) → w < 2 ^ 32 → form_of i.op ≡ form_in f c → HasFields f i → encoded i ≡ Ok w → Spells (text_in (form_in f c) w i) w
format_back U c i w lt is h word =
    let n = natural 1048575 i.imm h.3 in
    fields_back i Upper (operands_text Upper i) w is (register_token i.rd h.0, (hexadecimal_token (unsigned_abs i.imm) (omega (arith, n.1)), tt))
    (λ s. upper_given s i.op (register_name i.rd) (hexadecimal_text (unsigned_abs i.imm)) i.rd (pos (unsigned_abs i.imm)) (register_again i.rd h.0) (upper_again (unsigned_abs i.imm) (omega (arith, n.1)))
    ∙ ap Ok (same_inst i i.rd 0 0 (pos (unsigned_abs i.imm)) refl (sym h.1) (sym h.2) n.0))
    word
format_back J c i w lt is h word =
    let small = small_between 1048576 1048574 i.imm (omega arith) (omega arith) h.3 in
    fields_back i Jump (operands_text Jump i) w is (register_token i.rd h.0, (target_token i.imm small, tt))
    (λ s. jump_given s i.op (register_name i.rd) (target_text i.imm) i.rd i.imm (register_again i.rd h.0) (target_again s i.imm small)
    ∙ ap Ok (same_inst i i.rd 0 0 i.imm refl (sym h.1) (sym h.2) refl))
    word
format_back I c i w lt is h word = opcode_back c i w lt is h.0 h.1 h.2 (small_between 2048 2047 i.imm (omega arith) (omega arith) h.3) word
format_back B c i w lt is h word =
    let small = small_between 4096 4094 i.imm (omega arith) (omega arith) h.3 in
    fields_back i Branch (operands_text Branch i) w is (register_token i.rs1 h.1, (register_token i.rs2 h.2, (target_token i.imm small, tt)))
    (λ s. branch_given s i.op (register_name i.rs1) (register_name i.rs2) (target_text i.imm) i.rs1 i.rs2 i.imm (register_again i.rs1 h.1) (register_again i.rs2 h.2) (target_again s i.imm small)
    ∙ ap Ok (same_inst i 0 i.rs1 i.rs2 i.imm (sym h.0) refl refl refl))
    word
format_back S c i w lt is h word =
    let small = small_between 2048 2047 i.imm (omega arith) (omega arith) h.3 in
    fields_back i Store (operands_text Store i) w is (register_token i.rs2 h.2, (address_token i.imm i.rs1 small h.1, tt))
    (λ s. store_given s i.op (register_name i.rs2) (address_text i.imm i.rs1) i.rs2 i.rs1 i.imm (register_again i.rs2 h.2) (address_again i.imm i.rs1 small h.1)
    ∙ ap Ok (same_inst i 0 i.rs1 i.rs2 i.imm (sym h.0) refl refl refl))
    word
format_back ShiftSix c i w lt is h word = immediate_back i w is h.0 h.1 h.2 (small_between 0 63 i.imm (omega arith) (omega arith) h.3) word
format_back R c i w lt is h word =
    fields_back i Registers (operands_text Registers i) w is (register_token i.rd h.0, (register_token i.rs1 h.1, (register_token i.rs2 h.2, tt)))
    (λ s. registers_given s i.op (register_name i.rd) (register_name i.rs1) (register_name i.rs2) i.rd i.rs1 i.rs2 (register_again i.rd h.0) (register_again i.rs1 h.1) (register_again i.rs2 h.2)
    ∙ ap Ok (same_inst i i.rd i.rs1 i.rs2 (pos 0) refl refl refl (sym h.3)))
    word
format_back ShiftFive c i w lt is h word = immediate_back i w is h.0 h.1 h.2 (small_between 0 31 i.imm (omega arith) (omega arith) h.3) word
format_back Csr c i w lt is h word = csr_back i w is h.0 h.1 h.2 h.3 word
format_back CsrNumber c i w lt is h word = csr_number_back i w is h.0 h.1 h.2 h.3 word
format_back Whole c i w lt is h word = alone_back i w lt is h.2 word

-- ---- a word

meaning_back : (w : ℕ) (o : Option Inst) → w < 2 ^ 32 → decode_of w ≡ o → Spells (meaning_text w o) w
unfolding IsEncodable
meaning_back w None lt e = plain_back w lt
meaning_back w (Some i) lt e =
    let again = word_again w i lt e in
    let word : encoded i ≡ Ok w = ap (λ b. if b then Ok (word_of i) else Err Range) (holds_fitting (row_of i.op).format i again.0) ∙ ap Ok again.1 in
    format_back (row_of i.op).format ((row_of i.op).value % 2 ^ 7) i w lt refl again.0 word

-- the text of a word
spelled : (w : ℕ) → w < 2 ^ 32 → Spells (disassembly w) w
unfolding disassembly
spelled w lt = meaning_back w (decode_of w) lt refl

-- ---- sources of such texts

-- a line of such a text, with the words that follow it
first_word : (labels : List ℕ → Option Place) (n k w : ℕ) (t : List ℕ) (ls : List Line) → Spells t w → words_from labels n k (line_of t ∷ ls) ≡ onto w (words_from labels (n + 1) (k + 1) ls)
first_word labels n k w t ls e =
    ap (λ l. words_from labels n k (l ∷ ls)) e.line
    ∙ ap (λ r. then_words n (chain r (λ v. Ok (Some v))) (words_from labels (n + 1) (k + 1) ls)) (e.word (record { place = k; labels = labels }))

-- the text of a word assembles to that word alone
pub words_of-disassembly : (w : ℕ) → w < 2 ^ 32 → words_of (disassembly w) ≡ Ok (w ∷ [])
unfolding words_of
words_of-disassembly w lt =
    let e = spelled w lt in
    ap words_of_lines (ap (map line_of) (slice_split_none is_line_feed (disassembly w) e.one))
    ∙ first_word (place_of (labels_from 1 0 (line_of (disassembly w) ∷ []))) 1 0 w (disassembly w) [] e

-- such lines have these words, whatever the labels
lines_back : (labels : List ℕ → Option Place) (n k : ℕ) (ws : List ℕ) → AllByRecursion (λ w. w < 2 ^ 32) ws → words_from labels n k (source_lines (lines_text ws)) ≡ Ok ws
lines_back labels n k [] small = refl
lines_back labels n k (w ∷ ws) small =
    let e = spelled w small.0 in
    ap (λ ls. words_from labels n k (map line_of ls)) (slice_split_at is_line_feed (disassembly w) 10 (lines_text ws) e.one refl)
    ∙ first_word labels n k w (disassembly w) (source_lines (lines_text ws)) e
    ∙ ap (onto w) (lines_back labels (n + 1) (k + 1) ws small.1)

-- the texts of words assemble to those words
pub words_of-lines_text : (ws : List ℕ) → AllByRecursion (λ w. w < 2 ^ 32) ws → words_of (lines_text ws) ≡ Ok ws
unfolding words_of
words_of-lines_text ws small = lines_back (place_of (labels_from 1 0 (source_lines (lines_text ws)))) 1 0 ws small
