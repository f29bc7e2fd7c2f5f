-- Operands that mean the same give the same words.
use Rattle.std.proofs.Common.{◌≡◌, ◌⊎◌, inl, inr, ℕ, ◌+◌, List, [], ◌∷◌, ◌++◌, drop, length, Bool, true, false, ◌&&◌, ltb, pos, neg_ℤ, Option, Some, None, Result, Ok, refl, sym, ap, ◌∙◌, subst}
use Rattle.std.proofs.lemmas.Bool.{and_parts, ltb-true}
use Rattle.std.proofs.lemmas.List.{drop_at, reverse-append, reverse-reverse}
use Rattle.std.proofs.lemmas.List.Sums.{AllPass-from_list_all}
use Rattle.std.specs.List.{list_all}
use Rattle.std.specs.Option.{ok_or}
use Rattle.std.specs.Prelude.{codes, if◌then◌else◌}
use Rattle.std.specs.Str.{bytes_eq}
use Rattle.rv_table.specs.declared.inst.Inst.{Inst}
use Rattle.rv_table.specs.declared.op.Op.{Op}
use Rattle.rv_table.specs.Fields.{inst_of}
use Rattle.rv_asm.specs.declared.fault.AsmKind.{AsmKind}
use Rattle.rv_asm.specs.declared.fault.AsmKind.TheVariants.{Operand, Word}
use Rattle.rv_asm.specs.declared.form.Form.{Form}
use Rattle.rv_asm.specs.declared.form.Form.TheVariants.{Upper, Jump, Load, Immediate, Branch, Store, Registers, CsrRegister, CsrImmediate, Alone}
use Rattle.rv_asm.specs.declared.place.Place.{Place}
use Rattle.rv_asm.specs.Bytes.{front_of_reversed}
use Rattle.rv_asm.specs.Forms.{form_of}
use Rattle.rv_asm.specs.Instructions.{fields_in}
use Rattle.rv_asm.specs.Labels.{labels_from, place_of, words_in}
use Rattle.rv_asm.specs.Lines.{Line, Blank, Label, Instruction}
use Rattle.rv_asm.specs.Names.{number_named, operation_named, registers_by_use}
use Rattle.rv_asm.specs.Numbers.{number_of}
use Rattle.rv_asm.specs.Operands.{address, chain, csr, five_bits, from_first, immediate_number, is_open, nearest, register, register_before_close, register_in_brackets}
use Rattle.rv_asm.specs.Ranges.{encoded}
use Rattle.rv_asm.specs.Source.{instruction_word, line_word, operation_word, plain_word, then_words, word_from, words_from}
use Rattle.rv_asm.specs.Spellings.{AllAreAlike, AllMeanTheSame, AreAlike, EachNameIsTheRegisters, IsAddressOf, MeanTheSame, Part, RegisterPart, NumberPart, ControlPart, TargetPart, AddressPart, SameAddress, SpellingsAreFree, parts_in, parts_named, parts_of}
use Rattle.rv_asm.specs.Targets.{Scope, target}
use Rattle.rv_asm.proofs.OperandBack.{is_number, number_is, register_of-name}
use Rattle.rv_asm.proofs.Registers.{look_up, spelled}
use Rattle.rv_asm.proofs.Tokens.{before_at, first_at, none_pass}

-- ---- one operand

immediate_same : (x y : List ℕ) → number_of x ≡ number_of y → immediate_number x ≡ immediate_number y
immediate_same x y e = ap (λ o. chain (ok_or o Operand) (λ n. Ok (nearest n))) e

target_same : (s : Scope) (x y : List ℕ) → MeanTheSame TargetPart x y → target s x ≡ target s y
target_same s x y (inl e) = ap (target s) e
target_same s x y (inr (inl d)) = ap (target s) d.first ∙ immediate_same d.size d.other d.same ∙ sym (ap (target s) d.second)
target_same s x y (inr (inr d)) =
    ap (target s) d.first
    ∙ ap (λ r. chain r (λ n. Ok (neg_ℤ n))) (immediate_same d.size d.other d.same)
    ∙ sym (ap (target s) d.second)

-- a byte that isn't the opening bracket
not_open_by : (b : Bool) → (if b then false else true) ≡ true → b ≡ false
not_open_by true e = sym e
not_open_by false e = refl

not_open : (c : ℕ) → (if is_open c then false else true) ≡ true → is_open c ≡ false
not_open c h = not_open_by (is_open c) h

-- what the address of an offset and a base register reads as
address_is : (x offset base : List ℕ) → IsAddressOf x offset base → address x ≡ chain (immediate_number offset) (λ n. chain (register base) (λ r. Ok (n, r)))
address_is x offset base h =
    let rest : List ℕ = base ++ 41 ∷ [] in
    let none = none_pass (λ c. if is_open c then false else true) is_open not_open offset h.plain in
    let closed : register_before_close rest ≡ register base =
    ap (λ r. chain (ok_or (front_of_reversed 41 r) Operand) register) (reverse-append base (41 ∷ []))
    ∙ ap register (reverse-reverse base) in
    let opened : from_first is_open (offset ++ 40 ∷ rest) ≡ 40 ∷ rest =
    ap (λ k. drop k (offset ++ 40 ∷ rest)) (first_at is_open offset 40 rest none refl) ∙ drop_at offset (40 ∷ rest) (length offset) refl in
    ap address h.is
    ∙ ap (λ t. chain (immediate_number t) (λ n. chain (register_in_brackets (from_first is_open (offset ++ 40 ∷ rest))) (λ r. Ok (n, r)))) (before_at is_open offset 40 rest none refl)
    ∙ ap (λ t. chain (immediate_number offset) (λ n. chain (register_in_brackets t) (λ r. Ok (n, r)))) opened
    ∙ ap (λ b. chain (immediate_number offset) (λ n. chain b (λ r. Ok (n, r)))) closed

address_same : (x y : List ℕ) → SameAddress x y → address x ≡ address y
address_same x y h =
    address_is x h.offset h.base h.first
    ∙ ap (λ i. chain i (λ n. chain (register h.base) (λ r. Ok (n, r)))) (immediate_same h.offset h.other_offset h.same_offset)
    ∙ ap (λ o. chain (immediate_number h.other_offset) (λ n. chain (ok_or o Operand) (λ r. Ok (n, r)))) h.same_base
    ∙ sym (address_is y h.other_offset h.other_base h.second)

register_same : (x y : List ℕ) → MeanTheSame RegisterPart x y → register x ≡ register y
register_same x y e = ap (λ o. ok_or o Operand) e

-- ---- the operands of a form

-- two operands and three, as they mean the same
record Pairs (p q : Part) (xs ys : List (List ℕ)) : Type 0 where
  x1 : List ℕ
  x2 : List ℕ
  y1 : List ℕ
  y2 : List ℕ
  xs_are : xs ≡ x1 ∷ x2 ∷ []
  ys_are : ys ≡ y1 ∷ y2 ∷ []
  first : MeanTheSame p x1 y1
  second : MeanTheSame q x2 y2

pairs : (p q : Part) (xs ys : List (List ℕ)) → AllMeanTheSame (p ∷ q ∷ []) xs ys → Pairs p q xs ys
pairs p q [] ys h = absurd h
pairs p q (x ∷ xs) [] h = absurd h
pairs p q (x ∷ []) (y ∷ ys) h = absurd h.1
pairs p q (x ∷ x2 ∷ xs) (y ∷ []) h = absurd h.1
pairs p q (x ∷ x2 ∷ []) (y ∷ y2 ∷ []) h =
    record { x1 = x; x2 = x2; y1 = y; y2 = y2; xs_are = refl; ys_are = refl; first = h.0; second = h.1.0 }
pairs p q (x ∷ x2 ∷ []) (y ∷ y2 ∷ y3 ∷ ys) h = absurd h.1.1
pairs p q (x ∷ x2 ∷ x3 ∷ xs) (y ∷ y2 ∷ []) h = absurd h.1.1
pairs p q (x ∷ x2 ∷ x3 ∷ xs) (y ∷ y2 ∷ y3 ∷ ys) h = absurd h.1.1

record Threes (p q r : Part) (xs ys : List (List ℕ)) : Type 0 where
  x1 : List ℕ
  y1 : List ℕ
  others : List (List ℕ)
  other_ys : List (List ℕ)
  xs_are : xs ≡ x1 ∷ others
  ys_are : ys ≡ y1 ∷ other_ys
  first : MeanTheSame p x1 y1
  more : Pairs q r others other_ys

threes : (p q r : Part) (xs ys : List (List ℕ)) → AllMeanTheSame (p ∷ q ∷ r ∷ []) xs ys → Threes p q r xs ys
threes p q r [] ys h = absurd h
threes p q r (x ∷ xs) [] h = absurd h
threes p q r (x ∷ xs) (y ∷ ys) h =
    record { x1 = x; y1 = y; others = xs; other_ys = ys; xs_are = refl; ys_are = refl; first = h.0; more = pairs q r xs ys h.1 }

-- what is read one after another
two_same : {A B : Type 0} (a a' : Result A AsmKind) (b b' : Result B AsmKind) (make : A → B → Result Inst AsmKind) → a ≡ a' → b ≡ b'
    → chain a (λ x. chain b (λ y. make x y)) ≡ chain a' (λ x. chain b' (λ y. make x y))
two_same a a' b b' make e f = ap (λ r. chain r (λ x. chain b (λ y. make x y))) e ∙ ap (λ r. chain a' (λ x. chain r (λ y. make x y))) f

three_same : {A B C : Type 0} (a a' : Result A AsmKind) (b b' : Result B AsmKind) (c c' : Result C AsmKind) (make : A → B → C → Result Inst AsmKind)
    → a ≡ a' → b ≡ b' → c ≡ c'
    → chain a (λ x. chain b (λ y. chain c (λ z. make x y z))) ≡ chain a' (λ x. chain b' (λ y. chain c' (λ z. make x y z)))
three_same a a' b b' c c' make e f g =
    ap (λ r. chain r (λ x. chain b (λ y. chain c (λ z. make x y z)))) e
    ∙ ap (λ r. chain a' (λ x. chain r (λ y. chain c (λ z. make x y z)))) f
    ∙ ap (λ r. chain a' (λ x. chain b' (λ y. chain r (λ z. make x y z)))) g

-- of two operands in a form
two_fields : (f : Form) (s : Scope) (o : Op) (p q : Part) (xs ys : List (List ℕ)) (m : Pairs p q xs ys)
    → fields_in f s o (m.x1 ∷ m.x2 ∷ []) ≡ fields_in f s o (m.y1 ∷ m.y2 ∷ []) → fields_in f s o xs ≡ fields_in f s o ys
two_fields f s o p q xs ys m e = ap (fields_in f s o) m.xs_are ∙ e ∙ sym (ap (fields_in f s o) m.ys_are)

three_fields : (f : Form) (s : Scope) (o : Op) (p q r : Part) (xs ys : List (List ℕ)) (m : Threes p q r xs ys)
    → fields_in f s o (m.x1 ∷ m.more.x1 ∷ m.more.x2 ∷ []) ≡ fields_in f s o (m.y1 ∷ m.more.y1 ∷ m.more.y2 ∷ []) → fields_in f s o xs ≡ fields_in f s o ys
three_fields f s o p q r xs ys m e =
    ap (fields_in f s o) (m.xs_are ∙ ap (λ t. m.x1 ∷ t) m.more.xs_are) ∙ e
    ∙ sym (ap (fields_in f s o) (m.ys_are ∙ ap (λ t. m.y1 ∷ t) m.more.ys_are))

fields_same : (f : Form) (s : Scope) (o : Op) (xs ys : List (List ℕ)) → AllMeanTheSame (parts_in f) xs ys → fields_in f s o xs ≡ fields_in f s o ys
fields_same Upper s o xs ys h =
    let m = pairs RegisterPart NumberPart xs ys h in
    two_fields Upper s o RegisterPart NumberPart xs ys m
    (two_same (register m.x1) (register m.y1) (immediate_number m.x2) (immediate_number m.y2) (λ rd imm. Ok (inst_of o rd 0 0 imm))
    (register_same m.x1 m.y1 m.first) (immediate_same m.x2 m.y2 m.second))
fields_same Jump s o xs ys h =
    let m = pairs RegisterPart TargetPart xs ys h in
    two_fields Jump s o RegisterPart TargetPart xs ys m
    (two_same (register m.x1) (register m.y1) (target s m.x2) (target s m.y2) (λ rd imm. Ok (inst_of o rd 0 0 imm))
    (register_same m.x1 m.y1 m.first) (target_same s m.x2 m.y2 m.second))
fields_same Load s o xs ys h =
    let m = pairs RegisterPart AddressPart xs ys h in
    two_fields Load s o RegisterPart AddressPart xs ys m
    (two_same (register m.x1) (register m.y1) (address m.x2) (address m.y2) (λ rd a. Ok (inst_of o rd a.1 0 a.0))
    (register_same m.x1 m.y1 m.first) (address_same m.x2 m.y2 m.second))
fields_same Store s o xs ys h =
    let m = pairs RegisterPart AddressPart xs ys h in
    two_fields Store s o RegisterPart AddressPart xs ys m
    (two_same (register m.x1) (register m.y1) (address m.x2) (address m.y2) (λ rs2 a. Ok (inst_of o 0 a.1 rs2 a.0))
    (register_same m.x1 m.y1 m.first) (address_same m.x2 m.y2 m.second))
fields_same Immediate s o xs ys h =
    let m = threes RegisterPart RegisterPart NumberPart xs ys h in
    let n = m.more in
    three_fields Immediate s o RegisterPart RegisterPart NumberPart xs ys m
    (three_same (register m.x1) (register m.y1) (register n.x1) (register n.y1) (immediate_number n.x2) (immediate_number n.y2)
    (λ rd rs1 imm. Ok (inst_of o rd rs1 0 imm))
    (register_same m.x1 m.y1 m.first) (register_same n.x1 n.y1 n.first) (immediate_same n.x2 n.y2 n.second))
fields_same Branch s o xs ys h =
    let m = threes RegisterPart RegisterPart TargetPart xs ys h in
    let n = m.more in
    three_fields Branch s o RegisterPart RegisterPart TargetPart xs ys m
    (three_same (register m.x1) (register m.y1) (register n.x1) (register n.y1) (target s n.x2) (target s n.y2)
    (λ rs1 rs2 imm. Ok (inst_of o 0 rs1 rs2 imm))
    (register_same m.x1 m.y1 m.first) (register_same n.x1 n.y1 n.first) (target_same s n.x2 n.y2 n.second))
fields_same Registers s o xs ys h =
    let m = threes RegisterPart RegisterPart RegisterPart xs ys h in
    let n = m.more in
    three_fields Registers s o RegisterPart RegisterPart RegisterPart xs ys m
    (three_same (register m.x1) (register m.y1) (register n.x1) (register n.y1) (register n.x2) (register n.y2)
    (λ rd rs1 rs2. Ok (inst_of o rd rs1 rs2 (pos 0)))
    (register_same m.x1 m.y1 m.first) (register_same n.x1 n.y1 n.first) (register_same n.x2 n.y2 n.second))
fields_same CsrRegister s o xs ys h =
    let m = threes RegisterPart ControlPart RegisterPart xs ys h in
    let n = m.more in
    three_fields CsrRegister s o RegisterPart ControlPart RegisterPart xs ys m
    (three_same (register m.x1) (register m.y1) (csr n.x1) (csr n.y1) (register n.x2) (register n.y2)
    (λ rd imm rs1. Ok (inst_of o rd rs1 0 imm))
    (register_same m.x1 m.y1 m.first) n.first (register_same n.x2 n.y2 n.second))
fields_same CsrImmediate s o xs ys h =
    let m = threes RegisterPart ControlPart NumberPart xs ys h in
    let n = m.more in
    three_fields CsrImmediate s o RegisterPart ControlPart NumberPart xs ys m
    (three_same (register m.x1) (register m.y1) (csr n.x1) (csr n.y1) (immediate_number n.x2) (immediate_number n.y2)
    (λ rd imm k. chain (five_bits k) (λ rs1. Ok (inst_of o rd rs1 0 imm)))
    (register_same m.x1 m.y1 m.first) n.first (immediate_same n.x2 n.y2 n.second))
fields_same Alone s o [] [] h = refl
fields_same Alone s o [] (y ∷ ys) h = absurd h
fields_same Alone s o (x ∷ xs) [] h = absurd h
fields_same Alone s o (x ∷ xs) (y ∷ ys) h = absurd h

-- ---- one line

plain_same : (xs ys : List (List ℕ)) → AllMeanTheSame (NumberPart ∷ []) xs ys → plain_word xs ≡ plain_word ys
plain_same [] ys h = absurd h
plain_same (x ∷ xs) [] h = absurd h
plain_same (x ∷ []) (y ∷ []) h = ap (λ o. chain (ok_or o Operand) word_from) h.0
plain_same (x ∷ []) (y ∷ y2 ∷ ys) h = absurd h.1
plain_same (x ∷ x2 ∷ xs) (y ∷ []) h = absurd h.1
plain_same (x ∷ x2 ∷ xs) (y ∷ y2 ∷ ys) h = absurd h.1

operation_same : (s : Scope) (o : Option Op) (xs ys : List (List ℕ)) → AllMeanTheSame (parts_of o) xs ys
    → chain (ok_or o Word) (operation_word s xs) ≡ chain (ok_or o Word) (operation_word s ys)
operation_same s None xs ys h = refl
operation_same s (Some o) xs ys h = ap (λ r. chain r encoded) (fields_same (form_of o) s o xs ys h)

named_same : (s : Scope) (b : Bool) (o : Option Op) (xs ys : List (List ℕ)) → AllMeanTheSame (if b then NumberPart ∷ [] else parts_of o) xs ys
    → (if b then plain_word xs else chain (ok_or o Word) (operation_word s xs)) ≡ (if b then plain_word ys else chain (ok_or o Word) (operation_word s ys))
named_same s true o xs ys h = plain_same xs ys h
named_same s false o xs ys h = operation_same s o xs ys h

instruction_same : (s : Scope) (name : List ℕ) (xs ys : List (List ℕ)) → AllMeanTheSame (parts_named name) xs ys → instruction_word s name xs ≡ instruction_word s name ys
instruction_same s name xs ys h = named_same s (bytes_eq name (codes ".word")) (operation_named name) xs ys h

instruction_line : (labels : List ℕ → Option Place) (n k : ℕ) (x y : List ℕ) (xs ys : List (List ℕ)) → x ≡ y → (xs ≡ ys) ⊎ AllMeanTheSame (parts_named x) xs ys
    → line_word labels n k (Instruction x xs) ≡ line_word labels n k (Instruction y ys)
instruction_line labels n k x y xs ys e (inl same) =
    ap (λ t. line_word labels n k (Instruction t xs)) e ∙ ap (λ ts. line_word labels n k (Instruction y ts)) same
instruction_line labels n k x y xs ys e (inr alike) =
    ap (λ r. chain r (λ w. Ok (Some w))) (instruction_same (record { place = k; labels = labels }) x xs ys alike)
    ∙ ap (λ t. line_word labels n k (Instruction t ys)) e

line_same : (labels : List ℕ → Option Place) (n k : ℕ) (l m : Line) → AreAlike l m → line_word labels n k l ≡ line_word labels n k m
line_same labels n k Blank Blank h = refl
line_same labels n k Blank (Label y) h = absurd h
line_same labels n k Blank (Instruction y ys) h = absurd h
line_same labels n k (Label x) Blank h = absurd h
line_same labels n k (Label x) (Label y) h = ap (λ t. line_word labels n k (Label t)) h
line_same labels n k (Label x) (Instruction y ys) h = absurd h
line_same labels n k (Instruction x xs) Blank h = absurd h
line_same labels n k (Instruction x xs) (Label y) h = absurd h
line_same labels n k (Instruction x xs) (Instruction y ys) h = instruction_line labels n k x y xs ys h.0 h.1

words_in_same : (l m : Line) → AreAlike l m → words_in l ≡ words_in m
words_in_same Blank Blank h = refl
words_in_same Blank (Label y) h = absurd h
words_in_same Blank (Instruction y ys) h = absurd h
words_in_same (Label x) Blank h = absurd h
words_in_same (Label x) (Label y) h = refl
words_in_same (Label x) (Instruction y ys) h = absurd h
words_in_same (Instruction x xs) Blank h = absurd h
words_in_same (Instruction x xs) (Label y) h = absurd h
words_in_same (Instruction x xs) (Instruction y ys) h = refl

-- ---- all lines

labels_step : (n k : ℕ) (l m : Line) (ls ms : List Line) → AreAlike l m → labels_from (n + 1) (k + words_in l) ls ≡ labels_from (n + 1) (k + words_in l) ms
    → labels_from n k (l ∷ ls) ≡ labels_from n k (m ∷ ms)
labels_step n k Blank Blank ls ms h e = e
labels_step n k Blank (Label y) ls ms h e = absurd h
labels_step n k Blank (Instruction y ys) ls ms h e = absurd h
labels_step n k (Label x) Blank ls ms h e = absurd h
labels_step n k (Label x) (Label y) ls ms h e =
    ap (λ t. (t, record { line = n; words = k }) ∷ labels_from (n + 1) (k + 0) ls) h ∙ ap (λ t. (y, record { line = n; words = k }) ∷ t) e
labels_step n k (Label x) (Instruction y ys) ls ms h e = absurd h
labels_step n k (Instruction x xs) Blank ls ms h e = absurd h
labels_step n k (Instruction x xs) (Label y) ls ms h e = absurd h
labels_step n k (Instruction x xs) (Instruction y ys) ls ms h e = e

labels_same : (n k : ℕ) (ls ms : List Line) → AllAreAlike ls ms → labels_from n k ls ≡ labels_from n k ms
labels_same n k [] [] h = refl
labels_same n k [] (m ∷ ms) h = absurd h
labels_same n k (l ∷ ls) [] h = absurd h
labels_same n k (l ∷ ls) (m ∷ ms) h = labels_step n k l m ls ms h.0 (labels_same (n + 1) (k + words_in l) ls ms h.1)

words_same : (labels : List ℕ → Option Place) (n k : ℕ) (ls ms : List Line) → AllAreAlike ls ms → words_from labels n k ls ≡ words_from labels n k ms
words_same labels n k [] [] h = refl
words_same labels n k [] (m ∷ ms) h = absurd h
words_same labels n k (l ∷ ls) [] h = absurd h
words_same labels n k (l ∷ ls) (m ∷ ms) h =
    ap (λ w. then_words n w (words_from labels (n + 1) (k + words_in l) ls)) (line_same labels n k l m h.0)
    ∙ ap (λ r. then_words n (line_word labels n k m) r) (words_same labels (n + 1) (k + words_in l) ls ms h.1)
    ∙ ap (λ j. then_words n (line_word labels n k m) (words_from labels (n + 1) (k + j) ms)) (words_in_same l m h.0)

-- operands that mean the same give the same words
pub words_of_lines-alike : SpellingsAreFree
words_of_lines-alike ls ms h =
    words_same (place_of (labels_from 1 0 ls)) 1 0 ls ms h
    ∙ ap (λ labels. words_from (place_of labels) 1 0 ms) (labels_same 1 0 ls ms h)

-- ---- names of registers

-- an entry of the names by use, as a test of the names that are spelled out
abbrev finds_itself : List ℕ × ℕ → Bool
finds_itself e = ltb e.1 32 && is_number e.1 (number_named (spelled ++ registers_by_use) e.0)

each_finds_itself : list_all finds_itself registers_by_use ≡ true
each_finds_itself = refl

-- a name by use means the same as the name by number
pub register_of-names : EachNameIsTheRegisters
register_of-names name n known =
    let found = AllPass-from_list_all finds_itself registers_by_use each_finds_itself known.0 (name, n) known.1 in
    let itself : finds_itself (name, n) ≡ true = subst (λ e. finds_itself e ≡ true) known.2 found in
    let (small, is) = and_parts (ltb n 32) (is_number n (number_named (spelled ++ registers_by_use) name)) itself in
    sym (look_up name) ∙ number_is n (number_named (spelled ++ registers_by_use) name) is ∙ sym (register_of-name n (ltb-true n 32 small))
