-- Operands that are spelled apart and mean the same. This project's own rule.
use Rattle.std.specs.Prelude.{◌≡◌, ◌⊎◌, ℕ, Contains, IsTrue, true, false, List, [], ◌∷◌, ◌++◌, Option, Some, None, codes, if◌then◌else◌, ⊤}
use Rattle.std.specs.List.{list_all}
use Rattle.std.specs.Str.{bytes_eq}
use Rattle.rv_table.specs.declared.op.Op.{Op}
use Rattle.rv_asm.specs.declared.form.Form.{Form}
use Rattle.rv_asm.specs.declared.form.Form.TheVariants.{Upper, Jump, Load, Immediate, Branch, Store, Registers, CsrRegister, CsrImmediate, Alone}
use Rattle.rv_asm.specs.Forms.{form_of}
use Rattle.rv_asm.specs.Lines.{Line, Blank, Label, Instruction}
use Rattle.rv_asm.specs.Names.{operation_named, register_name, register_of, registers_by_use}
use Rattle.rv_asm.specs.Numbers.{number_of}
use Rattle.rv_asm.specs.Operands.{csr, is_open}
use Rattle.rv_asm.specs.Source.{words_of_lines}

-- what an operand is, by its place
pub data Part : Type 0 where
  RegisterPart : Part
  NumberPart : Part
  ControlPart : Part
  TargetPart : Part
  AddressPart : Part

-- the operands of a form
abbrev pub parts_in : Form → List Part
parts_in Upper = RegisterPart ∷ NumberPart ∷ []
parts_in Jump = RegisterPart ∷ TargetPart ∷ []
parts_in Load = RegisterPart ∷ AddressPart ∷ []
parts_in Immediate = RegisterPart ∷ RegisterPart ∷ NumberPart ∷ []
parts_in Branch = RegisterPart ∷ RegisterPart ∷ TargetPart ∷ []
parts_in Store = RegisterPart ∷ AddressPart ∷ []
parts_in Registers = RegisterPart ∷ RegisterPart ∷ RegisterPart ∷ []
parts_in CsrRegister = RegisterPart ∷ ControlPart ∷ RegisterPart ∷ []
parts_in CsrImmediate = RegisterPart ∷ ControlPart ∷ NumberPart ∷ []
parts_in Alone = []

-- the operands of an operation, where there is one
abbrev pub parts_of : Option Op → List Part
parts_of (Some o) = parts_in (form_of o)
parts_of None = []

-- the operands of an instruction of this name
abbrev pub parts_named : List ℕ → List Part
parts_named name = if bytes_eq name (codes ".word") then NumberPart ∷ [] else parts_of (operation_named name)

-- distances of this sign, behind `.+` or `.-`, whose numbers are the same
pub record SameDistance (sign : ℕ) (x y : List ℕ) : Type 0 where
  pub size : List ℕ
  pub other : List ℕ
  pub first : x ≡ 46 ∷ sign ∷ size
  pub second : y ≡ 46 ∷ sign ∷ other
  pub same : number_of size ≡ number_of other

-- an offset and a base register in brackets
pub record IsAddressOf (text offset base : List ℕ) : Type 0 where
  pub is : text ≡ offset ++ 40 ∷ (base ++ 41 ∷ [])
  pub plain : IsTrue (list_all (λ c. if is_open c then false else true) offset)

-- addresses whose offsets and base registers are the same
pub record SameAddress (x y : List ℕ) : Type 0 where
  pub offset : List ℕ
  pub base : List ℕ
  pub other_offset : List ℕ
  pub other_base : List ℕ
  pub first : IsAddressOf x offset base
  pub second : IsAddressOf y other_offset other_base
  pub same_offset : number_of offset ≡ number_of other_offset
  pub same_base : register_of base ≡ register_of other_base

-- two texts mean the same at such a place
abbrev pub MeanTheSame : Part → List ℕ → List ℕ → Type 0
MeanTheSame RegisterPart x y = register_of x ≡ register_of y
MeanTheSame NumberPart x y = number_of x ≡ number_of y
MeanTheSame ControlPart x y = csr x ≡ csr y
MeanTheSame TargetPart x y = (x ≡ y) ⊎ (SameDistance 43 x y ⊎ SameDistance 45 x y)
MeanTheSame AddressPart x y = SameAddress x y

-- operands at such places mean the same, one by one
abbrev pub AllMeanTheSame : List Part → List (List ℕ) → List (List ℕ) → Type 0
AllMeanTheSame [] [] [] = ⊤
AllMeanTheSame (p ∷ ps) (x ∷ xs) (y ∷ ys) = MeanTheSame p x y × AllMeanTheSame ps xs ys
AllMeanTheSame _ _ _ = ⊥

-- two lines differ at most in how their operands are spelled
abbrev pub AreAlike : Line → Line → Type 0
AreAlike Blank Blank = ⊤
AreAlike (Label x) (Label y) = x ≡ y
AreAlike (Instruction name xs) (Instruction other ys) = (name ≡ other) × ((xs ≡ ys) ⊎ AllMeanTheSame (parts_named name) xs ys)
AreAlike _ _ = ⊥

-- so do lines one by one
abbrev pub AllAreAlike : List Line → List Line → Type 0
AllAreAlike [] [] = ⊤
AllAreAlike (l ∷ ls) (m ∷ ms) = AreAlike l m × AllAreAlike ls ms
AllAreAlike _ _ = ⊥

-- operands that are spelled apart and mean the same give the same words, or the same fault
abbrev pub SpellingsAreFree : Type 0
SpellingsAreFree = (ls ms : List Line) → AllAreAlike ls ms → words_of_lines ls ≡ words_of_lines ms

-- each name of a register by its use means the same as its name by number
abbrev pub EachNameIsTheRegisters : Type 0
EachNameIsTheRegisters =
    (name : List ℕ) (n : ℕ) → Contains registers_by_use (name, n) → MeanTheSame RegisterPart name (register_name n)
