-- How a source may be laid out: what its lines say doesn't hang on blanks and comments. This project's own rule.
use Rattle.std.specs.Prelude.{◌≡◌, ℕ, ◌<◌, ◌==◌, nat_lt, Bool, true, IsTrue, not, ◌&&◌, All, List, [], ◌∷◌, ◌++◌, map, length, Option, Some, None, ⊤}
use Rattle.std.specs.List.{AllByRecursion, list_all}
use Rattle.rv_asm.specs.Bytes.{is_blank}
use Rattle.rv_asm.specs.Lines.{Line, Blank, Label, Instruction, is_label}
use Rattle.rv_asm.specs.Source.{words_of, words_of_lines}

-- whether a byte is none of those that end a word, a label or a line
abbrev pub is_plain : ℕ → Bool
is_plain c = nat_lt 32 c && (not (c == 35) && (not (c == 44) && not (c == 58)))

-- a word of plain bytes
pub record Token (t : List ℕ) : Type 0 where
  pub some : 0 < length t
  pub plain : list_all is_plain t ≡ true

-- spaces and tabs alone
abbrev pub AreBlanks : List ℕ → Type 0
AreBlanks text = IsTrue (list_all is_blank text)

-- an operand behind another one, with the blanks before and behind the comma between them
pub record Further : Type 0 where
  pub before : List ℕ
  pub behind : List ℕ
  pub operand : List ℕ

-- what a line has besides the blanks at its ends and its comment: nothing, a label, a name alone, or a name, blanks, an
-- operand and further ones
pub data Body : Type 0 where
  Nothing : Body
  Mark : List ℕ → Body
  Name : List ℕ → Body
  Operands : List ℕ → List ℕ → List ℕ → List Further → Body

-- a line with the blanks at its ends and what stands behind its `#`, if it has one
pub record LaidOut : Type 0 where
  pub indent : List ℕ
  pub body : Body
  pub tail : List ℕ
  pub comment : Option (List ℕ)

-- further operands, as they stand
abbrev pub further_text : List Further → List ℕ
further_text [] = []
further_text (f ∷ fs) = f.before ++ 44 ∷ (f.behind ++ (f.operand ++ further_text fs))

-- what a line has, as it stands
abbrev pub body_text : Body → List ℕ
body_text Nothing = []
body_text (Mark name) = name ++ 58 ∷ []
body_text (Name name) = name
body_text (Operands name gap first more) = name ++ (gap ++ (first ++ further_text more))

-- a comment, with its `#`
abbrev pub comment_text : Option (List ℕ) → List ℕ
comment_text None = []
comment_text (Some text) = 35 ∷ text

-- a line, as it stands
abbrev pub laid_out : LaidOut → List ℕ
laid_out l = (l.indent ++ (body_text l.body ++ l.tail)) ++ comment_text l.comment

-- lines, each but the last with a line feed
abbrev pub source_text : List LaidOut → List ℕ
source_text [] = []
source_text (l ∷ []) = laid_out l
source_text (l ∷ m ∷ more) = laid_out l ++ 10 ∷ source_text (m ∷ more)

-- further operands are words with blanks around their commas
pub record IsFurther (f : Further) : Type 0 where
  pub before : AreBlanks f.before
  pub behind : AreBlanks f.behind
  pub operand : Token f.operand

-- names and operands are words, and at least one blank stands behind a name that has operands
abbrev pub IsBody : Body → Type 0
IsBody Nothing = ⊤
IsBody (Mark name) = Token name × IsTrue (is_label name)
IsBody (Name name) = Token name
IsBody (Operands name gap first more) = Token name × AreBlanks gap × (0 < length gap) × Token first × AllByRecursion IsFurther more

-- a comment has no line feed
abbrev pub IsComment : Option (List ℕ) → Type 0
IsComment None = ⊤
IsComment (Some text) = IsTrue (list_all (λ c. not (c == 10)) text)

-- a line of a source
pub record IsLaidOut (l : LaidOut) : Type 0 where
  pub indent : AreBlanks l.indent
  pub body : IsBody l.body
  pub tail : AreBlanks l.tail
  pub comment : IsComment l.comment

-- what a line says: its words alone
abbrev pub body_says : Body → Line
body_says Nothing = Blank
body_says (Mark name) = Label name
body_says (Name name) = Instruction name []
body_says (Operands name gap first more) = Instruction name (first ∷ map (λ f. f.operand) more)

abbrev pub says : LaidOut → Line
says l = body_says l.body

-- the words of a source are those of what its lines say, whatever its blanks and comments are
abbrev pub BlanksAndCommentsAreFree : Type 0
BlanksAndCommentsAreFree =
    (l : LaidOut) (ls : List LaidOut) → All IsLaidOut (l ∷ ls)
    → words_of (source_text (l ∷ ls)) ≡ words_of_lines (map says (l ∷ ls))
