-- Operands one by one.
use Rattle.std.proofs.Common.{◌≡◌, ℕ, ◌<◌, List, [], ◌∷◌, map, length, true, false, Ok, Err, refl, ap, arith}
use Rattle.std.proofs.lemmas.Bool.{ltb-true, ltb-false}
use Rattle.std.proofs.lemmas.List.Splits.{slice_split_first, slice_split_none}
use Rattle.std.proofs.lemmas.List.Sums.{fails_before_first}
use Rattle.std.specs.Prelude.{if◌then◌else◌}
use Rattle.std.specs.List.{slice_split, before_first, after_first}
use Rattle.rv_asm.specs.declared.fault.AsmKind.{AsmKind}
use Rattle.rv_asm.specs.declared.fault.AsmKind.TheVariants.{Operand}
use Rattle.rv_asm.specs.Bytes.{trimmed}
use Rattle.rv_asm.specs.Lines.{is_comma, operands_of}
use Rattle.rv_asm.specs.Operands.{chain, one, two, three}
use Rattle.rv_asm.specs.Seen.{has_comma, cut, last}

-- the operands of a text, also of an empty one
abbrev pub parts : List ℕ → List (List ℕ)
parts text = map trimmed (slice_split is_comma text)

-- where there is a comma, the first operand ends at it
parts_cut : (t : List ℕ) → has_comma t ≡ true → parts t ≡ trimmed (before_first is_comma t) ∷ parts (after_first is_comma t)
parts_cut t h = ap (map trimmed) (slice_split_first is_comma t 0 (ltb-true _ _ h))

-- where there is none, there is one operand
parts_last : (t : List ℕ) → has_comma t ≡ false → parts t ≡ trimmed t ∷ []
parts_last t h = ap (map trimmed) (slice_split_none is_comma t (λ k d lt. let out = ltb-false _ _ h in fails_before_first is_comma t k d (omega arith)))

-- three parts or more
two_of_more : (a b : List ℕ) (t : List ℕ) → two (a ∷ b ∷ parts t) ≡ Err Operand
two_of_more a b t =
    elim (has_comma t) as (λ x. has_comma t ≡ x → two (a ∷ b ∷ parts t) ≡ Err Operand) [
      | true ↦ λ h. rw (parts_cut t h) refl
      | false ↦ λ h. rw (parts_last t h) refl
    ] refl

three_of_more : (a b c : List ℕ) (t : List ℕ) → three (a ∷ b ∷ c ∷ parts t) ≡ Err Operand
three_of_more a b c t =
    elim (has_comma t) as (λ x. has_comma t ≡ x → three (a ∷ b ∷ c ∷ parts t) ≡ Err Operand) [
      | true ↦ λ h. rw (parts_cut t h) refl
      | false ↦ λ h. rw (parts_last t h) refl
    ] refl

one_of_more : (a : List ℕ) (t : List ℕ) → one (a ∷ parts t) ≡ Err Operand
one_of_more a t =
    elim (has_comma t) as (λ x. has_comma t ≡ x → one (a ∷ parts t) ≡ Err Operand) [
      | true ↦ λ h. rw (parts_cut t h) refl
      | false ↦ λ h. rw (parts_last t h) refl
    ] refl

-- the parts one by one
one_parts : (t : List ℕ) → one (parts t) ≡ last t
one_parts t =
    elim (has_comma t) as (λ x. has_comma t ≡ x → one (parts t) ≡ (if x then Err Operand else Ok (trimmed t))) [
      | true ↦ λ h. rw (parts_cut t h) (one_of_more _ (after_first is_comma t))
      | false ↦ λ h. rw (parts_last t h) refl
    ] refl

two_after : (a t : List ℕ) → two (a ∷ parts t) ≡ chain (last t) (λ (s : List ℕ). Ok (a, s))
two_after a t =
    elim (has_comma t) as (λ x. has_comma t ≡ x → two (a ∷ parts t) ≡ chain (if x then Err Operand else Ok (trimmed t)) (λ (s : List ℕ). Ok (a, s))) [
      | true ↦ λ h. rw (parts_cut t h) (two_of_more a (trimmed (before_first is_comma t)) (after_first is_comma t))
      | false ↦ λ h. rw (parts_last t h) refl
    ] refl

two_parts : (t : List ℕ) → two (parts t) ≡ chain (cut t) (λ (p : List ℕ × List ℕ). chain (last p.1) (λ (s : List ℕ). Ok (p.0, s)))
two_parts t =
    elim (has_comma t) as (λ x. has_comma t ≡ x → two (parts t) ≡ chain (if x then Ok (trimmed (before_first is_comma t), after_first is_comma t) else Err Operand) (λ (p : List ℕ × List ℕ). chain (last p.1) (λ (s : List ℕ). Ok (p.0, s)))) [
      | true ↦ λ h. rw (parts_cut t h) (two_after (trimmed (before_first is_comma t)) (after_first is_comma t))
      | false ↦ λ h. rw (parts_last t h) refl
    ] refl

three_after_two : (a b t : List ℕ) → three (a ∷ b ∷ parts t) ≡ chain (last t) (λ (s : List ℕ). Ok (a, b, s))
three_after_two a b t =
    elim (has_comma t) as (λ x. has_comma t ≡ x → three (a ∷ b ∷ parts t) ≡ chain (if x then Err Operand else Ok (trimmed t)) (λ (s : List ℕ). Ok (a, b, s))) [
      | true ↦ λ h. rw (parts_cut t h) (three_of_more a b (trimmed (before_first is_comma t)) (after_first is_comma t))
      | false ↦ λ h. rw (parts_last t h) refl
    ] refl

three_after : (a t : List ℕ) → three (a ∷ parts t) ≡ chain (cut t) (λ (q : List ℕ × List ℕ). chain (last q.1) (λ (s : List ℕ). Ok (a, q.0, s)))
three_after a t =
    elim (has_comma t) as (λ x. has_comma t ≡ x → three (a ∷ parts t) ≡ chain (if x then Ok (trimmed (before_first is_comma t), after_first is_comma t) else Err Operand) (λ (q : List ℕ × List ℕ). chain (last q.1) (λ (s : List ℕ). Ok (a, q.0, s)))) [
      | true ↦ λ h. rw (parts_cut t h) (three_after_two a (trimmed (before_first is_comma t)) (after_first is_comma t))
      | false ↦ λ h. rw (parts_last t h) refl
    ] refl

three_parts : (t : List ℕ) → three (parts t) ≡ chain (cut t) (λ (p : List ℕ × List ℕ). chain (cut p.1) (λ (q : List ℕ × List ℕ). chain (last q.1) (λ (s : List ℕ). Ok (p.0, q.0, s))))
three_parts t =
    elim (has_comma t) as (λ x. has_comma t ≡ x → three (parts t) ≡ chain (if x then Ok (trimmed (before_first is_comma t), after_first is_comma t) else Err Operand) (λ (p : List ℕ × List ℕ). chain (cut p.1) (λ (q : List ℕ × List ℕ). chain (last q.1) (λ (s : List ℕ). Ok (p.0, q.0, s))))) [
      | true ↦ λ h. rw (parts_cut t h) (three_after (trimmed (before_first is_comma t)) (after_first is_comma t))
      | false ↦ λ h. rw (parts_last t h) refl
    ] refl

-- and the operands
pub one_is : (t : List ℕ) → 0 < length t → one (operands_of t) ≡ last t
one_is [] some = absurd (omega arith)
one_is (c ∷ cs) some = one_parts (c ∷ cs)

pub two_is : (t : List ℕ) → two (operands_of t) ≡ chain (cut t) (λ (p : List ℕ × List ℕ). chain (last p.1) (λ (s : List ℕ). Ok (p.0, s)))
two_is [] = refl
two_is (c ∷ cs) = two_parts (c ∷ cs)

pub three_is : (t : List ℕ) → three (operands_of t) ≡ chain (cut t) (λ (p : List ℕ × List ℕ). chain (cut p.1) (λ (q : List ℕ × List ℕ). chain (last q.1) (λ (s : List ℕ). Ok (p.0, q.0, s))))
three_is [] = refl
three_is (c ∷ cs) = three_parts (c ∷ cs)

-- as the code finds them
pub two_first : (t : List ℕ) (k : AsmKind) → Err k ≡ cut t → Err k ≡ two (operands_of t)
two_first t k e = rw (two_is t, ← e) refl

pub two_second : (t a rest : List ℕ) (k : AsmKind) → Ok (a, rest) ≡ cut t → Err k ≡ last rest → Err k ≡ two (operands_of t)
two_second t a rest k e f = rw (two_is t, ← e, ← f) refl

pub two_both : (t a rest b : List ℕ) → Ok (a, rest) ≡ cut t → Ok b ≡ last rest → Ok (a, b) ≡ two (operands_of t)
two_both t a rest b e f = rw (two_is t, ← e, ← f) refl

pub three_first : (t : List ℕ) (k : AsmKind) → Err k ≡ cut t → Err k ≡ three (operands_of t)
three_first t k e = rw (three_is t, ← e) refl

pub three_second : (t a rest : List ℕ) (k : AsmKind) → Ok (a, rest) ≡ cut t → Err k ≡ cut rest → Err k ≡ three (operands_of t)
three_second t a rest k e f = rw (three_is t, ← e, ← f) refl

pub three_third : (t a rest b more : List ℕ) (k : AsmKind) → Ok (a, rest) ≡ cut t → Ok (b, more) ≡ cut rest → Err k ≡ last more → Err k ≡ three (operands_of t)
three_third t a rest b more k e f g = rw (three_is t, ← e, ← f, ← g) refl

pub three_all : (t a rest b more c : List ℕ) → Ok (a, rest) ≡ cut t → Ok (b, more) ≡ cut rest → Ok c ≡ last more → Ok (a, b, c) ≡ three (operands_of t)
three_all t a rest b more c e f g = rw (three_is t, ← e, ← f, ← g) refl
