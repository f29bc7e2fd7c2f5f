-- The words of the lines that were read, with those of the lines that are left.
use Rattle.std.proofs.Common.{◌≡◌, ℕ, ◌+◌, List, [], ◌∷◌, ◌++◌, length, Bool, true, false, Option, Some, None, Result, Ok, Err, refl, sym, ap, ◌∙◌, arith}
use Rattle.std.proofs.lemmas.List.{append_assoc, length_push}
use Rattle.std.specs.Prelude.{if◌then◌else◌}
use Rattle.rv_asm.specs.declared.fault.AsmFault.{AsmFault}
use Rattle.rv_asm.specs.declared.fault.AsmFault.TheVariants.{NoMemory, Line as FaultyLine}
use Rattle.rv_asm.specs.declared.fault.AsmKind.{AsmKind}
use Rattle.rv_asm.specs.declared.fault.AsmKind.TheVariants.{Twice}
use Rattle.rv_asm.specs.declared.place.Place.{Place}
use Rattle.rv_asm.specs.Labels.{words_in}
use Rattle.rv_asm.specs.Lines.{Line, Blank, Label, Instruction}
use Rattle.rv_asm.specs.Operands.{chain}
use Rattle.rv_asm.specs.Source.{onto, line_word, then_words, words_from, is_given_before, instruction_word, Explains}
use Rattle.rv_asm.specs.Steps.{behind, StepsOver, StopsAt}

-- one word more in front
behind-onto : (ws : List ℕ) (w : ℕ) (r : Result (List ℕ) AsmFault) → behind ws (onto w r) ≡ behind (ws ++ w ∷ []) r
behind-onto ws w (Ok rest) = ap Ok (rw append_assoc refl)
behind-onto ws w (Err e) = refl

-- none in front
pub behind-nil : (r : Result (List ℕ) AsmFault) → behind [] r ≡ r
behind-nil (Ok rest) = refl
behind-nil (Err e) = refl

-- an instruction has a word, if it is answered
never_none : (r : Result ℕ AsmKind) → chain r (λ w. Ok (Some w)) ≡ Ok None → ⊥
never_none (Ok w) e = absurd (cc)
never_none (Err k) e = absurd (cc)

-- no word, no place
no_place : (labels : List ℕ → Option Place) (n k : ℕ) (l : Line) → line_word labels n k l ≡ Ok None → words_in l ≡ 0
no_place labels n k Blank e = refl
no_place labels n k (Label name) e = refl
no_place labels n k (Instruction name operands) e = absurd (never_none (instruction_word (record { place = k; labels = labels }) name operands) e)

-- a label has none
label_word : Bool → Result (Option ℕ) AsmKind
label_word b = if b then Err Twice else Ok None

never_some : (b : Bool) (w : ℕ) → label_word b ≡ Ok (Some w) → ⊥
unfolding label_word
never_some true w e = absurd (cc)
never_some false w e = absurd (cc)

-- a word, one place
one_place : (labels : List ℕ → Option Place) (n k w : ℕ) (l : Line) → line_word labels n k l ≡ Ok (Some w) → words_in l ≡ 1
unfolding label_word
one_place labels n k w Blank e = absurd (cc)
one_place labels n k w (Label name) e = absurd (never_some (is_given_before n (labels name)) w e)
one_place labels n k w (Instruction name operands) e = refl

-- a line without a word
pub steps_none : (labels : List ℕ → Option Place) (n : ℕ) (l : Line) (ws : List ℕ) → Ok None ≡ line_word labels n (length ws) l → StepsOver labels n l ws ws
steps_none labels n l ws e ls =
    let at : length ws + words_in l ≡ length ws = omega (arith, no_place labels n (length ws) l (sym e)) in
    ap (λ r. behind ws (then_words n r (words_from labels (n + 1) (length ws + words_in l) ls))) (sym e)
    ∙ ap (λ k. behind ws (words_from labels (n + 1) k ls)) at

-- a line with a word
pub steps_some : (labels : List ℕ → Option Place) (n w : ℕ) (l : Line) (ws new : List ℕ) → Ok (Some w) ≡ line_word labels n (length ws) l → new ≡ ws ++ w ∷ [] → StepsOver labels n l ws new
steps_some labels n w l ws new e made ls =
    let at : length ws + words_in l ≡ length new = omega (arith, one_place labels n (length ws) w l (sym e), length_push ws w, ap length made) in
    ap (λ r. behind ws (then_words n r (words_from labels (n + 1) (length ws + words_in l) ls))) (sym e)
    ∙ ap (λ k. behind ws (onto w (words_from labels (n + 1) k ls))) at
    ∙ behind-onto ws w (words_from labels (n + 1) (length new) ls)
    ∙ ap (λ xs. behind xs (words_from labels (n + 1) (length new) ls)) (sym made)

-- a faulty line
pub stops : (labels : List ℕ → Option Place) (n k : ℕ) (l : Line) (kind : AsmKind) → Err kind ≡ line_word labels n k l → StopsAt labels n k l (FaultyLine n kind)
stops labels n k l kind e ls = ap (λ r. then_words n r (words_from labels (n + 1) (k + words_in l) ls)) (sym e)

-- where what is left is faulty, the whole is
pub stop_whole : (r whole : Result (List ℕ) AsmFault) (ws : List ℕ) (e : AsmFault) → Explains r e → behind ws r ≡ whole → Explains whole e
stop_whole r whole ws NoMemory x same = tt
stop_whole r whole ws (FaultyLine n kind) x same = sym same ∙ ap (behind ws) x
