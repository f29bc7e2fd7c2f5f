-- A line that is laid out says its words alone, whatever its blanks and its comment are.
use Rattle.std.proofs.Common.{◌≡◌, ℕ, ◌<◌, List, [], ◌∷◌, ◌++◌, map, reverse, length, Bool, true, false, not, ◌&&◌, ◌||◌, eqb, Option, Some, None, refl, sym, ap, ◌∙◌, subst, arith}
use Rattle.std.proofs.lemmas.Bool.{and_parts}
use Rattle.std.proofs.lemmas.Bool.Decides.{nat_tests}
use Rattle.std.proofs.lemmas.List.{append_assoc, append-nil, length-append, reverse-append, reverse-reverse}
use Rattle.std.proofs.lemmas.List.Elements.{All-append, All-head, All-tail}
use Rattle.std.proofs.lemmas.List.Splits.{slice_split-cons_no, slice_split_at, slice_split_none}
use Rattle.std.specs.List.{list_all, All, AllByRecursion, before_first, after_first, slice_split, onto_first}
use Rattle.std.specs.Prelude.{if◌then◌else◌}
use Rattle.gc_text.specs.LineReader.{is_line_feed, lines_of}
use Rattle.rv_asm.specs.Bytes.{is_blank, without_blanks_before, without_blanks_after, trimmed, front_of_reversed}
use Rattle.rv_asm.specs.Layout.{AreBlanks, Body, Nothing, Mark, Name, Operands, BlanksAndCommentsAreFree, Further, IsBody, IsComment, IsFurther, IsLaidOut, LaidOut, Token, body_says, body_text, comment_text, further_text, is_plain, laid_out, says, source_text}
use Rattle.rv_asm.specs.Lines.{Label, Instruction, is_hash, is_comma, is_label, operands_of, instruction_of, label_before_colon, label_in, labelled, line_of_code, line_of}
use Rattle.rv_asm.specs.Source.{words_of, words_of_lines}
use Rattle.rv_asm.proofs.Tokens.{EndsPlain, EndsSolid, after_at, after_ends, after_solid, before_at, before_none, before_token, code_is, colon_ends, ends_behind, instruction_again, list_all-append, list_all-weaker, no_comma, none_pass, not_blank, operands_some, solid_plain, token_ends}

-- ---- blanks at the ends

blanks_in_front : (b t : List ℕ) → AreBlanks b → without_blanks_before (b ++ t) ≡ without_blanks_before t
blanks_in_front [] t h = refl
blanks_in_front (c ∷ cs) t h =
    let (here, more) = and_parts (is_blank c) (list_all is_blank cs) h in
    ap (λ x. if x then without_blanks_before (cs ++ t) else c ∷ (cs ++ t)) here ∙ blanks_in_front cs t more

reversed_blanks : (b : List ℕ) → AreBlanks b → AreBlanks (reverse b)
reversed_blanks [] h = refl
reversed_blanks (c ∷ cs) h =
    let (here, more) = and_parts (is_blank c) (list_all is_blank cs) h in
    subst AreBlanks (sym (reverse-append (c ∷ []) cs))
    (list_all-append is_blank (reverse cs) (c ∷ []) (reversed_blanks cs more) (ap (λ x. x && true) here))

blanks_at_end : (t b : List ℕ) → AreBlanks b → without_blanks_after (t ++ b) ≡ without_blanks_after t
blanks_at_end t b h =
    ap (λ r. reverse (without_blanks_before r)) (reverse-append t b)
    ∙ ap reverse (blanks_in_front (reverse b) (reverse t) (reversed_blanks b h))

only_blanks : (b : List ℕ) → AreBlanks b → trimmed b ≡ []
only_blanks b h = ap without_blanks_after (subst (λ t. without_blanks_before t ≡ []) (append-nil b) (blanks_in_front b [] h))

-- what begins with a word and doesn't end in a blank is left where the blanks around it go
trimmed_inside : (indent first more tail : List ℕ) → AreBlanks indent → AreBlanks tail → Token first → EndsSolid (first ++ more)
    → trimmed (indent ++ ((first ++ more) ++ tail)) ≡ first ++ more
trimmed_inside indent first more tail before after token ends =
    let assoc = append_assoc first more tail in
    ap without_blanks_after (blanks_in_front indent ((first ++ more) ++ tail) before ∙ ap without_blanks_before assoc ∙ before_token first (more ++ tail) token ∙ sym assoc)
    ∙ blanks_at_end (first ++ more) tail after
    ∙ after_solid (first ++ more) ends

-- ---- operands

blank_no_comma : (c : ℕ) → is_blank c ≡ true → is_comma c ≡ false
blank_no_comma c h = grind (arith, nat_tests)

blank_on_first : (c : ℕ) → is_blank c ≡ true → (ps : List (List ℕ)) (q : List ℕ) (qs : List (List ℕ)) → map trimmed ps ≡ q ∷ qs → map trimmed (onto_first c ps) ≡ q ∷ qs
blank_on_first c h [] q qs e = absurd (cc)
blank_on_first c h (p ∷ ps) q qs e =
    ap (λ x. without_blanks_after (if x then without_blanks_before p else c ∷ p) ∷ map trimmed ps) h ∙ e

-- blanks in front of operands go
blanks_on_first : (b t : List ℕ) (q : List ℕ) (qs : List (List ℕ)) → AreBlanks b → map trimmed (slice_split is_comma t) ≡ q ∷ qs → map trimmed (slice_split is_comma (b ++ t)) ≡ q ∷ qs
blanks_on_first [] t q qs h e = e
blanks_on_first (c ∷ cs) t q qs h e =
    let (here, more) = and_parts (is_blank c) (list_all is_blank cs) h in
    ap (map trimmed) (slice_split-cons_no is_comma c (cs ++ t) (blank_no_comma c here))
    ∙ blank_on_first c here (slice_split is_comma (cs ++ t)) q qs (blanks_on_first cs t q qs more e)

-- and so do those behind one
trimmed_before : (o b : List ℕ) → Token o → AreBlanks b → trimmed (o ++ b) ≡ o
trimmed_before o b k h =
    ap without_blanks_after (before_token o b k) ∙ blanks_at_end o b h ∙ after_ends o (token_ends o k)

operands_are : (o : List ℕ) (fs : List Further) → Token o → AllByRecursion IsFurther fs
    → map trimmed (slice_split is_comma (o ++ further_text fs)) ≡ o ∷ map (λ f. f.operand) fs
operands_are o [] k ks =
    ap (λ t. map trimmed (slice_split is_comma t)) (append-nil o)
    ∙ ap (map trimmed) (slice_split_none is_comma o (no_comma o k))
    ∙ ap (λ t. t ∷ []) (subst (λ t. trimmed t ≡ o) (append-nil o) (trimmed_before o [] k refl))
operands_are o (f ∷ fs) k ks =
    let rest : List ℕ = f.behind ++ (f.operand ++ further_text fs) in
    let none = All-append (λ x. is_comma x ≡ false) o f.before (no_comma o k) (none_pass is_blank is_comma blank_no_comma f.before ks.0.before) in
    ap (λ t. map trimmed (slice_split is_comma t)) (sym (append_assoc o f.before (44 ∷ rest)))
    ∙ ap (map trimmed) (slice_split_at is_comma (o ++ f.before) 44 rest none refl)
    ∙ ap (λ t. t ∷ map trimmed (slice_split is_comma rest)) (trimmed_before o f.before k ks.0.before)
    ∙ ap (λ ts. o ∷ ts) (blanks_on_first f.behind (f.operand ++ further_text fs) f.operand (map (λ g. g.operand) fs) ks.0.behind (operands_are f.operand fs ks.0.operand ks.1))

instruction_is : (name gap first : List ℕ) (more : List Further) → Token name → AreBlanks gap → 0 < length gap → Token first → AllByRecursion IsFurther more
    → instruction_of (name ++ (gap ++ (first ++ further_text more))) ≡ Instruction name (first ∷ map (λ f. f.operand) more)
instruction_is name [] first more k h some o ks = absurd (omega arith)
instruction_is name (g ∷ gs) first more k h some o ks =
    let (here, others) = and_parts (is_blank g) (list_all is_blank gs) h in
    let none = none_pass is_plain is_blank not_blank name k.plain in
    let operands : List ℕ = first ++ further_text more in
    ap (λ n. Instruction n (operands_of (without_blanks_before (after_first is_blank (name ++ g ∷ (gs ++ operands)))))) (before_at is_blank name g (gs ++ operands) none here)
    ∙ ap (λ r. Instruction name (operands_of (without_blanks_before r))) (after_at is_blank name g (gs ++ operands) none here)
    ∙ ap (λ r. Instruction name (operands_of r)) (blanks_in_front gs operands others ∙ before_token first (further_text more) o)
    ∙ ap (Instruction name) (operands_some first (further_text more) o ∙ operands_are first more o ks)

ends_further : (o : List ℕ) (fs : List Further) → Token o → AllByRecursion IsFurther fs → EndsPlain (o ++ further_text fs)
ends_further o [] k ks = subst EndsPlain (sym (append-nil o)) (token_ends o k)
ends_further o (f ∷ fs) k ks =
    ends_behind o (f.before ++ 44 ∷ (f.behind ++ (f.operand ++ further_text fs)))
    (ends_behind f.before (44 ∷ (f.behind ++ (f.operand ++ further_text fs)))
    (ends_behind (44 ∷ []) (f.behind ++ (f.operand ++ further_text fs))
    (ends_behind f.behind (f.operand ++ further_text fs) (ends_further f.operand fs ks.0.operand ks.1))))

-- ---- labels

label_is : (name : List ℕ) → is_label name ≡ true → label_in (name ++ 58 ∷ []) ≡ Some name
label_is name h =
    ap (λ r. label_before_colon (front_of_reversed 58 r)) (reverse-append name (58 ∷ []))
    ∙ ap (λ t. label_before_colon (Some t)) (reverse-reverse name)
    ∙ ap (λ b. if b then Some name else None) h

code_label : (t name : List ℕ) → 0 < length t → label_in t ≡ Some name → line_of_code t ≡ Label name
code_label [] name some e = absurd (omega arith)
code_label (c ∷ cs) name some e = ap (λ l. labelled l (c ∷ cs)) e

-- ---- a line

-- what a line has, without the blanks around it
body_is : (indent tail : List ℕ) (b : Body) → AreBlanks indent → AreBlanks tail → IsBody b → line_of_code (trimmed (indent ++ (body_text b ++ tail))) ≡ body_says b
body_is indent tail Nothing before after h = ap line_of_code (only_blanks (indent ++ tail) (list_all-append is_blank indent tail before after))
body_is indent tail (Mark name) before after h =
    ap line_of_code (trimmed_inside indent name (58 ∷ []) tail before after h.0 (record { front = name; last = 58; is = refl; solid = refl }))
    ∙ code_label (name ++ 58 ∷ []) name (omega (arith, length-append name (58 ∷ []))) (label_is name h.1)
body_is indent tail (Name name) before after h =
    let ends = token_ends name h in
    let alone = append-nil name in
    ap (λ t. line_of_code (trimmed (indent ++ (t ++ tail)))) (sym alone)
    ∙ ap line_of_code (trimmed_inside indent name [] tail before after h (subst EndsSolid (sym alone) (solid_plain name ends)) ∙ alone)
    ∙ code_is name h.some (ap label_before_colon (colon_ends name ends))
    ∙ instruction_again name [] h tt
body_is indent tail (Operands name gap first more) before after h =
    let rest : List ℕ = gap ++ (first ++ further_text more) in
    let ends = ends_behind name rest (ends_behind gap (first ++ further_text more) (ends_further first more h.3 h.4)) in
    let some = h.0.some in
    ap line_of_code (trimmed_inside indent name rest tail before after h.0 (solid_plain (name ++ rest) ends))
    ∙ code_is (name ++ rest) (omega (arith, some, length-append name rest)) (ap label_before_colon (colon_ends (name ++ rest) ends))
    ∙ instruction_is name gap first more h.0 h.1 h.2 h.3 h.4

-- a byte that may stand in front of a comment
abbrev is_inside : ℕ → Bool
is_inside c = is_plain c || (is_blank c || (eqb c 44 || eqb c 58))

plain_inside : (c : ℕ) → is_plain c ≡ true → is_inside c ≡ true
plain_inside c h = ap (λ b. b || (is_blank c || (eqb c 44 || eqb c 58))) h

blank_inside : (c : ℕ) → is_blank c ≡ true → is_inside c ≡ true
blank_inside c h = grind (arith, nat_tests)

inside_no_hash : (c : ℕ) → is_inside c ≡ true → is_hash c ≡ false
inside_no_hash c h = grind (arith, nat_tests)

inside_no_feed : (c : ℕ) → is_inside c ≡ true → not (eqb c 10) ≡ true
inside_no_feed c h = grind (arith, nat_tests)

not_feed : (c : ℕ) → not (eqb c 10) ≡ true → is_line_feed c ≡ false
not_feed c h = grind (arith, nat_tests)

-- all bytes of a text may stand there
abbrev Inside : List ℕ → Type 0
Inside t = list_all is_inside t ≡ true

inside_token : (t : List ℕ) → Token t → Inside t
inside_token t k = list_all-weaker is_plain is_inside plain_inside t k.plain

inside_blanks : (b : List ℕ) → AreBlanks b → Inside b
inside_blanks b h = list_all-weaker is_blank is_inside blank_inside b h

inside_both : (a b : List ℕ) → Inside a → Inside b → Inside (a ++ b)
inside_both a b h k = list_all-append is_inside a b h k

inside_further : (fs : List Further) → AllByRecursion IsFurther fs → Inside (further_text fs)
inside_further [] ks = refl
inside_further (f ∷ fs) ks =
    inside_both f.before (44 ∷ (f.behind ++ (f.operand ++ further_text fs))) (inside_blanks f.before ks.0.before)
    (inside_both f.behind (f.operand ++ further_text fs) (inside_blanks f.behind ks.0.behind)
    (inside_both f.operand (further_text fs) (inside_token f.operand ks.0.operand) (inside_further fs ks.1)))

inside_body : (b : Body) → IsBody b → Inside (body_text b)
inside_body Nothing h = refl
inside_body (Mark name) h = inside_both name (58 ∷ []) (inside_token name h.0) refl
inside_body (Name name) h = inside_token name h
inside_body (Operands name gap first more) h =
    inside_both name (gap ++ (first ++ further_text more)) (inside_token name h.0)
    (inside_both gap (first ++ further_text more) (inside_blanks gap h.1)
    (inside_both first (further_text more) (inside_token first h.3) (inside_further more h.4)))

inside_line : (l : LaidOut) → IsLaidOut l → Inside (l.indent ++ (body_text l.body ++ l.tail))
inside_line l h =
    inside_both l.indent (body_text l.body ++ l.tail) (inside_blanks l.indent h.indent)
    (inside_both (body_text l.body) l.tail (inside_body l.body h.body) (inside_blanks l.tail h.tail))

-- a comment goes
before_comment : (t : List ℕ) (o : Option (List ℕ)) → Inside t → before_first is_hash (t ++ comment_text o) ≡ t
before_comment t None h = ap (before_first is_hash) (append-nil t) ∙ before_none is_hash t (none_pass is_inside is_hash inside_no_hash t h)
before_comment t (Some text) h = before_at is_hash t 35 text (none_pass is_inside is_hash inside_no_hash t h) refl

line_is : (l : LaidOut) → IsLaidOut l → line_of (laid_out l) ≡ says l
line_is l h =
    ap (λ t. line_of_code (trimmed t)) (before_comment (l.indent ++ (body_text l.body ++ l.tail)) l.comment (inside_line l h))
    ∙ body_is l.indent l.tail l.body h.indent h.tail h.body

-- ---- a source

comment_no_feed : (o : Option (List ℕ)) → IsComment o → list_all (λ c. not (eqb c 10)) (comment_text o) ≡ true
comment_no_feed None h = refl
comment_no_feed (Some text) h = h

one_line : (l : LaidOut) → IsLaidOut l → All (λ x. is_line_feed x ≡ false) (laid_out l)
one_line l h =
    let body : List ℕ = l.indent ++ (body_text l.body ++ l.tail) in
    none_pass (λ c. not (eqb c 10)) is_line_feed not_feed (laid_out l)
    (list_all-append (λ c. not (eqb c 10)) body (comment_text l.comment)
    (list_all-weaker is_inside (λ c. not (eqb c 10)) inside_no_feed body (inside_line l h)) (comment_no_feed l.comment h.comment))

lines_are : (l : LaidOut) (ls : List LaidOut) → All IsLaidOut (l ∷ ls) → lines_of (source_text (l ∷ ls)) ≡ map laid_out (l ∷ ls)
lines_are l [] all = slice_split_none is_line_feed (laid_out l) (one_line l (All-head IsLaidOut l [] all))
lines_are l (m ∷ more) all =
    slice_split_at is_line_feed (laid_out l) 10 (source_text (m ∷ more)) (one_line l (All-head IsLaidOut l (m ∷ more) all)) refl
    ∙ ap (λ ts. laid_out l ∷ ts) (lines_are m more (All-tail IsLaidOut l (m ∷ more) all))

all_say : (ls : List LaidOut) → All IsLaidOut ls → map line_of (map laid_out ls) ≡ map says ls
all_say [] all = refl
all_say (l ∷ ls) all =
    ap (λ x. x ∷ map line_of (map laid_out ls)) (line_is l (All-head IsLaidOut l ls all))
    ∙ ap (λ xs. says l ∷ xs) (all_say ls (All-tail IsLaidOut l ls all))

-- the words of a source are those of what its lines say
pub words_of-source_text : BlanksAndCommentsAreFree
unfolding words_of
words_of-source_text l ls all = ap (λ ts. words_of_lines (map line_of ts)) (lines_are l ls all) ∙ ap words_of_lines (all_say (l ∷ ls) all)
