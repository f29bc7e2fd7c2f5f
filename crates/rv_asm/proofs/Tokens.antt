-- A line that is put together from a name and operands is taken apart into them.
use Rattle.std.proofs.Common.{◌≡◌, ℕ, ◌+◌, ◌<◌, List, [], ◌∷◌, ◌++◌, map, reverse, length, get_or, take, drop, Bool, true, false, ◌||◌, eqb, Some, None, refl, sym, ap, ◌∙◌, subst, arith}
use Rattle.std.proofs.lemmas.Bool.{and_parts}
use Rattle.std.proofs.lemmas.Bool.Decides.{nat_tests}
use Rattle.std.proofs.lemmas.List.{append_assoc, append-nil, length-append, reverse-append, reverse-reverse, get_or_at, get_or_append_left, length_push, take_at, take_all, drop_all, drop_at}
use Rattle.std.proofs.lemmas.List.Splits.{slice_split_at, slice_split_none}
use Rattle.std.proofs.lemmas.List.Sums.{position_or_len_is, AllPass-from_list_all}
use Rattle.std.specs.List.{list_all, All, AllByRecursion, position_or_len, before_first, after_first, slice_split, onto_first}
use Rattle.std.specs.Prelude.{if◌then◌else◌}
use Rattle.gc_text.specs.LineReader.{is_line_feed}
use Rattle.rv_asm.specs.Bytes.{is_blank, without_blanks_before, without_blanks_after, trimmed, front_of_reversed, without_last}
use Rattle.rv_asm.specs.Disassembly.{line_text, more_operands}
pub use Rattle.rv_asm.specs.Layout.{is_plain, Token}
use Rattle.rv_asm.specs.Lines.{Instruction, is_hash, is_comma, code_of, operands_of, instruction_of, label_before_colon, label_in, labelled, line_of_code, line_of}

-- a byte that may stand in a line's text
abbrev is_inside : ℕ → Bool
is_inside c = is_plain c || (eqb c 32 || eqb c 44)

-- what plain bytes are not
pub not_blank : (c : ℕ) → is_plain c ≡ true → is_blank c ≡ false
not_blank c h = grind (arith, nat_tests)

not_comma : (c : ℕ) → is_plain c ≡ true → is_comma c ≡ false
not_comma c h = grind (arith, nat_tests)

not_colon : (c : ℕ) → is_plain c ≡ true → eqb c 58 ≡ false
not_colon c h = grind (arith, nat_tests)

not_feed : (c : ℕ) → is_inside c ≡ true → is_line_feed c ≡ false
not_feed c h = grind (arith, nat_tests)

not_hash : (c : ℕ) → is_inside c ≡ true → is_hash c ≡ false
not_hash c h = grind (arith, nat_tests)

plain_inside : (c : ℕ) → is_plain c ≡ true → is_inside c ≡ true
plain_inside c h = rw h refl

-- tests of all bytes
pub list_all-append : (p : ℕ → Bool) (a b : List ℕ) → list_all p a ≡ true → list_all p b ≡ true → list_all p (a ++ b) ≡ true
list_all-append p [] b h k = k
list_all-append p (c ∷ cs) b h k =
    let both = and_parts (p c) (list_all p cs) h in
    rw both.0 (list_all-append p cs b both.1 k)

pub list_all-weaker : (p q : ℕ → Bool) → ((c : ℕ) → p c ≡ true → q c ≡ true) → (t : List ℕ) → list_all p t ≡ true → list_all q t ≡ true
list_all-weaker p q w [] h = refl
list_all-weaker p q w (c ∷ cs) h =
    let both = and_parts (p c) (list_all p cs) h in
    rw (w c both.0) (list_all-weaker p q w cs both.1)

-- where none of the bytes passes
pub none_pass : (p q : ℕ → Bool) → ((c : ℕ) → p c ≡ true → q c ≡ false) → (t : List ℕ) → list_all p t ≡ true → All (λ x. q x ≡ false) t
none_pass p q w t h k d lt = w (get_or t k d) (AllPass-from_list_all p t h k d lt)

-- the first byte that passes is none
first_none : (q : ℕ → Bool) (t : List ℕ) → All (λ x. q x ≡ false) t → position_or_len q t ≡ length t
first_none q t none = position_or_len_is q t (length t) 0 (omega arith) (λ k lt. none k 0 lt) (λ lt. absurd (omega arith))

pub before_none : (q : ℕ → Bool) (t : List ℕ) → All (λ x. q x ≡ false) t → before_first q t ≡ t
before_none q t none = ap (λ k. take k t) (first_none q t none) ∙ take_all (length t) t (omega arith)

after_none : (q : ℕ → Bool) (t : List ℕ) → All (λ x. q x ≡ false) t → after_first q t ≡ []
after_none q t none = ap (λ k. drop (k + 1) t) (first_none q t none) ∙ drop_all (length t + 1) t (omega arith)

-- the first byte that passes stands behind others
pub first_at : (q : ℕ → Bool) (a : List ℕ) (c : ℕ) (b : List ℕ) → All (λ x. q x ≡ false) a → q c ≡ true → position_or_len q (a ++ c ∷ b) ≡ length a
first_at q a c b none is =
    position_or_len_is q (a ++ c ∷ b) (length a) 0 (omega (arith, length-append a (c ∷ b)))
    (λ k lt. ap q (get_or_append_left a (c ∷ b) 0 k lt) ∙ none k 0 lt)
    (λ lt. ap q (get_or_at a c b 0 (length a) refl) ∙ is)

pub before_at : (q : ℕ → Bool) (a : List ℕ) (c : ℕ) (b : List ℕ) → All (λ x. q x ≡ false) a → q c ≡ true → before_first q (a ++ c ∷ b) ≡ a
before_at q a c b none is = ap (λ k. take k (a ++ c ∷ b)) (first_at q a c b none is) ∙ take_at a (c ∷ b) (length a) refl

pub after_at : (q : ℕ → Bool) (a : List ℕ) (c : ℕ) (b : List ℕ) → All (λ x. q x ≡ false) a → q c ≡ true → after_first q (a ++ c ∷ b) ≡ b
after_at q a c b none is =
    let e : a ++ c ∷ b ≡ (a ++ c ∷ []) ++ b = sym (append_assoc a (c ∷ []) b) in
    ap (λ k. drop (k + 1) (a ++ c ∷ b)) (first_at q a c b none is)
    ∙ ap (drop (length a + 1)) e
    ∙ drop_at (a ++ c ∷ []) b (length a + 1) (length_push a c)

-- ---- ends

-- a text ends in a plain byte
pub record EndsPlain (t : List ℕ) : Type 0 where
  pub front : List ℕ
  pub last : ℕ
  pub is : t ≡ front ++ last ∷ []
  pub plain : is_plain last ≡ true

pub ends_behind : (a t : List ℕ) → EndsPlain t → EndsPlain (a ++ t)
ends_behind a t e = record { front = a ++ e.front; last = e.last; is = ap (λ u. a ++ u) e.is ∙ sym (append_assoc a e.front (e.last ∷ [])); plain = e.plain }

ends_plain : (c : ℕ) (cs : List ℕ) → list_all is_plain (c ∷ cs) ≡ true → EndsPlain (c ∷ cs)
ends_plain c [] h = record { front = []; last = c; is = refl; plain = (and_parts (is_plain c) true h).0 }
ends_plain c (d ∷ ds) h = ends_behind (c ∷ []) (d ∷ ds) (ends_plain d ds (and_parts (is_plain c) (list_all is_plain (d ∷ ds)) h).1)

pub token_ends : (t : List ℕ) → Token t → EndsPlain t
token_ends [] k = absurd (omega (arith, k.some))
token_ends (c ∷ cs) k = ends_plain c cs k.plain

-- the bytes of such a text, the last first
reversed : (t : List ℕ) (e : EndsPlain t) → reverse t ≡ e.last ∷ reverse e.front
reversed t e = ap reverse e.is ∙ reverse-append e.front (e.last ∷ [])

-- a text ends in a byte that isn't a blank
pub record EndsSolid (t : List ℕ) : Type 0 where
  pub front : List ℕ
  pub last : ℕ
  pub is : t ≡ front ++ last ∷ []
  pub solid : is_blank last ≡ false

-- no blank stands at its end
pub after_solid : (t : List ℕ) → EndsSolid t → without_blanks_after t ≡ t
after_solid t e =
    let back : reverse t ≡ e.last ∷ reverse e.front = ap reverse e.is ∙ reverse-append e.front (e.last ∷ []) in
    ap (λ r. reverse (without_blanks_before r)) back
    ∙ ap (λ b. reverse (if b then without_blanks_before (reverse e.front) else e.last ∷ reverse e.front)) e.solid
    ∙ ap reverse (sym back)
    ∙ reverse-reverse t

pub solid_plain : (t : List ℕ) → EndsPlain t → EndsSolid t
solid_plain t e = record { front = e.front; last = e.last; is = e.is; solid = not_blank e.last e.plain }

pub after_ends : (t : List ℕ) → EndsPlain t → without_blanks_after t ≡ t
after_ends t e = after_solid t (solid_plain t e)

-- and no colon
pub colon_ends : (t : List ℕ) → EndsPlain t → without_last 58 t ≡ None
colon_ends t e =
    ap (front_of_reversed 58) (reversed t e)
    ∙ ap (λ b. if b then Some (reverse (reverse e.front)) else None) (not_colon e.last e.plain)

-- no blank stands in front of a token
pub before_token : (t more : List ℕ) → Token t → without_blanks_before (t ++ more) ≡ t ++ more
before_token [] more k = absurd (omega (arith, k.some))
before_token (c ∷ cs) more k =
    ap (λ b. if b then without_blanks_before (cs ++ more) else c ∷ (cs ++ more)) (not_blank c (and_parts (is_plain c) (list_all is_plain cs) k.plain).0)

-- a token alone has none at either end
pub trimmed_token : (t : List ℕ) → Token t → trimmed t ≡ t
trimmed_token t k =
    let e : without_blanks_before t ≡ t = subst (λ u. without_blanks_before u ≡ u) (append-nil t) (before_token t [] k) in
    ap without_blanks_after e ∙ after_ends t (token_ends t k)

-- ---- operands

-- all of some texts are tokens
abbrev pub Tokens : List (List ℕ) → Type 0
Tokens ts = AllByRecursion Token ts

pub no_comma : (t : List ℕ) → Token t → All (λ x. is_comma x ≡ false) t
no_comma t k = none_pass is_plain is_comma not_comma t k.plain

-- a space in front of an operand goes
space_in_front : (ps : List (List ℕ)) (q : List ℕ) (qs : List (List ℕ)) → map trimmed ps ≡ q ∷ qs → map trimmed (onto_first 32 ps) ≡ q ∷ qs
space_in_front [] q qs e = absurd (cc)
space_in_front (p ∷ ps) q qs e = e

-- operands with commas between them
parts_again : (o : List ℕ) (os : List (List ℕ)) → Token o → Tokens os → map trimmed (slice_split is_comma (o ++ more_operands os)) ≡ o ∷ os
parts_again o [] k ks =
    ap (λ t. map trimmed (slice_split is_comma t)) (append-nil o)
    ∙ ap (map trimmed) (slice_split_none is_comma o (no_comma o k))
    ∙ ap (λ t. t ∷ []) (trimmed_token o k)
parts_again o (p ∷ ps) k ks =
    ap (map trimmed) (slice_split_at is_comma o 44 (32 ∷ (p ++ more_operands ps)) (no_comma o k) refl)
    ∙ ap (λ t. t ∷ map trimmed (slice_split is_comma (32 ∷ (p ++ more_operands ps)))) (trimmed_token o k)
    ∙ ap (λ ts. o ∷ ts) (space_in_front (slice_split is_comma (p ++ more_operands ps)) p ps (parts_again p ps ks.0 ks.1))

-- operands of a text that isn't empty
pub operands_some : (t more : List ℕ) → Token t → operands_of (t ++ more) ≡ map trimmed (slice_split is_comma (t ++ more))
operands_some [] more k = absurd (omega (arith, k.some))
operands_some (c ∷ cs) more k = refl

operands_again : (o : List ℕ) (os : List (List ℕ)) → Token o → Tokens os → operands_of (o ++ more_operands os) ≡ o ∷ os
operands_again o os k ks = operands_some o (more_operands os) k ∙ parts_again o os k ks

-- ---- a line

-- all bytes of a line's text may stand in it
inside_more : (os : List (List ℕ)) → Tokens os → list_all is_inside (more_operands os) ≡ true
inside_more [] ks = refl
inside_more (o ∷ os) ks = list_all-append is_inside o (more_operands os) (list_all-weaker is_plain is_inside plain_inside o ks.0.plain) (inside_more os ks.1)

inside_line : (name : List ℕ) (os : List (List ℕ)) → Token name → Tokens os → list_all is_inside (line_text name os) ≡ true
inside_line name [] k ks = list_all-weaker is_plain is_inside plain_inside name k.plain
inside_line name (o ∷ os) k ks =
    list_all-append is_inside name (32 ∷ (o ++ more_operands os)) (list_all-weaker is_plain is_inside plain_inside name k.plain)
    (list_all-append is_inside o (more_operands os) (list_all-weaker is_plain is_inside plain_inside o ks.0.plain) (inside_more os ks.1))

-- a line's text ends in a plain byte
ends_more : (o : List ℕ) (os : List (List ℕ)) → Token o → Tokens os → EndsPlain (o ++ more_operands os)
ends_more o [] k ks = subst EndsPlain (sym (append-nil o)) (token_ends o k)
ends_more o (p ∷ ps) k ks = ends_behind o (44 ∷ 32 ∷ (p ++ more_operands ps)) (ends_behind (44 ∷ 32 ∷ []) (p ++ more_operands ps) (ends_more p ps ks.0 ks.1))

ends_line : (name : List ℕ) (os : List (List ℕ)) → Token name → Tokens os → EndsPlain (line_text name os)
ends_line name [] k ks = token_ends name k
ends_line name (o ∷ os) k ks = ends_behind name (32 ∷ (o ++ more_operands os)) (ends_behind (32 ∷ []) (o ++ more_operands os) (ends_more o os ks.0 ks.1))

-- no blank stands in front of a line's text
before_line : (name : List ℕ) (os : List (List ℕ)) → Token name → without_blanks_before (line_text name os) ≡ line_text name os
before_line name [] k = subst (λ u. without_blanks_before u ≡ u) (append-nil name) (before_token name [] k)
before_line name (o ∷ os) k = before_token name (32 ∷ (o ++ more_operands os)) k

-- a line's text has no comment and no blanks to take off
code_again : (name : List ℕ) (os : List (List ℕ)) → Token name → Tokens os → code_of (line_text name os) ≡ line_text name os
code_again name os k ks =
    ap trimmed (before_none is_hash (line_text name os) (none_pass is_inside is_hash not_hash (line_text name os) (inside_line name os k ks)))
    ∙ ap without_blanks_after (before_line name os k)
    ∙ after_ends (line_text name os) (ends_line name os k ks)

-- its name and operands
pub instruction_again : (name : List ℕ) (os : List (List ℕ)) → Token name → Tokens os → instruction_of (line_text name os) ≡ Instruction name os
instruction_again name [] k ks =
    let none = none_pass is_plain is_blank not_blank name k.plain in
    ap (λ n. Instruction n (operands_of (without_blanks_before (after_first is_blank name)))) (before_none is_blank name none)
    ∙ ap (λ r. Instruction name (operands_of (without_blanks_before r))) (after_none is_blank name none)
instruction_again name (o ∷ os) k ks =
    let none = none_pass is_plain is_blank not_blank name k.plain in
    let rest : List ℕ = o ++ more_operands os in
    ap (λ n. Instruction n (operands_of (without_blanks_before (after_first is_blank (name ++ 32 ∷ rest))))) (before_at is_blank name 32 rest none refl)
    ∙ ap (λ r. Instruction name (operands_of (without_blanks_before r))) (after_at is_blank name 32 rest none refl)
    ∙ ap (λ r. Instruction name (operands_of r)) (before_token o (more_operands os) ks.0)
    ∙ ap (Instruction name) (operands_again o os ks.0 ks.1)

-- a code that isn't empty and gives no label is an instruction
pub code_is : (t : List ℕ) → 0 < length t → label_in t ≡ None → line_of_code t ≡ instruction_of t
code_is [] some none = absurd (omega arith)
code_is (c ∷ cs) some none = ap (λ l. labelled l (c ∷ cs)) none

-- it isn't empty
some_line : (name : List ℕ) (os : List (List ℕ)) → Token name → 0 < length (line_text name os)
some_line name [] k = k.some
some_line name (o ∷ os) k = omega (arith, k.some, length-append name (32 ∷ (o ++ more_operands os)))

-- a line's text is that instruction
pub line_again : (name : List ℕ) (os : List (List ℕ)) → Token name → Tokens os → line_of (line_text name os) ≡ Instruction name os
line_again name os k ks =
    ap line_of_code (code_again name os k ks)
    ∙ code_is (line_text name os) (some_line name os k) (ap label_before_colon (colon_ends (line_text name os) (ends_line name os k ks)))
    ∙ instruction_again name os k ks

-- and it is one line
pub one_line : (name : List ℕ) (os : List (List ℕ)) → Token name → Tokens os → All (λ x. is_line_feed x ≡ false) (line_text name os)
one_line name os k ks = none_pass is_inside is_line_feed not_feed (line_text name os) (inside_line name os k ks)
