-- The lines of a script by what they say: a line's stop is read from its one spelling, and from no other line.
use Rattle.std.proofs.Common.{◌≡◌, ◌⊎◌, ℕ, ◌+◌, ◌*◌, ◌^◌, ◌<◌, ◌≤◌, ◌&&◌, not, nat_eq, nat_le, nat_lt, inl, inr, Bool, true, false, cond, List, [], ◌∷◌, ◌++◌, Option, Some, None, Result, Ok, Err, All, length, map, take, drop, ◌%◌, option_to_list, option_map, option_and_then, codes, decimal, refl, sym, ap, subst, ◌∙◌, arith}
use Rattle.std.proofs.lemmas.Bool.{and_parts, eqb-true, leb-true, ltb-true, not-true, or_cases, or_parts, false≢true}
use Rattle.std.proofs.lemmas.Bool.Decides.{nat_tests}
use Rattle.std.proofs.lemmas.Fmt.{decimal_by_steps, digits_value-decimal}
use Rattle.std.proofs.lemmas.List.{length-append, take-append-drop}
use Rattle.std.proofs.lemmas.List.Elements.{All-append, All-cons, All-head, All-nil, All-push, All-tail, All-weaker}
use Rattle.std.proofs.lemmas.List.Splits.{length-slice_split, slice_split_at}
use Rattle.std.specs.Cmp.Lexicographic.{pointwise}
use Rattle.std.specs.Option.{ok_or}
use Rattle.std.specs.Result.{result_map_both}
use Rattle.std.specs.Str.Parse.{digits_value}
use lib.Pointwise.{bytes_decides}
use Rattle.hex.proofs.HexLemmas.{decode_of-encode_lower, decode_of-ok}
use Rattle.hex.specs.Hex.{IsBytes, decode_of, encode_with}
use Rattle.hex.specs.declared.error.FromHexError.{FromHexError}
use Rattle.gc_text.proofs.HexadecimalLemmas.{AllPass-hex_of, length-hex_of}
use Rattle.gc_text.specs.Hexadecimal.{hex_of, is_lower_digit}
use Rattle.gc_text.proofs.DecimalLemmas.{decimal_is_short, std_digits}
use Rattle.gc_text.specs.LineReader.{is_line_feed, lines_of}
use Rattle.gm_words.specs.declared.goal.Until.{Until}
use Rattle.gm_words.specs.declared.goal.Until.TheVariants.{Tick, Insts, End}
use Rattle.stop_script.proofs.ScriptLemmas.{line_stop-number, without_empty_end-cons}
use Rattle.stop_script.specs.Lines.{IsCanonical, IsFirstRefused, IsLineOf, IsSayable, IsSayableUntil, IsScript, LineSays, LinesSay, SaysNothing, SaysStop, TellsRefused, script_text, stop_line, trace_word, until_words}
use Rattle.stop_script.specs.Script.{TellsLine, and_later, is_skipped, is_too_much, line_stop, longest_line, most_lines, script_lines, stops_from, stops_of, without_empty_end}
use Rattle.stop_script.specs.Stop.{behind, most, number_of, octets_of, plain_stop_of, stop_of, until_of}
use Rattle.stop_script.specs.declared.script_fault.ScriptFault.{ScriptFault}
use Rattle.stop_script.specs.declared.script_fault.ScriptFault.TheVariants.{Line, NoMemory}
use Rattle.stop_script.specs.declared.stop.Stop.{Stop}
use Rattle.stop_script.specs.declared.stop.Stop.TheVariants.{Run, Regs, Stats, StatsJson, Input, Trace}

-- ---- words and numbers

same : (xs ys : List ℕ) → pointwise nat_eq xs ys ≡ true → xs ≡ ys
same xs ys e = (bytes_decides xs ys).0 e

tested : (xs : List ℕ) → pointwise nat_eq xs xs ≡ true
tested xs = (bytes_decides xs xs).1 refl

-- a number that isn't too great is read from its spelling
pub number_of-decimal : (n : ℕ) → n ≤ most → number_of (decimal n) ≡ Some n
number_of-decimal n h =
    let e : digits_value 10 (decimal n) ≡ n = digits_value-decimal std_digits n (omega arith) in
    rw (e, tested (decimal n)) (grind (arith, nat_tests))

-- and from no other text
number_of-spelled : (text : List ℕ) (n : ℕ) → number_of text ≡ Some n → (text ≡ decimal n) × (n ≤ most)
number_of-spelled text n e = by_tests (digits_value 10 text) (pointwise nat_eq text (decimal (digits_value 10 text))) (nat_le (digits_value 10 text) most) refl refl refl e
  where
    by_tests : (m : ℕ) (a b : Bool) → digits_value 10 text ≡ m → pointwise nat_eq text (decimal (digits_value 10 text)) ≡ a → nat_le (digits_value 10 text) most ≡ b
        → cond a (cond b (Some (digits_value 10 text)) None) None ≡ Some n → (text ≡ decimal n) × (n ≤ most)
    by_tests m true true p q r h =
        let is : digits_value 10 text ≡ n = cc in
        (same text (decimal (digits_value 10 text)) q ∙ ap decimal is, subst (λ k. k ≤ most) is (leb-true (digits_value 10 text) most r))
    by_tests m true false p q r h = absurd (cc)
    by_tests m false b p q r h = absurd (cc)

-- what a text has behind its front
behind-spelled : (front text rest : List ℕ) → behind front text ≡ Some rest → text ≡ front ++ rest
behind-spelled front text rest e = by_test (pointwise nat_eq (take (length front) text) front) refl e
  where
    by_test : (b : Bool) → pointwise nat_eq (take (length front) text) front ≡ b → cond b (Some (drop (length front) text)) None ≡ Some rest → text ≡ front ++ rest
    by_test true p h =
        let later : drop (length front) text ≡ rest = cc in
        let first : take (length front) text ≡ front = same (take (length front) text) front p in
        sym (take-append-drop (length front) text) ∙ ap (λ x. x ++ drop (length front) text) first ∙ ap (λ x. front ++ x) later
    by_test false p h = absurd (cc)

-- ---- stops

until_of-words : (u : Until) → IsSayableUntil u → until_of (until_words u) ≡ Some u
until_of-words (Tick n) h = ap (option_map Tick) (number_of-decimal n h)
until_of-words (Insts n) h = ap (option_map Insts) (number_of-decimal n h)
until_of-words End h = refl

-- digits of either case are read as the bytes that they spell
octets_of-digits : (digits bytes : List ℕ) → 1 ≤ length bytes → length bytes ≤ 64 → decode_of digits ≡ Ok bytes → octets_of digits ≡ Some bytes
octets_of-digits digits bytes some few e =
    let twice : length digits ≡ 2 * length bytes = (decode_of-ok digits bytes e).2 in
    let least : nat_le 2 (length digits) ≡ true = grind (arith, nat_tests) in
    let most_digits : nat_le (length digits) 128 ≡ true = grind (arith, nat_tests) in
    rw (least, most_digits, e) refl

-- and no other text is read as bytes
octets_of-spelled : (digits bytes : List ℕ) → octets_of digits ≡ Some bytes
    → (1 ≤ length bytes) × (length bytes ≤ 64) × IsBytes bytes × (decode_of digits ≡ Ok bytes)
octets_of-spelled digits bytes e = by_tests (nat_le 2 (length digits) && nat_le (length digits) 128) (decode_of digits) refl refl e
  where
    by_tests : (b : Bool) (r : Result (List ℕ) FromHexError) → (nat_le 2 (length digits) && nat_le (length digits) 128) ≡ b → decode_of digits ≡ r
        → cond b (elim r [ Ok read ↦ Some read | Err fault ↦ None ]) None ≡ Some bytes
        → (1 ≤ length bytes) × (length bytes ≤ 64) × IsBytes bytes × (decode_of digits ≡ Ok bytes)
    by_tests true (Ok read) p q h =
        let is : read ≡ bytes = cc in
        let same_bytes : decode_of digits ≡ Ok bytes = q ∙ ap Ok is in
        let ok = decode_of-ok digits bytes same_bytes in
        let parts = and_parts (nat_le 2 (length digits)) (nat_le (length digits) 128) p in
        (omega (arith, ok.2, leb-true 2 (length digits) parts.0), omega (arith, ok.2, leb-true (length digits) 128 parts.1), ok.3, same_bytes)
    by_tests true (Err fault) p q h = absurd (cc)
    by_tests false r p q h = absurd (cc)

-- a line of a stop says it
stop_of-line : (line : List ℕ) (s : Stop) → SaysStop line s → stop_of line ≡ Some s
stop_of-line line (Run u) h = ap stop_of h.spelled ∙ ap (option_map Run) (until_of-words u h.sayable)
stop_of-line line Regs h = ap stop_of h.spelled
stop_of-line line Stats h = ap stop_of h.spelled
stop_of-line line StatsJson h = ap stop_of h.spelled
stop_of-line line (Input bytes) h =
    let (digits, is, decoded) = h.spelled in
    ap stop_of is ∙ ap (option_map Input) (octets_of-digits digits bytes h.sayable.0 h.sayable.1 decoded)
stop_of-line line (Trace true) h = ap stop_of h.spelled
stop_of-line line (Trace false) h = ap stop_of h.spelled

-- the canonical line of a stop is a line of it
line_of_stop : (s : Stop) → IsSayable s → SaysStop (stop_line s) s
line_of_stop (Run u) h = record { sayable = h; spelled = refl }
line_of_stop Regs h = record { sayable = h; spelled = refl }
line_of_stop Stats h = record { sayable = h; spelled = refl }
line_of_stop StatsJson h = record { sayable = h; spelled = refl }
line_of_stop (Input bytes) h = record { sayable = h; spelled = (hex_of bytes, refl, decode_of-encode_lower bytes h.2) }
line_of_stop (Trace on) h = record { sayable = h; spelled = refl }

-- the words for a way to go with a number
until_with : (kind : ℕ → Until) (front words text : List ℕ) (u : Until)
    → ((n : ℕ) → n ≤ most → IsSayableUntil (kind n) × (until_words (kind n) ≡ front ++ decimal n))
    → words ≡ front ++ text → option_map kind (number_of text) ≡ Some u → IsSayableUntil u × (words ≡ until_words u)
until_with kind front words text u law e h = by_number (number_of text) refl h
  where
    by_number : (r : Option ℕ) → number_of text ≡ r → option_map kind r ≡ Some u → IsSayableUntil u × (words ≡ until_words u)
    by_number None p q = absurd (cc)
    by_number (Some n) p q =
        let (spelled, small) = number_of-spelled text n p in
        let is : kind n ≡ u = cc in
        let (sayable, worded) = law n small in
        subst (λ v. IsSayableUntil v × (words ≡ until_words v)) is (sayable, e ∙ ap (λ x. front ++ x) spelled ∙ sym worded)

until_of-spelled : (words : List ℕ) (u : Until) → until_of words ≡ Some u → IsSayableUntil u × (words ≡ until_words u)
until_of-spelled words u e = by_tests (pointwise nat_eq words (codes "end")) (behind (codes "tick ") words) (behind (codes "insts ") words) refl refl refl e
  where
    by_tests : (b : Bool) (tick insts : Option (List ℕ)) → pointwise nat_eq words (codes "end") ≡ b → behind (codes "tick ") words ≡ tick → behind (codes "insts ") words ≡ insts
        → cond b (Some End) (elim tick [ Some n ↦ option_map Tick (number_of n) | None ↦ option_map Insts (option_and_then number_of insts) ]) ≡ Some u
        → IsSayableUntil u × (words ≡ until_words u)
    by_tests true tick insts p q r h =
        let is : End ≡ u = cc in
        subst (λ v. IsSayableUntil v × (words ≡ until_words v)) is (tt, same words (codes "end") p)
    by_tests false (Some n) insts p q r h =
        until_with Tick (codes "tick ") words n u (λ m small. (small, refl)) (behind-spelled (codes "tick ") words n q) h
    by_tests false None (Some n) p q r h =
        until_with Insts (codes "insts ") words n u (λ m small. (small, refl)) (behind-spelled (codes "insts ") words n r) h
    by_tests false None None p q r h = absurd (cc)

-- and no other line does: one of fixed words
plain_word : (line word : List ℕ) (rest : Option Stop) (t s : Stop) → SaysStop word t → (rest ≡ Some s → SaysStop line s)
    → cond (pointwise nat_eq line word) (Some t) rest ≡ Some s → SaysStop line s
plain_word line word rest t s says later e = by_test (pointwise nat_eq line word) refl e
  where
    by_test : (b : Bool) → pointwise nat_eq line word ≡ b → cond b (Some t) rest ≡ Some s → SaysStop line s
    by_test true p h =
        let is : t ≡ s = cc in
        let here : line ≡ word = same line word p in
        subst (SaysStop line) is (subst (λ l. SaysStop l t) (sym here) says)
    by_test false p h = later h

-- one that says how far to run
run_says : (line : List ℕ) (s : Stop) → option_map Run (option_and_then until_of (behind (codes "run ") line)) ≡ Some s → SaysStop line s
run_says line s e = by_front (behind (codes "run ") line) refl e
  where
    by_until : (words : List ℕ) (o : Option Until) → line ≡ codes "run " ++ words → until_of words ≡ o → option_map Run o ≡ Some s → SaysStop line s
    by_until words None p q h = absurd (cc)
    by_until words (Some u) p q h =
        let (sayable, spelled) = until_of-spelled words u q in
        let is : Run u ≡ s = cc in
        subst (SaysStop line) is (record { sayable = sayable; spelled = p ∙ ap (λ x. codes "run " ++ x) spelled })

    by_front : (run : Option (List ℕ)) → behind (codes "run ") line ≡ run → option_map Run (option_and_then until_of run) ≡ Some s → SaysStop line s
    by_front (Some words) p h = by_until words (until_of words) (behind-spelled (codes "run ") line words p) refl h
    by_front None p h = absurd (cc)

plain_says : (line : List ℕ) (s : Stop) → plain_stop_of line ≡ Some s → SaysStop line s
plain_says line s e =
    plain_word line (codes "regs") _ Regs s (line_of_stop Regs tt)
    (plain_word line (codes "stats") _ Stats s (line_of_stop Stats tt)
    (plain_word line (codes "stats json") _ StatsJson s (line_of_stop StatsJson tt)
    (plain_word line (codes "trace on") _ (Trace true) s (line_of_stop (Trace true) tt)
    (plain_word line (codes "trace off") _ (Trace false) s (line_of_stop (Trace false) tt)
    (run_says line s))))) e

stop_of-spelled : (line : List ℕ) (s : Stop) → stop_of line ≡ Some s → SaysStop line s
stop_of-spelled line s e = by_front (behind (codes "input ") line) refl e
  where
    by_bytes : (digits : List ℕ) (o : Option (List ℕ)) → line ≡ codes "input " ++ digits → octets_of digits ≡ o → option_map Input o ≡ Some s → SaysStop line s
    by_bytes digits None p q h = absurd (cc)
    by_bytes digits (Some bytes) p q h =
        let (some, few, are, decoded) = octets_of-spelled digits bytes q in
        let is : Input bytes ≡ s = cc in
        subst (SaysStop line) is (record { sayable = (some, few, are); spelled = (digits, p, decoded) })

    by_front : (input : Option (List ℕ)) → behind (codes "input ") line ≡ input
        → elim input [ Some digits ↦ option_map Input (octets_of digits) | None ↦ plain_stop_of line ] ≡ Some s → SaysStop line s
    by_front (Some digits) p h = by_bytes digits (octets_of digits) (behind-spelled (codes "input ") line digits p) refl h
    by_front None p h = plain_says line s h

-- ---- one line

until_is_short : (u : Until) → IsSayableUntil u → length (until_words u) ≤ 26
until_is_short (Tick n) h = omega (arith, length-append (codes "tick ") (decimal n), decimal_is_short n (omega arith))
until_is_short (Insts n) h = omega (arith, length-append (codes "insts ") (decimal n), decimal_is_short n (omega arith))
until_is_short End h = omega arith

line_is_short : (line : List ℕ) (s : Stop) → SaysStop line s → length line ≤ 134
line_is_short line (Run u) h = omega (arith, ap length h.spelled, length-append (codes "run ") (until_words u), until_is_short u h.sayable)
line_is_short line Regs h = omega (arith, ap length h.spelled)
line_is_short line Stats h = omega (arith, ap length h.spelled)
line_is_short line StatsJson h = omega (arith, ap length h.spelled)
line_is_short line (Input bytes) h =
    let (digits, is, decoded) = h.spelled in
    omega (arith, ap length is, length-append (codes "input ") digits, (decode_of-ok digits bytes decoded).2, h.sayable.1)
line_is_short line (Trace true) h = omega (arith, ap length h.spelled)
line_is_short line (Trace false) h = omega (arith, ap length h.spelled)

not_skipped : (s : Stop) → is_skipped (stop_line s) ≡ false
not_skipped (Run u) = refl
not_skipped Regs = refl
not_skipped Stats = refl
not_skipped StatsJson = refl
not_skipped (Input bytes) = refl
not_skipped (Trace on) = refl

skipped_says : (line : List ℕ) → is_skipped line ≡ true → SaysNothing line
skipped_says [] e = inl refl
skipped_says (c ∷ line) e = inr (line, ap (λ x. x ∷ line) (eqb-true c 35 e))

says_skipped : (line : List ℕ) → SaysNothing line → is_skipped line ≡ true
says_skipped line (inl e) = rw e refl
says_skipped line (inr (comment, e)) = rw e refl

-- what a line that isn't refused says
line_says : (number : ℕ) (line : List ℕ) (said : Option Stop) → line_stop number line ≡ Ok said → LineSays line said
line_says number line said e = by_tests (is_too_much number line) (is_skipped line) (stop_of line) refl refl refl e
  where
    by_tests : (much skipped : Bool) (o : Option Stop) → is_too_much number line ≡ much → is_skipped line ≡ skipped → stop_of line ≡ o
        → cond much (Err number) (cond skipped (Ok None) (result_map_both Some (λ n. n) (ok_or o number))) ≡ Ok said → LineSays line said
    by_tests true skipped o p q r h = absurd (cc)
    by_tests false true o p q r h =
        let is : None ≡ said = cc in
        let (few, short) = or_parts (nat_lt most_lines number) (nat_lt longest_line (length line)) p in
        let fits : length line ≤ longest_line = grind (arith, nat_tests) in
        subst (LineSays line) is (fits, skipped_says line q)
    by_tests false false None p q r h = absurd (cc)
    by_tests false false (Some s) p q r h =
        let is : Some s ≡ said = cc in
        subst (LineSays line) is (stop_of-spelled line s r)

-- what a line that says something isn't refused for
says_nothing_else : (line : List ℕ) (said : Option Stop) → is_skipped line ≡ false → stop_of line ≡ None → LineSays line said → ⊥
says_nothing_else line None skipped stop says = false≢true (sym skipped ∙ says_skipped line says.1)
says_nothing_else line (Some s) skipped stop says =
    let also : stop_of line ≡ Some s = stop_of-line line s says in
    absurd (cc)

says_too_much : (line : List ℕ) (said : Option Stop) → longest_line < length line → LineSays line said → ⊥
says_too_much line None long says = omega (arith, says.0)
says_too_much line (Some s) long says =
    let short : length line ≤ 134 = line_is_short line s says in
    omega arith

-- a line is refused by its number, where it is one too many or says nothing that a line may
line_refused : (number : ℕ) (line : List ℕ) (k : ℕ) → line_stop number line ≡ Err k
    → (k ≡ number) × ((most_lines < number) ⊎ ((said : Option Stop) → LineSays line said → ⊥))
line_refused number line k e = by_tests (is_too_much number line) (is_skipped line) (stop_of line) refl refl refl e
  where
    by_limit : is_too_much number line ≡ true → (most_lines < number) ⊎ ((said : Option Stop) → LineSays line said → ⊥)
    by_limit p =
        elim (or_cases (nat_lt most_lines number) (nat_lt longest_line (length line)) p) [
          | inl many ↦ inl (ltb-true most_lines number many)
          | inr long ↦ inr (λ said. says_too_much line said (ltb-true longest_line (length line) long))
        ]

    by_tests : (much skipped : Bool) (o : Option Stop) → is_too_much number line ≡ much → is_skipped line ≡ skipped → stop_of line ≡ o
        → cond much (Err number) (cond skipped (Ok None) (result_map_both Some (λ n. n) (ok_or o number))) ≡ Err k
        → (k ≡ number) × ((most_lines < number) ⊎ ((said : Option Stop) → LineSays line said → ⊥))
    by_tests true skipped o p q r h = (cc, by_limit p)
    by_tests false true o p q r h = absurd (cc)
    by_tests false false None p q r h = (cc, inr (λ said. says_nothing_else line said q r))
    by_tests false false (Some s) p q r h = absurd (cc)

-- the line of a stop is read as it
line_stop-line : (number : ℕ) (s : Stop) → IsSayable s → number ≤ most_lines → line_stop number (stop_line s) ≡ Ok (Some s)
line_stop-line number s sayable within =
    let says = line_of_stop s sayable in
    let short = line_is_short (stop_line s) s says in
    let few : is_too_much number (stop_line s) ≡ false = grind (arith, nat_tests) in
    by_tests (is_too_much number (stop_line s)) (is_skipped (stop_line s)) (stop_of (stop_line s)) few (not_skipped s) (stop_of-line (stop_line s) s says)
  where
    by_tests : (much skipped : Bool) (o : Option Stop) → much ≡ false → skipped ≡ false → o ≡ Some s
        → cond much (Err number) (cond skipped (Ok None) (result_map_both Some (λ n. n) (ok_or o number))) ≡ Ok (Some s)
    by_tests much skipped o p q r = rw (p, q, r) refl

-- ---- all lines

-- what lines say that aren't refused
lines_say : (number : ℕ) (lines : List (List ℕ)) (stops : List Stop) → stops_from number lines ≡ Ok stops → LinesSay lines stops
lines_say number [] stops e = cc
lines_say number (line ∷ lines) stops e = by_parts (line_stop number line) (stops_from (number + 1) lines) refl (λ more. lines_say (number + 1) lines more) e
  where
    by_parts : (first : Result (Option Stop) ℕ) (later : Result (List Stop) ℕ) → line_stop number line ≡ first
        → ((more : List Stop) → later ≡ Ok more → LinesSay lines more) → and_later first later ≡ Ok stops → LinesSay (line ∷ lines) stops
    by_parts (Err n) later p rest h = absurd (cc)
    by_parts (Ok said) (Err n) p rest h = absurd (cc)
    by_parts (Ok said) (Ok more) p rest h =
        let joined : stops ≡ option_to_list said ++ more = cc in
        (said, more, line_says number line said p, rest more refl, joined)

few_lines : (number : ℕ) (lines : List (List ℕ)) (stops : List Stop) → number ≤ 257 → stops_from number lines ≡ Ok stops → number + length lines ≤ 257
few_lines number [] stops h e = omega arith
few_lines number (line ∷ lines) stops h e =
    by_parts (line_stop number line) (stops_from (number + 1) lines) refl (λ more within. few_lines (number + 1) lines more within) e
  where
    by_parts : (first : Result (Option Stop) ℕ) (later : Result (List Stop) ℕ) → line_stop number line ≡ first
        → ((more : List Stop) → number + 1 ≤ 257 → later ≡ Ok more → number + 1 + length lines ≤ 257)
        → and_later first later ≡ Ok stops → number + length (line ∷ lines) ≤ 257
    by_parts (Err n) later p rest i = absurd (cc)
    by_parts (Ok said) (Err n) p rest i = absurd (cc)
    by_parts (Ok said) (Ok more) p rest i =
        let within = line_stop-number number line said p in
        let fits = rest more (omega arith) refl in
        omega arith

-- a script that is read is one, by its lines
pub script_is : (text : List ℕ) (stops : List Stop) → stops_of text ≡ Ok stops → IsScript text stops
script_is text stops e =
    let within = few_lines 1 (script_lines text) stops (omega arith) e in
    record { few = omega arith; said = lines_say 1 (script_lines text) stops e }

-- the first of some lines, counted from this number, that is refused
record IsFirstFrom (start : ℕ) (lines : List (List ℕ)) (number : ℕ) : Type 0 where
  before : List (List ℕ)
  line : List ℕ
  after : List (List ℕ)
  is : lines ≡ before ++ line ∷ after
  counted : number ≡ start + length before
  few : start + length before ≤ 257
  stops : List Stop
  said : LinesSay before stops
  refused : (most_lines < number) ⊎ ((said : Option Stop) → LineSays line said → ⊥)

first_refused : (start : ℕ) (lines : List (List ℕ)) (number : ℕ) → start ≤ 257 → stops_from start lines ≡ Err number → IsFirstFrom start lines number
first_refused start [] number h e = absurd (cc)
first_refused start (line ∷ lines) number h e =
    by_parts (line_stop start line) (stops_from (start + 1) lines) refl (λ within. first_refused (start + 1) lines number within) e
  where
    by_parts : (first : Result (Option Stop) ℕ) (later : Result (List Stop) ℕ) → line_stop start line ≡ first
        → (start + 1 ≤ 257 → later ≡ Err number → IsFirstFrom (start + 1) lines number)
        → and_later first later ≡ Err number → IsFirstFrom start (line ∷ lines) number
    by_parts (Err n) later p more i =
        let (is, refused) = line_refused start line n p in
        let same_number : n ≡ number = cc in
        let counted : number ≡ start = sym same_number ∙ is in
        record {
          before = [];
          line = line;
          after = lines;
          is = refl;
          counted = omega arith;
          few = omega arith;
          stops = [];
          said = refl;
          refused = subst (λ k. (most_lines < k) ⊎ ((said : Option Stop) → LineSays line said → ⊥)) (sym counted) refused;
        }
    by_parts (Ok said) (Ok stops) p more i = absurd (cc)
    by_parts (Ok said) (Err n) p more i =
        let within = line_stop-number start line said p in
        let rest = more (omega arith) i in
        record {
          before = line ∷ rest.before;
          line = rest.line;
          after = rest.after;
          is = ap (λ ls. line ∷ ls) rest.is;
          counted = omega (arith, rest.counted);
          few = omega (arith, rest.few);
          stops = option_to_list said ++ rest.stops;
          said = (said, rest.stops, line_says start line said p, rest.said, refl);
          refused = rest.refused;
        }

first_in_text : (text : List ℕ) (number : ℕ) → stops_of text ≡ Err number → IsFirstRefused text number
first_in_text text number e =
    let first = first_refused 1 (script_lines text) number (omega arith) e in
    record {
      before = first.before;
      line = first.line;
      after = first.after;
      lines = first.is;
      counted = omega (arith, first.counted);
      few = omega (arith, first.few);
      stops = first.stops;
      said = first.said;
      refused = first.refused;
    }

-- a fault that is told names the first line that is refused
pub tells_refused : (fault : ScriptFault) (text : List ℕ) → TellsLine fault (stops_of text) → TellsRefused fault text
tells_refused (Line number) text h = first_in_text text number h
tells_refused NoMemory text h = tt

-- ---- canonical texts

-- a byte that ends no line
abbrev IsInLine : ℕ → Type 0
IsInLine c = is_line_feed c ≡ false

-- fixed words, by computing
abbrev in_line : List ℕ → Bool
in_line [] = true
in_line (c ∷ cs) = not (is_line_feed c) && in_line cs

word_in_line : (word : List ℕ) → in_line word ≡ true → All IsInLine word
word_in_line [] e = All-nil IsInLine
word_in_line (c ∷ cs) e =
    let parts = and_parts (not (is_line_feed c)) (in_line cs) e in
    All-cons IsInLine c cs (not-true (is_line_feed c) parts.0) (word_in_line cs parts.1)

digit_in_line : (c : ℕ) → is_lower_digit c ≡ true → IsInLine c
digit_in_line c h = grind (arith, nat_tests)

decimal_in_line : (n : ℕ) → n < 2 ^ 64 → All IsInLine (decimal n)
decimal_in_line n h =
    decimal_by_steps (λ m ds. All IsInLine ds)
    (λ m below. let digit : IsInLine (48 + m) = grind (arith, nat_tests) in All-cons IsInLine (48 + m) [] digit (All-nil IsInLine))
    (λ m ds above more. let digit : IsInLine (48 + m % 10) = grind (arith, nat_tests) in All-push IsInLine ds (48 + m % 10) more digit)
    n h

until_in_line : (u : Until) → IsSayableUntil u → All IsInLine (until_words u)
until_in_line (Tick n) h =
    All-append IsInLine (codes "tick ") (decimal n)
    (word_in_line (codes "tick ") refl) (decimal_in_line n (omega arith))
until_in_line (Insts n) h =
    All-append IsInLine (codes "insts ") (decimal n)
    (word_in_line (codes "insts ") refl) (decimal_in_line n (omega arith))
until_in_line End h = word_in_line (codes "end") refl

stop_in_line : (s : Stop) → IsSayable s → All IsInLine (stop_line s)
stop_in_line (Run u) h =
    All-append IsInLine (codes "run ") (until_words u)
    (word_in_line (codes "run ") refl) (until_in_line u h)
stop_in_line Regs h = word_in_line (codes "regs") refl
stop_in_line Stats h = word_in_line (codes "stats") refl
stop_in_line StatsJson h = word_in_line (codes "stats json") refl
stop_in_line (Input bytes) h =
    All-append IsInLine (codes "input ") (hex_of bytes) (word_in_line (codes "input ") refl)
    (All-weaker (λ c. is_lower_digit c ≡ true) IsInLine digit_in_line (hex_of bytes) (AllPass-hex_of bytes h.2))
stop_in_line (Trace true) h = word_in_line (codes "trace on") refl
stop_in_line (Trace false) h = word_in_line (codes "trace off") refl

-- the lines of a canonical text are those of its stops
script_lines-text : (stops : List Stop) → All IsSayable stops → script_lines (script_text stops) ≡ map stop_line stops
script_lines-text [] h = refl
script_lines-text (s ∷ stops) h =
    let parts : 0 < length (lines_of (script_text stops)) = omega (arith, length-slice_split is_line_feed (script_text stops)) in
    ap without_empty_end (slice_split_at is_line_feed (stop_line s) 10 (script_text stops) (stop_in_line s (All-head IsSayable s stops h)) refl)
    ∙ without_empty_end-cons (stop_line s) (lines_of (script_text stops)) parts
    ∙ ap (λ lines. stop_line s ∷ lines) (script_lines-text stops (All-tail IsSayable s stops h))

stops_from-lines : (number : ℕ) (stops : List Stop) → All IsSayable stops → number + length stops ≤ 257 → stops_from number (map stop_line stops) ≡ Ok stops
stops_from-lines number [] h few = refl
stops_from-lines number (s ∷ stops) h few =
    by_parts (line_stop number (stop_line s)) (stops_from (number + 1) (map stop_line stops))
    (line_stop-line number s (All-head IsSayable s stops h) (omega arith)) (stops_from-lines (number + 1) stops (All-tail IsSayable s stops h) (omega arith))
  where
    by_parts : (first : Result (Option Stop) ℕ) (later : Result (List Stop) ℕ) → first ≡ Ok (Some s) → later ≡ Ok stops → and_later first later ≡ Ok (s ∷ stops)
    by_parts first later p q = rw (p, q) refl

-- a canonical text says its stops
pub canonical_says : (text : List ℕ) (stops : List Stop) → IsCanonical text stops → stops_of text ≡ Ok stops
canonical_says text stops h =
    ap stops_of h.spelled ∙ ap (stops_from 1) (script_lines-text stops h.sayable) ∙ stops_from-lines 1 stops h.sayable (omega (arith, h.few))

-- so it is refused only for want of memory
pub canonical_refused : (fault : ScriptFault) (text : List ℕ) (stops : List Stop) → TellsLine fault (stops_of text) → IsCanonical text stops → fault ≡ NoMemory
canonical_refused (Line number) text stops told h = let said = canonical_says text stops h in absurd (cc)
canonical_refused NoMemory text stops told h = refl
