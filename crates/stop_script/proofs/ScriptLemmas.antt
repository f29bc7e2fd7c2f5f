-- The lines of a script, taken off one after another, and the stops that they say.
use Rattle.std.proofs.Common.{◌≡◌, ℕ, ◌==◌, ◌+◌, ◌<◌, ◌≤◌, inl, inr, true, false, List, [], ◌∷◌, ◌++◌, Option, Result, Ok, Err, length, option_to_list, refl, sym, ap, ◌∙◌, arith, append_assoc}
use Rattle.std.proofs.lemmas.Bool.{cases_lt}
use Rattle.std.proofs.lemmas.Bool.Decides.{nat_tests}
use Rattle.std.proofs.lemmas.List.{drop_all, take_all}
use Rattle.std.proofs.lemmas.List.Splits.{length-slice_split, slice_split_none}
use Rattle.std.proofs.lemmas.List.Sums.{fails_before_first}
use Rattle.std.specs.List.{position_or_len}
use Rattle.std.specs.Result.{result_map_both}
use Rattle.gc_text.proofs.LineLaws.{lines_of-cons}
use Rattle.gc_text.proofs.LineLemmas.{length-first_line}
use Rattle.gc_text.specs.LineReader.{after_line, first_line, is_line_feed, lines_of}
use Rattle.stop_script.specs.Script.{NamesLine, TellsLine, and_later, is_too_much, line_stop, script_lines, stops_from, without_empty_end}
use Rattle.stop_script.specs.declared.script_fault.ScriptFault.{ScriptFault}
use Rattle.stop_script.specs.declared.script_fault.ScriptFault.TheVariants.{Line, NoMemory}
use Rattle.stop_script.specs.declared.stop.Stop.{Stop}

-- ---- lines

-- an empty end stands behind other parts as it stands alone
pub without_empty_end-cons : (part : List ℕ) (parts : List (List ℕ)) → 0 < length parts → without_empty_end (part ∷ parts) ≡ part ∷ without_empty_end parts
without_empty_end-cons part [] some = absurd (omega arith)
without_empty_end-cons [] (next ∷ parts) some = refl
without_empty_end-cons (c ∷ part) (next ∷ parts) some = refl

without_empty_end-one : (part : List ℕ) → 0 < length part → without_empty_end (part ∷ []) ≡ part ∷ []
without_empty_end-one [] some = absurd (omega arith)
without_empty_end-one (c ∷ part) some = refl

-- a text without a line feed is one line
pub first_line-whole : (t : List ℕ) → length t ≤ length (first_line t) → first_line t ≡ t
first_line-whole t whole = let len = length-first_line t in take_all (position_or_len is_line_feed t) t (omega arith)

pub after_line-none : (t : List ℕ) → length t ≤ length (first_line t) → after_line t ≡ []
after_line-none t whole = let len = length-first_line t in drop_all (position_or_len is_line_feed t + 1) t (omega arith)

lines_of-one : (t : List ℕ) → length t ≤ length (first_line t) → lines_of t ≡ t ∷ []
lines_of-one t whole =
    let len = length-first_line t in
    slice_split_none is_line_feed t (λ k d lt. fails_before_first is_line_feed t k d (omega arith))

-- the first line of a text that isn't empty is the first of the lines
pub script_lines-cons : (t : List ℕ) → 0 < length t → script_lines t ≡ first_line t ∷ script_lines (after_line t)
script_lines-cons t some =
    elim (cases_lt (length (first_line t)) (length t)) [
      | inl ended ↦
          let parts : 0 < length (lines_of (after_line t)) = omega (arith, length-slice_split is_line_feed (after_line t)) in
          ap without_empty_end (lines_of-cons t ended) ∙ without_empty_end-cons (first_line t) (lines_of (after_line t)) parts
      | inr whole ↦
          ap without_empty_end (lines_of-one t whole)
          ∙ without_empty_end-one t some
          ∙ ap (λ (line : List ℕ). line ∷ []) (sym (first_line-whole t whole))
          ∙ ap (λ (rest : List ℕ). first_line t ∷ script_lines rest) (sym (after_line-none t whole))
    ]

-- a text that isn't empty has a byte
pub length-filled : (t : List ℕ) → false ≡ (length t == 0) → 0 < length t
length-filled [] h = cc
length-filled (c ∷ t) h = omega arith

-- ---- stops

-- some stops stand in front of those that later lines say
abbrev pub onto : List Stop → Result (List Stop) ℕ → Result (List Stop) ℕ
onto front later = result_map_both (λ stops. front ++ stops) (λ n. n) later

pub onto-and_later : (front : List Stop) (stop : Option Stop) (later : Result (List Stop) ℕ)
    → onto front (and_later (Ok stop) later) ≡ onto (front ++ option_to_list stop) later
onto-and_later front stop (Ok stops) = ap Ok (sym (append_assoc front (option_to_list stop) stops))
onto-and_later front stop (Err number) = refl

-- a named line is told
TellsLine-named : (fault : ScriptFault) (line : List ℕ) (first : Result (Option Stop) ℕ) → NamesLine fault line first → TellsLine fault first
TellsLine-named (Line number) line first h = h
TellsLine-named NoMemory line first h = tt

-- what a line is refused by refuses the whole
pub TellsLine-later : (fault : ScriptFault) (front : List Stop) (first : Result (Option Stop) ℕ) (later : Result (List Stop) ℕ)
    → TellsLine fault first → TellsLine fault (onto front (and_later first later))
TellsLine-later (Line number) front first later h = rw h refl
TellsLine-later NoMemory front first later h = tt

-- a line behind the 256th is refused
line_stop-behind : (number : ℕ) (line : List ℕ) → 256 < number → line_stop number line ≡ Err number
line_stop-behind number line behind =
    let much : is_too_much number line ≡ true = grind (arith, nat_tests) in
    rw much refl

-- a line that isn't refused is one of the first 256
pub line_stop-number : (number : ℕ) (line : List ℕ) (stop : Option Stop) → line_stop number line ≡ Ok stop → number ≤ 256
line_stop-number number line stop h =
    elim (cases_lt 256 number) [
      | inl behind ↦ let refused = line_stop-behind number line behind in cc
      | inr within ↦ within
    ]

-- a line that says a stop or nothing is taken off
pub stops_from-moves : (front : List Stop) (number : ℕ) (rest line after : List ℕ) (stop : Option Stop)
    → 0 < length rest → line ≡ first_line rest → after ≡ after_line rest → line_stop number line ≡ Ok stop
    → onto front (stops_from number (script_lines rest)) ≡ onto (front ++ option_to_list stop) (stops_from (number + 1) (script_lines after))
stops_from-moves front number rest line after stop some first behind said =
    let e = script_lines-cons rest some in
    rw (e, ← first, ← behind, said) (onto-and_later front stop (stops_from (number + 1) (script_lines after)))

-- a line that is refused is the first of the whole
pub stops_from-stops : (fault : ScriptFault) (front : List Stop) (number : ℕ) (rest line : List ℕ)
    → 0 < length rest → line ≡ first_line rest → NamesLine fault line (line_stop number line)
    → TellsLine fault (onto front (stops_from number (script_lines rest)))
stops_from-stops fault front number rest line some first named =
    let e = script_lines-cons rest some in
    rw (e, ← first) (TellsLine-later fault front (line_stop number line) (stops_from (number + 1) (script_lines (after_line rest))) (TellsLine-named fault line (line_stop number line) named))
