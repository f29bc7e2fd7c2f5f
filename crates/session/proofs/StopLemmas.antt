-- A script has few stops.
use Rattle.std.proofs.Common.{◌≡◌, ℕ, ◌+◌, ◌≤◌, ◌<◌, inl, inr, List, [], ◌∷◌, ◌++◌, length, true, nat_lt, Option, Some, None, Result, Ok, Err, refl, sym, ap, ◌∙◌, arith}
use Rattle.std.specs.Prelude.{◌⊎◌, option_to_list}
use Rattle.std.proofs.lemmas.Bool.{cases_lt}
use Rattle.std.proofs.lemmas.Bool.Decides.{nat_tests}
use Rattle.stop_script.specs.Script.{most_lines, line_stop, and_later, stops_from, script_lines, stops_of}
use Rattle.stop_script.specs.declared.stop.Stop.{Stop}

-- a line that isn't refused isn't behind too many
line_within : (n : ℕ) (line : List ℕ) (o : Option Stop) → line_stop n line ≡ Ok o → n ≤ 256
line_within n line o e = by_order (cases_lt 256 n) where
  many : 256 < n → line_stop n line ≡ Err n
  many l = let long : nat_lt most_lines n ≡ true = grind (arith, nat_tests) in rw long refl

  wrong : 256 < n → ⊥
  wrong l = let bad : Err n ≡ Ok o = sym (many l) ∙ e in cc

  by_order : (256 < n) ⊎ (n ≤ 256) → n ≤ 256
  by_order (inl l) = absurd (wrong l)
  by_order (inr l) = l

one_at_most : (o : Option Stop) (later : List Stop) → length (option_to_list o ++ later) ≤ length later + 1
one_at_most None later = omega arith
one_at_most (Some x) later = omega arith

-- no more stops than lines
few_from : (n : ℕ) (lines : List (List ℕ)) (stops : List Stop) → n ≤ 257 → stops_from n lines ≡ Ok stops → length stops + n ≤ 257
few_from n [] stops l e = let none : [] ≡ stops = cc in omega (arith, l, ap length none)
few_from n (line ∷ lines) stops l e = by_parts (line_stop n line) refl (stops_from (n + 1) lines) refl e (λ later h r. few_from (n + 1) lines later (omega (arith, h)) r) where
  by_parts : (a : Result (Option Stop) ℕ) → line_stop n line ≡ a → (b : Result (List Stop) ℕ) → stops_from (n + 1) lines ≡ b → and_later a b ≡ Ok stops
      → ((later : List Stop) → n ≤ 256 → stops_from (n + 1) lines ≡ Ok later → length later + (n + 1) ≤ 257) → length stops + n ≤ 257
  by_parts (Err k) p b r h behind = absurd (let bad : Err k ≡ Ok stops = h in cc)
  by_parts (Ok o) p (Err k) r h behind = absurd (let bad : Err k ≡ Ok stops = h in cc)
  by_parts (Ok o) p (Ok later) r h behind =
      let all : option_to_list o ++ later ≡ stops = cc in
      let here : n ≤ 256 = line_within n line o p in
      omega (arith, here, one_at_most o later, ap length all, behind later here r)

pub few_stops : (text : List ℕ) (stops : List Stop) → stops_of text ≡ Ok stops → length stops ≤ 256
few_stops text stops e = omega (arith, few_from 1 (script_lines text) stops (omega arith) e)
