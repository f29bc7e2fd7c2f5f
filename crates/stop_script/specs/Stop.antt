-- The forms of a script's lines: one space stands between words, and a number has one spelling. Source: this project's own rule.
use Rattle.std.specs.Prelude.{ℕ, nat_eq, nat_le, ◌&&◌, true, false, if◌then◌else◌, List, Option, Some, None, option_map, option_and_then, Result, Ok, Err, length, take, drop, codes, decimal}
use Rattle.std.specs.Cmp.Lexicographic.{pointwise}
use Rattle.std.specs.Str.Parse.{digits_value}
use Rattle.hex.specs.Hex.{decode_of}
use Rattle.gm_words.specs.declared.goal.Until.{Until}
use Rattle.gm_words.specs.declared.goal.Until.TheVariants.{Tick, Insts, End}
use Rattle.stop_script.specs.declared.stop.Stop.{Stop}
use Rattle.stop_script.specs.declared.stop.Stop.TheVariants.{Run, Regs, Stats, StatsJson, Input, Trace}

-- the greatest number of a script, 2^62
abbrev pub most : ℕ
most = 4611686018427387904

-- the number that a text spells in decimal, where it isn't too great: the one whose decimal spelling it is
abbrev pub number_of : List ℕ → Option ℕ
number_of text =
    let n : ℕ = digits_value 10 text
    in if pointwise nat_eq text (decimal n) then if nat_le n most then Some n else None else None

-- what a text has behind this front, where it begins with it
abbrev pub behind : List ℕ → List ℕ → Option (List ℕ)
behind front text =
    if pointwise nat_eq (take (length front) text) front
    then Some (drop (length front) text)
    else None

-- how far the words behind `run` say to go: `end`, `tick N` or `insts N`
abbrev pub until_of : List ℕ → Option Until
until_of words =
    if pointwise nat_eq words (codes "end")
    then Some End
    else elim (behind (codes "tick ") words) [
      | Some n ↦ option_map Tick (number_of n)
      | None ↦ option_map Insts (option_and_then number_of (behind (codes "insts ") words))
    ]

-- the bytes that a text spells in hexadecimal digits of either case, where they are from 1 to 64
abbrev pub octets_of : List ℕ → Option (List ℕ)
octets_of text =
    if nat_le 2 (length text) && nat_le (length text) 128
    then elim (decode_of text) [
      | Ok bytes ↦ Some bytes
      | Err e ↦ None
    ]
    else None

-- the stop that a line says which has no bytes: one of fixed words, or `run` and how far
abbrev pub plain_stop_of : List ℕ → Option Stop
plain_stop_of line =
    if pointwise nat_eq line (codes "regs") then Some Regs
    else if pointwise nat_eq line (codes "stats") then Some Stats
    else if pointwise nat_eq line (codes "stats json") then Some StatsJson
    else if pointwise nat_eq line (codes "trace on") then Some (Trace true)
    else if pointwise nat_eq line (codes "trace off") then Some (Trace false)
    else option_map Run (option_and_then until_of (behind (codes "run ") line))

-- the stop that a line says: `input` and bytes, or one without them
abbrev pub stop_of : List ℕ → Option Stop
stop_of line = elim (behind (codes "input ") line) [
  | Some digits ↦ option_map Input (octets_of digits)
  | None ↦ plain_stop_of line
]
