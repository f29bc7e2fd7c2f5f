-- this project's own rule: a target is a label, or a distance in bytes behind .+ or .-
use Rattle.std.specs.Prelude.{ℕ, ◌*◌, List, ℤ, pos, ◌-ℤ◌, neg_ℤ, Option, Some, None, Result, Ok, Err, codes, if◌then◌else◌}
use Rattle.std.specs.Option.{option_map, ok_or}
use Rattle.rv_asm.specs.declared.fault.AsmKind.{AsmKind}
use Rattle.rv_asm.specs.declared.fault.AsmKind.TheVariants.{Operand, Label}
use Rattle.rv_asm.specs.declared.place.Place.{Place}
use Rattle.rv_asm.specs.Bytes.{without_front}
use Rattle.rv_asm.specs.Lines.{is_label}
use Rattle.rv_asm.specs.Operands.{chain, nearest, immediate_number}

-- where a line stands: the words in front of it, and where each label of the source is given first
pub record Scope : Type 0 where
  pub place : ℕ
  pub labels : List ℕ → Option Place

-- how many bytes one place in words is from another
abbrev pub distance : ℕ → ℕ → ℤ
distance from to = nearest (pos (4 * to) -ℤ pos (4 * from))

-- the distance to a label
abbrev pub to_label : Scope → List ℕ → Result ℤ AsmKind
to_label s text =
    if is_label text then ok_or (option_map (λ (p : Place). distance s.place p.words) (s.labels text)) Label else Err Operand

-- a target that isn't a distance behind .+, by what follows .- where it begins with that
abbrev pub target_back : Option (List ℕ) → Scope → List ℕ → Result ℤ AsmKind
target_back (Some size) s text = chain (immediate_number size) (λ n. Ok (neg_ℤ n))
target_back None s text = to_label s text

-- a target, by what follows .+ where it begins with that
abbrev pub target_after : Option (List ℕ) → Scope → List ℕ → Result ℤ AsmKind
target_after (Some size) s text = immediate_number size
target_after None s text = target_back (without_front (codes ".-") text) s text

-- a target: a distance in bytes behind .+ or .-, or a label
abbrev pub target : Scope → List ℕ → Result ℤ AsmKind
target s text = target_after (without_front (codes ".+") text) s text
