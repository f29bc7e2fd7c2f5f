-- Labels in a map, against those of the lines.
use Rattle.std.proofs.Common.{◌≡◌, ℕ, List, true, false, cond, Option, Some, None, refl, sym, ap, ◌∙◌}
use Rattle.std.proofs.lemmas.Slice.Eq.{bytes_eq-Decides}
use Rattle.std.specs.Option.{option_or, is_some}
use Rattle.std.specs.Prelude.{if◌then◌else◌}
use Rattle.std.specs.Str.{bytes_eq}
use Rattle.rv_asm.specs.declared.place.Place.{Place}
use Rattle.rv_asm.specs.Labels.{labels_from, place_of}
use Rattle.rv_asm.specs.Lines.{Line}
use Rattle.rv_asm.specs.Source.{words_from, words_of_lines}

-- what isn't there isn't found
absent : (o : Option Place) → is_some o ≡ false → o ≡ None
absent None h = refl
absent (Some p) h = absurd (cc)

-- with nothing in its stead
or_none : (o : Option Place) → o ≡ option_or o None
or_none None = refl
or_none (Some p) = refl

-- a label that is added, where it wasn't there
pub added : (look : List ℕ → Option Place) (name other : List ℕ) (place : Place) → is_some (look name) ≡ false
    → cond (bytes_eq name other) (Some place) (look other) ≡ option_or (look other) (if bytes_eq name other then Some place else None)
added look name other place none =
    elim (bytes_eq name other) as (λ b. bytes_eq name other ≡ b → cond b (Some place) (look other) ≡ option_or (look other) (if b then Some place else None)) [
      | true ↦ λ t.
          let same = (bytes_eq-Decides name other).0 t in
          ap (λ o. option_or o (Some place)) (sym (ap look (sym same) ∙ absent (look name) none))
      | false ↦ λ f. or_none (look other)
    ] refl

-- the words by the map are the words by the lines
pub by_map : (look : List ℕ → Option Place) (first second all : List Line) → ((name : List ℕ) → look name ≡ place_of (labels_from 1 0 first) name) → first ≡ all → second ≡ all
    → words_from look 1 0 second ≡ words_of_lines all
by_map look first second all h e f =
    let same : look ≡ place_of (labels_from 1 0 first) = λ i name. h name i in
    ap (λ g. words_from g 1 0 second) same ∙ ap (words_from (place_of (labels_from 1 0 first)) 1 0) f ∙ ap (λ ls. words_from (place_of (labels_from 1 0 ls)) 1 0 all) e
