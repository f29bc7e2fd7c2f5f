-- Lines that are emitted one after another.
use Rattle.std.proofs.Common.{◌≡◌, ℕ, ◌+◌, Bool, true, false, List, [], ◌∷◌, ◌++◌, drop, refl, sym, ap, ◌∙◌, subst, append-nil, append_assoc}
use Rattle.gc_outside.specs.Emissions.{Emission, ToReport, line_emissions, EmitsInOrder, EmitsToReport}
use Rattle.gc_outside.specs.Emits.{Emits}
use Rattle.gc_outside.specs.Sinks.{SinkSeen}
use Rattle.gc_outside.proofs.InOrder.{order_nothing, order_then, order_cut, order_report}

-- the lines before a place were emitted
pub record HasWritten (lines : List (List ℕ)) (i : ℕ) (old new : SinkSeen) : Type 0 where
  pub done : List Emission
  pub same : line_emissions lines ≡ done ++ line_emissions (drop i lines)
  pub emitted : EmitsToReport done true old new

module _ (lines : List (List ℕ)) (old : SinkSeen) where
  pub none_written : HasWritten lines 0 old old
  none_written = record { done = []; same = refl; emitted = λ c. order_nothing (record { console = c; report = old }) }

  -- the line at the place is emitted, or a front of it
  module _ (i : ℕ) (text : List ℕ) (mid : SinkSeen) (next : drop i lines ≡ text ∷ drop (i + 1) lines) (h : HasWritten lines i old mid) where
    split : line_emissions lines ≡ h.done ++ ToReport text ∷ line_emissions (drop (i + 1) lines)
    split = (let P : List (List ℕ) → Type 0 = λ ls. line_emissions lines ≡ h.done ++ line_emissions ls in subst P next h.same)

    emits_said : (said : List ℕ) (ok : Bool) (new : SinkSeen) → said ≡ text → Emits said ok mid.taken new.taken mid.faults new.faults → Emits text ok mid.taken new.taken mid.faults new.faults
    emits_said said ok new is e = let P : List ℕ → Type 0 = λ l. Emits l ok mid.taken new.taken mid.faults new.faults in subst P is e

    pub line_written : (said : List ℕ) (new : SinkSeen) → said ≡ text → Emits said true mid.taken new.taken mid.faults new.faults → HasWritten lines (i + 1) old new
    line_written said new is e = let k = emits_said said true new is e in record {
      done = h.done ++ ToReport text ∷ [];
      same = split ∙ sym (append_assoc h.done (ToReport text ∷ []) (line_emissions (drop (i + 1) lines)));
      emitted = λ c. order_then h.done (ToReport text ∷ []) true _ _ _ (h.emitted c) (order_report text true mid new k c);
    }

    pub line_cut : (said : List ℕ) (new : SinkSeen) → said ≡ text → Emits said false mid.taken new.taken mid.faults new.faults → EmitsToReport (line_emissions lines) false old new
    line_cut said new is e c =
        let k = emits_said said false new is e in
        let P : List Emission → Type 0 = λ l. EmitsInOrder l false (record { console = c; report = old }) (record { console = c; report = new }) in
        let later : List Emission = line_emissions (drop (i + 1) lines) in
        subst P (sym split)
        (order_then h.done (ToReport text ∷ later) false _ _ _ (h.emitted c) (order_cut (ToReport text ∷ []) later _ _ (order_report text false mid new k c)))

  -- all were emitted
  pub all_written : (i : ℕ) (new : SinkSeen) → drop i lines ≡ [] → HasWritten lines i old new → EmitsToReport (line_emissions lines) true old new
  all_written i new none h c =
      let P : List Emission → Type 0 = λ l. EmitsInOrder l true (record { console = c; report = old }) (record { console = c; report = new }) in
      let all : line_emissions lines ≡ h.done = h.same ∙ (ap (λ ls. h.done ++ line_emissions ls) none ∙ append-nil h.done) in
      subst P (sym all) (h.emitted c)

-- what was appended to an empty line
pub appended : (line old text : List ℕ) → line ≡ old ++ text → old ≡ [] → line ≡ text
appended line old text e none = e ∙ ap (λ l. l ++ text) none

-- a first line that was not taken whole, and one behind which others were emitted
pub first_cut : (said head : List ℕ) (lines : List (List ℕ)) (old new : SinkSeen) → said ≡ head → Emits said false old.taken new.taken old.faults new.faults
    → EmitsToReport (line_emissions (head ∷ lines)) false old new
first_cut said head lines old new is e c =
    let P : List ℕ → Type 0 = λ l. EmitsInOrder (ToReport l ∷ []) false (record { console = c; report = old }) (record { console = c; report = new }) in
    order_cut (ToReport head ∷ []) (line_emissions lines) _ _ (subst P is (order_report said false old new e c))

pub first_then : (said head : List ℕ) (lines : List (List ℕ)) (ok : Bool) (old mid new : SinkSeen) → said ≡ head → Emits said true old.taken mid.taken old.faults mid.faults
    → EmitsToReport (line_emissions lines) ok mid new → EmitsToReport (line_emissions (head ∷ lines)) ok old new
first_then said head lines ok old mid new is e k c =
    let P : List ℕ → Type 0 = λ l. EmitsInOrder (ToReport l ∷ []) true (record { console = c; report = old }) (record { console = c; report = mid }) in
    order_then (ToReport head ∷ []) (line_emissions lines) ok _ _ _ (subst P is (order_report said true old mid e c)) (k c)
