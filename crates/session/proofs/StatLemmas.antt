-- The lines of the statistics, one after another.
use Rattle.std.proofs.Common.{◌≡◌, ℕ, zero, suc, ◌+◌, ◌*◌, ◌<◌, ◌≤◌, ◌++◌, refl, sym, ◌∙◌, ap, subst, arith, add-one, IfSome, Bool, List, [], ◌∷◌, length, drop, take, map, slice_get, Some, None}
use Rattle.std.proofs.Math.ListN.{drop_of_length-le}
use Rattle.std.proofs.lemmas.List.{length-append, length-map}
use Rattle.std.specs.Prelude.{codes}
use Rattle.cfg_tree.specs.declared.config.Config.{Config}
use Rattle.gc_outside.proofs.InOrder.{order_report}
use Rattle.gc_outside.specs.Emissions.{ToReport, line_emissions, EmitsInOrder, EmitsToReport}
use Rattle.gc_outside.specs.Emits.{Emits}
use Rattle.gc_outside.specs.Sinks.{SinkSeen}
use Rattle.kernel.specs.Shown.{Named, named_by}
use Rattle.probe_stats.specs.Counted.{Counted, counted_by}
use Rattle.probe_stats.specs.Stats.{Pair, cache_paths, caches_pairs, json_text, machine_pairs, stats_line, stats_pairs}

-- there are few
caches_few : (c : Counted) (paths : List (List ℕ)) → length (caches_pairs c paths) ≤ 3 * length paths
caches_few c [] = omega arith
caches_few c (path ∷ paths) = omega (arith, caches_few c paths)

paths_few : (n : ℕ) (paths : List (List ℕ)) → length (take n paths) ≤ length paths
paths_few zero paths = omega arith
paths_few (suc n) [] = omega arith
paths_few (suc n) (path ∷ paths) = omega (arith, paths_few n paths)

pub pairs_few : (c : Counted) (now : ℕ) → length (stats_pairs c now) ≤ 21
pairs_few c now =
    let paths : List (List ℕ) = take c.caches cache_paths in
    omega (arith, length-append (caches_pairs c paths) (machine_pairs c now), caches_few c paths, paths_few c.caches cache_paths)

-- the line that was told comes next
told_from : (pairs : List Pair) (n : ℕ) (line : List ℕ) → n < length pairs → IfSome (slice_get pairs n) (λ p. line ≡ stats_line p)
    → drop n (map (λ p. stats_line p) pairs) ≡ line ∷ drop (suc n) (map (λ p. stats_line p) pairs)
told_from [] n line l h = absurd (omega (arith, l))
told_from (p ∷ ps) zero line l h = ap (λ x. x ∷ map (λ p. stats_line p) ps) (sym h)
told_from (p ∷ ps) (suc n) line l h = told_from ps n line (omega (arith, l)) h

pub line_told : (pairs : List Pair) (n : ℕ) (old new : List ℕ) → n < length pairs → old ≡ [] → IfSome (slice_get pairs n) (λ p. new ≡ old ++ stats_line p)
    → drop n (map (λ p. stats_line p) pairs) ≡ new ∷ drop (n + 1) (map (λ p. stats_line p) pairs)
line_told pairs n old new l e h =
    let P : List ℕ → Type 0 = λ o. IfSome (slice_get pairs n) (λ p. new ≡ o ++ stats_line p) in
    rw add-one (told_from pairs n new l (subst P e h))

-- what doesn't stand before the end stands at it or behind
pub not_before : (n m : ℕ) → (n < m → ⊥) → m ≤ n
not_before n zero f = omega arith
not_before zero (suc m) f = absurd (f (omega arith))
not_before (suc n) (suc m) f = omega (arith, not_before n m (λ l. f (omega (arith, l))))

pub no_line_told : (pairs : List Pair) (n : ℕ) → length pairs ≤ n → drop n (map (λ p. stats_line p) pairs) ≡ []
no_line_told pairs n l = drop_of_length-le (map (λ p. stats_line p) pairs) (rw length-map l)

-- the counters are those of the machine's configuration
pub counters_told : (k : Counted) (c : Config) → (let n : Named = record { parts = k.parts; caches = k.caches } in n ≡ named_by c) → k ≡ counted_by c k.counts k.since
counters_told k c e = ap (λ (n : Named). record { counts = k.counts; since = k.since; parts = n.parts; caches = n.caches }) e

-- what a call says of the statistics is said of those of the machine
module _ (c : Config) (k counters : Counted) (now tick : ℕ) (ok : Bool) (console old new : SinkSeen) (same : counters ≡ k)
    (named : (let n : Named = record { parts = k.parts; caches = k.caches } in n ≡ named_by c)) (at : now ≡ tick) where
  pairs_told : stats_pairs counters now ≡ stats_pairs (counted_by c k.counts k.since) tick
  pairs_told = ap (λ x. stats_pairs x now) (same ∙ counters_told k c named) ∙ ap (λ n. stats_pairs (counted_by c k.counts k.since) n) at

  pub stats_emitted : EmitsToReport (line_emissions (map (λ p. stats_line p) (stats_pairs counters now))) ok old new
      → EmitsInOrder (line_emissions (map (λ p. stats_line p) (stats_pairs (counted_by c k.counts k.since) tick))) ok (record { console = console; report = old }) (record { console = console; report = new })
  stats_emitted h =
      let P : List Pair → Type 0 = λ ps. EmitsInOrder (line_emissions (map (λ p. stats_line p) ps)) ok (record { console = console; report = old }) (record { console = console; report = new }) in
      subst P pairs_told (h console)

  pub json_emitted : (text said : List ℕ) → said ≡ text → text ≡ json_text (stats_pairs counters now) ++ codes "\n" → Emits said ok old.taken new.taken old.faults new.faults
      → EmitsInOrder (ToReport (json_text (stats_pairs (counted_by c k.counts k.since) tick) ++ codes "\n") ∷ []) ok (record { console = console; report = old }) (record { console = console; report = new })
  json_emitted text said e f h =
      let P : List ℕ → Type 0 = λ l. EmitsInOrder (ToReport l ∷ []) ok (record { console = console; report = old }) (record { console = console; report = new }) in
      subst P (e ∙ (f ∙ ap (λ ps. json_text ps ++ codes "\n") pairs_told)) (order_report said ok old new h console)

-- a text that a call says
pub text_emitted : (said text : List ℕ) (ok : Bool) (console old new : SinkSeen) → said ≡ text → Emits said ok old.taken new.taken old.faults new.faults
    → EmitsInOrder (ToReport text ∷ []) ok (record { console = console; report = old }) (record { console = console; report = new })
text_emitted said text ok console old new e h =
    let P : List ℕ → Type 0 = λ l. EmitsInOrder (ToReport l ∷ []) ok (record { console = console; report = old }) (record { console = console; report = new }) in
    subst P e (order_report said ok old new h console)
