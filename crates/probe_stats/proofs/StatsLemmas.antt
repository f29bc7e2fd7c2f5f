-- The pairs of the statistics: which stands where, their names, and the JSON object of them.
use Rattle.std.proofs.Common.{◌≡◌, ℕ, zero, suc, ◌+◌, ◌-◌, ◌*◌, ◌<◌, ◌≤◌, ◌&&◌, nat_le, Bool, true, false, List, [], ◌∷◌, ◌++◌, length, map, min, take, drop, get_or, slice_get, All, add-one, Some, Ordering, Less, Equal, Greater, refl, ap, arith}
use Rattle.std.proofs.lemmas.Bool.{and_parts, leb-true}
use Rattle.std.proofs.lemmas.List.Elements.{All-head, All-tail}
use Rattle.std.proofs.lemmas.Option.{slice_get_past}
use Rattle.std.specs.Cmp.Lexicographic.{slice_cmp}
use Rattle.std.specs.Ordering.{nat_cmp}
use Rattle.serde_json.specs.Data.{number, unsigned, member, put}
use Rattle.serde_json.specs.Written.{members_have_float}
use Rattle.gm_words.specs.Platform.{Part}
use Rattle.gm_words.specs.Shown.{part_shown}
use Rattle.gm_words.specs.declared.platform.Part.{Part as KeptPart}
use Rattle.probe_stats.specs.Counted.{Counted, HasShortPath}
use Rattle.probe_stats.specs.Stats.{Pair, cache_paths, caches_pairs, count_at, machine_pairs, members_of, stats_pairs}
use Rattle.probe_stats.specs.Trace.{path_at}

-- ---- the count of a path

-- where a list has ended, the path was met at no place
pub count_end : (ps : List KeptPart) (counts path : List ℕ) (n total : ℕ) → n ≡ min (length ps) (length counts)
    → count_at (map part_shown (drop n ps)) (drop n counts) path ≡ total → 0 ≡ total
count_end [] counts path zero total e h = h
count_end [] counts path (suc n) total e h = absurd (omega arith)
count_end (p ∷ ps) [] path zero total e h = h
count_end (p ∷ ps) [] path (suc n) total e h = absurd (omega arith)
count_end (p ∷ ps) (k ∷ counts) path zero total e h = absurd (omega arith)
count_end (p ∷ ps) (k ∷ counts) path (suc n) total e h = count_end ps counts path n total (omega arith) h

-- ---- paths

-- a part's path is short
pub short_path : (ps : List KeptPart) (i : ℕ) (p : KeptPart) → All HasShortPath (map part_shown ps) → i < length ps → p ≡ get_or ps i p → length p.path.now ≤ 16
short_path [] i p h l e = absurd (omega arith)
short_path (q ∷ ps) zero p h l e = rw e (All-head HasShortPath (part_shown q) (map part_shown ps) h)
short_path (q ∷ ps) (suc i) p h l e = short_path ps i p (All-tail HasShortPath (part_shown q) (map part_shown ps) h) (omega arith) e

-- ---- places

-- a pair of a cache that is configured stands where it stands among those of all caches
nth_front : (c : Counted) (paths : List (List ℕ)) (k n : ℕ) (rest : List Pair) → n < 3 * k → k ≤ length paths
    → slice_get (caches_pairs c paths) n ≡ slice_get (caches_pairs c (take k paths) ++ rest) n
nth_front c [] zero n rest h l = absurd (omega arith)
nth_front c [] (suc k) n rest h l = absurd (omega arith)
nth_front c (p ∷ paths) zero n rest h l = absurd (omega arith)
nth_front c (p ∷ paths) (suc k) zero rest h l = refl
nth_front c (p ∷ paths) (suc k) (suc zero) rest h l = refl
nth_front c (p ∷ paths) (suc k) (suc (suc zero)) rest h l = refl
nth_front c (p ∷ paths) (suc k) (suc (suc (suc n))) rest h l = nth_front c paths k n rest (omega arith) (omega arith)

-- and the others stand behind these
nth_behind : (c : Counted) (paths : List (List ℕ)) (k n m : ℕ) (rest : List Pair) → n ≡ 3 * k + m → k ≤ length paths
    → slice_get rest m ≡ slice_get (caches_pairs c (take k paths) ++ rest) n
nth_behind c paths zero n m rest e l = let same : m ≡ n = omega arith in ap (slice_get rest) same
nth_behind c [] (suc k) n m rest e l = absurd (omega arith)
nth_behind c (p ∷ paths) (suc k) zero m rest e l = absurd (omega arith)
nth_behind c (p ∷ paths) (suc k) (suc zero) m rest e l = absurd (omega arith)
nth_behind c (p ∷ paths) (suc k) (suc (suc zero)) m rest e l = absurd (omega arith)
nth_behind c (p ∷ paths) (suc k) (suc (suc (suc n))) m rest e l = nth_behind c paths k n m rest (omega arith) (omega arith)

pub nth_of_caches : (c : Counted) (now n : ℕ) → c.caches ≤ 3 → n < 3 * c.caches
    → slice_get (caches_pairs c cache_paths) n ≡ slice_get (stats_pairs c now) n
nth_of_caches c now n few h = nth_front c cache_paths c.caches n (machine_pairs c now) h few

pub nth_of_machine : (c : Counted) (now n : ℕ) → c.caches ≤ 3 → 3 * c.caches ≤ n
    → slice_get (machine_pairs c now) (n - 3 * c.caches) ≡ slice_get (stats_pairs c now) n
nth_of_machine c now n few h = nth_behind c cache_paths c.caches n (n - 3 * c.caches) (machine_pairs c now) (omega arith) few

-- ---- names

-- whether all names have at most 32 bytes
abbrev are_short : List Pair → Bool
are_short [] = true
are_short (p ∷ ps) = nat_le (length p.name) 32 && are_short ps

are_short-pairs : (c : Counted) (now k : ℕ) → k ≤ 3 → are_short (caches_pairs c (take k cache_paths) ++ machine_pairs c now) ≡ true
are_short-pairs c now zero l = refl
are_short-pairs c now (suc zero) l = refl
are_short-pairs c now (suc (suc zero)) l = refl
are_short-pairs c now (suc (suc (suc zero))) l = refl
are_short-pairs c now (suc (suc (suc (suc k)))) l = absurd (omega arith)

short_at : (ps : List Pair) (n : ℕ) (p : Pair) → are_short ps ≡ true → slice_get ps n ≡ Some p → length p.name ≤ 32
short_at [] n p short e = absurd (cc)
short_at (q ∷ ps) zero p short e =
    let parts = and_parts (nat_le (length q.name) 32) (are_short ps) short in
    let is : q ≡ p = cc in
    rw (← is) (leb-true (length q.name) 32 parts.0)
short_at (q ∷ ps) (suc n) p short e = short_at ps n p (and_parts (nat_le (length q.name) 32) (are_short ps) short).1 e

-- each name is short
pub short_name : (c : Counted) (now n : ℕ) (p : Pair) → c.caches ≤ 3 → slice_get (stats_pairs c now) n ≡ Some p → length p.name ≤ 32
short_name c now n p few e = short_at (stats_pairs c now) n p (are_short-pairs c now c.caches few) e

-- and there are few
pub few_pairs : (c : Counted) (now : ℕ) → c.caches ≤ 3 → length (stats_pairs c now) ≤ 21
few_pairs c now few = by_caches c.caches few
  where
    by_caches : (k : ℕ) → k ≤ 3 → length (caches_pairs c (take k cache_paths) ++ machine_pairs c now) ≤ 21
    by_caches zero l = omega arith
    by_caches (suc zero) l = omega arith
    by_caches (suc (suc zero)) l = omega arith
    by_caches (suc (suc (suc zero))) l = omega arith
    by_caches (suc (suc (suc (suc k)))) l = absurd (omega arith)

-- ---- the JSON object

abbrev is_greater : Ordering → Bool
is_greater Less = false
is_greater Equal = false
is_greater Greater = true

greater : (o : Ordering) → is_greater o ≡ true → o ≡ Greater
greater Less e = absurd (cc)
greater Equal e = absurd (cc)
greater Greater e = refl

-- whether all names stand behind this one in the order of their bytes
abbrev are_behind : List ℕ → List Pair → Bool
are_behind name [] = true
are_behind name (p ∷ ps) = is_greater (slice_cmp nat_cmp p.name name) && are_behind name ps

-- whether the names are rising
abbrev are_rising : List Pair → Bool
are_rising [] = true
are_rising (p ∷ ps) = are_behind p.name ps && are_rising ps

behind_at : (name : List ℕ) (ps : List Pair) (n : ℕ) (p : Pair) → are_behind name ps ≡ true → slice_get ps n ≡ Some p → slice_cmp nat_cmp p.name name ≡ Greater
behind_at name [] n p behind e = absurd (cc)
behind_at name (q ∷ ps) zero p behind e =
    let parts = and_parts (is_greater (slice_cmp nat_cmp q.name name)) (are_behind name ps) behind in
    let is : q ≡ p = cc in
    rw (← is) (greater (slice_cmp nat_cmp q.name name) parts.0)
behind_at name (q ∷ ps) (suc n) p behind e = behind_at name ps n p (and_parts (is_greater (slice_cmp nat_cmp q.name name)) (are_behind name ps) behind).1 e

-- the next pair goes last
put_last : (ps : List Pair) (n : ℕ) (p : Pair) → are_rising ps ≡ true → slice_get ps n ≡ Some p
    → put p.name (number (unsigned p.number)) (members_of (take n ps)) ≡ members_of (take (suc n) ps)
put_last [] n p rising e = absurd (cc)
put_last (q ∷ ps) zero p rising e = let is : q ≡ p = cc in rw (← is) refl
put_last (q ∷ ps) (suc n) p rising e =
    let parts = and_parts (are_behind q.name ps) (are_rising ps) rising in
    rw (behind_at q.name ps n p parts.0 e) (ap (member q.name (number (unsigned q.number))) (put_last ps n p parts.1 e))

are_rising-pairs : (c : Counted) (now k : ℕ) → k ≤ 3 → are_rising (caches_pairs c (take k cache_paths) ++ machine_pairs c now) ≡ true
are_rising-pairs c now zero l = refl
are_rising-pairs c now (suc zero) l = refl
are_rising-pairs c now (suc (suc zero)) l = refl
are_rising-pairs c now (suc (suc (suc zero))) l = refl
are_rising-pairs c now (suc (suc (suc (suc k)))) l = absurd (omega arith)

pub put_next : (c : Counted) (now n : ℕ) (p : Pair) → c.caches ≤ 3 → slice_get (stats_pairs c now) n ≡ Some p
    → put p.name (number (unsigned p.number)) (members_of (take n (stats_pairs c now))) ≡ members_of (take (n + 1) (stats_pairs c now))
put_next c now n p few e = rw add-one (put_last (stats_pairs c now) n p (are_rising-pairs c now c.caches few) e)

-- its members are whole numbers
pub no_floats : (ps : List Pair) → members_have_float (members_of ps) ≡ false
no_floats [] = refl
no_floats (p ∷ ps) = no_floats ps

-- there is no part past the last one, and so no path
pub no_path : (ps qs : List Part) (i : ℕ) (path : List ℕ) → path ≡ [] → qs ≡ ps → length ps ≤ i → path ≡ path_at qs i
no_path ps qs i path none same l = rw (same, slice_get_past ps i l) none
