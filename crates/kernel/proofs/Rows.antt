-- Loops over the rows of the platform.
use Rattle.std.proofs.Common.{◌≡◌, ℕ, suc, zero, ◌+◌, ◌<◌, ◌≤◌, ◌==◌, add-one, refl, sym, ◌∙◌, ap, subst, arith, if◌then◌else◌, Bool, true, false, List, [], ◌∷◌, ◌++◌, length, map, drop, get_or, slice_index_or, is_some, Option, Some, None}
use Rattle.std.proofs.lemmas.Bool.Decides.{nat_tests}
use Rattle.std.proofs.Math.ListN.{drop_of_length-le}
use Rattle.std.proofs.Math.Seq.{drop-cons}
use Rattle.std.proofs.lemmas.List.{append_assoc, append-nil, get_or-map, length-map}
use Rattle.cfg_tree.specs.declared.config.Config.{Config}
use Rattle.ev_queue.specs.declared.due.Due.{Due}
use Rattle.gm_words.specs.Kind.{kind_of_own}
use Rattle.gm_words.specs.Platform.{Part, End, Range, is_within, part_classes, platform, wires_of, ways_of}
use Rattle.gm_words.specs.Routes.{Route, destination, route_to, routes_of}
use Rattle.gm_words.specs.Shown.{end_shown, part_shown}
use Rattle.gm_words.specs.declared.platform.End.{End as KeptEnd}
use Rattle.gm_words.specs.declared.kind.Kind.{Kind}
use Rattle.gm_words.specs.declared.platform.Part.{Part as KeptPart}
use Rattle.gm_model.specs.ObjState.{ObjState, kind_of}
use Rattle.gm_model.specs.Sys.{Sys, peer_in}
use Rattle.probe_stats.specs.Counted.{Counted, begun_at}
use Rattle.kernel.specs.Build.{rank_of, parts_of, rows_of, slot_counts, standing}

-- an address goes to a part that has it, or where the routes behind lead
route_first : (i a : ℕ) (o : Option Range) (rs : List Route) → destination (route_to i o ++ rs) a ≡ (if is_some (destination (route_to 0 o) a) then Some i else destination rs a)
route_first i a None rs = refl
route_first i a (Some r) rs = by (is_within a r) where
  one : Bool → Option ℕ
  one b = if b then Some 0 else None

  by : (b : Bool) → (if b then Some i else destination rs a) ≡ (if is_some (one b) then Some i else destination rs a)
  by true = refl
  by false = refl

-- the rows from a place on
module _ (xs : List KeptPart) (i : ℕ) (x : KeptPart) (here : i < length xs) (is : x ≡ get_or xs i x) where
  pub first_row : drop i (map part_shown xs) ≡ part_shown x ∷ drop (i + 1) (map part_shown xs)
  first_row = rw add-one (drop-cons (map part_shown xs) i (part_shown x) (rw length-map here)
      ∙ ap (λ o. o ∷ drop (suc i) (map part_shown xs)) (get_or-map part_shown xs i x (part_shown x) here ∙ sym (ap part_shown is)))

  pub row_at : part_shown x ≡ get_or (map part_shown xs) i (part_shown x)
  row_at = sym (get_or-map part_shown xs i x (part_shown x) here ∙ sym (ap part_shown is))

  -- the exit device's address goes to the first row, or where the others have it
  pub exit_first : (a : ℕ) (h : Bool) → h ≡ is_some (destination (route_to 0 (part_shown x).range) a)
      → destination (routes_of i (drop i (map part_shown xs))) a ≡ (if h then Some i else destination (routes_of (i + 1) (drop (i + 1) (map part_shown xs))) a)
  exit_first a h e =
      ap (λ ps. destination (routes_of i ps) a) first_row
      ∙ (route_first i a (part_shown x).range (routes_of (i + 1) (drop (i + 1) (map part_shown xs)))
      ∙ ap (λ b. if b then Some i else destination (routes_of (i + 1) (drop (i + 1) (map part_shown xs))) a) (sym e))

  pub count_more : (old new all : List ℕ) (n : ℕ) → new ≡ old ++ n ∷ [] → n ≡ length (part_classes (part_shown x)) → old ++ slot_counts (drop i (map part_shown xs)) ≡ all
      → new ++ slot_counts (drop (i + 1) (map part_shown xs)) ≡ all
  count_more old new all n e m h =
      ap (λ rs. rs ++ slot_counts (drop (i + 1) (map part_shown xs))) (e ∙ ap (λ k. old ++ k ∷ []) m)
      ∙ (append_assoc old (length (part_classes (part_shown x)) ∷ []) (slot_counts (drop (i + 1) (map part_shown xs)))
      ∙ (ap (λ ps. old ++ slot_counts ps) (sym first_row) ∙ h))

-- a row of the platform
pub row_of : (xs : List KeptPart) (ps : List Part) (i : ℕ) (x : KeptPart) → map part_shown xs ≡ ps → i < length xs → x ≡ get_or xs i x
    → (i < length ps) × (part_shown x ≡ get_or ps i (part_shown x))
row_of xs ps i x e l is = subst (λ qs. (i < length qs) × (part_shown x ≡ get_or qs i (part_shown x))) e (rw length-map l, row_at xs i x l is)

pub rows_length : (xs : List KeptPart) (ps : List Part) → map part_shown xs ≡ ps → length xs ≡ length ps
rows_length xs ps e = let k : length (map part_shown xs) ≡ length ps = ap (λ (qs : List Part). length qs) e in rw length-map at k

-- at the end no row is left
pub no_row : (xs : List KeptPart) (i : ℕ) → length xs ≤ i → drop i (map part_shown xs) ≡ []
no_row xs i l = drop_of_length-le (map part_shown xs) (rw length-map l)

pub counts_done : (xs : List KeptPart) (i : ℕ) (old all : List ℕ) → length xs ≤ i → old ++ slot_counts (drop i (map part_shown xs)) ≡ all → old ≡ all
counts_done xs i old all l h = sym (append-nil old) ∙ (ap (λ ps. old ++ slot_counts ps) (sym (no_row xs i l)) ∙ h)

-- there are no more of a kind than there are
one_most : (b : Bool) → (if b then 1 else 0) ≤ 1
one_most true = omega arith
one_most false = omega arith

pub rows_most : (k : Kind) (ps : List Part) → rows_of k ps ≤ length ps
rows_most k [] = omega arith
rows_most k (p ∷ ps) = omega (arith, rows_most k ps, one_most (rank_of (kind_of_own p.own) == rank_of k))

pub parts_most : (k : Kind) (ss : List ObjState) → parts_of k ss ≤ length ss
parts_most k [] = omega arith
parts_most k (s ∷ ss) = omega (arith, parts_most k ss, one_most (rank_of (kind_of s) == rank_of k))

-- a count more, or none more, by whether the next one is of the kind
pub counted_more : (n a b m r all : ℕ) (left : ℕ) → left ≡ (if a == b then 1 else 0) + r → (a ≡ b) → m ≡ n + 1 → n + left ≡ all → m + r ≡ all
counted_more n a b m r all left e same k h = by (a == b) (yes a b same) e where
  yes : (a b : ℕ) → a ≡ b → (a == b) ≡ true
  yes a b e = grind (arith, nat_tests)

  by : (t : Bool) → t ≡ true → left ≡ (if t then 1 else 0) + r → m + r ≡ all
  by true u f = omega (arith, f, k, h)
  by false u f = cc u

pub none_here : (a b r all left : ℕ) → left ≡ (if a == b then 1 else 0) + r → (a ≡ b → ⊥) → left ≡ all → r ≡ all
none_here a b r all left e other h = by (a == b) (no a b other) e where
  no : (a b : ℕ) → (a ≡ b → ⊥) → (a == b) ≡ false
  no a b e = grind (arith, nat_tests, e)

  by : (t : Bool) → t ≡ false → left ≡ (if t then 1 else 0) + r → r ≡ all
  by false u f = omega (arith, f, h)
  by true u f = cc u

pub counted_none : (n a b m r all : ℕ) (left : ℕ) → left ≡ (if a == b then 1 else 0) + r → (a ≡ b → ⊥) → m ≡ n → n + left ≡ all → m + r ≡ all
counted_none n a b m r all left e other k h = let same : r ≡ left = none_here a b r left left e other refl in omega (arith, same, k, h)

-- where the ports of the rows lead: `f` tells a row's wires or its ways
wires_map : (ps : List Part) → wires_of ps ≡ map (λ p. p.peers) ps
wires_map [] = refl
wires_map (p ∷ ps) = ap (λ es. p.peers ∷ es) (wires_map ps)

ways_map : (ps : List Part) → ways_of ps ≡ map (λ p. p.ways) ps
ways_map [] = refl
ways_map (p ∷ ps) = ap (λ es. p.ways ∷ es) (ways_map ps)

module _ (f : Part → List End) where
  ends_past : (ps : List Part) (k : ℕ) → length ps ≤ k → slice_index_or (map f ps) k [] ≡ []
  ends_past [] k l = refl
  ends_past (q ∷ qs) zero l = absurd (omega arith)
  ends_past (q ∷ qs) (suc k) l = ends_past qs k (omega arith)

  -- of a row that is there, and of one that isn't
  end_there : (xs : List KeptPart) (k p : ℕ) (x : KeptPart) (ends : List KeptEnd) (r : KeptEnd) → k < length xs → x ≡ get_or xs k x
      → map end_shown ends ≡ f (part_shown x) → end_shown r ≡ slice_index_or (map end_shown ends) p (record { part = k; port = p })
      → end_shown r ≡ peer_in (map f (map part_shown xs)) k p
  end_there xs k p x ends r l is mine h =
      let at : get_or (map f (map part_shown xs)) k [] ≡ f (part_shown x) =
      get_or-map f (map part_shown xs) k (part_shown x) [] (rw length-map l) ∙ sym (ap f (row_at xs k x l is)) in
      h ∙ ap (λ ys. slice_index_or ys p (record { part = k; port = p })) (mine ∙ sym at)

  end_past : (xs : List KeptPart) (k p : ℕ) → length xs ≤ k → record { part = k; port = p } ≡ peer_in (map f (map part_shown xs)) k p
  end_past xs k p l = ap (λ ys. slice_index_or ys p (record { part = k; port = p })) (sym (ends_past (map part_shown xs) k (rw length-map l)))

module _ (xs : List KeptPart) (k p : ℕ) where
  pub peer_there : (x : KeptPart) (ends : List KeptEnd) (r : KeptEnd) → k < length xs → x ≡ get_or xs k x → ends ≡ (get_or xs k x).peers.items
      → end_shown r ≡ slice_index_or (map end_shown ends) p (record { part = k; port = p }) → end_shown r ≡ peer_in (wires_of (map part_shown xs)) k p
  peer_there x ends r l is same h =
      end_there (λ q. q.peers) xs k p x ends r l is (ap (map end_shown) (same ∙ ap (λ (y : KeptPart). y.peers.items) (sym is))) h
      ∙ ap (λ es. peer_in es k p) (sym (wires_map (map part_shown xs)))

  pub peer_past : length xs ≤ k → record { part = k; port = p } ≡ peer_in (wires_of (map part_shown xs)) k p
  peer_past l = end_past (λ q. q.peers) xs k p l ∙ ap (λ es. peer_in es k p) (sym (wires_map (map part_shown xs)))

  pub way_there : (x : KeptPart) (ends : List KeptEnd) (r : KeptEnd) → k < length xs → x ≡ get_or xs k x → ends ≡ (get_or xs k x).ways.items
      → end_shown r ≡ slice_index_or (map end_shown ends) p (record { part = k; port = p }) → end_shown r ≡ peer_in (ways_of (map part_shown xs)) k p
  way_there x ends r l is same h =
      end_there (λ q. q.ways) xs k p x ends r l is (ap (map end_shown) (same ∙ ap (λ (y : KeptPart). y.ways.items) (sym is))) h
      ∙ ap (λ es. peer_in es k p) (sym (ways_map (map part_shown xs)))

  pub way_past : length xs ≤ k → record { part = k; port = p } ≡ peer_in (ways_of (map part_shown xs)) k p
  way_past l = end_past (λ q. q.ways) xs k p l ∙ ap (λ es. peer_in es k p) (sym (ways_map (map part_shown xs)))

-- the machine of these rows, before anything was counted or noted
pub stands : (c : Config) (pending : List Due) (objects : List ObjState) (rows : List Part) (tick next : ℕ) (k : Counted)
    → tick ≡ k.since → k ≡ begun_at c 0 → next ≡ 0 → rows ≡ platform c
    → ◌≡◌ {A = Sys} (record {
      tick = tick;
      pending = pending;
      objects = objects;
      next = next;
      counts = k.counts;
      rebased = k.since;
      trace = false;
      draining = true;
      wires = wires_of rows;
      ways = ways_of rows;
      routes = routes_of 0 rows;
    }) (standing c pending objects)
stands c pending objects rows tick next k now counted none platform_is = rw now (rw counted (rw none (rw platform_is refl)))
