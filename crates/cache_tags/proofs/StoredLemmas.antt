-- How a set's calls change what is stored.
use Rattle.std.proofs.Common.{◌≡◌, ◌≢◌, ℕ, suc, zero, ◌+◌, ◌-◌, ◌<◌, ◌≤◌, ◌==◌, Bool, true, false, List, [], ◌∷◌, ◌++◌, length, get_or, set, take, drop, replicate, map, refl, sym, ◌∙◌, ap, arith, add-one, Some, None, ◌⊎◌, inl, inr}
use Rattle.std.specs.Prelude.{count_by, All, slice_get, is_some}
use Rattle.std.specs.Option.{option_map, option_map_or}
use Rattle.std.proofs.lemmas.Bool.{cases_eq, eq-eqb, ne_eqb}
use Rattle.std.proofs.lemmas.List.{drop_more, drop-take, length-map, length-set, length-take, length-take-le, length-append, take_all, take_at, take-map, take-take, get_or-take, map-append, map-set, get_or-map, get_or_append_left, get_or_at, get_or-set_same, get_or-set_other}
use Rattle.std.proofs.Math.Seq.{take-append-add}
use Rattle.std.proofs.lemmas.List.Sums.{sum_by-cons}
use Rattle.std.proofs.lemmas.List.Elements.{All-head, All-tail, All-weaker}
use Rattle.std.proofs.lemmas.Option.{slice_get_within, slice_get_past, slice_get-get_or, slice_get-map}
use Rattle.cache_tags.specs.declared.stored.Stored.{Stored}
use Rattle.cache_tags.specs.Line.{Line, put_at, padded, rewritten}
use Rattle.cache_tags.specs.Held.{Held, CacheSet, of_address, in_way, used, written_in, leaving, next_way, with_line, IsSoundSet}
use Rattle.cache_tags.specs.Stored.{shown, held_in, in_order, stored_set, IsStoredSet}
use Rattle.cache_tags.proofs.Counts.{bit, count_by-before}
use Rattle.cache_tags.proofs.SoundLemmas.{written_sound, with_line_sound}
use Rattle.cache_tags.proofs.UsedLemmas.{used-between, split_at}

-- no line
abbrev pub blank : Line
blank = record { address = 0; dirty = false; bytes = [] }

-- the line in a way, by the lines of all ways
pub in_way_here : (ls : List Line) (w : ℕ) (ws : List ℕ) → is_some (in_way w (in_order ws ls)) ≡ true → in_way w (in_order ws ls) ≡ Some (held_in ls w)
in_way_here ls w [] e = absurd cc
in_way_here ls w (x ∷ ws) e = by (in_way_here ls w ws) (cases_eq x w) e where
  by : (is_some (in_way w (in_order ws ls)) ≡ true → in_way w (in_order ws ls) ≡ Some (held_in ls w)) → (x ≡ w) ⊎ (x ≡ w → ⊥)
      → is_some (in_way w (in_order (x ∷ ws) ls)) ≡ true → in_way w (in_order (x ∷ ws) ls) ≡ Some (held_in ls w)
  by more (inl q) k = rw (eq-eqb x w q) (ap (λ v. Some (held_in ls v)) q)
  by more (inr n) k = rw (ne_eqb x w n) (more (rw (ne_eqb x w n) at k))

-- and one that isn't in the order holds none
pub no_way : (ls : List Line) (w : ℕ) (ws : List ℕ) → All (λ v. v ≢ w) ws → is_some (in_way w (in_order ws ls)) ≡ true → ⊥
no_way ls w [] all e = cc
no_way ls w (x ∷ ws) all e =
    no_way ls w ws (All-tail (λ v. v ≢ w) x ws all) (rw (ne_eqb x w (All-head (λ v. v ≢ w) x ws all)) at e)

-- a way that holds a line is one of the first
pub way_below : (n w : ℕ) (hs : List Held) → All (λ h. h.way < n) hs → is_some (in_way w hs) ≡ true → w < n
way_below n w [] all e = absurd cc
way_below n w (h ∷ hs) all e = by (way_below n w hs (All-tail (λ (h : Held). h.way < n) h hs all)) (cases_eq h.way w) e where
  by : (is_some (in_way w hs) ≡ true → w < n) → (h.way ≡ w) ⊎ (h.way ≡ w → ⊥) → is_some (in_way w (h ∷ hs)) ≡ true → w < n
  by more (inl q) k = let low : h.way < n = All-head (λ (h : Held). h.way < n) h hs all in omega arith
  by more (inr n) k = more (rw (ne_eqb h.way w n) at k)

-- a line that is read in its way
pub line_read : (size : ℕ) (lines : List Stored) (w : ℕ) (s : Stored) → w < length lines → s ≡ get_or lines w s
    → get_or (map (shown size) lines) w blank ≡ shown size s
line_read size lines w s h e = get_or-map (shown size) lines w s blank h ∙ ap (shown size) (sym e)

-- what is found in what is left of the order, by the line that is read at a place
module _ (size : ℕ) (lines : List Stored) (ws : List ℕ) (i a : ℕ) (s : Stored) (within : i < length ws) (low : get_or ws i 0 < length lines) (read : s ≡ get_or lines (get_or ws i 0) s) where
  left : drop i ws ≡ get_or ws i 0 ∷ drop (i + 1) ws
  left = drop_more ws i 0 within

  line : (get_or (map (shown size) lines) (get_or ws i 0) blank).address ≡ s.addr
  line = ap (λ (l : Line). l.address) (line_read size lines (get_or ws i 0) s low read)

  pub found_next : s.addr ≡ a → of_address a (in_order (drop i ws) (map (shown size) lines)) ≡ Some (held_in (map (shown size) lines) (get_or ws i 0))
  found_next e = rw (left, eq-eqb (get_or (map (shown size) lines) (get_or ws i 0) blank).address a (line ∙ e)) refl

  pub passed_next : (s.addr ≡ a → ⊥)
      → of_address a (in_order (drop i ws) (map (shown size) lines)) ≡ of_address a (in_order (drop (i + 1) ws) (map (shown size) lines))
  passed_next n = rw (left, ne_eqb (get_or (map (shown size) lines) (get_or ws i 0) blank).address a (λ e. n (sym line ∙ e))) refl

-- the first of some bytes, with others over them
pub take-put_at : (size offset : ℕ) (bytes others : List ℕ) → offset + length others ≤ size → size ≤ length bytes
    → take size (put_at bytes offset others) ≡ put_at (take size bytes) offset others
take-put_at size offset bytes others fits h =
    let m : ℕ = length others in
    let r : ℕ = size - (offset + m) in
    let whole : size ≡ offset + m + r = omega arith in
    let long : length (take offset bytes ++ others) ≡ offset + m = length-append (take offset bytes) others ∙ omega (arith, length-take offset bytes) in
    let back : take r (drop (offset + m) bytes) ≡ drop (offset + m) (take size bytes) =
    sym (drop-take (offset + m) r bytes) ∙ ap (λ n. drop (offset + m) (take n bytes)) (sym whole) in
    let front : take offset bytes ≡ take offset (take size bytes) = sym (take-take offset size bytes (omega arith)) in
    let cut : size ≡ length (take offset bytes ++ others) + r = omega (arith, long) in
    ap (λ n. take n (put_at bytes offset others)) cut
    ∙ (take-append-add (take offset bytes ++ others) (drop (offset + m) bytes) r
    ∙ (ap (λ xs. take offset bytes ++ others ++ xs) back ∙ ap (λ xs. xs ++ others ++ drop (offset + m) (take size bytes)) front))

-- a line that is stored with zeros behind is that line
pub shown-padded : (size a : ℕ) (dirty : Bool) (bytes stored : List ℕ) → length bytes ≡ size → stored ≡ padded bytes
    → (let s : Stored = record { addr = a; dirty = dirty; bytes = stored } in shown size s) ≡ record { address = a; dirty = dirty; bytes = bytes }
shown-padded size a dirty bytes stored e is =
    ap (λ bs. let l : Line = record { address = a; dirty = dirty; bytes = bs } in l) (ap (take size) is ∙ take_at bytes (replicate (64 - length bytes) 0) size e)

-- so a line that is written in memory is written
pub shown-written : (size offset : ℕ) (s s' : Stored) (others : List ℕ) → offset + length others ≤ size → size ≤ length s.bytes
    → s' ≡ record { addr = s.addr; dirty = true; bytes = put_at s.bytes offset others } → shown size s' ≡ rewritten (shown size s) offset others
shown-written size offset s s' others fits h e =
    ap (shown size) e ∙ ap (λ bytes. let l : Line = record { address = s.addr; dirty = true; bytes = bytes } in l) (take-put_at size offset s.bytes others fits h)

-- the first n of a list whose place r came to the front
pub take-moved : (r n w : ℕ) (xs : List ℕ) → r < n → n ≤ length xs
    → take n (w ∷ take r xs ++ drop (suc r) xs) ≡ w ∷ take r (take n xs) ++ drop (suc r) (take n xs)
take-moved r zero w xs h k = absurd (omega arith)
take-moved r (suc m) w xs h k = ap (λ zs. w ∷ zs) (front r m xs (omega arith) (omega arith)) where
  front : (r m : ℕ) (xs : List ℕ) → r ≤ m → m < length xs → take m (take r xs ++ drop (suc r) xs) ≡ take r (take (suc m) xs) ++ drop (suc r) (take (suc m) xs)
  front r m [] h k = absurd (omega arith)
  front zero m (x ∷ xs) h k = refl
  front (suc r) zero (x ∷ xs) h k = absurd (omega arith)
  front (suc r) (suc m) (x ∷ xs) h k = ap (λ zs. x ∷ zs) (front r m xs (omega arith) (omega arith))

-- the first of a list that moved back by a place
pub take-pushed : (r w : ℕ) (xs : List ℕ) → r ≤ length xs → take (suc r) (w ∷ take r xs ++ drop (suc r) xs) ≡ w ∷ take r xs
take-pushed r w xs h = ap (λ zs. w ∷ zs) (take_at (take r xs) (drop (suc r) xs) r (length-take-le r xs h))

-- the lines in order after a line of another way came, or changed
pub in_order-push : (ws : List ℕ) (ls : List Line) (l : Line) → All (λ w. w < length ls) ws → in_order ws (ls ++ l ∷ []) ≡ in_order ws ls
in_order-push [] ls l all = refl
in_order-push (w ∷ ws) ls l all =
    let low : w < length ls = All-head (λ w. w < length ls) w ws all in
    let same : get_or (ls ++ l ∷ []) w blank ≡ get_or ls w blank = get_or_append_left ls (l ∷ []) blank w low in
    rw (same, in_order-push ws ls l (All-tail (λ w. w < length ls) w ws all)) refl

-- a way counts as often among the lines as in the order
pub count-in_order : (v : ℕ) (ls : List Line) (ws : List ℕ) → count_by (λ h. h.way == v) (in_order ws ls) ≡ count_by (λ w. w == v) ws
count-in_order v ls [] = refl
count-in_order v ls (w ∷ ws) =
    let f : Held → ℕ = λ h. bit (h.way == v) in
    let g : ℕ → ℕ = λ w. bit (w == v) in
    omega (arith, sum_by-cons f (held_in ls w) (in_order ws ls), sum_by-cons g w ws, count-in_order v ls ws)

pub in_order-set : (ws : List ℕ) (ls : List Line) (v : ℕ) (l : Line) → count_by (λ w. w == v) ws ≡ 0 → in_order ws (set ls v l) ≡ in_order ws ls
in_order-set [] ls v l none = refl
in_order-set (w ∷ ws) ls v l none = by (in_order-set ws ls v l) (cases_eq w v) where
  all : count_by (λ w. w == v) (w ∷ ws) ≡ bit (w == v) + count_by (λ w. w == v) ws
  all = sum_by-cons (λ (w : ℕ). bit (w == v)) w ws

  by : (count_by (λ w. w == v) ws ≡ 0 → in_order ws (set ls v l) ≡ in_order ws ls) → (w ≡ v) ⊎ (w ≡ v → ⊥)
      → in_order (w ∷ ws) (set ls v l) ≡ in_order (w ∷ ws) ls
  by more (inl e) = let one : bit (w == v) ≡ 1 = rw (eq-eqb w v e) refl in absurd (omega (arith, one, all, none))
  by more (inr n) =
      let same : get_or (set ls v l) w blank ≡ get_or ls w blank = get_or-set_other ls v w l blank n in
      rw (same, more (omega (arith, all, none))) refl

-- bytes written to the line of a way
pub in_order-written : (ws : List ℕ) (ls : List Line) (v offset : ℕ) (bytes : List ℕ) → v < length ls
    → in_order ws (set ls v (rewritten (get_or ls v blank) offset bytes)) ≡ written_in v offset bytes (in_order ws ls)
in_order-written [] ls v offset bytes h = refl
in_order-written (w ∷ ws) ls v offset bytes h = by (in_order-written ws ls v offset bytes h) (cases_eq w v) where
  by : in_order ws (set ls v (rewritten (get_or ls v blank) offset bytes)) ≡ written_in v offset bytes (in_order ws ls) → (w ≡ v) ⊎ (w ≡ v → ⊥)
      → in_order (w ∷ ws) (set ls v (rewritten (get_or ls v blank) offset bytes)) ≡ written_in v offset bytes (in_order (w ∷ ws) ls)
  by more (inl e) =
      let new : get_or (set ls v (rewritten (get_or ls v blank) offset bytes)) w blank ≡ rewritten (get_or ls w blank) offset bytes =
      ap (λ i. get_or (set ls v (rewritten (get_or ls v blank) offset bytes)) i blank) e
      ∙ (get_or-set_same ls v (rewritten (get_or ls v blank) offset bytes) blank h ∙ ap (λ i. rewritten (get_or ls i blank) offset bytes) (sym e)) in
      rw (eq-eqb w v e, new, more) refl
  by more (inr n) = rw (ne_eqb w v n, get_or-set_other ls v w (rewritten (get_or ls v blank) offset bytes) blank n, more) refl

-- a set with a line more, which is the most recently used
abbrev pub with_front : CacheSet → Line → CacheSet
with_front s l = record s { held = with_line s.ways l s.held }

-- the set after another order and other lines: it is sound where what it then holds is
pub stored_again : (ways size cap cap' : ℕ) (order order' : List ℕ) (lines lines' : List Stored) (hs : List Held) → IsStoredSet ways size order lines cap
    → length order' ≡ length order → length lines' ≤ ways → cap' ≡ cap
    → stored_set ways size order' lines' ≡ record (stored_set ways size order lines) { held = hs }
    → (IsSoundSet (stored_set ways size order lines) → IsSoundSet (record (stored_set ways size order lines) { held = hs }))
    → IsStoredSet ways size order' lines' cap'
stored_again ways size cap cap' order order' lines lines' hs ok places few room is sound =
    record {
      some = ok.some;
      few = few;
      room = omega (arith, ok.room, room);
      fit = ok.fit;
      places = omega (arith, places, ok.places);
      bytes = ok.bytes;
      sound = rw is (sound ok.sound);
    }

module _ (ways size cap : ℕ) (order : List ℕ) (lines : List Stored) (ok : IsStoredSet ways size order lines cap) where
  pub length-ways : length (take (length lines) order) ≡ length lines
  length-ways = length-take-le (length lines) order (omega (arith, ok.few, ok.fit, ok.places))

  pub length-held : length (stored_set ways size order lines).held ≡ length lines
  length-held = length-map (take (length lines) order) (held_in (map (shown size) lines)) ∙ length-ways

  -- each way of the order holds a line
  pub ways_below : All (λ w. w < length lines) (take (length lines) order)
  ways_below k d h =
      let f : ℕ → Held = held_in (map (shown size) lines) in
      let at : get_or (map f (take (length lines) order)) k (f d) ≡ f (get_or (take (length lines) order) k d) = get_or-map f (take (length lines) order) k d (f d) h in
      let low : (get_or (map f (take (length lines) order)) k (f d)).way < length (stored_set ways size order lines).held = ok.sound.within k (f d) (omega (arith, h, length-held, length-ways)) in
      let is : (get_or (map f (take (length lines) order)) k (f d)).way ≡ get_or (take (length lines) order) k d = ap (λ (x : Held). x.way) at in
      omega (arith, low, is, length-held)

  -- the way at a place of the order
  pub way_at : (n i : ℕ) → n ≡ length lines → i < length (take n order) → get_or (take n order) i 0 < length lines
  way_at n i e h = rw e (ways_below i 0 (rw e at h))

  pub nth_here : (n i w : ℕ) → n ≡ length lines → slice_get (take n order) i ≡ Some w
      → slice_get (stored_set ways size order lines).held i ≡ Some (held_in (map (shown size) lines) w)
  nth_here n i w e h =
      let f : ℕ → Held = held_in (map (shown size) lines) in
      slice_get-map f (take (length lines) order) i ∙ ap (option_map f) (rw e at h)

  pub way_here : (w : ℕ) → is_some (in_way w (stored_set ways size order lines).held) ≡ true
      → (in_way w (stored_set ways size order lines).held ≡ Some (held_in (map (shown size) lines) w)) × (w < length lines)
  way_here w e =
      let low : w < length (stored_set ways size order lines).held = way_below _ w (stored_set ways size order lines).held ok.sound.within e in
      (in_way_here (map (shown size) lines) w (take (length lines) order) e, omega (arith, low, length-held))

  -- a way comes to the front
  pub touched_stored : (r w : ℕ) (order' : List ℕ) → slice_get (take (length lines) order) r ≡ Some w → order' ≡ w ∷ take r order ++ drop (r + 1) order
      → stored_set ways size order' lines ≡ record (stored_set ways size order lines) { held = used w (stored_set ways size order lines).held }
  touched_stored r w order' e is =
      let n : ℕ = length lines in
      let ls : List Line = map (shown size) lines in
      let ws : List ℕ = take n order in
      let low : r < n = omega (arith, slice_get_within ws r w e, length-ways) in
      let front : take n order' ≡ w ∷ take r ws ++ drop (suc r) ws =
      ap (λ xs. take n xs) (is ∙ rw add-one refl) ∙ take-moved r n w order low (omega (arith, ok.few, ok.fit, ok.places)) in
      let split : in_order ws ls ≡ in_order (take r ws) ls ++ held_in ls w ∷ in_order (drop (suc r) ws) ls =
      ap (λ xs. in_order xs ls) (split_at ws r w e) ∙ map-append (held_in ls) (take r ws) (w ∷ drop (suc r) ws) in
      let moved : used w (in_order ws ls) ≡ held_in ls w ∷ (in_order (take r ws) ls ++ in_order (drop (suc r) ws) ls) =
      ap (used w) split ∙ used-between w (in_order (take r ws) ls) (in_order (drop (suc r) ws) ls) (held_in ls w) refl (rw (← split) (ok.sound.one_way w)) in
      let there : in_order (take n order') ls ≡ held_in ls w ∷ (in_order (take r ws) ls ++ in_order (drop (suc r) ws) ls) =
      ap (λ xs. in_order xs ls) front ∙ ap (λ xs. held_in ls w ∷ xs) (map-append (held_in ls) (take r ws) (drop (suc r) ws)) in
      ap (λ hs. let s : CacheSet = record { ways = ways; line = size; held = hs } in s) (there ∙ sym moved)

  -- bytes are written to the line in a way
  pub written_stored : (w offset : ℕ) (bytes : List ℕ) (s s' : Stored) (lines' : List Stored) → w < length lines → s ≡ get_or lines w s
      → shown size s' ≡ rewritten (shown size s) offset bytes → lines' ≡ set lines w s'
      → stored_set ways size order lines' ≡ record (stored_set ways size order lines) { held = written_in w offset bytes (stored_set ways size order lines).held }
  written_stored w offset bytes s s' lines' low read new is =
      let ls : List Line = map (shown size) lines in
      let line : rewritten (get_or ls w blank) offset bytes ≡ shown size s' = ap (λ l. rewritten l offset bytes) (line_read size lines w s low read) ∙ sym new in
      let stored : map (shown size) lines' ≡ set ls w (rewritten (get_or ls w blank) offset bytes) =
      ap (map (shown size)) is ∙ (map-set (shown size) lines w s' ∙ ap (λ l. set ls w l) (sym line)) in
      let long : length lines' ≡ length lines = ap length is ∙ length-set lines w s' in
      ap (λ hs. let s : CacheSet = record { ways = ways; line = size; held = hs } in s)
      (ap (λ n. in_order (take n order) (map (shown size) lines')) long ∙ (ap (λ ks. in_order (take (length lines) order) ks) stored
      ∙ in_order-written (take (length lines) order) ls w offset bytes (omega (arith, low, length-map lines (shown size)))))

  pub written_kept : (w offset : ℕ) (bytes : List ℕ) (s s' : Stored) (lines' : List Stored) → w < length lines → s ≡ get_or lines w s
      → shown size s' ≡ rewritten (shown size s) offset bytes → lines' ≡ set lines w s' → offset + length bytes ≤ size → IsStoredSet ways size order lines' cap
  written_kept w offset bytes s s' lines' low read new is fits =
      stored_again ways size cap cap order order lines lines' _ ok refl (omega (arith, ok.few, ap length is ∙ length-set lines w s')) refl
      (written_stored w offset bytes s s' lines' low read new is) (written_sound (stored_set ways size order lines) w offset bytes fits)

  -- a line comes, and a way is free for it
  module _ (l : Stored) (order' : List ℕ) (lines' : List Stored) (free : length lines < ways)
      (is : order' ≡ length lines ∷ take (length lines) order ++ drop (length lines + 1) order) (more : lines' ≡ lines ++ l ∷ []) where
    pub none_leaves : leaving ways (stored_set ways size order lines).held ≡ None
    none_leaves = slice_get_past (stored_set ways size order lines).held (ways - 1) (omega (arith, length-held))

    pub pushed_stored : stored_set ways size order' lines'
        ≡ record (stored_set ways size order lines) { held = with_line ways (shown size l) (stored_set ways size order lines).held }
    pushed_stored =
        let n : ℕ = length lines in
        let ls : List Line = map (shown size) lines in
        let ws : List ℕ = take n order in
        let long : length lines' ≡ suc n = ap length more ∙ (length-append lines (l ∷ []) ∙ omega arith) in
        let one : n + 1 ≡ suc n = omega arith in
        let is' : order' ≡ n ∷ take n order ++ drop (suc n) order = is ∙ ap (λ k. n ∷ take n order ++ drop k order) one in
        let front : take (suc n) order' ≡ n ∷ ws = ap (λ xs. take (suc n) xs) is' ∙ take-pushed n n order (omega (arith, ok.few, ok.fit, ok.places)) in
        let below : All (λ w. w < length ls) ws = All-weaker (λ w. w < n) (λ w. w < length ls) (λ w h. omega (arith, length-map lines (shown size))) ws ways_below in
        let stored : map (shown size) lines' ≡ ls ++ shown size l ∷ [] = ap (map (shown size)) more ∙ map-append (shown size) lines (l ∷ []) in
        let here : get_or (ls ++ shown size l ∷ []) n blank ≡ shown size l = get_or_at ls (shown size l) [] blank n (length-map lines (shown size)) in
        let way : next_way ways (in_order ws ls) ≡ n = ap (λ o. option_map_or (λ (h : Held). h.way) o (length (in_order ws ls))) none_leaves ∙ length-held in
        let stay : take (ways - 1) (in_order ws ls) ≡ in_order ws ls = take_all (ways - 1) (in_order ws ls) (omega (arith, length-held)) in
        let new : in_order (take (length lines') order') (map (shown size) lines') ≡ record { way = n; line = shown size l } ∷ in_order ws ls =
        ap (λ k. in_order (take k order') (map (shown size) lines')) long ∙ (ap (λ ks. in_order (take (suc n) order') ks) stored
        ∙ (ap (λ xs. in_order xs (ls ++ shown size l ∷ [])) front ∙ rw (here, in_order-push ws ls (shown size l) below) refl)) in
        ap (λ hs. let s : CacheSet = record { ways = ways; line = size; held = hs } in s) (new ∙ rw (way, stay) refl)

    -- and the set is sound
    pub pushed_kept : (line : Line) (cap' : ℕ) → shown size l ≡ line → cap' ≡ cap → length order' ≡ length order → length line.bytes ≡ size
        → of_address line.address (stored_set ways size order lines).held ≡ None → IsStoredSet ways size order' lines' cap'
    pushed_kept line cap' line_is room places whole absent =
        stored_again ways size cap cap' order order' lines lines' _ ok places (omega (arith, ap length more ∙ length-append lines (l ∷ []))) room
        (pushed_stored ∙ ap (with_front (stored_set ways size order lines)) line_is)
        (with_line_sound (stored_set ways size order lines) line ok.some absent whole)

  -- the way that was used the longest ago
  pub last_low : (n : ℕ) → n ≡ length lines → ways ≤ length lines → get_or order (n - 1) 0 < length lines
  last_low n e full =
      let some : 0 < n = omega (arith, ok.some) in
      let low : get_or (take n order) (n - 1) 0 < length lines = way_at n (n - 1) e (omega (arith, ap (λ n. length (take n order)) e ∙ length-ways)) in
      omega (arith, low, get_or-take n order (n - 1) 0 (omega arith))

  -- a line comes in the way of the one that leaves
  module _ (w : ℕ) (l : Stored) (order' : List ℕ) (lines' : List Stored) (full : ways ≤ length lines) (last : w ≡ get_or order (length lines - 1) 0)
      (is : order' ≡ w ∷ take (length lines - 1) order ++ drop (length lines - 1 + 1) order) (more : lines' ≡ set lines w l) where
    same : ways ≡ length lines
    same = omega (arith, ok.few)

    last_way : slice_get (take (length lines) order) (length lines - 1) ≡ Some w
    last_way =
        let n : ℕ = length lines in
        let within : n - 1 < length (take n order) = omega (arith, length-ways, ok.some) in
        slice_get-get_or (take n order) (n - 1) 0 within ∙ ap (λ x. Some x) (get_or-take n order (n - 1) 0 (omega (arith, ok.some)) ∙ sym last)

    pub one_leaves : leaving ways (stored_set ways size order lines).held ≡ Some (held_in (map (shown size) lines) w)
    one_leaves =
        let ls : List Line = map (shown size) lines in
        ap (λ n. slice_get (in_order (take (length lines) order) ls) (n - 1)) same
        ∙ (slice_get-map (held_in ls) (take (length lines) order) (length lines - 1) ∙ ap (option_map (held_in ls)) last_way)

    pub replaced_stored : stored_set ways size order' lines'
        ≡ record (stored_set ways size order lines) { held = with_line ways (shown size l) (stored_set ways size order lines).held }
    replaced_stored =
        let n : ℕ = length lines in
        let ls : List Line = map (shown size) lines in
        let ws : List ℕ = take n order in
        let some : 0 < n = omega (arith, ok.some) in
        let low : w < n = rw last (last_low n refl full) in
        let long : length lines' ≡ suc (n - 1) = ap length more ∙ (length-set lines w l ∙ omega arith) in
        let one : n - 1 + 1 ≡ suc (n - 1) = omega arith in
        let is' : order' ≡ w ∷ take (n - 1) order ++ drop (suc (n - 1)) order = is ∙ ap (λ k. w ∷ take (n - 1) order ++ drop k order) one in
        let front : take (suc (n - 1)) order' ≡ w ∷ take (n - 1) ws =
        ap (λ xs. take (suc (n - 1)) xs) is' ∙ (take-pushed (n - 1) w order (omega (arith, ok.few, ok.fit, ok.places)) ∙ ap (λ xs. w ∷ xs) (sym (take-take (n - 1) n order (omega arith)))) in
        let stored : map (shown size) lines' ≡ set ls w (shown size l) = ap (map (shown size)) more ∙ map-set (shown size) lines w l in
        let here : get_or (set ls w (shown size l)) w blank ≡ shown size l = get_or-set_same ls w (shown size l) blank (omega (arith, low, length-map lines (shown size))) in
        let p : ℕ → Bool = λ x. x == w in
        let once : count_by p (take (n - 1) ws) ≡ 0 =
        omega (arith, count_by-before p ws (n - 1) w last_way (eq-eqb w w refl), count-in_order w ls ws, ok.sound.one_way w) in
        let new : in_order (take (length lines') order') (map (shown size) lines') ≡ record { way = w; line = shown size l } ∷ in_order (take (n - 1) ws) ls =
        ap (λ k. in_order (take k order') (map (shown size) lines')) long ∙ (ap (λ ks. in_order (take (suc (n - 1)) order') ks) stored
        ∙ (ap (λ xs. in_order xs (set ls w (shown size l))) front ∙ rw (here, in_order-set (take (n - 1) ws) ls w (shown size l) once) refl)) in
        let way : next_way ways (in_order ws ls) ≡ w = ap (λ o. option_map_or (λ (h : Held). h.way) o (length (in_order ws ls))) one_leaves in
        let stay : take (ways - 1) (in_order ws ls) ≡ in_order (take (n - 1) ws) ls = ap (λ k. take (k - 1) (in_order ws ls)) same ∙ take-map (held_in ls) (n - 1) ws in
        ap (λ hs. let s : CacheSet = record { ways = ways; line = size; held = hs } in s) (new ∙ rw (way, stay) refl)

    pub replaced_kept : (line : Line) → shown size l ≡ line → length order' ≡ length order → length line.bytes ≡ size
        → of_address line.address (stored_set ways size order lines).held ≡ None → IsStoredSet ways size order' lines' cap
    replaced_kept line line_is places whole absent =
        stored_again ways size cap cap order order' lines lines' _ ok places (omega (arith, ok.few, ap length more ∙ length-set lines w l)) refl
        (replaced_stored ∙ ap (with_front (stored_set ways size order lines)) line_is)
        (with_line_sound (stored_set ways size order lines) line ok.some absent whole)
