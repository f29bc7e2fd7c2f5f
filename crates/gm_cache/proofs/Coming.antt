-- A line comes into its set, and the least recently used one leaves.
use Rattle.std.proofs.Common.{◌≡◌, ℕ, ◌+◌, ◌-◌, ◌≤◌, ◌⊎◌, inl, inr, Bool, true, false, if◌then◌else◌, List, [], ◌∷◌, ◌++◌, length, take, slice_index_or, set, get_or, Option, Some, None, refl, sym, ◌∙◌, ap, subst, arith, eq-eqb, ne_eqb, ◌==◌, append-nil, length-take, length-set, get_or-set_same, get_or-set_other}
use Rattle.std.proofs.lemmas.Bool.{cases_eq}
use Rattle.cache_tags.specs.Line.{Line, leaving_line}
use Rattle.gm_cache.specs.State.{CacheState, Register, set_of, set_at, with_set, find_line, find_register, line_in, leaving_outlet}
use Rattle.gm_cache.specs.Rule.{backs, CacheMoved, line_request, requesting, evicting, installing}
use Rattle.gm_cache.specs.Lines.{LineState, Request, Back, line_view, requests, requests_in, line_state, state_in, view_of, AreLines, IsLineOf, HasSets, AreApart, Moves, Stay, LeaveDirty, LeaveClean}
use Rattle.gm_cache.proofs.SetLemmas.{set_below, set_same, set_other, find_here, find_past, find_front, last_apart, find_last, not_first, none_front, none_later, some_front, lines_front, lines_later, leavers, stays_leaves}
use Rattle.gm_cache.proofs.QueueLemmas.{requests-put, backs-put, own_back, own_other}
use Rattle.gm_words.specs.Flow.{Flow}
use Rattle.pkt_pool.specs.declared.cmd.Cmd.TheVariants as cmds

-- Sets.

-- sets with one replaced
pub sets_with : (s : CacheState) (b : ℕ) (ls : List Line) → HasSets s → AreLines s (set_of s b) ls → length ls ≤ s.ways → HasSets (with_set s b ls)
sets_with s b ls ok lines few =
    record {
      some_bytes = ok.some_bytes;
      some_sets = ok.some_sets;
      some_ways = ok.some_ways;
      count = length-set s.lines (set_of s b) ls ∙ ok.count;
      each = λ i. by (λ ks. AreLines s i ks) i (λ e. subst (λ j. AreLines s j ls) e lines) (ok.each i);
      few = λ i. by (λ ks. length ks ≤ s.ways) i (λ e. few) (ok.few i);
    } where
      by : (P : List Line → Type 0) (i : ℕ) → (set_of s b ≡ i → P ls) → P (get_or s.lines i []) → P (get_or (set s.lines (set_of s b) ls) i [])
      by P i here else_ = cases (cases_eq i (set_of s b)) where
        cases : (i ≡ set_of s b) ⊎ (i ≡ set_of s b → ⊥) → P (get_or (set s.lines (set_of s b) ls) i [])
        cases (inl e) = subst P (sym (ap (λ j. get_or (set s.lines (set_of s b) ls) j []) e ∙ get_or-set_same s.lines (set_of s b) ls [] (set_below s ok b)))
            (here (sym e))
        cases (inr n) = subst P (sym (get_or-set_other s.lines (set_of s b) i ls [] n)) else_

-- sets, whatever the registers and queues are
pub sets_rest : (s : CacheState) (rs : List Register) (f g : Flow) (w : Bool) → HasSets s
    → HasSets (record s { registers = rs; answers = f; leaving = g; waiter = w })
sets_rest s rs f g w ok =
    record { some_bytes = ok.some_bytes; some_sets = ok.some_sets; some_ways = ok.some_ways; count = ok.count; each = ok.each; few = ok.few }

-- What a line that leaves sends.

-- of the line at an address
abbrev pub evicted : ℕ → Option Line → List Request
evicted a None = []
evicted a (Some v) = if v.dirty then (if v.address == a then Back v.bytes ∷ [] else []) else []

pub evicting_sends : (now : ℕ) (o : Option Line) (m : CacheMoved) (i a : ℕ) → AreLines m.cache i (leavers o)
    → requests m.cache a (evicting o now m).cache.leaving.items ≡ requests m.cache a m.cache.leaving.items ++ evicted a o
evicting_sends now None m i a w = sym (append-nil (requests m.cache a m.cache.leaving.items))
evicting_sends now (Some v) m i a w = by v.dirty (cases_eq v.address a) where
  by : (b : Bool) → (v.address ≡ a) ⊎ (v.address ≡ a → ⊥)
      → requests m.cache a (if b then requesting cmds.WriteBack v.address v.bytes now m else m).cache.leaving.items
      ≡ requests m.cache a m.cache.leaving.items ++ (if b then (if v.address == a then Back v.bytes ∷ [] else []) else [])
  by false c = sym (append-nil (requests m.cache a m.cache.leaving.items))
  by true (inl e) =
      requests-put m.cache a leaving_outlet (line_request m.cache m.next cmds.WriteBack v.address v.bytes)
      (now + m.cache.latency) m.cache.leaving.items m.cache.leaving.out
      ∙ ap (λ r. requests m.cache a m.cache.leaving.items ++ r)
      (subst (λ c. requests_in m.cache c (line_request m.cache m.next cmds.WriteBack v.address v.bytes) ≡ Back v.bytes ∷ []) e
      (own_back m.cache m.next v.address v.bytes w.0.1 w.0.2)
      ∙ sym (ap (λ b. if b then Back v.bytes ∷ [] else []) (eq-eqb v.address a e)))
  by true (inr e) =
      requests-put m.cache a leaving_outlet (line_request m.cache m.next cmds.WriteBack v.address v.bytes)
      (now + m.cache.latency) m.cache.leaving.items m.cache.leaving.out
      ∙ ap (λ r. requests m.cache a m.cache.leaving.items ++ r)
      (own_other m.cache a m.next cmds.WriteBack v.address v.bytes w.0.1 e ∙ sym (ap (λ b. if b then Back v.bytes ∷ [] else []) (ne_eqb v.address a e)))

-- nothing else of the cache changes
pub evicting_cache : (now : ℕ) (o : Option Line) (m : CacheMoved) → (evicting o now m).cache ≡ record m.cache { leaving = (evicting o now m).cache.leaving }
evicting_cache now None m = refl
evicting_cache now (Some v) m = by v.dirty where
  by : (b : Bool)
      → (let k : CacheMoved = if b then requesting cmds.WriteBack v.address v.bytes now m else m in k.cache ≡ record m.cache { leaving = k.cache.leaving })
  by true = refl
  by false = refl

-- a line that leaves takes one write place at most
pub evicting_backs : (now : ℕ) (o : Option Line) (m : CacheMoved) → backs (evicting o now m).cache.leaving.items ≤ backs m.cache.leaving.items + 1
evicting_backs now None m = omega arith
evicting_backs now (Some v) m = by v.dirty where
  by : (b : Bool) → backs (if b then requesting cmds.WriteBack v.address v.bytes now m else m).cache.leaving.items ≤ backs m.cache.leaving.items + 1
  by false = omega arith
  by true =
      omega (
        arith,
        backs-put leaving_outlet (line_request m.cache m.next cmds.WriteBack v.address v.bytes)
            (now + m.cache.latency) m.cache.leaving.items m.cache.leaving.out,
      )

pub evicting_entries : (now : ℕ) (o : Option Line) (m : CacheMoved) → (evicting o now m).entries ≡ m.entries
evicting_entries now None m = refl
evicting_entries now (Some v) m = by v.dirty where
  by : (b : Bool) → (let k : CacheMoved = if b then requesting cmds.WriteBack v.address v.bytes now m else m in k.entries) ≡ m.entries
  by false = refl
  by true = refl

evicted_none : (a : ℕ) (o : Option Line) → ((v : Line) → o ≡ Some v → v.address ≡ a → ⊥) → evicted a o ≡ []
evicted_none a None h = refl
evicted_none a (Some v) h = by v.dirty where
  by : (b : Bool) → (if b then (if v.address == a then Back v.bytes ∷ [] else []) else []) ≡ []
  by true = ap (λ b. if b then Back v.bytes ∷ [] else []) (ne_eqb v.address a (h v refl))
  by false = refl

stay_view : (line line' : LineState) (sent sent' : List Request) → line' ≡ line → sent' ≡ sent → Moves (line_view line sent) (line_view line' sent')
stay_view line line' sent sent' e f = Stay (rw (e, f) refl)

-- of a set's lines the last one leaves: a line of the set stays, or it is the one that leaves
parts_move : (s : CacheState) (i : ℕ) (front : List Line) (o : Option Line) (a : ℕ) (reg : Option Register) (sent : List Request)
    → AreLines s i (front ++ leavers o)
    → ((l : Line) → find_line a (front ++ leavers o) ≡ Some l → reg ≡ None)
    → Moves (line_view (state_in (find_line a (front ++ leavers o)) reg) sent) (line_view (state_in (find_line a front) reg) (sent ++ evicted a o))
parts_move s i front None a reg sent ok apart =
    stay_view _ _ sent (sent ++ []) (ap (λ ls. state_in (find_line a ls) reg) (sym (append-nil front))) (append-nil sent)
parts_move s i front (Some v) a reg sent ok apart = by (cases_eq v.address a) where
  leaves : (b : Bool) → v.dirty ≡ b → v.address ≡ a → find_line a (front ++ v ∷ []) ≡ Some v → find_line a front ≡ None → reg ≡ None
      → Moves (line_view (state_in (find_line a (front ++ v ∷ [])) reg) sent) (line_view (state_in (find_line a front) reg) (sent ++ evicted a (Some v)))
  leaves true d e there gone none =
      LeaveDirty v.bytes (rw (there, d) refl) (rw (gone, none) refl) (rw (d, eq-eqb v.address a e) refl)
  leaves false d e there gone none =
      LeaveClean v.bytes (rw (there, d) refl) (rw (gone, none) refl) (rw d (append-nil sent))

  by : (v.address ≡ a) ⊎ (v.address ≡ a → ⊥)
      → Moves (line_view (state_in (find_line a (front ++ v ∷ [])) reg) sent) (line_view (state_in (find_line a front) reg) (sent ++ evicted a (Some v)))
  by (inl e) =
      let there : find_line a (front ++ v ∷ []) ≡ Some v = subst (λ x. find_line x (front ++ v ∷ []) ≡ Some v) e (find_last s i front v ok) in
      leaves v.dirty refl e there (subst (λ x. find_line x front ≡ None) e (last_apart s i front v ok)) (apart v there)
  by (inr e) =
      stay_view _ _ sent _ (ap (λ o. state_in o reg) (sym (find_front a front v e)))
      (ap (λ r. sent ++ r) (evicted_none a (Some v) (λ x f g. e (ap (λ (y : Line). y.address) (same x f) ∙ g))) ∙ append-nil sent) where
        same : (x : Line) → ◌≡◌ {A = Option Line} (Some v) (Some x) → v ≡ x
        same x f = cc f

-- A line comes in.

-- the line that leaves as this one comes in, and what stays of its set
abbrev pub victim_of : Line → CacheState → Option Line
victim_of l s = leaving_line s.ways (set_at s l.address)

abbrev pub stays_of : Line → CacheState → List Line
stays_of l s = take (s.ways - 1) (set_at s l.address)

-- the cache with the line
abbrev pub with_line : Line → CacheState → CacheState
with_line l s = with_set s l.address (l ∷ stays_of l s)

abbrev pub came_in : Line → CacheMoved → CacheMoved
came_in l m = record m { cache = with_line l m.cache }

pub split : (l : Line) (s : CacheState) → HasSets s → stays_of l s ++ leavers (victim_of l s) ≡ set_at s l.address
split l s ok = stays_leaves (s.ways - 1) (set_at s l.address) (omega (arith, ok.few (set_of s l.address), ok.some_ways))

split_lines : (l : Line) (s : CacheState) → HasSets s → AreLines s (set_of s l.address) (stays_of l s ++ leavers (victim_of l s))
split_lines l s ok = subst (λ ls. AreLines s (set_of s l.address) ls) (sym (split l s ok)) (ok.each (set_of s l.address))

pub installing_view : (l : Line) (now : ℕ) (m : CacheMoved) (a : ℕ) → HasSets m.cache
    → view_of (installing l now m).cache a
    ≡ line_view (state_in (find_line a (set_at (with_line l m.cache) a)) (find_register a m.cache.registers))
    (requests m.cache a m.cache.leaving.items ++ evicted a (victim_of l m.cache))
unfolding view_of
installing_view l now m a ok =
    ap (λ (c : CacheState). line_view (state_in (find_line a (set_at c a)) (find_register a c.registers))
    (requests c a (installing l now m).cache.leaving.items))
    (evicting_cache now (victim_of l m.cache) (came_in l m))
    ∙ ap (line_view (state_in (find_line a (set_at (with_line l m.cache) a)) (find_register a m.cache.registers)))
    (evicting_sends now (victim_of l m.cache) (came_in l m) (set_of m.cache l.address) a
    (lines_later m.cache (set_of m.cache l.address) (stays_of l m.cache) (leavers (victim_of l m.cache)) (split_lines l m.cache ok)))

-- what a line that comes in does to each line
pub record Installs (m : CacheMoved) (l : Line) (t : CacheMoved) : Type 0 where
  pub own : view_of t.cache l.address ≡ line_view (line_state l) (view_of m.cache l.address).sent
  pub other : (a : ℕ) → (l.address ≡ a → ⊥) → Moves (view_of m.cache a) (view_of t.cache a)

pub installs : (l : Line) (now : ℕ) (m : CacheMoved) → HasSets m.cache → AreApart m.cache → line_in m.cache l.address ≡ None → Installs m l (installing l now m)
unfolding view_of
installs l now m ok apart none = record { own = own; other = other } where
  lines : AreLines m.cache (set_of m.cache l.address) (stays_of l m.cache ++ leavers (victim_of l m.cache))
  lines = split_lines l m.cache ok

  not_victim : (v : Line) → victim_of l m.cache ≡ Some v → v.address ≡ l.address → ⊥
  not_victim v e f =
      not_first l.address v [] (subst (λ o. find_line l.address (leavers o) ≡ None) e
      (none_later l.address (stays_of l m.cache) (leavers (victim_of l m.cache))
      (subst (λ ls. find_line l.address ls ≡ None) (sym (split l m.cache ok)) none))) f

  own : view_of (installing l now m).cache l.address ≡ line_view (line_state l) (requests m.cache l.address m.cache.leaving.items)
  own =
      installing_view l now m l.address ok
      ∙ (ap (λ ls. line_view (state_in (find_line l.address ls) (find_register l.address m.cache.registers))
      (requests m.cache l.address m.cache.leaving.items ++ evicted l.address (victim_of l m.cache)))
      (set_same m.cache ok l.address (l ∷ stays_of l m.cache) l.address refl)
      ∙ (ap (λ o. line_view (state_in o (find_register l.address m.cache.registers))
      (requests m.cache l.address m.cache.leaving.items ++ evicted l.address (victim_of l m.cache)))
      (find_here l.address l (stays_of l m.cache) refl)
      ∙ ap (line_view (line_state l))
      (ap (λ r. requests m.cache l.address m.cache.leaving.items ++ r) (evicted_none l.address (victim_of l m.cache) not_victim)
      ∙ append-nil (requests m.cache l.address m.cache.leaving.items))))

  apart_victim : (a : ℕ) → set_of m.cache a ≡ set_of m.cache l.address → (k : Line) → find_line a (stays_of l m.cache ++ leavers (victim_of l m.cache)) ≡ Some k
      → find_register a m.cache.registers ≡ None
  apart_victim a e k h =
      apart a k (ap (λ i. find_line a (slice_index_or m.cache.lines i [])) e ∙ (ap (find_line a) (sym (split l m.cache ok)) ∙ h))

  other_set : (a : ℕ) → (set_of m.cache a ≡ set_of m.cache l.address → ⊥) → (v : Line) → victim_of l m.cache ≡ Some v → v.address ≡ a → ⊥
  other_set a n v e f = n (ap (set_of m.cache) (sym f) ∙ of_first) where
    of_first : set_of m.cache v.address ≡ set_of m.cache l.address
    of_first =
        (subst (λ o. AreLines m.cache (set_of m.cache l.address) (leavers o)) e
        (lines_later m.cache (set_of m.cache l.address) (stays_of l m.cache) (leavers (victim_of l m.cache)) lines)).0.0

  in_set : (a : ℕ) → (l.address ≡ a → ⊥) → (set_of m.cache a ≡ set_of m.cache l.address) ⊎ (set_of m.cache a ≡ set_of m.cache l.address → ⊥)
      → Moves (line_view (state_in (find_line a (set_at m.cache a)) (find_register a m.cache.registers)) (requests m.cache a m.cache.leaving.items))
      (line_view (state_in (find_line a (set_at (with_line l m.cache) a)) (find_register a m.cache.registers))
      (requests m.cache a m.cache.leaving.items ++ evicted a (victim_of l m.cache)))
  in_set a n (inl e) =
      let p = parts_move m.cache (set_of m.cache l.address) (stays_of l m.cache) (victim_of l m.cache) a (find_register a m.cache.registers)
      (requests m.cache a m.cache.leaving.items) lines
      (apart_victim a e) in
      let before : stays_of l m.cache ++ leavers (victim_of l m.cache) ≡ set_at m.cache a =
      split l m.cache ok ∙ sym (ap (λ i. slice_index_or m.cache.lines i []) e) in
      let after : find_line a (stays_of l m.cache) ≡ find_line a (set_at (with_line l m.cache) a) =
      sym (ap (find_line a) (set_same m.cache ok l.address (l ∷ stays_of l m.cache) a e) ∙ find_past a l (stays_of l m.cache) n) in
      subst (λ ls. Moves (line_view (state_in (find_line a ls) (find_register a m.cache.registers)) (requests m.cache a m.cache.leaving.items))
      (line_view (state_in (find_line a (set_at (with_line l m.cache) a)) (find_register a m.cache.registers))
      (requests m.cache a m.cache.leaving.items ++ evicted a (victim_of l m.cache)))) before
      (subst (λ o. Moves (line_view (state_in (find_line a (stays_of l m.cache ++ leavers (victim_of l m.cache))) (find_register a m.cache.registers))
      (requests m.cache a m.cache.leaving.items))
      (line_view (state_in o (find_register a m.cache.registers)) (requests m.cache a m.cache.leaving.items ++ evicted a (victim_of l m.cache)))) after p)
  in_set a n (inr e) =
      stay_view (state_in (find_line a (set_at m.cache a)) (find_register a m.cache.registers))
      (state_in (find_line a (set_at (with_line l m.cache) a)) (find_register a m.cache.registers)) (requests m.cache a m.cache.leaving.items)
      (requests m.cache a m.cache.leaving.items ++ evicted a (victim_of l m.cache))
      (ap (λ ls. state_in (find_line a ls) (find_register a m.cache.registers)) (set_other m.cache ok l.address (l ∷ stays_of l m.cache) a e))
      (ap (λ r. requests m.cache a m.cache.leaving.items ++ r) (evicted_none a (victim_of l m.cache) (other_set a e))
      ∙ append-nil (requests m.cache a m.cache.leaving.items))

  other : (a : ℕ) → (l.address ≡ a → ⊥) → Moves (view_of m.cache a) (view_of (installing l now m).cache a)
  other a n = subst (λ x. Moves (view_of m.cache a) x) (sym (installing_view l now m a ok))
      (in_set a n (cases_eq (set_of m.cache a) (set_of m.cache l.address)))

-- It keeps what holds of the lines.

module _ (l : Line) (now : ℕ) (m : CacheMoved) (ok : HasSets m.cache) (none : line_in m.cache l.address ≡ None)
    (is : IsLineOf m.cache (set_of m.cache l.address) l) where
  pub installs_cache : (installing l now m).cache ≡ (let s : CacheState = record (with_line l m.cache) { leaving = (installing l now m).cache.leaving } in s)
  installs_cache = evicting_cache now (victim_of l m.cache) (came_in l m)

  pub installs_sets : HasSets (installing l now m).cache
  installs_sets =
      let k : CacheState = with_line l m.cache in
      subst HasSets (sym installs_cache) (sets_rest k k.registers k.answers (installing l now m).cache.leaving k.waiter
      (sets_with m.cache l.address (l ∷ stays_of l m.cache) ok (
        is,
        none_front l.address (stays_of l m.cache) (leavers (victim_of l m.cache)) (ap (find_line l.address) (split l m.cache ok) ∙ none),
        lines_front m.cache (set_of m.cache l.address) (stays_of l m.cache) (leavers (victim_of l m.cache)) (split_lines l m.cache ok),
      )
      (omega (arith, length-take (m.cache.ways - 1) (set_at m.cache l.address), ok.some_ways))))

  pub installs_found : line_in (installing l now m).cache l.address ≡ Some l
  installs_found =
      ap (λ (s : CacheState). find_line l.address (set_at s l.address)) installs_cache
      ∙ (ap (find_line l.address) (set_same m.cache ok l.address (l ∷ stays_of l m.cache) l.address refl) ∙ find_here l.address l (stays_of l m.cache) refl)

  pub installs_apart : AreApart m.cache → find_register l.address m.cache.registers ≡ None → AreApart (installing l now m).cache
  installs_apart apart free = subst AreApart (sym installs_cache) (λ a k h. by a k h (cases_eq l.address a)) where
    old : (a : ℕ) (k : Line) → (l.address ≡ a → ⊥) → find_line a (set_at (with_line l m.cache) a) ≡ Some k
        → (set_of m.cache a ≡ set_of m.cache l.address) ⊎ (set_of m.cache a ≡ set_of m.cache l.address → ⊥) → find_line a (set_at m.cache a) ≡ Some k
    old a k n h (inl e) =
        ap (λ i. find_line a (slice_index_or m.cache.lines i [])) e
        ∙ (ap (find_line a) (sym (split l m.cache ok))
        ∙ some_front a (stays_of l m.cache) (leavers (victim_of l m.cache)) k
        (sym (find_past a l (stays_of l m.cache) n) ∙ (sym (ap (find_line a) (set_same m.cache ok l.address (l ∷ stays_of l m.cache) a e)) ∙ h)))
    old a k n h (inr e) = sym (ap (find_line a) (set_other m.cache ok l.address (l ∷ stays_of l m.cache) a e)) ∙ h

    by : (a : ℕ) (k : Line) → find_line a (set_at (with_line l m.cache) a) ≡ Some k → (l.address ≡ a) ⊎ (l.address ≡ a → ⊥)
        → find_register a m.cache.registers ≡ None
    by a k h (inl e) = subst (λ b. find_register b m.cache.registers ≡ None) e free
    by a k h (inr n) = apart a k (old a k n h (cases_eq (set_of m.cache a) (set_of m.cache l.address)))
