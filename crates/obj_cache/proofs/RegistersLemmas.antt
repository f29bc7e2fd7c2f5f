-- The packets that the targets of registers stand for, as registers and pool change.
use Rattle.std.proofs.Common.{◌≡◌, ◌≢◌, ℕ, ◌+◌, ◌*◌, ◌≤◌, ◌<◌, ◌==◌, ◌||◌, nat_le, refl, sym, ◌∙◌, ap, arith, subst, eq-eqb, ne_eqb, Bool, true, false, if◌then◌else◌, List, [], ◌∷◌, ◌++◌, length, ◌⊎◌, inl, inr, Option, Some, None, is_some, All}
use Rattle.std.proofs.Math.Nat.{mul-le-mul_right}
use Rattle.std.proofs.lemmas.Bool.{cases_eq, le-leb, lt-leb}
use Rattle.cache_mshr.specs.Registers as kept
use Rattle.cache_mshr.specs.Registers.{Registers, key_of, is_open, AreApart, AreWithin, AreSound}
use Rattle.cache_mshr.proofs.RegistersLemmas.{not_both, other_line, found_open, register_free}
use Rattle.gm_cache.specs.State.{Register, find_register, without_register, joined}
use Rattle.gm_cache.specs.Rule as rule
use Rattle.pkt_pool.specs.declared.packet.Packet.{Packet}
use Rattle.pkt_pool.specs.Pooled.{Pooled, packet_at, count, Changes}
use Rattle.obj_cache.specs.Held.{IsTarget, is_full, targets_of, with_targets}
use Rattle.obj_cache.specs.RegistersKept.{packets_by, packets_of, registers_of, shown, bit, times, sum_in, times_in, all_targets, AreInLine, IsKept}

-- Packets of keys.

bit_most : (b : Bool) → bit b ≤ 1
bit_most true = omega arith
bit_most false = omega arith

-- a key that doesn't stand in a list isn't its first
apart : (j k n : ℕ) → bit (j == k) + n ≡ 0 → j ≢ k
apart j k n e s = absurd (omega (arith, rw (eq-eqb j k s) at e))

-- a change of such a key isn't seen
unseen : (p q : Pooled) (ks : List ℕ) (k : ℕ) (s : Option Packet) → Changes p q k s → times k ks ≡ 0 → packets_of q ks ≡ packets_of p ks
unseen p q [] k s c n = refl
unseen p q (j ∷ js) k s c n =
    rw (c.others j (apart j k (times k js) n)) (ap (λ xs. packets_by (packet_at p j) xs) (unseen p q js k s c (omega (arith, n))))

by_append : (o : Option Packet) (xs ys : List Packet) → packets_by o (xs ++ ys) ≡ packets_by o xs ++ ys
by_append None xs ys = refl
by_append (Some x) xs ys = refl

pub packets_append : (p : Pooled) (ks js : List ℕ) → packets_of p (ks ++ js) ≡ packets_of p ks ++ packets_of p js
packets_append p [] js = refl
packets_append p (k ∷ ks) js =
    ap (λ xs. packets_by (packet_at p k) xs) (packets_append p ks js) ∙ by_append (packet_at p k) (packets_of p ks) (packets_of p js)

-- a packet comes in behind the others
pub put_packets : (p q : Pooled) (ks : List ℕ) (k : ℕ) (x : Packet) → Changes p q k (Some x) → times k ks ≡ 0 → packets_of q (ks ++ k ∷ []) ≡ packets_of p ks ++ x ∷ []
put_packets p q ks k x c n =
    packets_append q ks (k ∷ []) ∙ rw c.changed (ap (λ xs. xs ++ x ∷ []) (unseen p q ks k (Some x) c n))

pub times_append : (k : ℕ) (ks js : List ℕ) → times k (ks ++ js) ≡ times k ks + times k js
times_append k [] js = omega arith
times_append k (i ∷ is) js = omega (arith, times_append k is js)

by_count : (o : Option Packet) (xs : List Packet) → 1 ≤ bit (is_some o) → length (packets_by o xs) ≡ length xs + 1
by_count None xs h = absurd (omega (arith, h))
by_count (Some x) xs h = omega arith

-- each key of a list has a packet
pub length_packets : (p : Pooled) (ks : List ℕ) → ((k : ℕ) → times k ks ≤ bit (is_some (packet_at p k))) → length (packets_of p ks) ≡ length ks
length_packets p [] h = refl
length_packets p (k ∷ ks) h =
    let here : times k (k ∷ ks) ≡ 1 + times k ks = rw (eq-eqb k k refl) refl in
    omega (arith, by_count (packet_at p k) (packets_of p ks) (omega (arith, here, h k)), length_packets p ks (λ j. omega (arith, h j)))

-- Where each key holds a packet.

-- one more comes in
pub held_put : (p q : Pooled) (k : ℕ) (x : Packet) (n m : ℕ → ℕ) → Changes p q k (Some x) → packet_at p k ≡ None → ((j : ℕ) → n j ≤ bit (is_some (packet_at p j)))
    → ((j : ℕ) → m j ≡ n j + bit (k == j)) → (j : ℕ) → m j ≤ bit (is_some (packet_at q j))
held_put p q k x n m c v h e j = by (cases_eq j k) where
  by : (j ≡ k) ⊎ (j ≡ k → ⊥) → m j ≤ bit (is_some (packet_at q j))
  by (inl s) =
      let was : bit (is_some (packet_at p j)) ≡ 0 = ap (λ i. bit (is_some (packet_at p i))) s ∙ ap (λ o. bit (is_some o)) v in
      let now : bit (is_some (packet_at q j)) ≡ 1 = ap (λ i. bit (is_some (packet_at q i))) s ∙ ap (λ o. bit (is_some o)) c.changed in
      omega (arith, was, now, h j, e j, bit_most (k == j))
  by (inr d) =
      let same : bit (is_some (packet_at q j)) ≡ bit (is_some (packet_at p j)) = ap (λ o. bit (is_some o)) (c.others j d) in
      let other : bit (k == j) ≡ 0 = ap bit (ne_eqb k j (λ s. d (sym s))) in
      omega (arith, same, other, h j, e j)

-- one goes
pub held_taken : (p q : Pooled) (k : ℕ) (n m : ℕ → ℕ) → Changes p q k None → ((j : ℕ) → n j ≤ bit (is_some (packet_at p j)))
    → ((j : ℕ) → n j ≡ m j + bit (k == j)) → (j : ℕ) → m j ≤ bit (is_some (packet_at q j))
held_taken p q k n m c h e j = by (cases_eq j k) where
  by : (j ≡ k) ⊎ (j ≡ k → ⊥) → m j ≤ bit (is_some (packet_at q j))
  by (inl s) =
      let one : bit (k == j) ≡ 1 = ap bit (eq-eqb k j (sym s)) in
      omega (arith, one, h j, e j, bit_most (is_some (packet_at p j)))
  by (inr d) =
      let same : bit (is_some (packet_at q j)) ≡ bit (is_some (packet_at p j)) = ap (λ o. bit (is_some o)) (c.others j d) in
      omega (arith, same, h j, e j)

-- a key that holds nothing is no target
pub no_target : (p : Pooled) (rs : List kept.Register) (k : ℕ) → ((j : ℕ) → times_in j rs ≤ bit (is_some (packet_at p j))) → packet_at p k ≡ None → times_in k rs ≡ 0
no_target p rs k h v = let was : bit (is_some (packet_at p k)) ≡ 0 = ap (λ o. bit (is_some o)) v in omega (arith, was, h k)

pub unseen_in : (p q : Pooled) (rs : List kept.Register) (k : ℕ) (s : Option Packet) → Changes p q k s → times_in k rs ≡ 0 → registers_of q rs ≡ registers_of p rs
unseen_in p q [] k s c n = refl
unseen_in p q (r ∷ rs) k s c n =
    rw (unseen p q r.targets k s c (omega (arith, n)))
    (ap (λ hs. record { address = r.address; targets = packets_of p r.targets } ∷ hs) (unseen_in p q rs k s c (omega (arith, n))))

pub in_line_unseen : (line : ℕ) (p q : Pooled) (rs : List kept.Register) (k : ℕ) (s : Option Packet) → Changes p q k s → times_in k rs ≡ 0
    → AreInLine line p rs → AreInLine line q rs
in_line_unseen line p q [] k s c n h = tt
in_line_unseen line p q (r ∷ rs) k s c n h = (
  subst (λ xs. All (IsTarget line r.address) xs) (sym (unseen p q r.targets k s c (omega (arith, n)))) h.0,
  in_line_unseen line p q rs k s c (omega (arith, n)) h.1,
)

-- What contracts see.

pub shown_length : (p : Pooled) (rs : List kept.Register) → length (registers_of p rs) ≡ length rs
shown_length p [] = refl
shown_length p (r ∷ rs) = omega (arith, shown_length p rs)

pub shown_found : (p : Pooled) (a : ℕ) (rs : List kept.Register) → is_some (key_of a rs) ≡ is_some (find_register a (registers_of p rs))
shown_found p a [] = refl
shown_found p a (r ∷ rs) = by (cases_eq r.address a) (shown_found p a rs) where
  by : (r.address ≡ a) ⊎ (r.address ≡ a → ⊥) → is_some (key_of a rs) ≡ is_some (find_register a (registers_of p rs))
      → is_some (key_of a (r ∷ rs)) ≡ is_some (find_register a (registers_of p (r ∷ rs)))
  by (inl e) g = let t : (r.address == a) ≡ true = eq-eqb r.address a e in rw t refl
  by (inr d) g = let f : (r.address == a) ≡ false = ne_eqb r.address a d in rw f g

no_key : (o : Option ℕ) → is_some o ≡ false → o ≡ None
no_key None e = refl
no_key (Some k) e = absurd (cc)

pub none_found : (p : Pooled) (a : ℕ) (rs : List kept.Register) → find_register a (registers_of p rs) ≡ None → key_of a rs ≡ None
none_found p a rs e = no_key (key_of a rs) (shown_found p a rs ∙ ap is_some e)

-- The register of a key that was found for an address.

same_some : {x y : ℕ} → Some x ≡ Some y → x ≡ y
same_some e = cc

-- it is the first
first_key : (a g : ℕ) (r : kept.Register) (rs : List kept.Register) → r.address ≡ a → key_of a (r ∷ rs) ≡ Some g → r.key ≡ g
first_key a g r rs e f = same_some (sym (here) ∙ f) where
  here : key_of a (r ∷ rs) ≡ Some r.key
  here = rw (eq-eqb r.address a e) refl

-- or one of the others, which has another key
later_key : (a g : ℕ) (r : kept.Register) (rs : List kept.Register) → r.address ≢ a → key_of a (r ∷ rs) ≡ Some g → key_of a rs ≡ Some g
later_key a g r rs d f = sym here ∙ f where
  here : key_of a (r ∷ rs) ≡ key_of a rs
  here = rw (ne_eqb r.address a d) refl

other_key : (a g k : ℕ) (rs : List kept.Register) → is_open k rs ≡ false → key_of a rs ≡ Some g → k ≢ g
other_key a g k rs n f e = not_both (sym (found_open a g rs f) ∙ ap (λ i. is_open i rs) (sym e) ∙ n)

pub targets_shown : (p : Pooled) (a g : ℕ) (rs : List kept.Register) → AreApart rs → key_of a rs ≡ Some g
    → targets_of a (registers_of p rs) ≡ packets_of p (kept.targets_of g rs)
targets_shown p a g [] h f = absurd (cc)
targets_shown p a g (r ∷ rs) h f = by (cases_eq r.address a) (λ k. targets_shown p a g rs h.2 k) where
  by : (r.address ≡ a) ⊎ (r.address ≡ a → ⊥) → (key_of a rs ≡ Some g → targets_of a (registers_of p rs) ≡ packets_of p (kept.targets_of g rs))
      → targets_of a (registers_of p (r ∷ rs)) ≡ packets_of p (kept.targets_of g (r ∷ rs))
  by (inl e) ih =
      let t : (r.address == a) ≡ true = eq-eqb r.address a e in
      let u : (r.key == g) ≡ true = eq-eqb r.key g (first_key a g r rs e f) in
      rw t (rw u refl)
  by (inr d) ih =
      let k : key_of a rs ≡ Some g = later_key a g r rs d f in
      let t : (r.address == a) ≡ false = ne_eqb r.address a d in
      let u : (r.key == g) ≡ false = ne_eqb r.key g (other_key a g r.key rs h.1 k) in
      rw t (rw u (ih k))

pub with_shown : (p : Pooled) (a g : ℕ) (ts : List ℕ) (rs : List kept.Register) → AreApart rs → key_of a rs ≡ Some g
    → registers_of p (kept.with_targets g ts rs) ≡ with_targets a (packets_of p ts) (registers_of p rs)
with_shown p a g ts [] h f = absurd (cc)
with_shown p a g ts (r ∷ rs) h f = by (cases_eq r.address a) (λ k. with_shown p a g ts rs h.2 k) where
  by : (r.address ≡ a) ⊎ (r.address ≡ a → ⊥) → (key_of a rs ≡ Some g → registers_of p (kept.with_targets g ts rs) ≡ with_targets a (packets_of p ts) (registers_of p rs))
      → registers_of p (kept.with_targets g ts (r ∷ rs)) ≡ with_targets a (packets_of p ts) (registers_of p (r ∷ rs))
  by (inl e) ih =
      let t : (r.address == a) ≡ true = eq-eqb r.address a e in
      let u : (r.key == g) ≡ true = eq-eqb r.key g (first_key a g r rs e f) in
      rw t (rw u refl)
  by (inr d) ih =
      let k : key_of a rs ≡ Some g = later_key a g r rs d f in
      let t : (r.address == a) ≡ false = ne_eqb r.address a d in
      let u : (r.key == g) ≡ false = ne_eqb r.key g (other_key a g r.key rs h.1 k) in
      rw t (rw u (ap (λ hs. record { address = r.address; targets = packets_of p r.targets } ∷ hs) (ih k)))

pub without_shown : (p : Pooled) (a g : ℕ) (rs : List kept.Register) → AreApart rs → key_of a rs ≡ Some g
    → registers_of p (kept.without g rs) ≡ without_register a (registers_of p rs)
without_shown p a g [] h f = absurd (cc)
without_shown p a g (r ∷ rs) h f = by (cases_eq r.address a) (λ k. without_shown p a g rs h.2 k) where
  by : (r.address ≡ a) ⊎ (r.address ≡ a → ⊥) → (key_of a rs ≡ Some g → registers_of p (kept.without g rs) ≡ without_register a (registers_of p rs))
      → registers_of p (kept.without g (r ∷ rs)) ≡ without_register a (registers_of p (r ∷ rs))
  by (inl e) ih =
      let t : (r.address == a) ≡ true = eq-eqb r.address a e in
      let u : (r.key == g) ≡ true = eq-eqb r.key g (first_key a g r rs e f) in
      rw t (rw u refl)
  by (inr d) ih =
      let k : key_of a rs ≡ Some g = later_key a g r rs d f in
      let t : (r.address == a) ≡ false = ne_eqb r.address a d in
      let u : (r.key == g) ≡ false = ne_eqb r.key g (other_key a g r.key rs h.1 k) in
      rw t (rw u (ap (λ hs. record { address = r.address; targets = packets_of p r.targets } ∷ hs) (ih k)))

-- A line that isn't on its way.

pub targets_none : (p : Pooled) (a : ℕ) (rs : List kept.Register) → key_of a rs ≡ None → targets_of a (registers_of p rs) ≡ []
targets_none p a [] n = refl
targets_none p a (r ∷ rs) n = let o = other_line a r rs n in rw (ne_eqb r.address a o.0) (targets_none p a rs o.1)

pub with_none : (p : Pooled) (a : ℕ) (xs : List Packet) (rs : List kept.Register) → key_of a rs ≡ None → with_targets a xs (registers_of p rs) ≡ registers_of p rs
with_none p a xs [] n = refl
with_none p a xs (r ∷ rs) n =
    let o = other_line a r rs n in
    rw (ne_eqb r.address a o.0) (ap (λ hs. record { address = r.address; targets = packets_of p r.targets } ∷ hs) (with_none p a xs rs o.1))

pub without_none : (p : Pooled) (a : ℕ) (rs : List kept.Register) → key_of a rs ≡ None → without_register a (registers_of p rs) ≡ registers_of p rs
without_none p a [] n = refl
without_none p a (r ∷ rs) n =
    let o = other_line a r rs n in
    rw (ne_eqb r.address a o.0) (ap (λ hs. record { address = r.address; targets = packets_of p r.targets } ∷ hs) (without_none p a rs o.1))

-- who joins stands behind the others
pub joined_with : (a : ℕ) (x : Packet) (hs : List Register) → joined a x hs ≡ with_targets a (targets_of a hs ++ x ∷ []) hs
joined_with a x [] = refl
joined_with a x (h ∷ hs) = by (h.address == a) (joined_with a x hs) where
  by : (b : Bool) → joined a x hs ≡ with_targets a (targets_of a hs ++ x ∷ []) hs
      → (if b then record h { targets = h.targets ++ x ∷ [] } ∷ hs else h ∷ joined a x hs)
      ≡ (if b then record h { targets = (if b then h.targets else targets_of a hs) ++ x ∷ [] } ∷ hs else h ∷ with_targets a ((if b then h.targets else targets_of a hs) ++ x ∷ []) hs)
  by true g = refl
  by false g = ap (λ gs. h ∷ gs) g

-- What the targets make together.

pub sum_end : (f : List ℕ → ℕ) (rs : List kept.Register) (r : kept.Register) → sum_in f (rs ++ r ∷ []) ≡ sum_in f rs + f r.targets
sum_end f [] r = omega arith
sum_end f (x ∷ xs) r = omega (arith, sum_end f xs r)

pub sum_with : (f : List ℕ → ℕ) (g : ℕ) (ts : List ℕ) (rs : List kept.Register) → is_open g rs ≡ true
    → sum_in f (kept.with_targets g ts rs) + f (kept.targets_of g rs) ≡ sum_in f rs + f ts
sum_with f g ts [] o = not_both (sym o)
sum_with f g ts (r ∷ rs) o = by (r.key == g) o (λ q. sum_with f g ts rs q) where
  by : (b : Bool) → (b || is_open g rs) ≡ true → (is_open g rs ≡ true → sum_in f (kept.with_targets g ts rs) + f (kept.targets_of g rs) ≡ sum_in f rs + f ts)
      → sum_in f (if b then record r { targets = ts } ∷ rs else r ∷ kept.with_targets g ts rs) + f (if b then r.targets else kept.targets_of g rs)
      ≡ sum_in f (r ∷ rs) + f ts
  by true q h = omega arith
  by false q h = omega (arith, h q)

pub sum_without : (f : List ℕ → ℕ) (g : ℕ) (rs : List kept.Register) → is_open g rs ≡ true → sum_in f (kept.without g rs) + f (kept.targets_of g rs) ≡ sum_in f rs
sum_without f g [] o = not_both (sym o)
sum_without f g (r ∷ rs) o = by (r.key == g) o (λ q. sum_without f g rs q) where
  by : (b : Bool) → (b || is_open g rs) ≡ true → (is_open g rs ≡ true → sum_in f (kept.without g rs) + f (kept.targets_of g rs) ≡ sum_in f rs)
      → sum_in f (if b then rs else r ∷ kept.without g rs) + f (if b then r.targets else kept.targets_of g rs) ≡ sum_in f (r ∷ rs)
  by true q h = omega arith
  by false q h = omega (arith, h q)

-- In line.

pub in_line_end : (line : ℕ) (p : Pooled) (rs : List kept.Register) (r : kept.Register) → AreInLine line p rs → All (IsTarget line r.address) (packets_of p r.targets)
    → AreInLine line p (rs ++ r ∷ [])
in_line_end line p [] r h t = (t, tt)
in_line_end line p (x ∷ xs) r h t = (h.0, in_line_end line p xs r h.1 t)

pub in_line_with : (line : ℕ) (p : Pooled) (a g : ℕ) (ts : List ℕ) (rs : List kept.Register) → AreApart rs → key_of a rs ≡ Some g → AreInLine line p rs
    → All (IsTarget line a) (packets_of p ts) → AreInLine line p (kept.with_targets g ts rs)
in_line_with line p a g ts [] h f l t = tt
in_line_with line p a g ts (r ∷ rs) h f l t = by (cases_eq r.address a) (λ k. in_line_with line p a g ts rs h.2 k l.1 t) where
  by : (r.address ≡ a) ⊎ (r.address ≡ a → ⊥) → (key_of a rs ≡ Some g → AreInLine line p (kept.with_targets g ts rs))
      → AreInLine line p (kept.with_targets g ts (r ∷ rs))
  by (inl e) ih =
      rw (eq-eqb r.key g (first_key a g r rs e f)) (subst (λ b. All (IsTarget line b) (packets_of p ts)) (sym e) t, l.1)
  by (inr d) ih =
      let k : key_of a rs ≡ Some g = later_key a g r rs d f in
      rw (ne_eqb r.key g (other_key a g r.key rs h.1 k)) (l.0, ih k)

pub in_line_without : (line : ℕ) (p : Pooled) (g : ℕ) (rs : List kept.Register) → AreInLine line p rs → AreInLine line p (kept.without g rs)
in_line_without line p g [] l = tt
in_line_without line p g (r ∷ rs) l = by (r.key == g) (in_line_without line p g rs l.1) where
  by : (b : Bool) → AreInLine line p (kept.without g rs) → AreInLine line p (if b then rs else r ∷ kept.without g rs)
  by true h = l.1
  by false h = (l.0, h)

pub in_line_at : (line : ℕ) (p : Pooled) (a g : ℕ) (rs : List kept.Register) → AreApart rs → key_of a rs ≡ Some g → AreInLine line p rs
    → All (IsTarget line a) (packets_of p (kept.targets_of g rs))
in_line_at line p a g [] h f l = absurd (cc)
in_line_at line p a g (r ∷ rs) h f l = by (cases_eq r.address a) (λ k. in_line_at line p a g rs h.2 k l.1) where
  by : (r.address ≡ a) ⊎ (r.address ≡ a → ⊥) → (key_of a rs ≡ Some g → All (IsTarget line a) (packets_of p (kept.targets_of g rs)))
      → All (IsTarget line a) (packets_of p (kept.targets_of g (r ∷ rs)))
  by (inl e) ih =
      rw (eq-eqb r.key g (first_key a g r rs e f)) (subst (λ b. All (IsTarget line b) (packets_of p r.targets)) e l.0)
  by (inr d) ih =
      let k : key_of a rs ≡ Some g = later_key a g r rs d f in
      rw (ne_eqb r.key g (other_key a g r.key rs h.1 k)) (ih k)

-- Room.

le_is_eq : (m n : ℕ) → m ≤ n → (m == n) ≡ nat_le n m
le_is_eq m n l = by (cases_eq m n) where
  by : (m ≡ n) ⊎ (m ≡ n → ⊥) → (m == n) ≡ nat_le n m
  by (inl e) = eq-eqb m n e ∙ sym (le-leb n m (omega (arith, e)))
  by (inr d) = ne_eqb m n d ∙ sym (lt-leb n m (omega (arith, l, d)))

full_target : (p : Pooled) (n : ℕ) (rs : List kept.Register) → AreWithin n rs → ((k : ℕ) → times_in k rs ≤ bit (is_some (packet_at p k)))
    → kept.has_full n rs ≡ rule.has_full n (registers_of p rs)
full_target p n [] w h = refl
full_target p n (r ∷ rs) w h =
    let same : length (packets_of p r.targets) ≡ length r.targets = length_packets p r.targets (λ k. omega (arith, h k)) in
    rw same (rw (le_is_eq (length r.targets) n w.0) (ap (λ b. nat_le n (length r.targets) || b) (full_target p n rs w.1 (λ k. omega (arith, h k)))))

pub full_shown : (p : Pooled) (m : Registers) (line : ℕ) → IsKept p m line → kept.is_full m ≡ is_full (shown p m line)
full_shown p m line k =
    rw (shown_length p m.used) (rw (le_is_eq (length m.used) m.count k.sound.few) (ap (λ b. nat_le m.count (length m.used) || b) (full_target p m.places m.used k.sound.within k.held)))

all_within : (n : ℕ) (rs : List kept.Register) → AreWithin n rs → all_targets rs ≤ length rs * n
all_within n [] w = omega arith
all_within n (r ∷ rs) w = omega (arith, w.0, all_within n rs w.1)

pub pool_free : (p : Pooled) (m : Registers) (line : ℕ) → IsKept p m line → kept.is_full m ≡ false → count p < p.cap
pool_free p m line k n =
    omega (arith, k.all, k.room, k.some, all_within m.places m.used k.sound.within, mul-le-mul_right m.places (register_free m k.sound n))

pub few_targets : (p : Pooled) (m : Registers) (line a : ℕ) → IsKept p m line → length (targets_of a (registers_of p m.used)) ≤ m.places
few_targets p m line a k = few p m.places m.used k.sound.within k.held where
  few : (p : Pooled) (n : ℕ) (rs : List kept.Register) → AreWithin n rs → ((j : ℕ) → times_in j rs ≤ bit (is_some (packet_at p j)))
      → length (targets_of a (registers_of p rs)) ≤ n
  few p n [] w h = omega arith
  few p n (r ∷ rs) w h = by (r.address == a) (few p n rs w.1 (λ j. omega (arith, h j))) where
    by : (b : Bool) → length (targets_of a (registers_of p rs)) ≤ n → length (if b then packets_of p r.targets else targets_of a (registers_of p rs)) ≤ n
    by true l = omega (arith, w.0, length_packets p r.targets (λ j. omega (arith, h j)))
    by false l = l
