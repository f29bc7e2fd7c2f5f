-- The registers that keys stand for, as a slab changes at one key.
use Rattle.std.proofs.Common.{◌≡◌, ◌≢◌, ℕ, suc, zero, ◌+◌, ◌<◌, ◌==◌, ◌||◌, refl, sym, ◌∙◌, ap, arith, subst, eq-eqb, ne_eqb, Bool, true, false, List, [], ◌∷◌, ◌++◌, length, get_or, Option, Some, None, IsSome, is_some, slice_get, ◌⊎◌, inl, inr}
use Rattle.std.specs.Option.{option_map}
use Rattle.std.proofs.lemmas.Bool.{cases_eq}
use Rattle.slab.specs.Slab.{Slab, get, Updates}
use Rattle.cache_mshr.specs.declared.entry.Entry.{Entry}
use Rattle.cache_mshr.specs.Registers.{Register, is_open, targets_of, with_targets, without, AreApart}
use Rattle.cache_mshr.specs.Kept.{with_front, registers_of, without_key, AreHeld}
use Rattle.cache_mshr.proofs.RegistersLemmas.{or_true, not_both, neither, differs}

no_register : {A : Type 0} (o : Option Entry) → o ≡ None → IsSome o → A
no_register o e h = absurd (not_both (sym h ∙ ap is_some e))

front_count : (k : ℕ) (o : Option Entry) (rs : List Register) → IsSome o → length (with_front k o rs) ≡ length rs + 1
front_count k None rs h = absurd (cc)
front_count k (Some r) rs h = omega arith

front_open : (j k : ℕ) (o : Option Entry) (rs : List Register) → IsSome o → is_open j (with_front k o rs) ≡ ((k == j) || is_open j rs)
front_open j k None rs h = absurd (cc)
front_open j k (Some r) rs h = refl

front_append : (k : ℕ) (o : Option Entry) (rs qs : List Register) → with_front k o (rs ++ qs) ≡ with_front k o rs ++ qs
front_append k None rs qs = refl
front_append k (Some r) rs qs = refl

-- those of all keys are apart, so those of the others are, and none of them has the first key
front_apart : (k : ℕ) (o : Option Entry) (rs : List Register) → IsSome o → AreApart (with_front k o rs) → (is_open k rs ≡ false) × AreApart rs
front_apart k None rs h a = absurd (cc)
front_apart k (Some r) rs h a = (a.1, a.2)

pub held_count : (s : Slab Entry) (ks : List ℕ) → AreHeld s ks → length (registers_of s ks) ≡ length ks
held_count s [] h = refl
held_count s (k ∷ ks) h = omega (arith, front_count k (get s k) (registers_of s ks) h.0, held_count s ks h.1)

-- a key without a register is none of these
pub vacant : (s : Slab Entry) (ks : List ℕ) (j : ℕ) → AreHeld s ks → get s j ≡ None → is_open j (registers_of s ks) ≡ false
vacant s [] j h n = refl
vacant s (k ∷ ks) j h n = front_open j k (get s k) (registers_of s ks) h.0 ∙ by (cases_eq k j) (vacant s ks j h.1 n) where
  by : (k ≡ j) ⊎ (k ≡ j → ⊥) → is_open j (registers_of s ks) ≡ false → ((k == j) || is_open j (registers_of s ks)) ≡ false
  by (inl e) f = no_register (get s k) (ap (λ i. get s i) e ∙ n) h.0
  by (inr d) f = rw (ne_eqb k j d) f

-- one that stands behind another
behind : (j k : ℕ) (b : Bool) → k ≢ j → ((k == j) || b) ≡ true → b ≡ true
behind j k b d p = sym (ap (λ c. c || b) (ne_eqb k j d)) ∙ p

-- each key is that of an open register
pub held_open : (s : Slab Entry) (ks : List ℕ) (n d : ℕ) → AreHeld s ks → n < length ks → is_open (get_or ks n d) (registers_of s ks) ≡ true
held_open s [] n d h l = absurd (omega (arith, l))
held_open s (k ∷ ks) zero d h l = front_open k k (get s k) (registers_of s ks) h.0 ∙ rw (eq-eqb k k refl) refl
held_open s (k ∷ ks) (suc n) d h l =
    let j : ℕ = get_or ks n d in
    front_open j k (get s k) (registers_of s ks) h.0 ∙ rw (held_open s ks n d h.1 (omega (arith, l))) (or_true (k == j))

-- one of these has a register
pub present : (s : Slab Entry) (ks : List ℕ) (j : ℕ) → AreHeld s ks → is_open j (registers_of s ks) ≡ true → IsSome (get s j)
present s [] j h o = not_both (sym o)
present s (k ∷ ks) j h o = by (cases_eq k j) (λ p. present s ks j h.1 p) where
  by : (k ≡ j) ⊎ (k ≡ j → ⊥) → (is_open j (registers_of s ks) ≡ true → IsSome (get s j)) → IsSome (get s j)
  by (inl e) f = subst (λ i. IsSome (get s i)) e h.0
  by (inr d) f = f (behind j k _ d (sym (front_open j k (get s k) (registers_of s ks) h.0) ∙ o))

front_targets : (j k : ℕ) (o : Option Entry) (r : Entry) (rs : List Register) → k ≡ j → o ≡ Some r → targets_of j (with_front k o rs) ≡ r.targets
front_targets j k o r rs e s = rw s (rw (eq-eqb k j e) refl)

back_targets : (j k : ℕ) (o : Option Entry) (rs : List Register) → k ≢ j → targets_of j (with_front k o rs) ≡ targets_of j rs
back_targets j k None rs d = refl
back_targets j k (Some r) rs d = rw (ne_eqb k j d) refl

pub held_targets : (s : Slab Entry) (ks : List ℕ) (j : ℕ) (r : Entry) → AreHeld s ks → is_open j (registers_of s ks) ≡ true → get s j ≡ Some r
    → targets_of j (registers_of s ks) ≡ r.targets
held_targets s [] j r h o e = not_both (sym o)
held_targets s (k ∷ ks) j r h o e = by (cases_eq k j) (λ p. held_targets s ks j r h.1 p e) where
  by : (k ≡ j) ⊎ (k ≡ j → ⊥) → (is_open j (registers_of s ks) ≡ true → targets_of j (registers_of s ks) ≡ r.targets)
      → targets_of j (with_front k (get s k) (registers_of s ks)) ≡ r.targets
  by (inl f) g = front_targets j k (get s k) r (registers_of s ks) f (ap (λ i. get s i) f ∙ e)
  by (inr d) g = back_targets j k (get s k) (registers_of s ks) d ∙ g (behind j k _ d (sym (front_open j k (get s k) (registers_of s ks) h.0) ∙ o))

-- The slab changes at a key that is none of these.

parts : (s : Slab Entry) (k : ℕ) (ks : List ℕ) (j : ℕ) → AreHeld s (k ∷ ks) → is_open j (registers_of s (k ∷ ks)) ≡ false
    → (k ≢ j) × (is_open j (registers_of s ks) ≡ false)
parts s k ks j h n =
    let o = neither (k == j) (is_open j (registers_of s ks)) (sym (front_open j k (get s k) (registers_of s ks) h.0) ∙ n) in (differs k j o.0, o.1)

unseen : (p s : Slab Entry) (ks : List ℕ) (j : ℕ) (o : Option Entry) → Updates p s j o → AreHeld p ks → is_open j (registers_of p ks) ≡ false
    → registers_of s ks ≡ registers_of p ks
unseen p s [] j o u h n = refl
unseen p s (k ∷ ks) j o u h n =
    let q = parts p k ks j h n in
    rw (u.others k q.0) (ap (λ rs. with_front k (get p k) rs) (unseen p s ks j o u h.1 q.1))

still_held : (p s : Slab Entry) (ks : List ℕ) (j : ℕ) (o : Option Entry) → Updates p s j o → AreHeld p ks → is_open j (registers_of p ks) ≡ false → AreHeld s ks
still_held p s [] j o u h n = tt
still_held p s (k ∷ ks) j o u h n =
    let q = parts p k ks j h n in (subst (λ r. IsSome r) (sym (u.others k q.0)) h.0, still_held p s ks j o u h.1 q.1)

-- A register comes in.

registers_append : (s : Slab Entry) (ks js : List ℕ) → registers_of s (ks ++ js) ≡ registers_of s ks ++ registers_of s js
registers_append s [] js = refl
registers_append s (k ∷ ks) js =
    ap (λ rs. with_front k (get s k) rs) (registers_append s ks js) ∙ front_append k (get s k) (registers_of s ks) (registers_of s js)

pub come_in : (p s : Slab Entry) (ks : List ℕ) (j : ℕ) (r : Entry) → Updates p s j (Some r) → get p j ≡ None → AreHeld p ks
    → registers_of s (ks ++ j ∷ []) ≡ registers_of p ks ++ record { key = j; address = r.addr; targets = r.targets } ∷ []
come_in p s ks j r u n h =
    registers_append s ks (j ∷ []) ∙ rw u.changed (ap (λ rs. rs ++ record { key = j; address = r.addr; targets = r.targets } ∷ [])
    (unseen p s ks j (Some r) u h (vacant p ks j h n)))

held_append : (s : Slab Entry) (ks js : List ℕ) → AreHeld s ks → AreHeld s js → AreHeld s (ks ++ js)
held_append s [] js h g = g
held_append s (k ∷ ks) js h g = (h.0, held_append s ks js h.1 g)

pub come_in_held : (p s : Slab Entry) (ks : List ℕ) (j : ℕ) (r : Entry) → Updates p s j (Some r) → get p j ≡ None → AreHeld p ks → AreHeld s (ks ++ j ∷ [])
come_in_held p s ks j r u n h =
    held_append s ks (j ∷ []) (still_held p s ks j (Some r) u h (vacant p ks j h n)) (ap is_some u.changed, tt)

-- the first key is none of the others
first_alone : (p : Slab Entry) (k : ℕ) (ks : List ℕ) (j : ℕ) → AreHeld p (k ∷ ks) → AreApart (registers_of p (k ∷ ks)) → k ≡ j
    → is_open j (registers_of p ks) ≡ false
first_alone p k ks j h a f = subst (λ i. is_open i (registers_of p ks) ≡ false) f (front_apart k (get p k) (registers_of p ks) h.0 a).0

-- One gets other targets.

pub changed : (p s : Slab Entry) (ks : List ℕ) (j : ℕ) (r : Entry) (ts : List ℕ) → Updates p s j (Some (record r { targets = ts }))
    → get p j ≡ Some r → AreHeld p ks
    → AreApart (registers_of p ks) → registers_of s ks ≡ with_targets j ts (registers_of p ks)
changed p s [] j r ts u e h a = refl
changed p s (k ∷ ks) j r ts u e h a = by (cases_eq k j) (changed p s ks j r ts u e h.1 (front_apart k (get p k) (registers_of p ks) h.0 a).1) where
  other : (o : Option Entry) (rs qs : List Register) → k ≢ j → rs ≡ with_targets j ts qs → with_front k o rs ≡ with_targets j ts (with_front k o qs)
  other None rs qs d f = f
  other (Some x) rs qs d f = rw (ne_eqb k j d) (ap (λ xs. record { key = k; address = x.addr; targets = x.targets } ∷ xs) f)

  by : (k ≡ j) ⊎ (k ≡ j → ⊥) → registers_of s ks ≡ with_targets j ts (registers_of p ks)
      → with_front k (get s k) (registers_of s ks) ≡ with_targets j ts (with_front k (get p k) (registers_of p ks))
  by (inl f) g =
      rw (ap (λ i. get s i) f ∙ u.changed) (rw (ap (λ i. get p i) f ∙ e) (rw (eq-eqb k j f)
      (ap (λ xs. record { key = k; address = r.addr; targets = ts } ∷ xs) (unseen p s ks j _ u h.1 (first_alone p k ks j h a f)))))
  by (inr d) g = rw (u.others k d) (other (get p k) (registers_of s ks) (registers_of p ks) d g)

pub changed_held : (p s : Slab Entry) (ks : List ℕ) (j : ℕ) (r : Entry) → Updates p s j (Some r) → AreHeld p ks → AreHeld s ks
changed_held p s [] j r u h = tt
changed_held p s (k ∷ ks) j r u h = (by (cases_eq k j), changed_held p s ks j r u h.1) where
  by : (k ≡ j) ⊎ (k ≡ j → ⊥) → IsSome (get s k)
  by (inl f) = ap is_some (ap (λ i. get s i) f ∙ u.changed)
  by (inr d) = subst (λ o. IsSome o) (sym (u.others k d)) h.0

-- One goes.

pub gone : (p s : Slab Entry) (ks : List ℕ) (j : ℕ) → Updates p s j None → AreHeld p ks → AreApart (registers_of p ks)
    → registers_of s (without_key j ks) ≡ without j (registers_of p ks)
gone p s [] j u h a = refl
gone p s (k ∷ ks) j u h a = by (cases_eq k j) (gone p s ks j u h.1 (front_apart k (get p k) (registers_of p ks) h.0 a).1) where
  first : (o : Option Entry) (qs : List Register) → IsSome o → k ≡ j → without j (with_front k o qs) ≡ qs
  first None qs i f = absurd (cc)
  first (Some x) qs i f = rw (eq-eqb k j f) refl

  other : (o : Option Entry) (rs qs : List Register) → k ≢ j → rs ≡ without j qs → with_front k o rs ≡ without j (with_front k o qs)
  other None rs qs d f = f
  other (Some x) rs qs d f = rw (ne_eqb k j d) (ap (λ xs. record { key = k; address = x.addr; targets = x.targets } ∷ xs) f)

  by : (k ≡ j) ⊎ (k ≡ j → ⊥) → registers_of s (without_key j ks) ≡ without j (registers_of p ks)
      → registers_of s (without_key j (k ∷ ks)) ≡ without j (with_front k (get p k) (registers_of p ks))
  by (inl f) g = rw (eq-eqb k j f) (unseen p s ks j None u h.1 (first_alone p k ks j h a f) ∙ sym (first (get p k) (registers_of p ks) h.0 f))
  by (inr d) g = rw (ne_eqb k j d) (rw (u.others k d) (other (get p k) _ (registers_of p ks) d g))

pub gone_held : (p s : Slab Entry) (ks : List ℕ) (j : ℕ) → Updates p s j None → AreHeld p ks → AreApart (registers_of p ks) → AreHeld s (without_key j ks)
gone_held p s [] j u h a = tt
gone_held p s (k ∷ ks) j u h a = by (cases_eq k j) (gone_held p s ks j u h.1 (front_apart k (get p k) (registers_of p ks) h.0 a).1) where
  by : (k ≡ j) ⊎ (k ≡ j → ⊥) → AreHeld s (without_key j ks) → AreHeld s (without_key j (k ∷ ks))
  by (inl f) g = rw (eq-eqb k j f) (still_held p s ks j None u h.1 (first_alone p k ks j h a f))
  by (inr d) g = rw (ne_eqb k j d) (subst (λ o. IsSome o) (sym (u.others k d)) h.0, g)

-- the keys but one are one less
pub less : (s : Slab Entry) (ks : List ℕ) (j : ℕ) → AreHeld s ks → is_open j (registers_of s ks) ≡ true → length (without_key j ks) + 1 ≡ length ks
less s [] j h o = not_both (sym o)
less s (k ∷ ks) j h o = by (cases_eq k j) (λ p. less s ks j h.1 p) where
  by : (k ≡ j) ⊎ (k ≡ j → ⊥) → (is_open j (registers_of s ks) ≡ true → length (without_key j ks) + 1 ≡ length ks)
      → length (without_key j (k ∷ ks)) + 1 ≡ length (k ∷ ks)
  by (inl f) g = rw (eq-eqb k j f) (omega arith)
  by (inr d) g = rw (ne_eqb k j d) (omega (arith, g (behind j k _ d (sym (front_open j k (get s k) (registers_of s ks) h.0) ∙ o))))

-- The keys by position.

pub key_at : (s : Slab Entry) (ks : List ℕ) (n : ℕ) → AreHeld s ks → option_map (λ (r : Register). r.key) (slice_get (registers_of s ks) n) ≡ slice_get ks n
key_at s [] n h = refl
key_at s (k ∷ ks) zero h = by (get s k) h.0 where
  by : (o : Option Entry) → IsSome o → option_map (λ (r : Register). r.key) (slice_get (with_front k o (registers_of s ks)) 0) ≡ Some k
  by None i = absurd (cc)
  by (Some r) i = refl
key_at s (k ∷ ks) (suc n) h = by (get s k) h.0 (key_at s ks n h.1) where
  by : (o : Option Entry) → IsSome o → option_map (λ (r : Register). r.key) (slice_get (registers_of s ks) n) ≡ slice_get ks n
      → option_map (λ (r : Register). r.key) (slice_get (with_front k o (registers_of s ks)) (suc n)) ≡ slice_get (k ∷ ks) (suc n)
  by None i g = absurd (cc)
  by (Some r) i g = g
