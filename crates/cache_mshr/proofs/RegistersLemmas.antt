-- Registers, as one is opened, changed or closed.
use Rattle.std.proofs.Common.{◌≡◌, ◌≢◌, ℕ, ◌≤◌, ◌<◌, ◌==◌, ◌||◌, refl, sym, ◌∙◌, ap, arith, eq-eqb, ne_eqb, Bool, true, false, if◌then◌else◌, List, [], ◌∷◌, ◌++◌, length, slice_get, Some, None, ◌⊎◌, inl, inr}
use Rattle.std.proofs.lemmas.Bool.{cases_eq}
use Rattle.std.proofs.lemmas.List.{length-append}
use Rattle.cache_mshr.specs.Registers.{Register, Registers, key_of, is_open, targets_of, with_targets, without, has_full, is_full, opened, AreApart, AreWithin, AreSound}

pub or_true : (b : Bool) → (b || true) ≡ true
or_true true = refl
or_true false = refl

-- What is not among registers.

pub not_both : {A : Type 0} → true ≡ false → A
not_both e = absurd (cc)

pub neither : (a b : Bool) → (a || b) ≡ false → (a ≡ false) × (b ≡ false)
neither true b e = not_both e
neither false b e = (refl, e)

pub differs : (x k : ℕ) → (x == k) ≡ false → x ≢ k
differs x k n e = not_both (sym (eq-eqb x k e) ∙ n)

pub other_line : (a : ℕ) (x : Register) (xs : List Register) → key_of a (x ∷ xs) ≡ None → (x.address ≢ a) × (key_of a xs ≡ None)
other_line a x xs n = (λ e. some (sym (here e) ∙ n), by (x.address == a) n) where
  here : x.address ≡ a → key_of a (x ∷ xs) ≡ Some x.key
  here e = rw (eq-eqb x.address a e) refl

  some : Some x.key ≡ None → ⊥
  some e = absurd (cc)

  by : (b : Bool) → (if b then Some x.key else key_of a xs) ≡ None → key_of a xs ≡ None
  by true e = absurd (cc)
  by false e = e

-- One more at the end.

line_end : (a : ℕ) (rs : List Register) (r : Register) → key_of a rs ≡ None → r.address ≢ a → key_of a (rs ++ r ∷ []) ≡ None
line_end a [] r n d = rw (ne_eqb r.address a d) refl
line_end a (x ∷ xs) r n d = let o = other_line a x xs n in rw (ne_eqb x.address a o.0) (line_end a xs r o.1 d)

key_end : (k : ℕ) (rs : List Register) (r : Register) → is_open k rs ≡ false → r.key ≢ k → is_open k (rs ++ r ∷ []) ≡ false
key_end k [] r n d = rw (ne_eqb r.key k d) refl
key_end k (x ∷ xs) r n d = let o = neither (x.key == k) (is_open k xs) n in rw o.0 (key_end k xs r o.1 d)

apart_end : (rs : List Register) (r : Register) → AreApart rs → key_of r.address rs ≡ None → is_open r.key rs ≡ false → AreApart (rs ++ r ∷ [])
apart_end [] r h a k = (refl, refl, tt)
apart_end (x ∷ xs) r h a k =
    let o = other_line r.address x xs a in
    let q = neither (x.key == r.key) (is_open r.key xs) k in (
      line_end x.address xs r h.0 (λ e. o.0 (sym e)),
      key_end x.key xs r h.1 (λ e. differs x.key r.key q.0 (sym e)),
      apart_end xs r h.2 o.1 q.1,
    )

within_end : (n : ℕ) (rs : List Register) (r : Register) → AreWithin n rs → length r.targets ≤ n → AreWithin n (rs ++ r ∷ [])
within_end n [] r h l = (l, tt)
within_end n (x ∷ xs) r h l = (h.0, within_end n xs r h.1 l)

-- One with other targets.

pub same_lines : (a k : ℕ) (ts : List ℕ) (rs : List Register) → key_of a (with_targets k ts rs) ≡ key_of a rs
same_lines a k ts [] = refl
same_lines a k ts (x ∷ xs) = by (x.key == k) (same_lines a k ts xs) where
  by : (b : Bool) → key_of a (with_targets k ts xs) ≡ key_of a xs
      → key_of a (if b then record x { targets = ts } ∷ xs else x ∷ with_targets k ts xs) ≡ key_of a (x ∷ xs)
  by true e = refl
  by false e = ap (λ o. if x.address == a then Some x.key else o) e

pub same_open : (j k : ℕ) (ts : List ℕ) (rs : List Register) → is_open j (with_targets k ts rs) ≡ is_open j rs
same_open j k ts [] = refl
same_open j k ts (x ∷ xs) = by (x.key == k) (same_open j k ts xs) where
  by : (b : Bool) → is_open j (with_targets k ts xs) ≡ is_open j xs
      → is_open j (if b then record x { targets = ts } ∷ xs else x ∷ with_targets k ts xs) ≡ is_open j (x ∷ xs)
  by true e = refl
  by false e = ap (λ o. (x.key == j) || o) e

same_count : (k : ℕ) (ts : List ℕ) (rs : List Register) → length (with_targets k ts rs) ≡ length rs
same_count k ts [] = refl
same_count k ts (x ∷ xs) = by (x.key == k) (same_count k ts xs) where
  by : (b : Bool) → length (with_targets k ts xs) ≡ length xs
      → length (if b then record x { targets = ts } ∷ xs else x ∷ with_targets k ts xs) ≡ length (x ∷ xs)
  by true e = refl
  by false e = omega (arith, e)

apart_changed : (k : ℕ) (ts : List ℕ) (rs : List Register) → AreApart rs → AreApart (with_targets k ts rs)
apart_changed k ts [] h = tt
apart_changed k ts (x ∷ xs) h = by (x.key == k) (apart_changed k ts xs h.2) where
  by : (b : Bool) → AreApart (with_targets k ts xs) → AreApart (if b then record x { targets = ts } ∷ xs else x ∷ with_targets k ts xs)
  by true g = h
  by false g = (same_lines x.address k ts xs ∙ h.0, same_open x.key k ts xs ∙ h.1, g)

within_changed : (n k : ℕ) (ts : List ℕ) (rs : List Register) → AreWithin n rs → length ts ≤ n → AreWithin n (with_targets k ts rs)
within_changed n k ts [] h l = tt
within_changed n k ts (x ∷ xs) h l = by (x.key == k) (within_changed n k ts xs h.1 l) where
  by : (b : Bool) → AreWithin n (with_targets k ts xs) → AreWithin n (if b then record x { targets = ts } ∷ xs else x ∷ with_targets k ts xs)
  by true g = (l, h.1)
  by false g = (h.0, g)

-- One less.

line_without : (a k : ℕ) (rs : List Register) → key_of a rs ≡ None → key_of a (without k rs) ≡ None
line_without a k [] n = n
line_without a k (x ∷ xs) n = by (x.key == k) (line_without a k xs (other_line a x xs n).1) where
  by : (b : Bool) → key_of a (without k xs) ≡ None → key_of a (if b then xs else x ∷ without k xs) ≡ None
  by true e = (other_line a x xs n).1
  by false e = rw (ne_eqb x.address a (other_line a x xs n).0) e

key_without : (j k : ℕ) (rs : List Register) → is_open j rs ≡ false → is_open j (without k rs) ≡ false
key_without j k [] n = n
key_without j k (x ∷ xs) n = by (x.key == k) (key_without j k xs (neither (x.key == j) (is_open j xs) n).1) where
  by : (b : Bool) → is_open j (without k xs) ≡ false → is_open j (if b then xs else x ∷ without k xs) ≡ false
  by true e = (neither (x.key == j) (is_open j xs) n).1
  by false e = rw (neither (x.key == j) (is_open j xs) n).0 e

few_without : (k : ℕ) (rs : List Register) → length (without k rs) ≤ length rs
few_without k [] = omega arith
few_without k (x ∷ xs) = by (x.key == k) (few_without k xs) where
  by : (b : Bool) → length (without k xs) ≤ length xs → length (if b then xs else x ∷ without k xs) ≤ length (x ∷ xs)
  by true l = omega arith
  by false l = omega (arith, l)

apart_without : (k : ℕ) (rs : List Register) → AreApart rs → AreApart (without k rs)
apart_without k [] h = tt
apart_without k (x ∷ xs) h = by (x.key == k) (apart_without k xs h.2) where
  by : (b : Bool) → AreApart (without k xs) → AreApart (if b then xs else x ∷ without k xs)
  by true g = h.2
  by false g = (line_without x.address k xs h.0, key_without x.key k xs h.1, g)

within_without : (n k : ℕ) (rs : List Register) → AreWithin n rs → AreWithin n (without k rs)
within_without n k [] h = tt
within_without n k (x ∷ xs) h = by (x.key == k) (within_without n k xs h.1) where
  by : (b : Bool) → AreWithin n (without k xs) → AreWithin n (if b then xs else x ∷ without k xs)
  by true g = h.1
  by false g = (h.0, g)

-- What isn't full has room.

few_by : (a b : ℕ) → a ≤ b → (a == b) ≡ false → a < b
few_by a b l n = by (cases_eq a b) where
  by : (a ≡ b) ⊎ (a ≡ b → ⊥) → a < b
  by (inl e) = absurd (differs a b n e)
  by (inr d) = omega (arith, l, d)

pub register_free : (m : Registers) → AreSound m → is_full m ≡ false → length m.used < m.count
register_free m h n = few_by (length m.used) m.count h.few (neither _ (has_full m.places m.used) n).0

places_free : (n k : ℕ) (rs : List Register) → 0 < n → AreWithin n rs → has_full n rs ≡ false → length (targets_of k rs) < n
places_free n k [] z h f = z
places_free n k (x ∷ xs) z h f = by (x.key == k) (places_free n k xs z h.1 (neither (length x.targets == n) (has_full n xs) f).1) where
  by : (b : Bool) → length (targets_of k xs) < n → length (if b then x.targets else targets_of k xs) < n
  by true l = few_by (length x.targets) n h.0 (neither (length x.targets == n) (has_full n xs) f).0
  by false l = l

pub place_free : (m : Registers) (k : ℕ) → 0 < m.places → AreSound m → is_full m ≡ false → length (targets_of k m.used) < m.places
place_free m k z h n = places_free m.places k m.used z h.within (neither (length m.used == m.count) _ n).1

pub targets_within : (n k : ℕ) (rs : List Register) → AreWithin n rs → length (targets_of k rs) ≤ n
targets_within n k [] h = omega arith
targets_within n k (x ∷ xs) h = by (x.key == k) (targets_within n k xs h.1) where
  by : (b : Bool) → length (targets_of k xs) ≤ n → length (if b then x.targets else targets_of k xs) ≤ n
  by true l = h.0
  by false l = l

-- What the calls keep.

pub opened_sound : (m : Registers) (k a p : ℕ) → AreSound m → 0 < m.places → is_full m ≡ false → key_of a m.used ≡ None → is_open k m.used ≡ false
    → AreSound (opened k a p m)
opened_sound m k a p h z n l o =
    let r : Register = record { key = k; address = a; targets = p ∷ [] } in
    record {
      apart = apart_end m.used r h.apart l o;
      few = omega (arith, register_free m h n, length-append m.used (r ∷ []));
      within = within_end m.places m.used r h.within z;
    }

pub changed_sound : (m : Registers) (k : ℕ) (ts : List ℕ) → AreSound m → length ts ≤ m.places → AreSound (record m { used = with_targets k ts m.used })
changed_sound m k ts h l =
    record {
      apart = apart_changed k ts m.used h.apart;
      few = omega (arith, h.few, same_count k ts m.used);
      within = within_changed m.places k ts m.used h.within l;
    }

pub closed_sound : (m : Registers) (k : ℕ) → AreSound m → AreSound (record m { used = without k m.used })
closed_sound m k h =
    record {
      apart = apart_without k m.used h.apart;
      few = omega (arith, h.few, few_without k m.used);
      within = within_without m.places k m.used h.within;
    }

-- What a caller asks of a key.

-- the key that is found is that of an open register
pub found_open : (a k : ℕ) (rs : List Register) → key_of a rs ≡ Some k → is_open k rs ≡ true
found_open a k [] e = absurd (cc)
found_open a k (x ∷ xs) e = by (x.address == a) e (λ f. found_open a k xs f) where
  by : (b : Bool) → (if b then Some x.key else key_of a xs) ≡ Some k → (key_of a xs ≡ Some k → is_open k xs ≡ true) → is_open k (x ∷ xs) ≡ true
  by true f g = let same : x.key ≡ k = cc in rw (eq-eqb x.key k same) refl
  by false f g = rw (g f) (or_true (x.key == k))

-- the register that was opened last is open
pub last_open : (rs : List Register) (r : Register) → is_open r.key (rs ++ r ∷ []) ≡ true
last_open [] r = rw (eq-eqb r.key r.key refl) refl
last_open (x ∷ xs) r = rw (last_open xs r) (or_true (x.key == r.key))

-- a register has the targets that it is given, and each other one those that it had
pub given_targets : (k : ℕ) (ts : List ℕ) (rs : List Register) → is_open k rs ≡ true → targets_of k (with_targets k ts rs) ≡ ts
given_targets k ts [] o = not_both (sym o)
given_targets k ts (x ∷ xs) o = by (cases_eq x.key k) o (λ p. given_targets k ts xs p) where
  by : (x.key ≡ k) ⊎ (x.key ≡ k → ⊥) → ((x.key == k) || is_open k xs) ≡ true → (is_open k xs ≡ true → targets_of k (with_targets k ts xs) ≡ ts)
      → targets_of k (with_targets k ts (x ∷ xs)) ≡ ts
  by (inl e) p g = let t : (x.key == k) ≡ true = eq-eqb x.key k e in rw t (rw t refl)
  by (inr d) p g = let f : (x.key == k) ≡ false = ne_eqb x.key k d in rw f (rw f (g (sym (ap (λ b. b || is_open k xs) f) ∙ p)))

pub other_targets : (j k : ℕ) (ts : List ℕ) (rs : List Register) → k ≢ j → targets_of j (with_targets k ts rs) ≡ targets_of j rs
other_targets j k ts [] d = refl
other_targets j k ts (x ∷ xs) d = by (cases_eq x.key k) (other_targets j k ts xs d) where
  by : (x.key ≡ k) ⊎ (x.key ≡ k → ⊥) → targets_of j (with_targets k ts xs) ≡ targets_of j xs → targets_of j (with_targets k ts (x ∷ xs)) ≡ targets_of j (x ∷ xs)
  by (inl e) g = rw (eq-eqb x.key k e) (let n : (x.key == j) ≡ false = ne_eqb x.key j (λ f. d (sym e ∙ f)) in rw n refl)
  by (inr n) g = rw (ne_eqb x.key k n) (ap (λ ts. if x.key == j then x.targets else ts) g)

-- who gives no first target has none
pub none_left : (ts : List ℕ) → None ≡ slice_get ts 0 → ts ≡ []
none_left [] e = refl
none_left (t ∷ ts) e = absurd (cc)
