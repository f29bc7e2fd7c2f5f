-- The packets that keys stand for, as packets come in and go.
use Rattle.std.proofs.Common.{◌≡◌, ◌≢◌, ℕ, suc, zero, ◌+◌, ◌≤◌, ◌<◌, ◌==◌, ◌||◌, refl, sym, ◌∙◌, ap, arith, subst, eq-eqb, ne_eqb, Bool, true, false, List, [], ◌∷◌, ◌++◌, ◌-◌, length, take, drop, get_or, ◌⊎◌, inl, inr, Option, Some, None, IsSomeAnd, OnSome, slice_get}
use Rattle.std.specs.Option.{option_map}
use Rattle.std.proofs.lemmas.Bool.{cases_eq}
use Rattle.std.proofs.lemmas.List.{drop_more}
use Rattle.gm_words.specs.Allowed.{MayPass}
use Rattle.gm_words.specs.Flow.{Queued}
use Rattle.pkt_pool.specs.declared.packet.Packet.{Packet}
use Rattle.pkt_pool.specs.Packet.{carried_bytes}
use Rattle.gm_model.specs.Flows.{head_of}
use Rattle.gm_model.specs.Memory.{covers, queued_bytes}
use Rattle.pkt_pool.specs.Pooled.{Pooled, packet_at, count, Changes}
use Rattle.obj_core.specs.Kept.{queued_by, queued, is_key, AreHeld, IsKept, with_first, with_front}
use Rattle.obj_core.specs.declared.flow.Place.{Place}

-- Keys.

absurd_none : {A : Type 0} (o : Option Packet) → o ≡ None → IsSomeAnd o MayPass → A
absurd_none None e h = absurd h
absurd_none (Some y) e h = absurd (cc)

-- a key that holds nothing stands nowhere
vacant : (p : Pooled) (xs : List Place) (k : ℕ) → AreHeld p xs → packet_at p k ≡ None → is_key k xs ≡ false
vacant p [] k h e = refl
vacant p (x ∷ xs) k h e = by (cases_eq x.key k) (vacant p xs k h.2 e) where
  by : (x.key ≡ k) ⊎ (x.key ≡ k → ⊥) → is_key k xs ≡ false → ((x.key == k) || is_key k xs) ≡ false
  by (inl s) n = absurd_none (packet_at p x.key) (ap (λ j. packet_at p j) s ∙ e) h.0
  by (inr d) n = rw (ne_eqb x.key k d) n

-- one that stands nowhere isn't the first, nor one of the others
other_first : (x : Place) (xs : List Place) (k : ℕ) → is_key k (x ∷ xs) ≡ false → x.key ≢ k
other_first x xs k n e = absurd (true≢false (sym (rw (eq-eqb x.key k e) refl) ∙ n)) where
  true≢false : true ≡ false → ⊥
  true≢false q = cc

others : (x : Place) (xs : List Place) (k : ℕ) → is_key k (x ∷ xs) ≡ false → is_key k xs ≡ false
others x xs k n = by (x.key == k) n where
  by : (b : Bool) → (b || is_key k xs) ≡ false → is_key k xs ≡ false
  by true m = absurd (cc)
  by false m = m

-- a change of that key isn't seen
unseen : (p r : Pooled) (xs : List Place) (k : ℕ) (s : Option Packet) → Changes p r k s → is_key k xs ≡ false → queued r xs ≡ queued p xs
unseen p r [] k s c n = refl
unseen p r (x ∷ xs) k s c n =
    rw (c.others x.key (other_first x xs k n)) (ap (λ qs. queued_by x.ready (packet_at p x.key) qs) (unseen p r xs k s c (others x xs k n)))

still_held : (p r : Pooled) (xs : List Place) (k : ℕ) (s : Option Packet) → Changes p r k s → is_key k xs ≡ false → AreHeld p xs → AreHeld r xs
still_held p r [] k s c n h = tt
still_held p r (x ∷ xs) k s c n h =
    (subst (λ o. IsSomeAnd o MayPass) (sym (c.others x.key (other_first x xs k n))) h.0, h.1, still_held p r xs k s c (others x xs k n) h.2)

-- What is in a flow.

queued_count : (ready : ℕ) (o : Option Packet) (qs : List Queued) → IsSomeAnd o MayPass → length (queued_by ready o qs) ≡ length qs + 1
queued_count ready None qs h = absurd h
queued_count ready (Some y) qs h = omega arith

pub queued_length : (p : Pooled) (xs : List Place) → AreHeld p xs → length (queued p xs) ≡ length xs
queued_length p [] h = refl
queued_length p (x ∷ xs) h = omega (arith, queued_count x.ready (packet_at p x.key) (queued p xs) h.0, queued_length p xs h.2)

first_by : (ready : ℕ) (o : Option Packet) (qs : List Queued) → IsSomeAnd o MayPass → o ≡ head_of (queued_by ready o qs)
first_by ready None qs h = absurd h
first_by ready (Some y) qs h = refl

pub queued_first : (p : Pooled) (x : Place) (xs : List Place) → AreHeld p (x ∷ xs) → packet_at p x.key ≡ head_of (queued p (x ∷ xs))
queued_first p x xs h = first_by x.ready (packet_at p x.key) (queued p xs) h.0

-- the tick of the packet behind the first
second_by : (r₁ r₂ : ℕ) (o₁ o₂ : Option Packet) (qs : List Queued) → IsSomeAnd o₁ MayPass → IsSomeAnd o₂ MayPass
    → option_map (λ (q : Queued). q.ready) (slice_get (queued_by r₁ o₁ (queued_by r₂ o₂ qs)) 1) ≡ Some r₂
second_by r₁ r₂ None o₂ qs h g = absurd h
second_by r₁ r₂ (Some y) None qs h g = absurd g
second_by r₁ r₂ (Some y) (Some z) qs h g = refl

pub queued_second : (p : Pooled) (xs : List Place) (x : Place) → AreHeld p xs → 1 < length xs → x ≡ get_or xs 1 x
    → Some x.ready ≡ option_map (λ (q : Queued). q.ready) (slice_get (queued p xs) 1)
queued_second p [] x h n e = absurd (omega (arith, n))
queued_second p (y ∷ []) x h n e = absurd (omega (arith, n))
queued_second p (y ∷ z ∷ xs) x h n e =
    ap (λ (x : Place). Some x.ready) e ∙ sym (second_by y.ready z.ready (packet_at p y.key) (packet_at p z.key) (queued p xs) h.0 h.2.0)

-- A packet comes in.

behind_by : (ready : ℕ) (o : Option Packet) (qs rs : List Queued) → queued_by ready o (qs ++ rs) ≡ queued_by ready o qs ++ rs
behind_by ready None qs rs = refl
behind_by ready (Some y) qs rs = refl

pub put_queued : (p r : Pooled) (xs : List Place) (k ready : ℕ) (y : Packet) → Changes p r k (Some y) → packet_at p k ≡ None → AreHeld p xs
    → queued r (xs ++ record { key = k; ready = ready } ∷ []) ≡ queued p xs ++ record { packet = y; ready = ready } ∷ []
put_queued p r [] k ready y c e h = rw c.changed refl
put_queued p r (x ∷ xs) k ready y c e h =
    rw (c.others x.key (other_first x xs k (vacant p (x ∷ xs) k h e)))
    (ap (λ qs. queued_by x.ready (packet_at p x.key) qs) (put_queued p r xs k ready y c e h.2)
    ∙ behind_by x.ready (packet_at p x.key) (queued p xs) (record { packet = y; ready = ready } ∷ []))

held_some : (o : Option Packet) (y : Packet) → o ≡ Some y → MayPass y → IsSomeAnd o MayPass
held_some o y e m = subst (λ v. IsSomeAnd v MayPass) (sym e) m

-- a key more at the end
key_end : (j k ready : ℕ) (xs : List Place) → is_key j xs ≡ false → k ≢ j → is_key j (xs ++ record { key = k; ready = ready } ∷ []) ≡ false
key_end j k ready [] n d = rw (ne_eqb k j d) refl
key_end j k ready (x ∷ xs) n d = rw (ne_eqb x.key j (other_first x xs j n)) (key_end j k ready xs (others x xs j n) d)

pub put_held : (p r : Pooled) (xs : List Place) (k ready : ℕ) (y : Packet) → Changes p r k (Some y) → packet_at p k ≡ None → MayPass y → AreHeld p xs
    → AreHeld r (xs ++ record { key = k; ready = ready } ∷ [])
put_held p r [] k ready y c e m h = (held_some (packet_at r k) y c.changed m, refl, tt)
put_held p r (x ∷ xs) k ready y c e m h =
    let d : x.key ≢ k = other_first x xs k (vacant p (x ∷ xs) k h e) in (
      subst (λ o. IsSomeAnd o MayPass) (sym (c.others x.key d)) h.0,
      key_end x.key k ready xs h.1 (λ s. d (sym s)),
      put_held p r xs k ready y c e m h.2,
    )

-- The first packet goes.

pub taken_queued : (p r : Pooled) (x : Place) (xs : List Place) (s : Option Packet) → Changes p r x.key s → AreHeld p (x ∷ xs) → queued r xs ≡ queued p xs
taken_queued p r x xs s c h = unseen p r xs x.key s c h.1

pub taken_held : (p r : Pooled) (x : Place) (xs : List Place) (s : Option Packet) → Changes p r x.key s → AreHeld p (x ∷ xs) → AreHeld r xs
taken_held p r x xs s c h = still_held p r xs x.key s c h.1 h.2

-- Another comes in its place.

pub front_queued : (p r : Pooled) (xs : List Place) (k ready : ℕ) (y : Packet) → Changes p r k (Some y) → packet_at p k ≡ None → AreHeld p xs
    → queued r (record { key = k; ready = ready } ∷ xs) ≡ record { packet = y; ready = ready } ∷ queued p xs
front_queued p r xs k ready y c e h =
    rw c.changed (ap (λ qs. record { packet = y; ready = ready } ∷ qs) (unseen p r xs k (Some y) c (vacant p xs k h e)))

pub front_held : (p r : Pooled) (xs : List Place) (k ready : ℕ) (y : Packet) → Changes p r k (Some y) → packet_at p k ≡ None → MayPass y → AreHeld p xs
    → AreHeld r (record { key = k; ready = ready } ∷ xs)
front_held p r xs k ready y c e m h =
    (held_some (packet_at r k) y c.changed m, vacant p xs k h e, still_held p r xs k (Some y) c (vacant p xs k h e) h)

-- what is said of a packet that is there
pub as_there : {A : Type 0} (r o : Option Packet) → r ≡ o → IsSomeAnd o MayPass → OnSome r A → A
as_there None None e h f = absurd h
as_there None (Some y) e h f = absurd (cc)
as_there (Some y) o e h f = f

rest_by : (ready : ℕ) (o : Option Packet) (qs : List Queued) → IsSomeAnd o MayPass → drop 1 (queued_by ready o qs) ≡ qs
rest_by ready None qs h = absurd h
rest_by ready (Some y) qs h = refl

front_by : (z : Packet) (to ready : ℕ) (o : Option Packet) (qs : List Queued) → IsSomeAnd o MayPass → with_front z to (queued_by ready o qs) ≡ record { packet = z; ready = to } ∷ qs
front_by z to ready None qs h = absurd h
front_by z to ready (Some y) qs h = refl

pub first_held : (p : Pooled) (items : List Place) (x : Place) (xs : List Place) → items ≡ x ∷ xs → AreHeld p items → AreHeld p (x ∷ xs)
first_held p items x xs e h = subst (λ l. AreHeld p l) e h

-- the first is gone
pub rest_of : (p r : Pooled) (items : List Place) (x : Place) (xs : List Place) (s : Option Packet) → items ≡ x ∷ xs → AreHeld p items → Changes p r x.key s
    → queued r xs ≡ drop 1 (queued p items)
rest_of p r items x xs s e h c =
    rw e (taken_queued p r x xs s c (first_held p items x xs e h) ∙ sym (rest_by x.ready (packet_at p x.key) (queued p xs) (first_held p items x xs e h).0))

-- another stands in its place
pub front_of : (p r t : Pooled) (items : List Place) (x : Place) (xs : List Place) (s : Option Packet) (k ready : ℕ) (y : Packet) → items ≡ x ∷ xs → AreHeld p items
    → Changes p r x.key s → Changes r t k (Some y) → packet_at r k ≡ None
    → queued t (record { key = k; ready = ready } ∷ xs) ≡ with_front y ready (queued p items)
front_of p r t items x xs s k ready y e h c d v =
    let g : AreHeld p (x ∷ xs) = first_held p items x xs e h in
    rw e (front_queued r t xs k ready y d v (taken_held p r x xs s c g) ∙ ap (λ qs. record { packet = y; ready = ready } ∷ qs) (taken_queued p r x xs s c g)
    ∙ sym (front_by y ready x.ready (packet_at p x.key) (queued p xs) g.0))

-- The newest write-back that covers an address.

-- who isn't there
pub newest_gone : (p : Pooled) (xs : List Place) (n a c : ℕ) (d : Place) → n < length xs → packet_at p (get_or xs n d).key ≡ None
    → queued_bytes (queued p (drop (n + 1) xs)) a c ≡ None → queued_bytes (queued p (drop n xs)) a c ≡ None
newest_gone p xs n a c d l e h = rw (drop_more xs n d l) (rw e h)

-- who doesn't cover it
pub newest_other : (p : Pooled) (xs : List Place) (n a c : ℕ) (d : Place) (y : Packet) → n < length xs → packet_at p (get_or xs n d).key ≡ Some y → covers y a ≡ false
    → queued_bytes (queued p (drop (n + 1) xs)) a c ≡ None → queued_bytes (queued p (drop n xs)) a c ≡ None
newest_other p xs n a c d y l e v h = rw (drop_more xs n d l) (rw e (rw h (rw v refl)))

-- and those before it, once there is one
older : (p : Pooled) (xs : List Place) (n a c : ℕ) (b : List ℕ) → queued_bytes (queued p (drop n xs)) a c ≡ Some b → queued_bytes (queued p xs) a c ≡ Some b
older p xs zero a c b h = h
older p [] (suc n) a c b h = h
older p (x ∷ xs) (suc n) a c b h = more (packet_at p x.key) (older p xs n a c b h) where
  more : (o : Option Packet) → queued_bytes (queued p xs) a c ≡ Some b → queued_bytes (queued_by x.ready o (queued p xs)) a c ≡ Some b
  more None g = g
  more (Some y) g = rw g refl

pub newest_found : (p : Pooled) (xs : List Place) (n a c : ℕ) (d : Place) (y : Packet) → n < length xs → packet_at p (get_or xs n d).key ≡ Some y → covers y a ≡ true
    → queued_bytes (queued p (drop (n + 1) xs)) a c ≡ None → queued_bytes (queued p xs) a c ≡ Some (take c (drop (a - y.addr) (carried_bytes y)))
newest_found p xs n a c d y l e v h = older p xs n a c _ (rw (drop_more xs n d l) (rw e (rw h (rw v refl))))

-- each has bytes for its whole size
pub fits_at : (p : Pooled) (xs : List Place) (n : ℕ) (d : Place) (y : Packet) → AreHeld p xs → n < length xs → packet_at p (get_or xs n d).key ≡ Some y → MayPass y
fits_at p [] n d y h l e = absurd (omega (arith, l))
fits_at p (x ∷ xs) zero d y h l e = subst (λ o. IsSomeAnd o MayPass) e h.0
fits_at p (x ∷ xs) (suc n) d y h l e = fits_at p xs n d y h.2 (omega (arith, l)) e

pub newest_below : (p : Pooled) (xs : List Place) (n m a c : ℕ) (d : Place) (y : Packet) → n + 1 ≡ m → m ≤ length xs → Some y ≡ packet_at p (get_or xs n d).key
    → covers y a ≡ true → queued_bytes (queued p (drop m xs)) a c ≡ None → queued_bytes (queued p xs) a c ≡ Some (take c (drop (a - y.addr) (carried_bytes y)))
newest_below p xs n m a c d y s l e v h =
    newest_found p xs n a c d y (omega (arith, s, l)) (sym e) v (ap (λ k. queued_bytes (queued p (drop k xs)) a c) s ∙ h)

pub newest_fits : (p : Pooled) (xs : List Place) (n m : ℕ) (d : Place) (y : Packet) → AreHeld p xs → n + 1 ≡ m → m ≤ length xs → Some y ≡ packet_at p (get_or xs n d).key → MayPass y
newest_fits p xs n m d y h s l e = fits_at p xs n d y h (omega (arith, s, l)) (sym e)
