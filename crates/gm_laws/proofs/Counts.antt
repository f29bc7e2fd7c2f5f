-- How the counts go through lists.
use Rattle.std.proofs.Common.{◌≡◌, ℕ, ◌+◌, ◌≤◌, List, [], ◌∷◌, ◌++◌, refl, sym, ◌∙◌, ap, arith, ◌⊎◌, inl, inr, eq-eqb, ne_eqb}
use Rattle.std.proofs.lemmas.Bool.{cases_eq}
use Rattle.gm_model.specs.Deliver.{Item, Sent, Done, sent_by}
use Rattle.gm_words.specs.declared.act.Act.{Act}
use Rattle.gm_words.specs.declared.answer.Answer.{Answer}
use Rattle.gm_words.specs.declared.answer.Answer.TheVariants as answers
use Rattle.pkt_pool.specs.declared.packet.Packet.{Packet}
use Rattle.gm_words.specs.declared.wake.Wake.{Wake}
use Rattle.gm_words.specs.declared.wake.Wake.TheVariants as wakes
use Rattle.gm_laws.specs.Words.{only, offer_one, call_one, offers, calls, offered_by, called_by, shown, rejected, where_refused, IsIn, offer_out}

pub only_self : (i n : ℕ) → only i i n ≡ n
unfolding only
only_self i n = rw (eq-eqb i i refl) refl

pub only_same : (i k n : ℕ) → i ≡ k → only i k n ≡ n
unfolding only
only_same i k n e = rw (eq-eqb i k e) refl

pub only_other : (i k n : ℕ) → (i ≡ k → ⊥) → only i k n ≡ 0
unfolding only
only_other i k n e = rw (ne_eqb i k e) refl

pub only_zero : (i k : ℕ) → only i k 0 ≡ 0
only_zero i k = by (cases_eq i k) where
  by : (i ≡ k) ⊎ (i ≡ k → ⊥) → only i k 0 ≡ 0
  by (inl e) = only_same i k 0 e
  by (inr n) = only_other i k 0 n

pub only_add : (i k m n : ℕ) → only i k (m + n) ≡ only i k m + only i k n
only_add i k m n = by (cases_eq i k) where
  by : (i ≡ k) ⊎ (i ≡ k → ⊥) → only i k (m + n) ≡ only i k m + only i k n
  by (inl e) = omega (arith, only_same i k (m + n) e, only_same i k m e, only_same i k n e)
  by (inr e) = omega (arith, only_other i k (m + n) e, only_other i k m e, only_other i k n e)

pub only_le : (i k n : ℕ) → only i k n ≤ n
only_le i k n = by (cases_eq i k) where
  by : (i ≡ k) ⊎ (i ≡ k → ⊥) → only i k n ≤ n
  by (inl e) = omega (arith, only_same i k n e)
  by (inr e) = omega (arith, only_other i k n e)

pub only_mono : (i k m n : ℕ) → m ≤ n → only i k m ≤ only i k n
only_mono i k m n h = by (cases_eq i k) where
  by : (i ≡ k) ⊎ (i ≡ k → ⊥) → only i k m ≤ only i k n
  by (inl e) = omega (arith, only_same i k m e, only_same i k n e)
  by (inr e) = omega (arith, only_other i k m e)

-- where it isn't 0, the two are one
pub only_is : (i k n : ℕ) → 1 ≤ only i k n → i ≡ k
only_is i k n h = by (cases_eq i k) where
  by : (i ≡ k) ⊎ (i ≡ k → ⊥) → i ≡ k
  by (inl e) = e
  by (inr e) = absurd (omega (arith, only_other i k n e))

pub offered-append : (k p : ℕ) (xs ys : List Item) → offered_by k p (xs ++ ys) ≡ offered_by k p xs + offered_by k p ys
offered-append k p [] ys = omega arith
offered-append k p (Sent i a ∷ rest) ys = omega (arith, offered-append k p rest ys)
offered-append k p (Done i x l ∷ rest) ys = offered-append k p rest ys

pub called-append : (k p : ℕ) (xs ys : List Item) → called_by k p (xs ++ ys) ≡ called_by k p xs + called_by k p ys
called-append k p [] ys = omega arith
called-append k p (Sent i a ∷ rest) ys = omega (arith, called-append k p rest ys)
called-append k p (Done i x l ∷ rest) ys = called-append k p rest ys

pub offered-sent : (i k p : ℕ) (acts : List Act) → offered_by k p (sent_by i acts) ≡ only i k (offers p acts)
offered-sent i k p [] = sym (only_zero i k)
offered-sent i k p (a ∷ rest) = omega (arith, offered-sent i k p rest, only_add i k (offer_one p a) (offers p rest))

pub called-sent : (i k p : ℕ) (acts : List Act) → called_by k p (sent_by i acts) ≡ only i k (calls p acts)
called-sent i k p [] = sym (only_zero i k)
called-sent i k p (a ∷ rest) = omega (arith, called-sent i k p rest, only_add i k (call_one p a) (calls p rest))

-- an element of two lists
pub IsIn-append : {A : Type 0} (a : A) (xs ys : List A) → IsIn a (xs ++ ys) → IsIn a xs ⊎ IsIn a ys
IsIn-append a [] ys h = inr h
IsIn-append a (x ∷ xs) ys (inl e) = inl (inl e)
IsIn-append a (x ∷ xs) ys (inr h) = by (IsIn-append a xs ys h) where
  by : IsIn a xs ⊎ IsIn a ys → ((x ≡ a) ⊎ IsIn a xs) ⊎ IsIn a ys
  by (inl k) = inl (inr k)
  by (inr k) = inr k

-- an offer among the acts of i is an offer of i
pub IsIn-sent : (i k p : ℕ) (x : Packet) (acts : List Act) → IsIn (Sent k (offer_out p x)) (sent_by i acts)
    → (i ≡ k) × IsIn (offer_out p x) acts
IsIn-sent i k p x [] h = absurd h
IsIn-sent i k p x (a ∷ rest) (inl e) = let s : i ≡ k = cc e in let t : a ≡ offer_out p x = cc e in (s, inl t)
IsIn-sent i k p x (a ∷ rest) (inr h) = let r = IsIn-sent i k p x rest h in (r.0, inr r.1)

pub IsIn-offered : (k p : ℕ) (x : Packet) (items : List Item) → IsIn (Sent k (offer_out p x)) items → 1 ≤ offered_by k p items
IsIn-offered k p x [] h = absurd h
IsIn-offered k p x (Sent i a ∷ rest) (inr h) = omega (arith, IsIn-offered k p x rest h)
IsIn-offered k p x (Done i y l ∷ rest) (inr h) = IsIn-offered k p x rest h
IsIn-offered k p x (Done i y l ∷ rest) (inl e) = cc
IsIn-offered k p x (Sent i a ∷ rest) (inl e) =
    let s : i ≡ k = cc e in
    let t : a ≡ offer_out p x = cc e in
    let one : only i k (offer_one p a) ≡ 1 = only_same i k (offer_one p a) s ∙ (ap (offer_one p) t ∙ only_self p 1) in
    omega (arith, one)

-- an offer that is shown has a packet
pub shown_pkt : (w : Wake) (p : ℕ) → 1 ≤ shown w p → (x : Packet) × (w ≡ wakes.Offer (record { 0 = p }) x)
shown_pkt (wakes.Event s) p h = absurd (omega arith)
shown_pkt (wakes.Offer q x) p h = (x, ap (λ n. wakes.Offer (record { 0 = n }) x) (only_is q.0 p 1 h))
shown_pkt (wakes.Taken q) p h = absurd (omega arith)
shown_pkt (wakes.Refused q) p h = absurd (omega arith)
shown_pkt (wakes.Retry q) p h = absurd (omega arith)
shown_pkt (wakes.Line b l) p h = absurd (omega arith)
shown_pkt (wakes.AtomicDone x l) p h = absurd (omega arith)

refused_is : (a : Answer) (n : ℕ) → where_refused a n ≤ n
refused_is answers.Taken n = omega arith
refused_is answers.Refused n = omega arith
refused_is answers.Nothing n = omega arith

pub rejected_le : (w : Wake) (a : Answer) (p : ℕ) → rejected w a p ≤ shown w p
rejected_le (wakes.Event s) a p = omega arith
rejected_le (wakes.Offer q x) a p = refused_is a (only q.0 p 1)
rejected_le (wakes.Taken q) a p = omega arith
rejected_le (wakes.Refused q) a p = omega arith
rejected_le (wakes.Retry q) a p = omega arith
rejected_le (wakes.Line b l) a p = omega arith
rejected_le (wakes.AtomicDone x l) a p = omega arith

pub rejected_pkt : (w : Wake) (answer : Answer) (p : ℕ) → 1 ≤ rejected w answer p → (x : Packet) × (w ≡ wakes.Offer (record { 0 = p }) x)
rejected_pkt w a p h = shown_pkt w p (omega (arith, rejected_le w a p))
