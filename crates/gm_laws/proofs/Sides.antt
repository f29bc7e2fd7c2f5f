-- A lane beside a face: a layer that offers at no port, but has a list of those that wait for it.
use Rattle.std.proofs.Common.{◌≡◌, ℕ, ◌+◌, ◌<◌, ◌≤◌, List, [], ◌∷◌, ◌++◌, refl, sym, ◌∙◌, ap, subst, arith, Bool, true, false, ◌==◌, ◌&&◌, ◌||◌, ◌⊎◌, inl, inr}
use Rattle.std.proofs.lemmas.Bool.{cases_eq, cases_lt, or_cases, and_parts, and_from}
use Rattle.gm_words.specs.Flow.{Lane}
use Rattle.gm_words.specs.declared.act.Act.{Act}
use Rattle.gm_words.specs.declared.answer.Answer.{Answer}
use Rattle.pkt_pool.specs.declared.packet.Packet.{Packet}
use Rattle.gm_words.specs.declared.wake.Wake.{Wake}
use Rattle.gm_words.specs.declared.wake.Wake.TheVariants as wakes
use Rattle.gm_laws.specs.Words.{only, offers, calls, IsIn, rejected, offer_out}
use Rattle.gm_laws.specs.Face.{Face, FaceOk, Law, Joins, CallsOne}
use Rattle.gm_laws.specs.Faces.{stood, is_hungry, with_side}
use Rattle.gm_laws.proofs.Bytes.{same_is}
use Rattle.gm_laws.proofs.Counts.{only_same, only_other, only_le, only_is, IsIn-append, rejected_pkt}
use Rattle.gm_laws.proofs.Lanes.{IsPortSame}

or_right : (a b : Bool) → b ≡ true → (a || b) ≡ true
or_right true b e = refl
or_right false b e = e

or_left : (a b : Bool) → a ≡ true → (a || b) ≡ true
or_left true b e = refl
or_left false b e = cc

or_none : (a b : Bool) → a ≡ false → b ≡ false → (a || b) ≡ false
or_none true b e f = cc
or_none false b e f = f

and_none : (a b : Bool) → b ≡ false → (a && b) ≡ false
and_none true b e = e
and_none false b e = refl

pub offers-append : (p : ℕ) (xs ys : List Act) → offers p (xs ++ ys) ≡ offers p xs + offers p ys
offers-append p [] ys = omega arith
offers-append p (x ∷ xs) ys = omega (arith, offers-append p xs ys)

pub calls-append : (p : ℕ) (xs ys : List Act) → calls p (xs ++ ys) ≡ calls p xs + calls p ys
calls-append p [] ys = omega arith
calls-append p (x ∷ xs) ys = omega (arith, calls-append p xs ys)

-- the lane b beside is what becomes of the lane a, with calls in front
pub record SideMoved (a b : Lane) (more : List Act) : Type 0 where
  pub listed : (q : ℕ) → stood q b.waiting + calls q more ≡ stood q a.waiting
  pub silent : (q : ℕ) → offers q more ≡ 0
  pub offerless : (q : ℕ) (x : Packet) → IsIn (offer_out q x) more → ⊥
  pub hungry : is_hungry 1 b ≡ true → (is_hungry 1 a ≡ true) ⊎ ((r : ℕ) × (1 ≤ stood r a.waiting) × (1 ≤ calls r more))

module _ (n : ℕ) where
  side_ok : (f : Face) (l : Lane) (route : Packet → ℕ) → FaceOk f → FaceOk (with_side n f l route)
  side_ok f l route ok = record {
    bits = ok.bits;
    within = ok.within;
    offers_one = ok.offers_one;
    lists = λ k p. omega (arith, ok.lists k p, only_le n k (stood p l.waiting));
    holds = ok.holds;
    portless = ok.portless;
  }

  -- a step of the others, and of the lane as well
  pub sided_law : (f g : Face) (a b : Lane) (route to : Packet → ℕ) (w : Wake) (answer : Answer) (list more : List Act) → Law f w g answer list
      → SideMoved a b more → ((x : Packet) → to x ≡ route x)
      → ((q : ℕ) (x : Packet) → w ≡ wakes.Offer (record { 0 = q }) x → (route x ≡ f.route x) × (route x ≡ n → ⊥))
      → Law (with_side n f a route) w (with_side n g b to) answer (more ++ list)
  sided_law f g a b route to w answer list more law side same routes =
      record {
        ok = side_ok g b to law.ok;
        ports = law.ports;
        route = same;
        sends = law.sends;
        admits = law.admits;
        passes = law.passes;
        asked = λ p. omega (arith, law.asked p, offers-append p more list, side.silent p);
        waits = law.waits;
        listed = λ p. omega (arith, law.listed p, calls-append p more list, side.listed p);
        joins = λ k p h. joins k p h (cases_lt 0 (g.stands k p));
        carries = λ p x h. law.carries p x (mine p x (IsIn-append (offer_out p x) more list h));
        keeps = law.keeps;
        again = λ p. omega (arith, law.again p, offers-append p more list);
        feeds = λ q x o. feeds q x o;
        hungry = λ k h. wants k (or_cases (g.hungry k) (k == n && is_hungry 1 b) h);
      } where
        mine : (p : ℕ) (x : Packet) → IsIn (offer_out p x) more ⊎ IsIn (offer_out p x) list → IsIn (offer_out p x) list
        mine p x (inl h) = absurd (side.offerless p x h)
        mine p x (inr h) = h

        joins : (k p : ℕ) → 1 ≤ g.stands k p + only n k (stood p b.waiting) → (0 < g.stands k p) ⊎ (g.stands k p ≤ 0)
            → (1 ≤ f.stands k p + only n k (stood p a.waiting)) ⊎ Joins (with_side n f a route) w answer k p
        joins k p h (inr z) =
            let e : n ≡ k = only_is n k (stood p b.waiting) (omega arith) in
            inl (omega (arith, side.listed p, only_same n k (stood p b.waiting) e, only_same n k (stood p a.waiting) e))
        joins k p h (inl t) = by (law.joins k p t) where
          by : (1 ≤ f.stands k p) ⊎ Joins f w answer k p → (1 ≤ f.stands k p + only n k (stood p a.waiting)) ⊎ Joins (with_side n f a route) w answer k p
          by (inl u) = inl (omega arith)
          by (inr j) = inr (record { pkt = j.pkt; offer = j.offer; there = (routes p j.pkt j.offer).0 ∙ j.there; turned = j.turned })

        feeds : (q : ℕ) (x : Packet) → w ≡ wakes.Offer (record { 0 = q }) x → (g.hungry (route x) || (route x == n && is_hungry 1 b)) ≡ false
        feeds q x o =
            let r = routes q x o in
            or_none (g.hungry (route x)) (route x == n && is_hungry 1 b) (subst (λ k. g.hungry k ≡ false) (sym r.0) (law.feeds q x o))
            (other (route x == n) (is_hungry 1 b) refl r.1) where
              other : (b c : Bool) → (route x == n) ≡ b → (route x ≡ n → ⊥) → (b && c) ≡ false
              other true c e m = absurd (m (same_is (route x) n e))
              other false c e m = refl

        wants : (k : ℕ) → (g.hungry k ≡ true) ⊎ ((k == n && is_hungry 1 b) ≡ true)
            → ((f.hungry k || (k == n && is_hungry 1 a)) ≡ true) ⊎ CallsOne (with_side n f a route) (more ++ list) k
        wants k (inl h) = by (law.hungry k h) where
          by : (f.hungry k ≡ true) ⊎ CallsOne f list k → ((f.hungry k || (k == n && is_hungry 1 a)) ≡ true) ⊎ CallsOne (with_side n f a route) (more ++ list) k
          by (inl t) = inl (or_left (f.hungry k) (k == n && is_hungry 1 a) t)
          by (inr c) = inr (record { port = c.port; stood = omega (arith, c.stood); called = omega (arith, c.called, calls-append c.port more list) })
        wants k (inr h) = by (side.hungry (and_parts (k == n) (is_hungry 1 b) h).1) where
          same_lane : k ≡ n
          same_lane = same_is k n (and_parts (k == n) (is_hungry 1 b) h).0

          by : (is_hungry 1 a ≡ true) ⊎ ((r : ℕ) × (1 ≤ stood r a.waiting) × (1 ≤ calls r more))
              → ((f.hungry k || (k == n && is_hungry 1 a)) ≡ true) ⊎ CallsOne (with_side n f a route) (more ++ list) k
          by (inl t) = inl (or_right (f.hungry k) (k == n && is_hungry 1 a) (and_from (k == n) (is_hungry 1 a) (and_parts (k == n) (is_hungry 1 b) h).0 t))
          by (inr r) =
              inr (record { port = r.0; stood = omega (arith, r.1, only_same n k (stood r.0 a.waiting) (sym same_lane)); called = omega (arith, r.2, calls-append r.0 more list) })

  -- an offer to the lane itself
  pub side_offer : (f g : Face) (a b : Lane) (route to : Packet → ℕ) (q : ℕ) (x : Packet) (answer : Answer) → FaceOk g → IsPortSame f g
      → f.hungry n ≡ false → ((y : Packet) → to y ≡ route y) → route x ≡ n
      → ((p : ℕ) → stood p b.waiting ≡ stood p a.waiting + rejected (wakes.Offer (record { 0 = q }) x) answer p) → is_hungry 1 b ≡ false
      → Law (with_side n f a route) (wakes.Offer (record { 0 = q }) x) (with_side n g b to) answer []
  side_offer f g a b route to q x answer ok e calm same there listed full =
      record {
        ok = side_ok g b to ok;
        ports = e.ports;
        route = same;
        sends = e.sends;
        admits = e.admits;
        passes = e.passes;
        asked = λ p. omega (arith, e.asked p);
        waits = λ p. omega (arith, e.waits p);
        listed = λ p. omega (arith, e.listed p, listed p);
        joins = λ k p h. joins k p h (cases_eq n k);
        carries = λ p y h. absurd h;
        keeps = λ p h t. e.head p;
        again = λ p. omega arith;
        feeds = λ r y o. feeds y (let k : x ≡ y = cc o in k);
        hungry = λ k h. inl (or_left (f.hungry k) (k == n && is_hungry 1 a) (wants k (or_cases (g.hungry k) (k == n && is_hungry 1 b) h)));
      } where
        feeds : (y : Packet) → x ≡ y → (g.hungry (route y) || (route y == n && is_hungry 1 b)) ≡ false
        feeds y k =
            or_none (g.hungry (route y)) (route y == n && is_hungry 1 b)
            (subst (λ j. g.hungry j ≡ false) (sym (sym (ap route k) ∙ there)) (e.hungry n ∙ calm)) (and_none (route y == n) (is_hungry 1 b) full)

        wants : (k : ℕ) → (g.hungry k ≡ true) ⊎ ((k == n && is_hungry 1 b) ≡ true) → f.hungry k ≡ true
        wants k (inl h) = sym (e.hungry k) ∙ h
        wants k (inr h) = absurd (not_both (is_hungry 1 b) full (and_parts (k == n) (is_hungry 1 b) h).1) where
          not_both : (b : Bool) → b ≡ false → b ≡ true → ⊥
          not_both true e f = cc
          not_both false e f = cc

        joins : (k p : ℕ) → 1 ≤ g.stands k p + only n k (stood p b.waiting) → (n ≡ k) ⊎ (n ≡ k → ⊥)
            → (1 ≤ f.stands k p + only n k (stood p a.waiting)) ⊎ Joins (with_side n f a route) (wakes.Offer (record { 0 = q }) x) answer k p
        joins k p h (inr m) = inl (omega (arith, e.stands k p, only_other n k (stood p b.waiting) m))
        joins k p h (inl s) = by (cases_lt 0 (f.stands k p + stood p a.waiting)) where
          by : (0 < f.stands k p + stood p a.waiting) ⊎ (f.stands k p + stood p a.waiting ≤ 0)
              → (1 ≤ f.stands k p + only n k (stood p a.waiting)) ⊎ Joins (with_side n f a route) (wakes.Offer (record { 0 = q }) x) answer k p
          by (inl t) = inl (omega (arith, only_same n k (stood p a.waiting) s))
          by (inr z) =
              let out : 1 ≤ rejected (wakes.Offer (record { 0 = q }) x) answer p = omega (arith, listed p, e.stands k p, only_same n k (stood p b.waiting) s) in
              let r = rejected_pkt (wakes.Offer (record { 0 = q }) x) answer p out in
              inr (record { pkt = r.0; offer = r.1; there = (let o : x ≡ r.0 = cc r.1 in sym (ap route o) ∙ there ∙ s); turned = out })

-- the lane stays as it is
pub side_same : (a : Lane) → SideMoved a a []
side_same a = record { listed = λ q. omega arith; silent = λ q. refl; offerless = λ q x h. h; hungry = λ h. inl h }
