-- One wake keeps what holds of all parts and the items in delivery, by the laws alone.
use Rattle.std.proofs.Common.{◌≡◌, ℕ, ◌+◌, ◌<◌, ◌≤◌, List, ◌++◌, refl, sym, ◌∙◌, ap, subst, arith, Some, true, false, ◌⊎◌, inl, inr}
use Rattle.std.proofs.lemmas.Bool.{cases_eq, cases_lt}
use Rattle.gm_model.specs.Deliver.{Item, Sent, sent_by}
use Rattle.gm_words.specs.Platform.{End}
use Rattle.gm_words.specs.declared.act.Act.{Act}
use Rattle.gm_words.specs.declared.answer.Answer.{Answer}
use Rattle.pkt_pool.specs.declared.packet.Packet.{Packet}
use Rattle.gm_words.specs.declared.wake.Wake.{Wake}
use Rattle.gm_words.specs.declared.wake.Wake.TheVariants as wakes
use Rattle.gm_laws.specs.Words.{only, offers, calls, offered_by, called_by, IsIn, told, taken, refused, retry, shown, rejected, offer_out}
use Rattle.gm_laws.specs.Face.{Face, FaceOk, Law, Joins, CallsOne}
use Rattle.gm_system.specs.Net.{Debt, Clear, Offering, Accepted, Denied, Calling, Net, Feeds, IsWired, Pays, owes_told, owes_refused, owes_retry, owes_open}
use Rattle.gm_laws.proofs.Counts.{only_self, only_same, only_other, only_le, only_mono, offered-append, called-append, offered-sent, called-sent, IsIn-append, IsIn-sent, IsIn-offered, shown_pkt}

taken_told : (w : Wake) (p : ℕ) → (taken w p ≡ 0) ⊎ ((taken w p ≡ told w p) × (refused w p ≡ 0) × (retry w p ≡ 0))
taken_told (wakes.Event s) p = inl refl
taken_told (wakes.Offer q x) p = inl refl
taken_told (wakes.Taken q) p = inr (refl, refl, refl)
taken_told (wakes.Refused q) p = inl refl
taken_told (wakes.Retry q) p = inl refl
taken_told (wakes.Line b l) p = inl refl
taken_told (wakes.AtomicDone x l) p = inl refl

told_le : (w : Wake) (p : ℕ) → told w p ≤ 1
told_le (wakes.Event s) p = omega arith
told_le (wakes.Offer q x) p = omega arith
told_le (wakes.Taken q) p = only_le q.0 p 1
told_le (wakes.Refused q) p = only_le q.0 p 1
told_le (wakes.Retry q) p = omega arith
told_le (wakes.Line b l) p = omega arith
told_le (wakes.AtomicDone x l) p = omega arith

pub refused_le : (w : Wake) (p : ℕ) → refused w p ≤ told w p
refused_le (wakes.Event s) p = omega arith
refused_le (wakes.Offer q x) p = omega arith
refused_le (wakes.Taken q) p = omega arith
refused_le (wakes.Refused q) p = omega arith
refused_le (wakes.Retry q) p = omega arith
refused_le (wakes.Line b l) p = omega arith
refused_le (wakes.AtomicDone x l) p = omega arith

-- what is still to come was asked for, or waits
pub open_le : (d : Debt) (k p : ℕ) → owes_open d k p ≤ owes_told d k p + owes_retry d k p
open_le Clear k p = omega arith
open_le (Offering i q) k p = omega arith
open_le (Accepted i q) k p = omega arith
open_le (Denied i q) k p = omega arith
open_le (Calling i q) k p = omega arith

module _ (peer : ℕ → ℕ → End) (f g : ℕ → Face) (wired : IsWired peer f) (i : ℕ) (w : Wake) (answer : Answer) (acts : List Act)
    (law : Law (f i) w (g i) answer acts) (others : (k : ℕ) → (k ≡ i → ⊥) → g k ≡ f k) where
  -- a law of the woken part as one of every part
  lift : (F : Face → ℕ) (a b : ℕ) → F (g i) + a ≡ F (f i) + b → (k : ℕ) → F (g k) + only i k a ≡ F (f k) + only i k b
  lift F a b h k = by (cases_eq i k) where
    by : (i ≡ k) ⊎ (i ≡ k → ⊥) → F (g k) + only i k a ≡ F (f k) + only i k b
    by (inl e) = let same : F (g k) + a ≡ F (f k) + b = subst (λ j. F (g j) + a ≡ F (f j) + b) e h in omega (arith, only_same i k a e, only_same i k b e)
    by (inr n) = omega (arith, ap F (others k (λ e. n (sym e))), only_other i k a n, only_other i k b n)

  asked_at : (k p : ℕ) → (g k).asked p + only i k (told w p) ≡ (f k).asked p + only i k (offers p acts)
  asked_at k p = lift (λ s. s.asked p) (told w p) (offers p acts) (law.asked p) k

  waits_at : (k p : ℕ) → (g k).waits p + only i k (retry w p) ≡ (f k).waits p + only i k (refused w p)
  waits_at k p = lift (λ s. s.waits p) (retry w p) (refused w p) (law.waits p) k

  listed_at : (k p : ℕ) → (g k).listed p + only i k (calls p acts) ≡ (f k).listed p + only i k (rejected w answer p)
  listed_at k p = lift (λ s. s.listed p) (calls p acts) (rejected w answer p) (law.listed p) k

  faces_at : ((k : ℕ) → FaceOk (f k)) → (k : ℕ) → FaceOk (g k)
  faces_at ok k = by (cases_eq k i) where
    by : (k ≡ i) ⊎ (k ≡ i → ⊥) → FaceOk (g k)
    by (inl e) = subst (λ j. FaceOk (g j)) (sym e) law.ok
    by (inr n) = rw (others k n) (ok k)

  route_at : (k : ℕ) (x : Packet) → (g k).route x ≡ (f k).route x
  route_at k x = by (cases_eq k i) where
    by : (k ≡ i) ⊎ (k ≡ i → ⊥) → (g k).route x ≡ (f k).route x
    by (inl e) = subst (λ j. (g j).route x ≡ (f j).route x) (sym e) (law.route x)
    by (inr n) = ap (λ s. s.route x) (others k n)

  module _ (items : List Item) (d e : Debt) (net : Net peer f items d) (pays : Pays peer f i w answer d e) where
    offered_now : (k p : ℕ) → offered_by k p (items ++ sent_by i acts) ≡ offered_by k p items + only i k (offers p acts)
    offered_now k p = omega (arith, offered-append k p items (sent_by i acts), offered-sent i k p acts)

    called_now : (k p : ℕ) → called_by k p (items ++ sent_by i acts) ≡ called_by k p items + only i k (calls p acts)
    called_now k p = omega (arith, called-append k p items (sent_by i acts), called-sent i k p acts)

    asked_now : (k p : ℕ) → (g k).asked p ≡ offered_by k p (items ++ sent_by i acts) + owes_told e k p
    asked_now k p = omega (arith, asked_at k p, offered_now k p, net.asked k p, pays.pays_told k p)

    waits_now : (k p : ℕ) → (g k).waits p + owes_refused e k p
        ≡ (g (peer k p).part).listed (peer k p).port + called_by (peer k p).part (peer k p).port (items ++ sent_by i acts) + owes_retry e k p
    waits_now k p =
        omega (
          arith,
          waits_at k p,
          listed_at (peer k p).part (peer k p).port,
          called_now (peer k p).part (peer k p).port,
          net.waits k p,
          pays.pays_refused k p,
          pays.pays_retry k p,
          pays.pays_denied k p,
          (pays.clear k p).0,
        )

    -- what is offered or waits, and isn't taken now, stays the head
    keeps_head : (k p : ℕ) → 1 ≤ (f k).asked p + (f k).waits p → (k ≡ i → taken w p ≡ 0) → (g k).head p ≡ (f k).head p
    keeps_head k p h n = by (cases_eq k i) where
      by : (k ≡ i) ⊎ (k ≡ i → ⊥) → (g k).head p ≡ (f k).head p
      by (inr m) = ap (λ s. s.head p) (others k m)
      by (inl c) = subst (λ j. (g j).head p ≡ (f j).head p) (sym c) (law.keeps p (subst (λ j. 1 ≤ (f j).asked p + (f j).waits p) c h) (n c))

    -- a port that is told Taken has no other offer, and waits nowhere
    not_taken : (k p : ℕ) → 1 ≤ offered_by k p items + (f k).waits p + owes_refused d k p + owes_retry d k p → k ≡ i → taken w p ≡ 0
    not_taken k p h c = by (taken_told w p) where
      by : (taken w p ≡ 0) ⊎ ((taken w p ≡ told w p) × (refused w p ≡ 0) × (retry w p ≡ 0)) → taken w p ≡ 0
      by (inl z) = z
      by (inr t) =
          omega (
            arith,
            told_le w p,
            net.asked k p,
            pays.pays_told k p,
            pays.pays_refused k p,
            pays.pays_retry k p,
            only_same i k (told w p) (sym c),
            only_le i k (refused w p),
            only_le i k (retry w p),
            (net.faces k).bits p,
            t.0,
            t.1,
            t.2,
          )

    carried_now : (k p : ℕ) (x : Packet) → IsIn (Sent k (offer_out p x)) (items ++ sent_by i acts) → (g k).head p ≡ Some x
    carried_now k p x h = by (IsIn-append (Sent k (offer_out p x)) items (sent_by i acts) h) where
      by : IsIn (Sent k (offer_out p x)) items ⊎ IsIn (Sent k (offer_out p x)) (sent_by i acts)
          → (g k).head p ≡ Some x
      by (inl old) =
          let one = IsIn-offered k p x items old in
          keeps_head k p (omega (arith, net.asked k p)) (not_taken k p (omega arith)) ∙ net.carried k p x old
      by (inr new) = let r = IsIn-sent i k p x acts new in subst (λ j. (g j).head p ≡ Some x) r.0 (law.carries p x r.1)

    -- a port in a list, or a call of it, or what comes: its sender asks or waits
    sends_at : (k p : ℕ) → 1 ≤ offered_by k p items + (f (peer k p).part).listed (peer k p).port + called_by (peer k p).part (peer k p).port items + owes_open d k p
        → 1 ≤ (f k).asked p + (f k).waits p
    sends_at k p h =
        omega (arith, net.asked k p, net.waits k p, pays.pays_told k p, pays.pays_refused k p, open_le d k p, only_mono i k (refused w p) (told w p) (refused_le w p))

    -- a port of the lane's list, seen from its sender
    placed_now : (k p lane : ℕ) (x : Packet) → 1 ≤ (g (peer k p).part).stands lane (peer k p).port → (g k).head p ≡ Some x → (g (peer k p).part).route x ≡ lane
    placed_now k p lane x h s = by (cases_eq i (peer k p).part) where
      -- who stood in the list before
      old : 1 ≤ (f (peer k p).part).stands lane (peer k p).port → (g (peer k p).part).route x ≡ lane
      old t =
          let l = (net.faces (peer k p).part).lists lane (peer k p).port in
          let head = keeps_head k p (sends_at k p (omega arith)) (not_taken k p (omega (arith, net.waits k p))) in
          route_at (peer k p).part x ∙ net.placed k p lane x t (sym head ∙ s)

      -- who joins it now
      new : i ≡ (peer k p).part → (1 ≤ (f i).stands lane (peer k p).port) ⊎ Joins (f i) w answer lane (peer k p).port → (g (peer k p).part).route x ≡ lane
      new c (inl t) = old (subst (λ j. 1 ≤ (f j).stands lane (peer k p).port) c t)
      new c (inr j) =
          let one : shown w (peer k p).port ≡ 1 = ap (λ v. shown v (peer k p).port) j.offer ∙ only_self (peer k p).port 1 in
          let come : 1 ≤ owes_open d k p = omega (arith, pays.coming k p, only_same i (peer k p).part (shown w (peer k p).port) c) in
          let head = keeps_head k p (sends_at k p (omega arith)) (λ u. ap (λ v. taken v p) j.offer) in
          let was : (f k).head p ≡ Some j.pkt = pays.pays_shown k p j.pkt c j.offer in
          let same : j.pkt ≡ x = cc in
          route_at (peer k p).part x ∙ subst (λ y. (f (peer k p).part).route y ≡ lane) same (subst (λ t. (f t).route j.pkt ≡ lane) c j.there)

      by : (i ≡ (peer k p).part) ⊎ (i ≡ (peer k p).part → ⊥) → (g (peer k p).part).route x ≡ lane
      by (inr n) = old (subst (λ t. 1 ≤ t.stands lane (peer k p).port) (others (peer k p).part (λ e. n (sym e))) h)
      by (inl c) = new c (law.joins lane (peer k p).port (subst (λ j. 1 ≤ (g j).stands lane (peer k p).port) (sym c) h))

    -- a packet that came to a hungry lane still comes, unless the part is shown it now
    comes_still : (q lane : ℕ) (n : Feeds peer f items d q lane)
        → only i q (shown w n.port) ≡ 0 → Feeds peer g (items ++ sent_by i acts) e q lane
    comes_still q lane n z =
        let c : End = peer q n.port in
        let back : peer c.part c.port ≡ record { part = q; port = n.port } = wired.both q n.port in
        let lists = ap (λ (b : End). called_by b.part b.port items) back in
        let shows = ap (λ (b : End). only i b.part (shown w b.port)) back in
        let head =
        keeps_head c.part c.port (sends_at c.part c.port (omega (arith, n.comes, lists)))
        (not_taken c.part c.port (omega (arith, n.comes, lists, shows, net.waits c.part c.port, pays.coming c.part c.port, pays.pays_retry c.part c.port)))
        in
        record {
          port = n.port;
          pkt = n.pkt;
          head = head ∙ n.head;
          there = route_at q n.pkt ∙ n.there;
          comes = omega (
            arith,
            n.comes,
            shows,
            offered_now c.part c.port,
            called_now q n.port,
            pays.coming c.part c.port,
            only_mono i c.part (retry w c.port) (offers c.port acts) (law.again c.port),
          );
        }

    -- who is called now comes
    comes_called : (q lane : ℕ) → i ≡ q → CallsOne (f q) acts lane → Feeds peer g (items ++ sent_by i acts) e q lane
    comes_called q lane m j =
        let c : End = peer q j.port in
        let back : peer c.part c.port ≡ record { part = q; port = j.port } = wired.both q j.port in
        let lists = ap (λ (b : End). (f b.part).listed b.port) back in
        let stood : 1 ≤ (f (peer c.part c.port).part).stands lane (peer c.part c.port).port = subst (λ (b : End). 1 ≤ (f b.part).stands lane b.port) (sym back) j.stood in
        let sends = sends_at c.part c.port (omega (arith, lists, j.stood, (net.faces q).lists lane j.port)) in
        let has = (net.faces c.part).offers_one c.port sends in
        record {
          port = j.port;
          pkt = has.0;
          head = keeps_head c.part c.port sends (not_taken c.part c.port (omega (arith, lists, j.stood, (net.faces q).lists lane j.port, net.waits c.part c.port))) ∙ has.1;
          there = route_at q has.0 ∙ subst (λ (b : End). (f b.part).route has.0 ≡ lane) back (net.placed c.part c.port lane has.0 stood has.1);
          comes = omega (arith, called_now q j.port, only_same i q (calls j.port acts) m, j.called);
        }

    fed_now : (q lane : ℕ) → (g q).hungry lane ≡ true → Feeds peer g (items ++ sent_by i acts) e q lane
    fed_now q lane h = by (cases_eq i q) where
      -- the part is shown a packet for the lane: then it isn't hungry
      fed : i ≡ q → Feeds peer f items d q lane → Feeds peer g (items ++ sent_by i acts) e q lane
      fed m n = by_shown (cases_lt 0 (shown w n.port)) where
        by_pkt : (x : Packet) → w ≡ wakes.Offer (record { 0 = n.port }) x → Feeds peer g (items ++ sent_by i acts) e q lane
        by_pkt x o =
            let c : End = peer q n.port in
            let back : peer c.part c.port ≡ record { part = q; port = n.port } = wired.both q n.port in
            let head : (f c.part).head c.port ≡ Some x =
            pays.pays_shown c.part c.port x (m ∙ sym (ap (λ (b : End). b.part) back)) (o ∙ sym (ap (λ (b : End). wakes.Offer (record { 0 = b.port }) x) back)) in
            let same : x ≡ n.pkt = cc (head, n.head) in
            let there : (f i).route x ≡ lane = subst (λ j. (f j).route x ≡ lane) (sym m) (subst (λ y. (f q).route y ≡ lane) (sym same) n.there) in
            let full : (g i).hungry lane ≡ false = subst (λ l. (g i).hungry l ≡ false) there (law.feeds n.port x o) in
            let room : (g i).hungry lane ≡ true = subst (λ j. (g j).hungry lane ≡ true) (sym m) h in
            absurd (cc (full, room))

        by_shown : (0 < shown w n.port) ⊎ (shown w n.port ≤ 0) → Feeds peer g (items ++ sent_by i acts) e q lane
        by_shown (inl b) = let x = shown_pkt w n.port b in by_pkt x.0 x.1
        by_shown (inr b) = comes_still q lane n (omega (arith, only_le i q (shown w n.port)))

      was : i ≡ q → ((f i).hungry lane ≡ true) ⊎ CallsOne (f i) acts lane → Feeds peer g (items ++ sent_by i acts) e q lane
      was m (inl b) = fed m (net.fed q lane (subst (λ j. (f j).hungry lane ≡ true) m b))
      was m (inr j) = comes_called q lane m (subst (λ k. CallsOne (f k) acts lane) m j)

      by : (i ≡ q) ⊎ (i ≡ q → ⊥) → Feeds peer g (items ++ sent_by i acts) e q lane
      by (inl m) = was m (law.hungry lane (subst (λ j. (g j).hungry lane ≡ true) (sym m) h))
      by (inr m) =
          let n = net.fed q lane (subst (λ t. t.hungry lane ≡ true) (others q (λ e. m (sym e))) h) in
          comes_still q lane n (only_other i q (shown w n.port) m)

    pub net_woken : Net peer g (items ++ sent_by i acts) e
    net_woken =
        record { faces = faces_at net.faces; asked = asked_now; waits = waits_now; carried = carried_now; placed = placed_now; fed = fed_now }
