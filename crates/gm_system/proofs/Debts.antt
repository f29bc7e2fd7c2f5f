-- What each wake of the delivery pays and leaves, and what it may ask.
use Rattle.std.proofs.Common.{◌≡◌, ℕ, ◌+◌, ◌<◌, ◌≤◌, List, refl, sym, ◌∙◌, ap, subst, arith, true, Some, ◌⊎◌, inl, inr}
use Rattle.std.proofs.lemmas.Bool.{cases_lt}
use Rattle.gc_base.specs.declared.ids.PortNo.{PortNo}
use Rattle.gm_model.specs.Deliver.{Item, told_wake}
use Rattle.gm_words.specs.Platform.{End}
use Rattle.gm_words.specs.declared.answer.Answer.{Answer}
use Rattle.gm_words.specs.declared.answer.Answer.TheVariants as answers
use Rattle.pkt_pool.specs.declared.packet.Packet.{Packet}
use Rattle.gm_words.specs.declared.wake.Wake.{Wake}
use Rattle.gm_words.specs.declared.wake.Wake.TheVariants as wakes
use Rattle.gm_laws.specs.Words.{only, told, refused, retry, shown, rejected}
use Rattle.gm_laws.specs.Face.{Face, MayWake}
use Rattle.gm_system.specs.Net.{Debt, Clear, Offering, Calling, Net, IsWired, Pays, owes_told, owes_refused, owes_retry, owes_open, left_by}
use Rattle.gm_laws.proofs.Counts.{only_self, only_same, only_zero, only_le, only_is, shown_pkt, rejected_le}
use Rattle.gm_system.proofs.Nets.{open_le}

-- a channel against another
at_le : (i p k r : ℕ) → only i k (only p r 1) ≤ 1
at_le i p k r = omega (arith, only_le i k (only p r 1), only_le p r 1)

at_is : (i p k r : ℕ) → i ≡ k → p ≡ r → only i k (only p r 1) ≡ 1
at_is i p k r e f = omega (arith, only_same i k (only p r 1) e, only_same p r 1 f)

at_one : (i p k r : ℕ) → 1 ≤ only i k (only p r 1) → (i ≡ k) × (p ≡ r)
at_one i p k r h = (only_is i k (only p r 1) h, only_is p r 1 (omega (arith, only_le i k (only p r 1))))

module _ (peer : ℕ → ℕ → End) (f : ℕ → Face) (wired : IsWired peer f) where
  -- peers differ where the ports do
  pub at_peer : (i p k r : ℕ) → only i k (only p r 1) ≡ only (peer i p).part (peer k r).part (only (peer i p).port (peer k r).port 1)
  at_peer i p k r = by (cases_lt 0 (only i k (only p r 1))) (cases_lt 0 (only (peer i p).part (peer k r).part (only (peer i p).port (peer k r).port 1))) where
    by : (0 < only i k (only p r 1)) ⊎ (only i k (only p r 1) ≤ 0)
        → (0 < only (peer i p).part (peer k r).part (only (peer i p).port (peer k r).port 1)) ⊎ (only (peer i p).part (peer k r).part (only (peer i p).port (peer k r).port 1) ≤ 0)
        → only i k (only p r 1) ≡ only (peer i p).part (peer k r).part (only (peer i p).port (peer k r).port 1)
    by (inl a) (inl b) = omega (arith, at_le i p k r, at_le (peer i p).part (peer i p).port (peer k r).part (peer k r).port)
    by (inr a) (inr b) = omega arith
    by (inl a) (inr b) =
        let e = at_one i p k r a in
        let same : peer i p ≡ peer k r = ap (λ j. peer j p) e.0 ∙ ap (peer k) e.1 in
        absurd (omega (arith, at_is (peer i p).part (peer i p).port (peer k r).part (peer k r).port (ap (λ (t : End). t.part) same) (ap (λ (t : End). t.port) same)))
    by (inr a) (inl b) =
        let e = at_one (peer i p).part (peer i p).port (peer k r).part (peer k r).port b in
        let same : peer (peer i p).part (peer i p).port ≡ peer (peer k r).part (peer k r).port = ap (λ j. peer j (peer i p).port) e.0 ∙ ap (peer (peer k r).part) e.1 in
        let back : ◌≡◌ {A = End} (record { part = i; port = p }) (record { part = k; port = r }) = sym (wired.both i p) ∙ (same ∙ wired.both k r) in
        absurd (omega (arith, at_is i p k r (ap (λ (t : End). t.part) back) (ap (λ (t : End). t.port) back)))

  pub at_back : (i p k r : ℕ) → only i (peer k r).part (only p (peer k r).port 1) ≡ only (peer i p).part k (only (peer i p).port r 1)
  at_back i p k r =
      at_peer i p (peer k r).part (peer k r).port ∙ ap (λ (t : End). only (peer i p).part t.part (only (peer i p).port t.port 1)) (wired.both k r)

  pub pays_offer : (i p : ℕ) (x : Packet) (answer : Answer) → (f i).head p ≡ Some x
      → Pays peer f (peer i p).part (wakes.Offer (record { 0 = (peer i p).port }) x) answer (Offering i p) (left_by answer i p)
  pays_offer i p x answer head =
      record {
        pays_told = λ k r. told_same k r answer;
        pays_refused = λ k r. sym (only_zero (peer i p).part k);
        pays_retry = λ k r. sym (only_zero (peer i p).part k);
        coming = λ k r. omega (arith, only_zero (peer i p).part k, at_peer i p k r);
        pays_denied = λ k r. denied k r answer;
        clear = λ k r. none k r answer;
        pays_shown = shows;
      } where
        shows : (k r : ℕ) (y : Packet) → (peer i p).part ≡ (peer k r).part → wakes.Offer (record { 0 = (peer i p).port }) x ≡ wakes.Offer (record { 0 = (peer k r).port }) y → (f k).head r ≡ Some y
        shows k r y e o =
            let numbers : ◌≡◌ {A = PortNo} (record { 0 = (peer i p).port }) (record { 0 = (peer k r).port }) = cc o in
            let ports : (peer i p).port ≡ (peer k r).port = ap (λ (n : PortNo). n.0) numbers in
            let pkts : x ≡ y = cc o in
            let same : peer (peer i p).part (peer i p).port ≡ peer (peer k r).part (peer k r).port = ap (λ j. peer j (peer i p).port) e ∙ ap (peer (peer k r).part) ports in
            let back : ◌≡◌ {A = End} (record { part = i; port = p }) (record { part = k; port = r }) = sym (wired.both i p) ∙ (same ∙ wired.both k r) in
            subst (λ (t : End). (f t.part).head t.port ≡ Some y) back (head ∙ ap (λ z. Some z) pkts)

        told_same : (k r : ℕ) (a : Answer) → only i k (only p r 1) ≡ only (peer i p).part k 0 + owes_told (left_by a i p) k r
        told_same k r answers.Taken = omega (arith, only_zero (peer i p).part k)
        told_same k r answers.Refused = omega (arith, only_zero (peer i p).part k)
        told_same k r answers.Nothing = omega (arith, only_zero (peer i p).part k)

        denied : (k r : ℕ) (a : Answer) → owes_refused (left_by a i p) k r ≡ only (peer i p).part (peer k r).part (rejected (wakes.Offer (record { 0 = (peer i p).port }) x) a (peer k r).port)
        denied k r answers.Taken = sym (only_zero (peer i p).part (peer k r).part)
        denied k r answers.Refused = at_peer i p k r
        denied k r answers.Nothing = sym (only_zero (peer i p).part (peer k r).part)

        none : (k r : ℕ) (a : Answer) → (owes_retry (left_by a i p) k r ≡ 0) × (owes_open (left_by a i p) k r ≡ 0)
        none k r answers.Taken = (refl, refl)
        none k r answers.Refused = (refl, refl)
        none k r answers.Nothing = (refl, refl)

  pub pays_told : (i p : ℕ) (a answer : Answer) → Pays peer f i (told_wake a p) answer (left_by a i p) Clear
  pays_told i p a answer =
      record {
        pays_told = λ k r. tells k r a;
        pays_refused = λ k r. refuses k r a;
        pays_retry = λ k r. no_retry k r a;
        coming = λ k r. none k r a;
        pays_denied = λ k r. denied k r a answer;
        clear = λ k r. (refl, refl);
        pays_shown = λ k r y e o. absurd (no_offer a (peer k r).port y o);
      } where
        tells : (k r : ℕ) (a : Answer) → owes_told (left_by a i p) k r ≡ only i k (told (told_wake a p) r) + 0
        tells k r answers.Taken = omega arith
        tells k r answers.Refused = omega arith
        tells k r answers.Nothing = omega arith

        refuses : (k r : ℕ) (a : Answer) → owes_refused (left_by a i p) k r ≡ only i k (refused (told_wake a p) r)
        refuses k r answers.Taken = sym (only_zero i k)
        refuses k r answers.Refused = refl
        refuses k r answers.Nothing = sym (only_zero i k)

        no_retry : (k r : ℕ) (a : Answer) → owes_retry (left_by a i p) k r ≡ only i k (retry (told_wake a p) r)
        no_retry k r answers.Taken = sym (only_zero i k)
        no_retry k r answers.Refused = sym (only_zero i k)
        no_retry k r answers.Nothing = sym (only_zero i k)

        none : (k r : ℕ) (a : Answer) → owes_open (left_by a i p) k r ≡ only i k (retry (told_wake a p) r) + only i (peer k r).part (shown (told_wake a p) (peer k r).port)
        none k r answers.Taken = omega (arith, only_zero i k, only_zero i (peer k r).part)
        none k r answers.Refused = omega (arith, only_zero i k, only_zero i (peer k r).part)
        none k r answers.Nothing = omega (arith, only_zero i k, only_zero i (peer k r).part)

        denied : (k r : ℕ) (a b : Answer) → 0 ≡ only i (peer k r).part (rejected (told_wake a p) b (peer k r).port)
        denied k r answers.Taken b = sym (only_zero i (peer k r).part)
        denied k r answers.Refused b = sym (only_zero i (peer k r).part)
        denied k r answers.Nothing b = sym (only_zero i (peer k r).part)

        no_offer : (a : Answer) (r : ℕ) (y : Packet) → told_wake a p ≡ wakes.Offer (record { 0 = r }) y → ⊥
        no_offer answers.Taken r y o = cc
        no_offer answers.Refused r y o = cc
        no_offer answers.Nothing r y o = cc

  pub pays_retry : (i p : ℕ) (answer : Answer) → Pays peer f i (wakes.Retry (record { 0 = p })) answer (Calling i p) Clear
  pays_retry i p answer =
      record {
        pays_told = λ k r. omega (arith, only_zero i k);
        pays_refused = λ k r. sym (only_zero i k);
        pays_retry = λ k r. refl;
        coming = λ k r. omega (arith, only_zero i (peer k r).part);
        pays_denied = λ k r. sym (only_zero i (peer k r).part);
        clear = λ k r. (refl, refl);
        pays_shown = λ k r y e o. absurd (cc o);
      }

  pub pays_none : (i : ℕ) (w : Wake) (answer : Answer) → ((r : ℕ) → (told w r ≡ 0) × (refused w r ≡ 0) × (retry w r ≡ 0) × (shown w r ≡ 0)) → Pays peer f i w answer Clear Clear
  pays_none i w answer none =
      record {
        pays_told = λ k r. omega (arith, only_le i k (told w r), (none r).0);
        pays_refused = λ k r. omega (arith, only_le i k (refused w r), (none r).1);
        pays_retry = λ k r. omega (arith, only_le i k (retry w r), (none r).2);
        coming = λ k r. omega (arith, only_le i k (retry w r), (none r).2, only_le i (peer k r).part (shown w (peer k r).port), (none (peer k r).port).3);
        pays_denied = λ k r. omega (arith, only_le i (peer k r).part (rejected w answer (peer k r).port), rejected_le w answer (peer k r).port, (none (peer k r).port).3);
        clear = λ k r. (refl, refl);
        pays_shown = λ k r y e o. absurd (omega (arith, ap (λ v. shown v (peer k r).port) o, only_self (peer k r).port 1, (none (peer k r).port).3));
      }

retry_alone : (w : Wake) (p : ℕ) → (retry w p ≡ 0) ⊎ (refused w p ≡ 0)
retry_alone (wakes.Event s) p = inl refl
retry_alone (wakes.Offer q x) p = inl refl
retry_alone (wakes.Taken q) p = inl refl
retry_alone (wakes.Refused q) p = inl refl
retry_alone (wakes.Retry q) p = inr refl
retry_alone (wakes.Line b l) p = inl refl
retry_alone (wakes.AtomicDone x l) p = inl refl

-- what a debt gives of the woken part
module _ (peer : ℕ → ℕ → End) (f : ℕ → Face) (wired : IsWired peer f) (items : List Item) (i : ℕ) (w : Wake) (answer : Answer) (d e : Debt)
    (net : Net peer f items d) (pays : Pays peer f i w answer d e) where
  -- who offers to the woken part asks, and so waits nowhere
  pub offerer : (p : ℕ) → 1 ≤ shown w p → (1 ≤ (f (peer i p).part).asked (peer i p).port) × ((f i).listed p ≡ 0)
  offerer p h =
      let c : End = peer i p in
      let back : peer c.part c.port ≡ record { part = i; port = p } = wired.both i p in
      let x = shown_pkt w p h in
      let none : retry w c.port ≡ 0 = ap (λ v. retry v c.port) x.1 in
      let calm : refused w c.port ≡ 0 = ap (λ v. refused v c.port) x.1 in
      let comes = ap (λ (t : End). only i t.part (shown w t.port)) back in
      let lists = ap (λ (t : End). (f t.part).listed t.port) back in
      let one : 1 ≤ (f c.part).asked c.port =
      omega (
        arith,
        comes,
        only_self i (shown w p),
        pays.coming c.part c.port,
        open_le d c.part c.port,
        pays.pays_retry c.part c.port,
        only_le i c.part (retry w c.port),
        net.asked c.part c.port,
      )
      in
      (one, omega (arith, one, (net.faces c.part).bits c.port, net.waits c.part c.port, pays.pays_refused c.part c.port, only_le i c.part (refused w c.port), lists))

  pub may_wake : ((n : ℕ) → w ≡ wakes.Event (record { 0 = n }) → (f i).due n ≡ true) → MayWake (f i) w
  may_wake fired =
      record {
        told = λ p. omega (arith, net.asked i p, pays.pays_told i p, only_self i (told w p));
        retry = λ p. by p (retry_alone w p);
        fired = fired;
        there = λ p h. there p h;
        fresh = λ p h. (offerer p h).1;
        fits = λ p x o. fits p x o;
      } where
        by : (p : ℕ) → (retry w p ≡ 0) ⊎ (refused w p ≡ 0) → retry w p ≤ (f i).waits p
        by p (inl z) = omega arith
        by p (inr z) = omega (arith, net.waits i p, pays.pays_retry i p, pays.pays_refused i p, only_self i (retry w p), only_self i (refused w p))

        there : (p : ℕ) → 1 ≤ shown w p → p < (f i).ports
        there p h =
            let c : End = peer i p in
            let back : peer c.part c.port ≡ record { part = i; port = p } = wired.both i p in
            let sends = (offerer p h).0 in
            subst (λ (t : End). t.port < (f t.part).ports) back (wired.real c.part c.port ((net.faces c.part).within c.port (omega (arith, sends))))

        fits : (p : ℕ) (x : Packet) → w ≡ wakes.Offer (record { 0 = p }) x → (f i).admits p x ≡ true
        fits p x o =
            let c : End = peer i p in
            let back : peer c.part c.port ≡ record { part = i; port = p } = wired.both i p in
            let one : 1 ≤ shown w p = omega (arith, ap (λ v. shown v p) o, only_self p 1) in
            let asks = (offerer p one).0 in
            let has = (net.faces c.part).offers_one c.port (omega (arith, asks)) in
            let head : (f c.part).head c.port ≡ Some x =
            pays.pays_shown c.part c.port x (sym (ap (λ (t : End). t.part) back)) (o ∙ sym (ap (λ (t : End). wakes.Offer (record { 0 = t.port }) x) back)) in
            let same : has.0 ≡ x = cc (has.1, head) in
            subst (λ (t : End). (f t.part).admits t.port x ≡ true) back (wired.fit c.part c.port x ((net.faces c.part).within c.port (omega (arith, asks))) (subst (λ y. (f c.part).sends c.port y ≡ true) same has.2))
