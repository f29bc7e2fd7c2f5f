-- Each step of a lane keeps its law, and a lane's law is the law of its part.
use Rattle.std.proofs.Common.{◌≡◌, ℕ, ◌+◌, ◌<◌, ◌≤◌, List, [], ◌∷◌, ◌++◌, refl, sym, ◌∙◌, ap, subst, arith, Some, Bool, true, false, ◌⊎◌, inl, inr, length, length-set, nat_lt, ◌&&◌, ◌||◌, ◌==◌, set, sum_by}
use Rattle.std.proofs.lemmas.Bool.{cases_eq, cases_lt}
use Rattle.std.proofs.lemmas.List.{get_or-set_same, get_or-set_other, get_or_past}
use Rattle.std.proofs.lemmas.List.Sums.{sum_by-set, get_or-le-sum_by}
use Rattle.gm_model.specs.Flows.{Outlet, Moved, LaneMoved, asked_bit, waits_bit, head_of, is_some_port, has_room, put_in, moved, open_in, opened, taken_in, call_at, answer_of, is_listed, joined_once}
use Rattle.gm_words.specs.Flow.{OutState, Quiet, Due, Asked, Waits, Queued, Flow, Lane, empty_lane}
use Rattle.gm_words.specs.Changes.{Change}
use Rattle.gm_model.specs.Xbar.{lane_at}
use Rattle.gm_words.specs.declared.act.Act.{Act}
use Rattle.gm_words.specs.declared.answer.Answer.{Answer}
use Rattle.gm_words.specs.declared.answer.Answer.TheVariants as answers
use Rattle.pkt_pool.specs.declared.packet.Packet.{Packet}
use Rattle.gm_words.specs.declared.wake.Wake.{Wake}
use Rattle.gm_words.specs.declared.wake.Wake.TheVariants as wakes
use Rattle.gm_laws.specs.Words.{offers, calls, IsIn, told, taken, refused, retry, shown, rejected, offer_out, weigh}
use Rattle.gm_laws.specs.Face.{Face, FaceOk, Law, Joins, CallsOne, passed_packets}
use Rattle.gm_laws.specs.Fuel.{weight}
use Rattle.gm_laws.specs.Faces.{IsFlow, IsLane, AllActsOk, stood, is_hungry, lanes_face}
use Rattle.gm_laws.proofs.Bytes.{same_is}
use Rattle.gm_laws.proofs.Counts.{only_same, only_self, only_other, rejected_pkt, rejected_le}
use Rattle.gm_laws.proofs.Flows.{FlowLaw, IsCalm, put_law, still_law, mute_offer}

-- the law of one step of a lane
pub record LaneLaw (eager : Lane → Bool) (o : Outlet) (a : Lane) (w : Wake) (b : Lane) (answer : Answer) (acts : List Act)
    (changes : List Change) : Type 0 where
  pub flow : FlowLaw o a.flow w b.flow acts changes
  pub listed : (q : ℕ) → stood q b.waiting + calls q acts ≡ stood q a.waiting + rejected w answer q
  pub feeds : (q : ℕ) (x : Packet) → w ≡ wakes.Offer (record { 0 = q }) x → eager b ≡ false
  pub hungry : eager b ≡ true → (eager a ≡ true) ⊎ ((q : ℕ) × (1 ≤ stood q a.waiting) × (1 ≤ calls q acts))

-- a wake that is about port p alone, or an offer
pub record IsAt (w : Wake) (p : ℕ) : Type 0 where
  pub told_at : (q : ℕ) → (p ≡ q → ⊥) → told w q ≡ 0
  pub refused_at : (q : ℕ) → (p ≡ q → ⊥) → refused w q ≡ 0
  pub retry_at : (q : ℕ) → (p ≡ q → ⊥) → retry w q ≡ 0

-- two faces whose ports are alike
pub record IsPortSame (f g : Face) : Type 0 where
  pub ports : g.ports ≡ f.ports
  pub asked : (p : ℕ) → g.asked p ≡ f.asked p
  pub waits : (p : ℕ) → g.waits p ≡ f.waits p
  pub head : (p : ℕ) → g.head p ≡ f.head p
  pub listed : (p : ℕ) → g.listed p ≡ f.listed p
  pub stands : (l p : ℕ) → g.stands l p ≡ f.stands l p
  pub hungry : (l : ℕ) → g.hungry l ≡ f.hungry l
  pub route : (x : Packet) → g.route x ≡ f.route x
  pub sends : (p : ℕ) (x : Packet) → g.sends p x ≡ f.sends p x
  pub admits : (p : ℕ) (x : Packet) → g.admits p x ≡ f.admits p x
  pub passes : (p : ℕ) → g.passes p ≡ f.passes p

-- a wake that says nothing to the ports, and changes nothing of them
pub stays_law : (f g : Face) (w : Wake) (answer : Answer) → FaceOk g → IsPortSame f g
    → ((p : ℕ) → (told w p ≡ 0) × (refused w p ≡ 0) × (retry w p ≡ 0) × (rejected w answer p ≡ 0))
    → ((q : ℕ) (x : Packet) → w ≡ wakes.Offer (record { 0 = q }) x → f.hungry (f.route x) ≡ false) → Law f w g answer []
stays_law f g w answer ok e none feeds =
    record {
      ok = ok;
      ports = e.ports;
      route = e.route;
      sends = e.sends;
      admits = e.admits;
      passes = e.passes;
      asked = λ p. omega (arith, (none p).0, e.asked p);
      waits = λ p. omega (arith, (none p).1, (none p).2, e.waits p);
      listed = λ p. omega (arith, (none p).3, e.listed p);
      joins = λ l p h. inl (omega (arith, h, e.stands l p));
      carries = λ p x h. absurd h;
      keeps = λ p h t. e.head p;
      again = λ p. omega (arith, (none p).2);
      feeds = λ q x o. e.hungry (f.route x) ∙ feeds q x o;
      hungry = λ l h. inl (sym (e.hungry l) ∙ h);
    }

pub stood-append : (p : ℕ) (xs ys : List ℕ) → stood p (xs ++ ys) ≡ stood p xs + stood p ys
stood-append p [] ys = omega arith
stood-append p (x ∷ xs) ys = omega (arith, stood-append p xs ys)

-- a bit is one out-state
pub asked_is : (items : List Queued) (out : OutState) → IsFlow items out → asked_bit out + waits_bit out ≤ 1
asked_is items Quiet v = omega arith
asked_is items Due v = omega arith
asked_is items Asked v = omega arith
asked_is items Waits v = omega arith

pub has_head : (items : List Queued) (out : OutState) → IsFlow items out → 1 ≤ asked_bit out + waits_bit out → (x : Packet) × (head_of items ≡ Some x)
has_head (x ∷ xs) out v h = (x.packet, refl)
has_head [] Quiet v h = absurd (omega arith)
has_head [] Due v h = absurd v
has_head [] Asked v h = absurd v
has_head [] Waits v h = absurd v

-- a step of the flow alone
pub moved_law : (places : ℕ) (o : Outlet) (l : Lane) (w : Wake) (m : Moved) → FlowLaw o l.flow w m.flow m.acts m.changes → IsCalm l.flow.items m
    → ((q : ℕ) → shown w q ≡ 0)
    → LaneLaw (is_hungry places) o l w (moved l m).lane answers.Nothing (moved l m).acts (moved l m).changes
moved_law places o l w m law calm quiet =
    record {
      flow = law;
      listed = λ q. omega (arith, calm.calls_none q, rejected_le w answers.Nothing q, quiet q);
      feeds = λ q x e. absurd (omega (arith, ap (λ v. shown v q) e, only_self q 1, quiet q));
      hungry = λ h. inl (subst (λ (xs : List Queued). (nat_lt (length xs) places && is_some_port l.waiting) ≡ true) calm.same h);
    }

-- a call beside it is nothing to the flow
pub called_law : (o : Outlet) (a : Flow) (w : Wake) (b : Flow) (acts : List Act) (changes : List Change) (r : ℕ) → FlowLaw o a w b acts changes
    → FlowLaw o a w b (call_at r ∷ acts) changes
called_law o a w b acts changes r law =
    record {
      ok = law.ok;
      asked = omega (arith, law.asked);
      waits = law.waits;
      due = law.due;
      carries = λ x h. law.carries x (not_call o.port x h);
      keeps = law.keeps;
      again = omega (arith, law.again);
      elsewhere = λ q n. omega (arith, law.elsewhere q n);
      other_due = law.other_due;
      mine = λ q x h. law.mine q x (not_call q x h);
    } where
      not_call : (q : ℕ) (x : Packet) → IsIn (offer_out q x) (call_at r ∷ acts) → IsIn (offer_out q x) acts
      not_call q x (inl e) = absurd (cc e)
      not_call q x (inr h) = h

-- the head is gone: where there is room, the first that waits is called
pub opened_law : (places : ℕ) (o : Outlet) (a : Flow) (w : Wake) (m : Moved) (waiting : List ℕ) → FlowLaw o a w m.flow m.acts m.changes → m.acts ≡ []
    → ((q : ℕ) → shown w q ≡ 0) → (let b : LaneMoved = opened places m waiting in
    LaneLaw (is_hungry places) o (record { flow = a; waiting = waiting }) w b.lane answers.Nothing b.acts b.changes)
opened_law places o a w m waiting law none quiet = by (nat_lt (length m.flow.items) places) waiting refl where
  by : (room : Bool) (ps : List ℕ) → nat_lt (length m.flow.items) places ≡ room
      → (let b : LaneMoved = open_in room m ps in LaneLaw (is_hungry places) o (record { flow = a; waiting = ps }) w b.lane answers.Nothing b.acts b.changes)
  by false ps e =
      record {
        flow = law;
        listed = λ q. omega (arith, ap (calls q) none, rejected_le w answers.Nothing q, quiet q);
        feeds = λ q x t. absurd (omega (arith, ap (λ v. shown v q) t, only_self q 1, quiet q));
        hungry = λ h. absurd (full (nat_lt (length m.flow.items) places) (is_some_port ps) e h);
      } where
        full : (r s : Bool) → r ≡ false → (r && s) ≡ true → ⊥
        full true s f h = cc
        full false s f h = cc
  by true [] e =
      record {
        flow = law;
        listed = λ q. omega (arith, ap (calls q) none, rejected_le w answers.Nothing q, quiet q);
        feeds = λ q x t. absurd (omega (arith, ap (λ v. shown v q) t, only_self q 1, quiet q));
        hungry = λ h. absurd (empty (nat_lt (length m.flow.items) places) h);
      } where
        empty : (r : Bool) → (r && false) ≡ true → ⊥
        empty true h = cc
        empty false h = cc
  by true (r ∷ rs) e = record {
    flow = called_law o a w m.flow m.acts m.changes r law;
    listed = λ q. omega (arith, ap (calls q) none, rejected_le w answers.Nothing q, quiet q);
    feeds = λ q x t. absurd (omega (arith, ap (λ v. shown v q) t, only_self q 1, quiet q));
    hungry = λ h. inr (r, omega (arith, only_self r 1), omega (arith, only_self r 1));
  }

-- what such a step leaves and asks for
pub opened_items : (m : Moved) (room : Bool) (xs : List ℕ) → (open_in room m xs).lane.flow.items ≡ m.flow.items
opened_items m false xs = refl
opened_items m true [] = refl
opened_items m true (x ∷ xs) = refl

pub opened_flow : (m : Moved) (room : Bool) (xs : List ℕ) → (open_in room m xs).lane.flow ≡ m.flow
opened_flow m false xs = refl
opened_flow m true [] = refl
opened_flow m true (x ∷ xs) = refl

pub opened_passed : (m : Moved) (room : Bool) (xs : List ℕ) → m.acts ≡ []
    → (passed_packets (open_in room m xs).acts ≡ []) × AllActsOk (open_in room m xs).acts × (weight (open_in room m xs).acts ≤ 2) × ((p : ℕ) → offers p (open_in room m xs).acts ≡ 0)
opened_passed m false xs e = (ap passed_packets e, subst AllActsOk (sym e) tt, omega (arith, ap weight e), λ p. ap (offers p) e)
opened_passed m true [] e = (ap passed_packets e, subst AllActsOk (sym e) tt, omega (arith, ap weight e), λ p. ap (offers p) e)
opened_passed m true (x ∷ xs) e = (ap passed_packets e, (tt, subst AllActsOk (sym e) tt), omega (arith, ap weight e), λ p. omega (arith, ap (offers p) e))

-- a port that isn't in a list joins it at the end
pub not_listed : (q : ℕ) (ps : List ℕ) → stood q ps ≡ 0 → is_listed q ps ≡ false
unfolding is_listed
not_listed q [] h = refl
not_listed q (p ∷ ps) h = by (p == q) refl (not_listed q ps (omega (arith, h))) where
  by : (b : Bool) → (p == q) ≡ b → is_listed q ps ≡ false → (b || is_listed q ps) ≡ false
  by true e r = absurd (omega (arith, h, only_same p q 1 (same_is p q e)))
  by false e r = r

pub joins_last : (q : ℕ) (ps : List ℕ) → stood q ps ≡ 0 → joined_once q ps ≡ ps ++ q ∷ []
joins_last q ps h = rw (not_listed q ps h) refl

-- an offer at q: a place, or the end of the list. Where places are left, nobody may wait for them
pub offer_law : (places : ℕ) (o : Outlet) (q : ℕ) (l : Lane) (x y : Packet) (ready : ℕ) → IsLane l
    → ((nat_lt (length (put_in o y ready l.flow.items l.flow.out).flow.items) places && is_some_port l.waiting) ≡ false) → stood q l.waiting ≡ 0
    → (let m : LaneMoved = taken_in o l q y ready (has_room places l) in
    LaneLaw (is_hungry places) o l (wakes.Offer (record { 0 = q }) x) m.lane (answer_of (has_room places l)) m.acts m.changes)
offer_law places o q l x y ready ok full fresh = by (has_room places l) refl where
  no_call : (items : List Queued) (out : OutState) (r : ℕ) → calls r (put_in o y ready items out).acts ≡ 0
  no_call [] out r = refl
  no_call (z ∷ zs) out r = refl

  no_room : (b c : Bool) → b ≡ false → (b && c) ≡ false
  no_room true c e = cc
  no_room false c e = refl

  by : (room : Bool) → has_room places l ≡ room
      → (let m : LaneMoved = taken_in o l q y ready room in LaneLaw (is_hungry places) o l (wakes.Offer (record { 0 = q }) x) m.lane (answer_of room) m.acts m.changes)
  by true e =
      record {
        flow = put_law o (wakes.Offer (record { 0 = q }) x) y ready l.flow.items l.flow.out ok (mute_offer q x);
        listed = λ r. omega (arith, no_call l.flow.items l.flow.out r);
        feeds = λ r z t. full;
        hungry = λ h. absurd (cc (full, h));
      }
  by false e =
      record {
        flow = still_law o l.flow (wakes.Offer (record { 0 = q }) x) ok (mute_offer q x);
        listed = λ r. omega (arith, stood-append r l.waiting (q ∷ []), ap (stood r) (joins_last q l.waiting fresh));
        feeds = λ r z t. no_room (has_room places l) (is_some_port (joined_once q l.waiting)) e;
        hungry = λ h. absurd (cc (no_room (has_room places l) (is_some_port (joined_once q l.waiting)) e, h));
      }

-- what is offered may be sent, and is held
pub record AreSent (t : Face) (lanes : List Lane) : Type 0 where
  pub sends : (p : ℕ) (x : Packet) → 1 ≤ asked_bit (lane_at lanes p).flow.out + waits_bit (lane_at lanes p).flow.out
      → head_of (lane_at lanes p).flow.items ≡ Some x → t.sends p x ≡ true
  pub holds : (p : ℕ) (x : Packet) → head_of (lane_at lanes p).flow.items ≡ Some x → (h : Packet → ℕ) → h x ≤ weigh h t.packets
  pub timed : t.instant ≡ false

-- the face of lanes that are flows
pub lanes_ok : (t : Face) (eager : Lane → Bool) (lanes : List Lane) (route : Packet → ℕ) → ((p : ℕ) → IsLane (lane_at lanes p)) → AreSent t lanes
    → FaceOk (lanes_face t eager lanes route)
lanes_ok t eager lanes route ok sent =
    record {
      bits = λ p. asked_is (lane_at lanes p).flow.items (lane_at lanes p).flow.out (ok p);
      within = λ p h. by p h (cases_lt p (length lanes));
      offers_one = λ p h. (let x = has_head (lane_at lanes p).flow.items (lane_at lanes p).flow.out (ok p) h in (x.0, x.1, sent.sends p x.0 h x.1));
      lists = λ l p. below l p (cases_lt l (length lanes));
      holds = λ p x h e. sent.holds p x e;
      portless = λ e. absurd (cc (e, sent.timed));
    } where
      by : (p : ℕ) → 1 ≤ asked_bit (lane_at lanes p).flow.out + waits_bit (lane_at lanes p).flow.out → (p < length lanes) ⊎ (length lanes ≤ p)
          → p < length lanes
      by p h (inl b) = b
      by p h (inr b) =
          let none : lane_at lanes p ≡ empty_lane = get_or_past lanes p empty_lane b in
          absurd (omega (arith, ap (λ (l : Lane). asked_bit l.flow.out + waits_bit l.flow.out) none))

      below : (l p : ℕ) → (l < length lanes) ⊎ (length lanes ≤ l) → stood p (lane_at lanes l).waiting ≤ sum_by (λ (k : Lane). stood p k.waiting) lanes
      below l p (inl b) = get_or-le-sum_by (λ (k : Lane). stood p k.waiting) lanes l empty_lane b
      below l p (inr b) =
          let none : lane_at lanes l ≡ empty_lane = get_or_past lanes l empty_lane b in
          omega (arith, ap (λ (k : Lane). stood p k.waiting) none)

module _ (eager : Lane → Bool) (lanes : List Lane) (o : Outlet) (b : Lane) (w : Wake) (answer : Answer) (acts : List Act) (changes : List Change)
    (here : o.port < length lanes) (ok : (q : ℕ) → IsLane (lane_at lanes q)) (law : LaneLaw eager o (lane_at lanes o.port) w b answer acts changes) where
  lane_same : lane_at (set lanes o.port b) o.port ≡ b
  lane_same = get_or-set_same lanes o.port b empty_lane here

  lane_other : (q : ℕ) → (o.port ≡ q → ⊥) → lane_at (set lanes o.port b) q ≡ lane_at lanes q
  lane_other q n = get_or-set_other lanes o.port q b empty_lane (λ e. n (sym e))

  -- what holds of the lane that moved, and of the others, holds of each
  pub each : (P : ℕ → Lane → Lane → Type 0) → P o.port (lane_at lanes o.port) b → ((q : ℕ) → (o.port ≡ q → ⊥) → P q (lane_at lanes q) (lane_at lanes q))
      → (q : ℕ)
      → P q (lane_at lanes q) (lane_at (set lanes o.port b) q)
  each P mine other q = by (cases_eq o.port q) where
    by : (o.port ≡ q) ⊎ (o.port ≡ q → ⊥) → P q (lane_at lanes q) (lane_at (set lanes o.port b) q)
    by (inl e) = subst (λ r. P r (lane_at lanes r) (lane_at (set lanes o.port b) r)) e (subst (λ l. P o.port (lane_at lanes o.port) l) (sym lane_same) mine)
    by (inr n) = subst (λ l. P q (lane_at lanes q) l) (sym (lane_other q n)) (other q n)

  pub lanes_keep : (q : ℕ) → IsLane (lane_at (set lanes o.port b) q)
  lanes_keep = each (λ q a c. IsLane c) law.flow.ok (λ q n. ok q)

  pub lanes_law : (t u : Face) (route to : Packet → ℕ) → IsAt w o.port → ((q : ℕ) (x : Packet) → w ≡ wakes.Offer (record { 0 = q }) x → route x ≡ o.port)
      → ((x : Packet) → to x ≡ route x)
      → ((p : ℕ) (x : Packet) → u.sends p x ≡ t.sends p x) → ((p : ℕ) (x : Packet) → u.admits p x ≡ t.admits p x) → ((p : ℕ) → u.passes p ≡ t.passes p)
      → AreSent u (set lanes o.port b) → Law (lanes_face t eager lanes route) w (lanes_face u eager (set lanes o.port b) to) answer acts
  lanes_law t u route to at routes same sends admits passes sent =
      record {
        ok = lanes_ok u eager (set lanes o.port b) to lanes_keep sent;
        ports = length-set lanes o.port b;
        route = same;
        sends = sends;
        admits = admits;
        passes = passes;
        asked =
            each (λ q a c. asked_bit c.flow.out + told w q ≡ asked_bit a.flow.out + offers q acts) law.flow.asked
            (λ q n. omega (arith, at.told_at q n, law.flow.elsewhere q n));
        waits =
            each (λ q a c. waits_bit c.flow.out + retry w q ≡ waits_bit a.flow.out + refused w q) law.flow.waits
            (λ q n. omega (arith, at.retry_at q n, at.refused_at q n));
        listed = λ q. omega (arith, sum_by-set (λ (k : Lane). stood q k.waiting) lanes o.port b empty_lane here, law.listed q);
        joins = λ l q. joins l q;
        carries =
            λ q x h. subst (λ r. head_of (lane_at (set lanes o.port b) r).flow.items ≡ Some x) (law.flow.mine q x h)
            (ap (λ (l : Lane). head_of l.flow.items) lane_same ∙ law.flow.carries x (subst (λ r. IsIn (offer_out r x) acts) (sym (law.flow.mine q x h)) h));
        keeps =
            each (λ q a c. 1 ≤ asked_bit a.flow.out + waits_bit a.flow.out → taken w q ≡ 0 → head_of c.flow.items ≡ head_of a.flow.items) law.flow.keeps
            (λ q n h z. refl);
        again = each (λ q a c. retry w q ≤ offers q acts) law.flow.again (λ q n. omega (arith, at.retry_at q n));
        feeds = λ q x e. subst (λ r. eager (lane_at (set lanes o.port b) r) ≡ false) (sym (routes q x e)) (ap eager lane_same ∙ law.feeds q x e);
        hungry = λ l. hungry l;
      } where
        joins : (l q : ℕ) → 1 ≤ stood q (lane_at (set lanes o.port b) l).waiting
            → (1 ≤ stood q (lane_at lanes l).waiting) ⊎ Joins (lanes_face t eager lanes route) w answer l q
        joins l q =
            each (λ k a c. 1 ≤ stood q c.waiting → (1 ≤ stood q a.waiting) ⊎ Joins (lanes_face t eager lanes route) w answer k q) mine (λ k n h. inl h) l where
              mine : 1 ≤ stood q b.waiting → (1 ≤ stood q (lane_at lanes o.port).waiting) ⊎ Joins (lanes_face t eager lanes route) w answer o.port q
              mine h = by (cases_lt 0 (stood q (lane_at lanes o.port).waiting)) where
                by : (0 < stood q (lane_at lanes o.port).waiting) ⊎ (stood q (lane_at lanes o.port).waiting ≤ 0)
                    → (1 ≤ stood q (lane_at lanes o.port).waiting) ⊎ Joins (lanes_face t eager lanes route) w answer o.port q
                by (inl h) = inl h
                by (inr z) =
                    let turned : 1 ≤ rejected w answer q = omega (arith, law.listed q) in
                    let r = rejected_pkt w answer q turned in
                    inr (record { pkt = r.0; offer = r.1; there = routes q r.0 r.1; turned = turned })

        hungry : (l : ℕ) → eager (lane_at (set lanes o.port b) l) ≡ true
            → (eager (lane_at lanes l) ≡ true) ⊎ CallsOne (lanes_face t eager lanes route) acts l
        hungry =
            each (λ k a c. eager c ≡ true → (eager a ≡ true) ⊎ CallsOne (lanes_face t eager lanes route) acts k) (λ h. mine (law.hungry h))
            (λ k n h. inl h) where
              mine : (eager (lane_at lanes o.port) ≡ true) ⊎ ((q : ℕ) × (1 ≤ stood q (lane_at lanes o.port).waiting) × (1 ≤ calls q acts))
                  → (eager (lane_at lanes o.port) ≡ true) ⊎ CallsOne (lanes_face t eager lanes route) acts o.port
              mine (inl h) = inl h
              mine (inr r) = inr (record { port = r.0; stood = r.1; called = r.2 })

-- which wakes are about a port alone
pub event_at : (s p : ℕ) → IsAt (wakes.Event (record { 0 = s })) p
event_at s p = record { told_at = λ q n. refl; refused_at = λ q n. refl; retry_at = λ q n. refl }

pub taken_at : (p : ℕ) → IsAt (wakes.Taken (record { 0 = p })) p
taken_at p = record { told_at = λ q n. only_other p q 1 n; refused_at = λ q n. refl; retry_at = λ q n. refl }

pub refused_at : (p : ℕ) → IsAt (wakes.Refused (record { 0 = p })) p
refused_at p = record { told_at = λ q n. only_other p q 1 n; refused_at = λ q n. only_other p q 1 n; retry_at = λ q n. refl }

pub retry_at : (p : ℕ) → IsAt (wakes.Retry (record { 0 = p })) p
retry_at p = record { told_at = λ q n. refl; refused_at = λ q n. refl; retry_at = λ q n. only_other p q 1 n }

pub offer_at_port : (p q : ℕ) (x : Packet) → IsAt (wakes.Offer (record { 0 = q }) x) p
offer_at_port p q x = record { told_at = λ q n. refl; refused_at = λ q n. refl; retry_at = λ q n. refl }

pub line_at_port : (p b : ℕ) (l : Bool) → IsAt (wakes.Line b l) p
line_at_port p b l = record { told_at = λ q n. refl; refused_at = λ q n. refl; retry_at = λ q n. refl }
