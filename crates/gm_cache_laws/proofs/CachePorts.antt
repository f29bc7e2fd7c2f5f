-- A cache's queues are flows; how they grow in a wake, and that a call is nothing to them.
use Rattle.std.proofs.Common.{◌≡◌, ℕ, zero, suc, ◌+◌, ◌≤◌, List, [], ◌∷◌, ◌++◌, refl, sym, ◌∙◌, ap, subst, arith, Bool, true, false, not, ◌==◌, ◌&&◌, ◌⊎◌, inl, inr, Some}
use Rattle.std.proofs.lemmas.Bool.{and_parts}
use Rattle.cache_tags.specs.Line.{Line}
use Rattle.gm_cache.specs.State.{CacheState, Register, packets_in, targets_in, above, answers_outlet, leaving_outlet}
use Rattle.gm_cache.specs.Rule.{is_blocked}
use Rattle.gm_cache_laws.specs.Face.{cache_lanes, cache_due, cache_rest, cache_ports, is_eager, cache_face, IsCacheOk}
use Rattle.gm_laws.specs.Words.{IsIn, offer_out, weigh}
use Rattle.gm_laws.specs.Face.{FaceOk, Law, Joins}
use Rattle.gm_laws.specs.Faces.{IsFlow, IsLane, AllMeet, stood}
use Rattle.gm_laws.proofs.Calm.{no_both}
use Rattle.gm_laws.proofs.Counts.{IsIn-append}
use Rattle.gm_laws.proofs.Flows.{put_law, mute_line, put_weigh, head_held}
use Rattle.gm_laws.proofs.Lanes.{AreSent, lanes_ok}
use Rattle.gm_laws.proofs.Sides.{offers-append, calls-append}
use Rattle.gm_laws.proofs.Weights.{weigh-append}
use Rattle.gm_model.specs.Flows.{Outlet, Moved, asked_bit, waits_bit, is_due_out, head_of, put_in, call_at}
use Rattle.gm_model.specs.Server.{waiting_of}
use Rattle.gm_model.specs.View.{queued_packets}
use Rattle.gm_model.specs.Xbar.{lane_at}
use Rattle.gm_words.specs.Changes.{Change, Schedule, Remove, due_after}
use Rattle.gm_words.specs.Flow.{OutState, Quiet, Due, Asked, Waits, Queued, Flow}
use Rattle.gm_words.specs.declared.act.Act.{Act}
use Rattle.gm_words.specs.declared.answer.Answer.{Answer}
use Rattle.gm_words.specs.declared.answer.Answer.TheVariants as answers
use Rattle.gm_words.specs.declared.wake.Wake.{Wake}
use Rattle.gm_words.specs.declared.wake.Wake.TheVariants as wakes
use Rattle.pkt_pool.specs.Packet.{is_response}
use Rattle.pkt_pool.specs.declared.packet.Packet.{Packet}

-- Flows.

-- each queue is a flow, of responses above and of requests below
pub record AreFlows (s : CacheState) : Type 0 where
  pub answers : IsFlow s.answers.items s.answers.out
  pub leaving : IsFlow s.leaving.items s.leaving.out
  pub responses : AllMeet (λ x. is_response x.cmd) s.answers.items
  pub requests : AllMeet (λ x. not (is_response x.cmd)) s.leaving.items

pub flows_of : (s : CacheState) → IsCacheOk s → AreFlows s
flows_of s ok = record { answers = ok.answers; leaving = ok.leaving; responses = ok.responses; requests = ok.requests }

pub two_lanes : (s : CacheState) → AreFlows s → (q : ℕ) → IsLane (lane_at (cache_lanes s) q)
two_lanes s ok zero = ok.answers
two_lanes s ok (suc zero) = ok.leaving
two_lanes s ok (suc (suc q)) = tt

-- what is held, by where it is
pub packets_weigh : (h : Packet → ℕ) (s : CacheState)
    → weigh h (packets_in s) ≡ weigh h (queued_packets s.answers.items) + weigh h (targets_in s.registers) + weigh h (queued_packets s.leaving.items)
packets_weigh h s =
    weigh-append h (queued_packets s.answers.items ++ targets_in s.registers) (queued_packets s.leaving.items)
    ∙ omega (arith, weigh-append h (queued_packets s.answers.items) (targets_in s.registers))

head_meets : (t : Packet → Bool) (items : List Queued) (x : Packet) → AllMeet t items → head_of items ≡ Some x → t x ≡ true
head_meets t [] x h e = cc
head_meets t (y ∷ ys) x h e = let k : y.packet ≡ x = cc e in subst (λ z. t z ≡ true) k h.0

pub sent_of : (s : CacheState) → AreFlows s → AreSent (cache_rest s) (cache_lanes s)
sent_of s ok = record { sends = sends; holds = holds; timed = refl } where
  sends : (p : ℕ) (x : Packet) → 1 ≤ asked_bit (lane_at (cache_lanes s) p).flow.out + waits_bit (lane_at (cache_lanes s) p).flow.out
      → head_of (lane_at (cache_lanes s) p).flow.items ≡ Some x → (cache_rest s).sends p x ≡ true
  sends zero x b e = head_meets (λ y. is_response y.cmd) s.answers.items x ok.responses e
  sends (suc zero) x b e = head_meets (λ y. not (is_response y.cmd)) s.leaving.items x ok.requests e
  sends (suc (suc p)) x b e = cc

  holds : (p : ℕ) (x : Packet) → head_of (lane_at (cache_lanes s) p).flow.items ≡ Some x → (h : Packet → ℕ) → h x ≤ weigh h (packets_in s)
  holds zero x e h = omega (arith, packets_weigh h s, head_held s.answers.items x h e)
  holds (suc zero) x e h = omega (arith, packets_weigh h s, head_held s.leaving.items x h e)
  holds (suc (suc p)) x e h = cc

pub ports_ok : (s : CacheState) → AreFlows s → FaceOk (cache_ports s)
ports_ok s ok = lanes_ok (cache_rest s) (λ l. false) (cache_lanes s) (λ x. 0) (two_lanes s ok) (sent_of s ok)

-- Queues grow.

pub due_append : (cs ds : List Change) (x : Bool) (n : ℕ) → due_after (cs ++ ds) x n ≡ due_after ds (due_after cs x n) n
due_append [] ds x n = refl
due_append (Schedule slot class at ∷ cs) ds x n = due_append cs ds _ n
due_append (Remove slot ∷ cs) ds x n = due_append cs ds _ n

put_meets : (t : Packet → Bool) (o : Outlet) (y : Packet) (ready : ℕ) (items : List Queued) (out : OutState) → AllMeet t items → t y ≡ true
    → AllMeet t (put_in o y ready items out).flow.items
put_meets t o y ready [] out h e = (e, tt)
put_meets t o y ready (x ∷ xs) out h e = more (x ∷ xs) h where
  more : (zs : List Queued) → AllMeet t zs → AllMeet t (zs ++ record { packet = y; ready = ready } ∷ [])
  more [] h = (e, tt)
  more (z ∷ zs) h = (h.0, more zs h.1)

-- a flow that grew: its first packet stands as it did, and is the same where it is offered
pub record Longer (a b : Flow) : Type 0 where
  pub asked : asked_bit b.out ≡ asked_bit a.out
  pub waits : waits_bit b.out ≡ waits_bit a.out
  pub head : 1 ≤ asked_bit a.out + waits_bit a.out → head_of b.items ≡ head_of a.items

put_longer : (o : Outlet) (y : Packet) (ready : ℕ) (items : List Queued) (out : OutState) → IsFlow items out
    → Longer (record { items = items; out = out }) (put_in o y ready items out).flow
put_longer o y ready [] Quiet v = record { asked = refl; waits = refl; head = λ h. absurd (omega (arith, h)) }
put_longer o y ready [] Due v = absurd v
put_longer o y ready [] Asked v = absurd v
put_longer o y ready [] Waits v = absurd v
put_longer o y ready (z ∷ zs) out v = record { asked = refl; waits = refl; head = λ h. refl }

longer_then : (a b c : Flow) → Longer a b → Longer b c → Longer a c
longer_then a b c p q = record {
  asked = q.asked ∙ p.asked;
  waits = q.waits ∙ p.waits;
  head = λ h. q.head (omega (arith, h, p.asked, p.waits)) ∙ p.head h;
}

-- in a wake so far packets came into the queues, and nothing else of the ports changed
pub record Grown (s t : CacheState) (changes : List Change) : Type 0 where
  pub flows : AreFlows t
  pub answers : Longer s.answers t.answers
  pub leaving : Longer s.leaving t.leaving
  pub waiter : t.waiter ≡ s.waiter
  pub due : (n : ℕ) → cache_due t n ≡ due_after changes (cache_due s n) n

pub grown_none : (s : CacheState) → AreFlows s → Grown s s []
grown_none s ok = record {
  flows = ok;
  answers = record { asked = refl; waits = refl; head = λ h. refl };
  leaving = record { asked = refl; waits = refl; head = λ h. refl };
  waiter = refl;
  due = λ n. refl;
}

-- the lines and the registers are nothing to the ports
pub grown_tags : (s t : CacheState) (cs : List Change) (ls : List (List Line)) (rs : List Register) → Grown s t cs
    → Grown s (record t { lines = ls; registers = rs }) cs
grown_tags s t cs ls rs g = record {
  flows = record { answers = g.flows.answers; leaving = g.flows.leaving; responses = g.flows.responses; requests = g.flows.requests };
  answers = g.answers;
  leaving = g.leaving;
  waiter = g.waiter;
  due = g.due;
}

pub grown_above : (s t : CacheState) (cs : List Change) (y : Packet) (ready : ℕ) → is_response y.cmd ≡ true → Grown s t cs
    → (let f : Moved = put_in answers_outlet y ready t.answers.items t.answers.out in Grown s (record t { answers = f.flow }) (cs ++ f.changes))
grown_above s t cs y ready e g =
    let f : Moved = put_in answers_outlet y ready t.answers.items t.answers.out in
    let law = put_law answers_outlet (wakes.Line 0 false) y ready t.answers.items t.answers.out g.flows.answers (mute_line 0 false) in
    record {
      flows = record {
        answers = law.ok;
        leaving = g.flows.leaving;
        responses = put_meets (λ x. is_response x.cmd) answers_outlet y ready t.answers.items t.answers.out g.flows.responses e;
        requests = g.flows.requests;
      };
      answers = longer_then s.answers t.answers f.flow g.answers (put_longer answers_outlet y ready t.answers.items t.answers.out g.flows.answers);
      leaving = g.leaving;
      waiter = g.waiter;
      due = due;
    } where
      f : Moved
      f = put_in answers_outlet y ready t.answers.items t.answers.out

      due : (n : ℕ) → cache_due (let u : CacheState = record t { answers = f.flow } in u) n ≡ due_after (cs ++ f.changes) (cache_due s n) n
      due zero =
          (put_law answers_outlet (wakes.Line 0 false) y ready t.answers.items t.answers.out g.flows.answers (mute_line 0 false)).due
          ∙ (ap (λ b. due_after f.changes b 0) (g.due 0) ∙ sym (due_append cs f.changes (cache_due s 0) 0))
      due (suc n) =
          g.due (suc n)
          ∙ (sym ((put_law answers_outlet (wakes.Line 0 false) y ready t.answers.items t.answers.out g.flows.answers (mute_line 0 false)).other_due (suc n)
          (due_after cs (cache_due s (suc n)) (suc n)) (λ k. omega (arith, k)))
          ∙ sym (due_append cs f.changes (cache_due s (suc n)) (suc n)))

pub grown_below : (s t : CacheState) (cs : List Change) (y : Packet) (ready : ℕ) → not (is_response y.cmd) ≡ true → Grown s t cs
    → (let f : Moved = put_in leaving_outlet y ready t.leaving.items t.leaving.out in Grown s (record t { leaving = f.flow }) (cs ++ f.changes))
grown_below s t cs y ready e g =
    let f : Moved = put_in leaving_outlet y ready t.leaving.items t.leaving.out in
    let law = put_law leaving_outlet (wakes.Line 0 false) y ready t.leaving.items t.leaving.out g.flows.leaving (mute_line 0 false) in
    record {
      flows = record {
        answers = g.flows.answers;
        leaving = law.ok;
        responses = g.flows.responses;
        requests = put_meets (λ x. not (is_response x.cmd)) leaving_outlet y ready t.leaving.items t.leaving.out g.flows.requests e;
      };
      answers = g.answers;
      leaving = longer_then s.leaving t.leaving f.flow g.leaving (put_longer leaving_outlet y ready t.leaving.items t.leaving.out g.flows.leaving);
      waiter = g.waiter;
      due = due;
    } where
      f : Moved
      f = put_in leaving_outlet y ready t.leaving.items t.leaving.out

      other : (n : ℕ) → (1 ≡ n → ⊥) → due_after cs (cache_due s n) n ≡ due_after (cs ++ f.changes) (cache_due s n) n
      other n k =
          sym ((put_law leaving_outlet (wakes.Line 0 false) y ready t.leaving.items t.leaving.out g.flows.leaving (mute_line 0 false)).other_due n
          (due_after cs (cache_due s n) n) k)
          ∙ sym (due_append cs f.changes (cache_due s n) n)

      due : (n : ℕ) → cache_due (let u : CacheState = record t { leaving = f.flow } in u) n ≡ due_after (cs ++ f.changes) (cache_due s n) n
      due zero = g.due 0 ∙ other 0 (λ k. omega (arith, k))
      due (suc zero) =
          (put_law leaving_outlet (wakes.Line 0 false) y ready t.leaving.items t.leaving.out g.flows.leaving (mute_line 0 false)).due
          ∙ (ap (λ b. due_after f.changes b 1) (g.due 1) ∙ sym (due_append cs f.changes (cache_due s 1) 1))
      due (suc (suc n)) = g.due (suc (suc n)) ∙ other (suc (suc n)) (λ k. omega (arith, k))

-- a packet more in a queue
pub above_weigh : (h : Packet → ℕ) (s : CacheState) (y : Packet) (ready : ℕ)
    → (let f : Moved = put_in answers_outlet y ready s.answers.items s.answers.out in
    let t : CacheState = record s { answers = f.flow } in weigh h (packets_in t) ≡ weigh h (packets_in s) + h y)
above_weigh h s y ready =
    let f : Moved = put_in answers_outlet y ready s.answers.items s.answers.out in
    let t : CacheState = record s { answers = f.flow } in
    omega (arith, packets_weigh h s, packets_weigh h t, put_weigh h answers_outlet y ready s.answers.items s.answers.out)

pub below_weigh : (h : Packet → ℕ) (s : CacheState) (y : Packet) (ready : ℕ)
    → (let f : Moved = put_in leaving_outlet y ready s.leaving.items s.leaving.out in
    let t : CacheState = record s { leaving = f.flow } in weigh h (packets_in t) ≡ weigh h (packets_in s) + h y)
below_weigh h s y ready =
    let f : Moved = put_in leaving_outlet y ready s.leaving.items s.leaving.out in
    let t : CacheState = record s { leaving = f.flow } in
    omega (arith, packets_weigh h s, packets_weigh h t, put_weigh h leaving_outlet y ready s.leaving.items s.leaving.out)

-- an offer that is taken: the queues grew
pub grown_law : (s t : CacheState) (cs : List Change) (q : ℕ) (x : Packet) → Grown s t cs
    → Law (cache_ports s) (wakes.Offer (record { 0 = q }) x) (cache_ports t) answers.Taken []
grown_law s t cs q x g =
    record {
      ok = ports_ok t g.flows;
      ports = refl;
      route = λ y. refl;
      sends = λ p y. refl;
      admits = λ p y. refl;
      passes = λ p. refl;
      asked = asked;
      waits = waits;
      listed = λ p. omega (arith, ap (λ b. stood p (waiting_of b)) g.waiter);
      joins = λ l p h. inl (joins l p h);
      carries = λ p y h. absurd h;
      keeps = λ p h z. keeps p h;
      again = λ p. omega arith;
      feeds = λ p y e. refl;
      hungry = λ l h. absurd (cc h);
    } where
      asked : (p : ℕ) → asked_bit (lane_at (cache_lanes t) p).flow.out + 0 ≡ asked_bit (lane_at (cache_lanes s) p).flow.out + 0
      asked zero = omega (arith, g.answers.asked)
      asked (suc zero) = omega (arith, g.leaving.asked)
      asked (suc (suc p)) = refl

      waits : (p : ℕ) → waits_bit (lane_at (cache_lanes t) p).flow.out + 0 ≡ waits_bit (lane_at (cache_lanes s) p).flow.out + 0
      waits zero = omega (arith, g.answers.waits)
      waits (suc zero) = omega (arith, g.leaving.waits)
      waits (suc (suc p)) = refl

      keeps : (p : ℕ) → 1 ≤ asked_bit (lane_at (cache_lanes s) p).flow.out + waits_bit (lane_at (cache_lanes s) p).flow.out
          → head_of (lane_at (cache_lanes t) p).flow.items ≡ head_of (lane_at (cache_lanes s) p).flow.items
      keeps zero h = g.answers.head h
      keeps (suc zero) h = g.leaving.head h
      keeps (suc (suc p)) h = refl

      joins : (l p : ℕ) → 1 ≤ stood p (lane_at (cache_lanes t) l).waiting → 1 ≤ stood p (lane_at (cache_lanes s) l).waiting
      joins zero p h = omega (arith, h, ap (λ b. stood p (waiting_of b)) g.waiter)
      joins (suc zero) p h = h
      joins (suc (suc l)) p h = h

-- The call at the end.

-- the cache after who waits was called
abbrev pub alone : CacheState → CacheState
alone s = record s { waiter = false }

alone_flow : (s : CacheState) (p : ℕ) → (lane_at (cache_lanes (alone s)) p).flow ≡ (lane_at (cache_lanes s) p).flow
alone_flow s zero = refl
alone_flow s (suc zero) = refl
alone_flow s (suc (suc p)) = refl

pub alone_due : (s : CacheState) (n : ℕ) → cache_due (alone s) n ≡ cache_due s n
alone_due s n = ap (λ (f : Flow). is_due_out f.out) (alone_flow s n)

pub alone_flows : (s : CacheState) → AreFlows s → AreFlows (alone s)
alone_flows s ok = record { answers = ok.answers; leaving = ok.leaving; responses = ok.responses; requests = ok.requests }

pub called_law : (s t : CacheState) (w : Wake) (answer : Answer) (acts : List Act) → AreFlows t → t.waiter ≡ true
    → Law (cache_ports s) w (cache_ports t) answer acts → Law (cache_ports s) w (cache_ports (alone t)) answer (acts ++ call_at above ∷ [])
called_law s t w answer acts ok e law =
    record {
      ok = ports_ok (alone t) (alone_flows t ok);
      ports = law.ports;
      route = law.route;
      sends = law.sends;
      admits = law.admits;
      passes = law.passes;
      asked = λ p. omega (arith, law.asked p, offers-append p acts (call_at above ∷ []), ap (λ (f : Flow). asked_bit f.out) (alone_flow t p));
      waits = λ p. omega (arith, law.waits p, ap (λ (f : Flow). waits_bit f.out) (alone_flow t p));
      listed = λ p. omega (arith, law.listed p, calls-append p acts (call_at above ∷ []), ap (λ b. stood p (waiting_of b)) e);
      joins = λ l p h. absurd (nobody l p h);
      carries =
          λ p x h. ap (λ (f : Flow). head_of f.items) (alone_flow t p)
          ∙ law.carries p x (offered p x (IsIn-append (offer_out p x) acts (call_at above ∷ []) h));
      keeps = λ p h z. ap (λ (f : Flow). head_of f.items) (alone_flow t p) ∙ law.keeps p h z;
      again = λ p. omega (arith, law.again p, offers-append p acts (call_at above ∷ []));
      feeds = λ q x o. refl;
      hungry = λ l h. absurd (cc h);
    } where
      nobody : (l p : ℕ) → 1 ≤ stood p (lane_at (cache_lanes (alone t)) l).waiting → ⊥
      nobody zero p h = omega (arith, h)
      nobody (suc zero) p h = omega (arith, h)
      nobody (suc (suc l)) p h = omega (arith, h)

      offered : (p : ℕ) (x : Packet) → IsIn (offer_out p x) acts ⊎ IsIn (offer_out p x) (call_at above ∷ []) → IsIn (offer_out p x) acts
      offered p x (inl h) = h
      offered p x (inr (inl f)) = absurd (cc f)
      offered p x (inr (inr h)) = absurd h

-- Whether there is room for who waits.

pub calm_of : (s : CacheState) → (s.waiter ≡ true → is_blocked s ≡ true) → is_eager s ≡ false
calm_of s full = by s.waiter refl where
  by : (b : Bool) → s.waiter ≡ b → (b && not (is_blocked s)) ≡ false
  by true e = ap not (full e)
  by false e = refl

-- where nobody waits who could be taken, the law of the ports is the law of the face
pub eager_law : (s t : CacheState) (w : Wake) (answer : Answer) (acts : List Act) → is_eager t ≡ false
    → Law (cache_ports s) w (cache_ports t) answer acts → Law (cache_face s) w (cache_face t) answer acts
eager_law s t w answer acts e law =
    record {
      ok = record {
        bits = law.ok.bits;
        within = law.ok.within;
        offers_one = law.ok.offers_one;
        lists = law.ok.lists;
        holds = law.ok.holds;
        portless = law.ok.portless;
      };
      ports = law.ports;
      route = law.route;
      sends = law.sends;
      admits = law.admits;
      passes = law.passes;
      asked = law.asked;
      waits = law.waits;
      listed = law.listed;
      joins = λ l p h. same l p (law.joins l p h);
      carries = law.carries;
      keeps = law.keeps;
      again = law.again;
      feeds = λ q x o. e;
      hungry = λ l h. absurd (no_both (is_eager t) (and_parts (l == 0) (is_eager t) h).1 e);
    } where
      same : (l p : ℕ) → (1 ≤ (cache_ports s).stands l p) ⊎ Joins (cache_ports s) w answer l p
          → (1 ≤ (cache_face s).stands l p) ⊎ Joins (cache_face s) w answer l p
      same l p (inl h) = inl h
      same l p (inr j) = inr (record { pkt = j.pkt; offer = j.offer; there = j.there; turned = j.turned })
