-- The laws of a cache: each wake is one step of a queue, or an offer by which the queues grow, and the call at its end.
use Rattle.std.proofs.Common.{◌≡◌, ℕ, zero, suc, ◌+◌, ◌≤◌, List, [], ◌∷◌, ◌++◌, refl, sym, ◌∙◌, ap, subst, arith, Bool, true, false, not, ◌⊎◌, inl, inr, ne_eqb}
use Rattle.gm_cache.specs.State.{CacheState, packets_in, above, below, answers_outlet, leaving_outlet}
use Rattle.gm_cache.specs.Rule.{is_blocked, is_cached, is_fill, CacheMoved, begun, above_moved, below_moved, taking, returning, calling_in, calling, from_above, ended, later, next_ready, cache_step}
use Rattle.gm_cache.specs.Lines.{HasTags}
use Rattle.gm_cache.proofs.Wakes.{starts_with_tags, wakes_keep_tags}
use Rattle.gm_cache_laws.specs.Face.{cache_lanes, cache_due, cache_rest, cache_ports, cache_face, IsCacheOk}
use Rattle.gm_cache_laws.specs.Laws.{CacheKeeps, CacheWakesHold, CacheStartsOk}
use Rattle.gm_cache_laws.proofs.CachePorts.{AreFlows, flows_of, two_lanes, packets_weigh, sent_of, ports_ok, grown_law, alone, alone_due, called_law, calm_of, eager_law}
use Rattle.gm_cache_laws.proofs.CacheParts.{Part, begins, then_take, then_return}
use Rattle.gm_laws.specs.Words.{only, offers, calls, told, refused, retry, shown, rejected, weigh}
use Rattle.gm_laws.specs.Face.{Law, MayWake, TellsDue, Conserves, due_before, came_in, went_out, head_weight, passed_packets}
use Rattle.gm_laws.specs.Faces.{IsFlow, AllMeet, AllActsOk, stood}
use Rattle.gm_laws.specs.Fuel.{weight, spend, starts}
use Rattle.gm_laws.proofs.Counts.{only_self, only_le, rejected_le}
use Rattle.gm_laws.proofs.Flows.{FlowLaw, ask_law, hold_law, again_law, gone_law, still_law, mute_offer, ask_calm, hold_calm, again_calm, gone_silent, no_pass, gone_weigh}
use Rattle.gm_laws.proofs.Lanes.{IsAt, lanes_law, stays_law, event_at, taken_at, refused_at, retry_at, offer_at_port}
use Rattle.gm_laws.proofs.Lines.{weight-append}
use Rattle.gm_laws.proofs.Sides.{offers-append}
use Rattle.gm_model.specs.Flows.{Outlet, Moved, asked_bit, waits_bit, is_due_out, head_of, ask_in, hold_in, again_in, gone_in, call_at}
use Rattle.gm_model.specs.Server.{waiting_of}
use Rattle.gm_model.specs.View.{act_packets, queued_packets}
use Rattle.gm_words.specs.Changes.{due_after}
use Rattle.gm_words.specs.Flow.{OutState, Quiet, Due, Asked, Waits, Queued, Flow}
use Rattle.gm_words.specs.Moves.{no_moves}
use Rattle.gm_words.specs.declared.act.Act.{Act}
use Rattle.gm_words.specs.declared.answer.Answer.{Answer}
use Rattle.gm_words.specs.declared.answer.Answer.TheVariants as answers
use Rattle.gm_words.specs.declared.wake.Wake.{Wake}
use Rattle.gm_words.specs.declared.wake.Wake.TheVariants as wakes
use Rattle.pkt_pool.specs.Packet.{is_response}
use Rattle.pkt_pool.specs.declared.packet.Packet.{Packet}

-- acts with a call behind
called_passed : (acts : List Act) → passed_packets (acts ++ call_at above ∷ []) ≡ passed_packets acts
called_passed [] = refl
called_passed (a ∷ rest) = ap (λ xs. act_packets a ++ xs) (called_passed rest)

called_acts : (acts : List Act) → AllActsOk acts → AllActsOk (acts ++ call_at above ∷ [])
called_acts [] h = (tt, tt)
called_acts (a ∷ rest) h = (h.0, called_acts rest h.1)

-- a wake before the call at its end, whose acts leave room for it where who waits can be taken
pub record Before (s : CacheState) (w : Wake) (answer : Answer) (m : CacheMoved) : Type 0 where
  pub flows : AreFlows m.cache
  pub law : Law (cache_ports s) w (cache_ports m.cache) answer m.acts
  pub due : TellsDue (cache_face s) w (cache_face m.cache) m.changes
  pub conserves : Conserves (cache_face s) w (cache_face m.cache) answer m.acts m.moves
  pub few : (p : ℕ) → offers p m.acts ≤ retry w p + starts w
  pub light : weight m.acts ≤ spend w answer
  pub room : m.cache.waiter ≡ true → is_blocked m.cache ≡ false → weight m.acts + 2 ≤ spend w answer
  pub passed : passed_packets m.acts ≡ []
  pub acts : AllActsOk m.acts
  pub quiet : (p : ℕ) → 1 ≤ told w p → (m.entries ≡ []) × (m.moves ≡ no_moves)

ends : (s : CacheState) (w : Wake) (answer : Answer) (m : CacheMoved) → Before s w answer m → HasTags (calling m).cache
    → CacheKeeps (cache_face s) w (ended answer m)
ends s w answer m b = by m.cache.waiter (is_blocked m.cache) refl refl where
  stays : (m.cache.waiter ≡ true → is_blocked m.cache ≡ true) → HasTags m.cache → CacheKeeps (cache_face s) w (record { moved = m; answer = answer })
  stays full tags =
      record {
        ok = record {
          tags = tags;
          answers = b.flows.answers;
          leaving = b.flows.leaving;
          responses = b.flows.responses;
          requests = b.flows.requests;
          full = full;
        };
        law = eager_law s m.cache w answer m.acts (calm_of m.cache full) b.law;
        due = b.due;
        conserves = b.conserves;
        spends = record { few = b.few; light = omega (arith, b.light) };
        same = record { cpu = refl; instant = refl; caches = refl; empty = λ e. absurd (cc e) };
        quiet = λ p h. (let q = b.quiet p h in record { entries = q.0; moves = q.1; passed = b.passed; mind = refl; memory = refl });
        acts = b.acts;
        hops = no_pass (cache_face s) m.acts b.passed;
      }

  calls_it : m.cache.waiter ≡ true → is_blocked m.cache ≡ false → HasTags (alone m.cache)
      → CacheKeeps (cache_face s) w (record { moved = calling_in true false m; answer = answer })
  calls_it e f tags =
      record {
        ok = record {
          tags = tags;
          answers = b.flows.answers;
          leaving = b.flows.leaving;
          responses = b.flows.responses;
          requests = b.flows.requests;
          full = λ t. absurd (cc t);
        };
        law = eager_law s (alone m.cache) w answer (m.acts ++ call_at above ∷ []) refl (called_law s m.cache w answer m.acts b.flows e b.law);
        due = λ n. alone_due m.cache n ∙ b.due n;
        conserves = record {
          kept = b.conserves.kept;
          before = b.conserves.before;
          after = λ h k. omega (arith, b.conserves.after h k, ap (weigh h) (called_passed m.acts));
          numbers = b.conserves.numbers;
        };
        spends = record {
          few = λ p. omega (arith, b.few p, offers-append p m.acts (call_at above ∷ []));
          light = omega (arith, b.room e f, weight-append m.acts (call_at above ∷ []));
        };
        same = record { cpu = refl; instant = refl; caches = refl; empty = λ k. absurd (cc k) };
        quiet = λ p h. (let q = b.quiet p h in record { entries = q.0; moves = q.1; passed = called_passed m.acts ∙ b.passed; mind = refl; memory = refl });
        acts = called_acts m.acts b.acts;
        hops = no_pass (cache_face s) (m.acts ++ call_at above ∷ []) (called_passed m.acts ∙ b.passed);
      }

  by : (waiter blocked : Bool) → m.cache.waiter ≡ waiter → is_blocked m.cache ≡ blocked → HasTags (calling_in waiter blocked m).cache
      → CacheKeeps (cache_face s) w (record { moved = calling_in waiter blocked m; answer = answer })
  by false blocked e f tags = stays (λ t. absurd (cc (e, t))) tags
  by true true e f tags = stays (λ t. f) tags
  by true false e f tags = calls_it e f tags

-- Offers.

-- an offer that is taken
taken_before : (s : CacheState) (q : ℕ) (x : Packet) (m : CacheMoved) → Part s x [] m → Before s (wakes.Offer (record { 0 = q }) x) answers.Taken m
taken_before s q x m p =
    record {
      flows = p.grown.flows;
      law = subst (λ xs. Law (cache_ports s) (wakes.Offer (record { 0 = q }) x) (cache_ports m.cache) answers.Taken xs) (sym p.silent)
          (grown_law s m.cache m.changes q x p.grown);
      due = p.grown.due;
      conserves = record {
        kept = p.kept;
        before = λ h k. omega (arith, p.before h);
        after = λ h k. omega (arith, p.after h, ap (λ xs. weigh h (passed_packets xs)) p.silent);
        numbers = p.numbers;
      };
      few = λ r. omega (arith, ap (offers r) p.silent);
      light = omega (arith, ap weight p.silent);
      room = λ e f. omega (arith, ap weight p.silent);
      passed = ap passed_packets p.silent;
      acts = subst AllActsOk (sym p.silent) tt;
      quiet = λ r h. absurd (omega (arith, h));
    }

-- one that is refused
denied : (s : CacheState) (next : ℕ) (x : Packet) (now : ℕ) → IsCacheOk s → MayWake (cache_face s) (wakes.Offer (record { 0 = 0 }) x)
    → is_blocked s ≡ true → HasTags (from_above s next x now true).moved.cache
    → CacheKeeps (cache_face s) (wakes.Offer (record { 0 = 0 }) x) (from_above s next x now true)
unfolding is_blocked
denied s next x now ok may e tags =
    let w : Wake = wakes.Offer (record { 0 = 0 }) x in
    let t : CacheState = record s { waiter = true } in
    let flows = flows_of s ok in
    let there : AreFlows t = record { answers = ok.answers; leaving = ok.leaving; responses = ok.responses; requests = ok.requests } in
    let empty : waiting_of s.waiter ≡ [] = none s.waiter (omega (arith, may.fresh 0 (omega (arith, only_self 0 1)))) in
    record {
      ok = record {
        tags = tags;
        answers = ok.answers;
        leaving = ok.leaving;
        responses = ok.responses;
        requests = ok.requests;
        full = λ h. e;
      };
      law = eager_law s t w answers.Refused [] (calm_of t (λ h. e))
          (lanes_law (λ l. false) (cache_lanes s) answers_outlet (record { flow = s.answers; waiting = 0 ∷ [] }) w answers.Refused [] [] (omega arith)
          (two_lanes s flows)
          (record {
            flow = still_law answers_outlet s.answers w ok.answers (mute_offer 0 x);
            listed = λ q. rw empty (omega arith);
            feeds = λ q y o. refl;
            hungry = λ h. absurd (cc h);
          })
          (cache_rest s) (cache_rest t) (λ y. 0) (λ y. 0) (offer_at_port 0 0 x) (λ q y o. refl) (λ y. refl) (λ p y. refl) (λ p y. refl) (λ p. refl)
          (sent_of t there));
      due = same;
      conserves = record { kept = packets_in s; before = λ h k. omega arith; after = λ h k. omega arith; numbers = λ h k. refl };
      spends = record { few = λ p. omega arith; light = omega arith };
      same = record { cpu = refl; instant = refl; caches = refl; empty = λ k. absurd (cc k) };
      quiet = λ p h. absurd (omega (arith, h));
      acts = tt;
      hops = tt;
    } where
      none : (b : Bool) → stood 0 (waiting_of b) + 0 ≡ 0 → waiting_of b ≡ []
      none true h = absurd (omega (arith, h, only_self 0 1))
      none false h = refl

      same : (n : ℕ) → cache_due (let t : CacheState = record s { waiter = true } in t) n ≡ cache_due s n
      same zero = refl
      same (suc zero) = refl
      same (suc (suc n)) = refl

-- Steps of one queue.

-- a step of the queue that goes out at o, at a wake that is about it alone
record Step (s : CacheState) (o : Outlet) (test : Packet → Bool) (a : Flow) (w : Wake) (f : Moved) : Type 0 where
  at : IsAt w o.port
  own : (b : Bool) (n : ℕ) → (o.slot ≡ n → ⊥) → due_before w b n ≡ b
  shows : (q : ℕ) → shown w q ≡ 0
  law : FlowLaw o a w f.flow f.acts f.changes
  calls_none : (q : ℕ) → calls q f.acts ≡ 0
  meets : AllMeet test f.flow.items
  passed : passed_packets f.acts ≡ []
  acts : AllActsOk f.acts
  came : (h : Packet → ℕ) → came_in h w answers.Nothing ≡ 0
  went : (h : Packet → ℕ) → weigh h (queued_packets f.flow.items) + went_out h (cache_face s) w ≡ weigh h (queued_packets a.items)
  few : (p : ℕ) → offers p f.acts ≤ retry w p + starts w
  light : weight f.acts ≤ spend w answers.Nothing
  room : (weight f.acts + 2 ≤ spend w answers.Nothing) ⊎ (f.flow.items ≡ a.items)

module _ (s : CacheState) (ok : IsCacheOk s) (next : ℕ) where
  -- who waits can't be taken where the packets stay
  above_room : (f : Moved) (w : Wake) → (weight f.acts + 2 ≤ spend w answers.Nothing) ⊎ (f.flow.items ≡ s.answers.items)
      → s.waiter ≡ true → is_blocked (let t : CacheState = record s { answers = f.flow } in t) ≡ false → weight f.acts + 2 ≤ spend w answers.Nothing
  unfolding is_blocked
  above_room f w r e b = absurd (cc (ok.full e, b))

  below_room : (f : Moved) (w : Wake) → (weight f.acts + 2 ≤ spend w answers.Nothing) ⊎ (f.flow.items ≡ s.leaving.items)
      → s.waiter ≡ true → is_blocked (let t : CacheState = record s { leaving = f.flow } in t) ≡ false → weight f.acts + 2 ≤ spend w answers.Nothing
  unfolding is_blocked
  below_room f w (inl h) e b = h
  below_room f w (inr same) e b = absurd (cc (ok.full e, b, same))

  by_above : (w : Wake) (f : Moved) → Step s answers_outlet (λ x. is_response x.cmd) s.answers w f
      → HasTags (calling (above_moved f (begun s next))).cache → CacheKeeps (cache_face s) w (ended answers.Nothing (above_moved f (begun s next)))
  by_above w f step =
      let t : CacheState = record s { answers = f.flow } in
      let flows : AreFlows t = record { answers = step.law.ok; leaving = ok.leaving; responses = step.meets; requests = ok.requests } in
      ends s w answers.Nothing (above_moved f (begun s next))
      (record {
        flows = flows;
        law = lanes_law (λ l. false) (cache_lanes s) answers_outlet (record { flow = f.flow; waiting = waiting_of s.waiter }) w answers.Nothing
            f.acts f.changes (omega arith) (two_lanes s (flows_of s ok))
            (record {
              flow = step.law;
              listed = λ q. omega (arith, step.calls_none q, unrejected q);
              feeds = λ q x o. refl;
              hungry = λ h. absurd (cc h);
            })
            (cache_rest s) (cache_rest t) (λ x. 0) (λ x. 0) step.at (λ q x o. refl) (λ x. refl) (λ p x. refl) (λ p x. refl) (λ p. refl)
            (sent_of t flows);
        due = due;
        conserves = record {
          kept = packets_in t;
          before = λ h k. omega (arith, step.came h, step.went h, packets_weigh h s, packets_weigh h t);
          after = λ h k. omega (arith, ap (weigh h) step.passed);
          numbers = λ h k. refl;
        };
        few = step.few;
        light = step.light;
        room = above_room f w step.room;
        passed = step.passed;
        acts = step.acts;
        quiet = λ p h. (refl, refl);
      }) where
        unrejected : (q : ℕ) → rejected w answers.Nothing q ≡ 0
        unrejected q = omega (arith, rejected_le w answers.Nothing q, step.shows q)

        due : (n : ℕ) → cache_due (let t : CacheState = record s { answers = f.flow } in t) n ≡ due_after f.changes (due_before w (cache_due s n) n) n
        due zero = step.law.due
        due (suc n) =
            sym (step.law.other_due (suc n) (due_before w (cache_due s (suc n)) (suc n)) (λ k. omega (arith, k))
            ∙ step.own (cache_due s (suc n)) (suc n) (λ k. omega (arith, k)))

  by_below : (w : Wake) (f : Moved) → Step s leaving_outlet (λ x. not (is_response x.cmd)) s.leaving w f
      → HasTags (calling (below_moved f (begun s next))).cache → CacheKeeps (cache_face s) w (ended answers.Nothing (below_moved f (begun s next)))
  by_below w f step =
      let t : CacheState = record s { leaving = f.flow } in
      let flows : AreFlows t = record { answers = ok.answers; leaving = step.law.ok; responses = ok.responses; requests = step.meets } in
      ends s w answers.Nothing (below_moved f (begun s next))
      (record {
        flows = flows;
        law = lanes_law (λ l. false) (cache_lanes s) leaving_outlet (record { flow = f.flow; waiting = [] }) w answers.Nothing
            f.acts f.changes (omega arith) (two_lanes s (flows_of s ok))
            (record {
              flow = step.law;
              listed = λ q. omega (arith, step.calls_none q, unrejected q);
              feeds = λ q x o. refl;
              hungry = λ h. absurd (cc h);
            })
            (cache_rest s) (cache_rest t) (λ x. 0) (λ x. 0) step.at (λ q x o. absurd (unshown q x o)) (λ x. refl) (λ p x. refl) (λ p x. refl)
            (λ p. refl) (sent_of t flows);
        due = due;
        conserves = record {
          kept = packets_in t;
          before = λ h k. omega (arith, step.came h, step.went h, packets_weigh h s, packets_weigh h t);
          after = λ h k. omega (arith, ap (weigh h) step.passed);
          numbers = λ h k. refl;
        };
        few = step.few;
        light = step.light;
        room = below_room f w step.room;
        passed = step.passed;
        acts = step.acts;
        quiet = λ p h. (refl, refl);
      }) where
        unrejected : (q : ℕ) → rejected w answers.Nothing q ≡ 0
        unrejected q = omega (arith, rejected_le w answers.Nothing q, step.shows q)

        unshown : (q : ℕ) (x : Packet) → w ≡ wakes.Offer (record { 0 = q }) x → ⊥
        unshown q x e = omega (arith, ap (λ v. shown v q) e, only_self q 1, step.shows q)

        other : (n : ℕ) → (1 ≡ n → ⊥) → cache_due s n ≡ due_after f.changes (due_before w (cache_due s n) n) n
        other n k = sym (step.law.other_due n (due_before w (cache_due s n) n) k ∙ step.own (cache_due s n) n k)

        due : (n : ℕ) → cache_due (let t : CacheState = record s { leaving = f.flow } in t) n ≡ due_after f.changes (due_before w (cache_due s n) n) n
        due zero = other 0 (λ k. omega (arith, k))
        due (suc zero) = step.law.due
        due (suc (suc n)) = other (suc (suc n)) (λ k. omega (arith, k))

-- The steps.

-- an event is of its own slot alone
event_own : (p : ℕ) (b : Bool) (n : ℕ) → (p ≡ n → ⊥) → due_before (wakes.Event (record { 0 = p })) b n ≡ b
event_own p b n k = rw (ne_eqb n p (λ e. k (sym e))) refl

same_weigh : (h : Packet → ℕ) (xs ys : List Queued) → xs ≡ ys → weigh h (queued_packets xs) + 0 ≡ weigh h (queued_packets ys)
same_weigh h xs ys e = omega (arith, ap (λ zs. weigh h (queued_packets zs)) e)

ask_light : (p : ℕ) (items : List Queued) (out : OutState)
    → ((q : ℕ) → offers q (ask_in p items out).acts ≤ 1) × (weight (ask_in p items out).acts ≤ 1)
ask_light p [] out = (λ q. omega arith, omega arith)
ask_light p (x ∷ xs) Quiet = (λ q. omega arith, omega arith)
ask_light p (x ∷ xs) Due = (λ q. omega (arith, only_le p q 1), omega arith)
ask_light p (x ∷ xs) Asked = (λ q. omega arith, omega arith)
ask_light p (x ∷ xs) Waits = (λ q. omega arith, omega arith)

hold_light : (items : List Queued) (out : OutState) → (hold_in items out).acts ≡ []
hold_light items Quiet = refl
hold_light items Due = refl
hold_light items Asked = refl
hold_light items Waits = refl

again_light : (p : ℕ) (items : List Queued) (out : OutState)
    → ((q : ℕ) → offers q (again_in p items out).acts ≤ only p q 1) × (weight (again_in p items out).acts ≤ 1)
again_light p [] out = (λ q. omega arith, omega arith)
again_light p (x ∷ xs) Quiet = (λ q. omega arith, omega arith)
again_light p (x ∷ xs) Due = (λ q. omega arith, omega arith)
again_light p (x ∷ xs) Asked = (λ q. omega arith, omega arith)
again_light p (x ∷ xs) Waits = (λ q. omega arith, omega arith)

gone_meets : (t : Packet → Bool) (o : Outlet) (at : ℕ) (items : List Queued) → AllMeet t items → AllMeet t (gone_in o at items).flow.items
gone_meets t o at [] h = tt
gone_meets t o at (x ∷ []) h = tt
gone_meets t o at (x ∷ y ∷ ys) h = h.1

module _ (s : CacheState) (o : Outlet) (test : Packet → Bool) (a : Flow) (flow : IsFlow a.items a.out)
    (meets : AllMeet test a.items) where
  ask_step : is_due_out a.out ≡ true → Step s o test a (wakes.Event (record { 0 = o.slot })) (ask_in o.port a.items a.out)
  ask_step due =
      let f : Moved = ask_in o.port a.items a.out in
      let calm = ask_calm o.port a.items a.out in
      record {
        at = event_at o.slot o.port;
        own = event_own o.slot;
        shows = λ q. refl;
        law = ask_law o a.items a.out flow due;
        calls_none = calm.calls_none;
        meets = subst (λ xs. AllMeet test xs) (sym calm.same) meets;
        passed = calm.passed;
        acts = calm.acts;
        came = λ h. refl;
        went = λ h. same_weigh h f.flow.items a.items calm.same;
        few = λ p. omega (arith, (ask_light o.port a.items a.out).0 p);
        light = omega (arith, (ask_light o.port a.items a.out).1);
        room = inr calm.same;
      }

  hold_step : 1 ≤ asked_bit a.out → Step s o test a (wakes.Refused (record { 0 = o.port })) (hold_in a.items a.out)
  hold_step one =
      let f : Moved = hold_in a.items a.out in
      let calm = hold_calm a.items a.out in
      record {
        at = refused_at o.port;
        own = λ b n k. refl;
        shows = λ q. refl;
        law = hold_law o a.items a.out flow one;
        calls_none = calm.calls_none;
        meets = subst (λ xs. AllMeet test xs) (sym calm.same) meets;
        passed = calm.passed;
        acts = calm.acts;
        came = λ h. refl;
        went = λ h. same_weigh h f.flow.items a.items calm.same;
        few = λ p. omega (arith, ap (offers p) (hold_light a.items a.out));
        light = omega (arith, ap weight (hold_light a.items a.out));
        room = inr calm.same;
      }

  again_step : 1 ≤ waits_bit a.out → Step s o test a (wakes.Retry (record { 0 = o.port })) (again_in o.port a.items a.out)
  again_step one =
      let f : Moved = again_in o.port a.items a.out in
      let calm = again_calm o.port a.items a.out in
      record {
        at = retry_at o.port;
        own = λ b n k. refl;
        shows = λ q. refl;
        law = again_law o a.items a.out flow one;
        calls_none = calm.calls_none;
        meets = subst (λ xs. AllMeet test xs) (sym calm.same) meets;
        passed = calm.passed;
        acts = calm.acts;
        came = λ h. refl;
        went = λ h. same_weigh h f.flow.items a.items calm.same;
        few = λ p. omega (arith, (again_light o.port a.items a.out).0 p);
        light = omega (arith, (again_light o.port a.items a.out).1);
        room = inr calm.same;
      }

  gone_step : (tick : ℕ) → 1 ≤ asked_bit a.out → (cache_face s).head o.port ≡ head_of a.items
      → Step s o test a (wakes.Taken (record { 0 = o.port })) (gone_in o tick a.items)
  gone_step tick one head =
      let silent = gone_silent o tick a.items in
      record {
        at = taken_at o.port;
        own = λ b n k. refl;
        shows = λ q. refl;
        law = gone_law o tick a.items a.out flow one;
        calls_none = λ q. ap (calls q) silent;
        meets = gone_meets test o tick a.items meets;
        passed = ap passed_packets silent;
        acts = subst AllActsOk (sym silent) tt;
        came = λ h. refl;
        went = λ h. omega (arith, gone_weigh h o tick a.items, ap (head_weight h) head);
        few = λ p. omega (arith, ap (offers p) silent);
        light = omega (arith, ap weight silent);
        room = inl (omega (arith, ap weight silent));
      }

-- Wakes.

-- a wake that may come keeps the laws; that it keeps what holds of lines and registers is known
abbrev KeepsAt : CacheState → ℕ → ℕ → Wake → Type 0
KeepsAt s next now w = MayWake (cache_face s) w → HasTags (cache_step s next w now).moved.cache → CacheKeeps (cache_face s) w (cache_step s next w now)

module _ (s : CacheState) (ok : IsCacheOk s) (next now : ℕ) where
  keeps : (w : Wake) → KeepsAt s next now w
  unfolding cache_step
  keeps w = by w where
    event : (p : ℕ) → KeepsAt s next now (wakes.Event (record { 0 = p }))
    event zero may tags =
        by_above s ok next (wakes.Event (record { 0 = 0 })) (ask_in above s.answers.items s.answers.out)
        (ask_step s answers_outlet (λ x. is_response x.cmd) s.answers ok.answers ok.responses (may.fired 0 refl)) tags
    event (suc zero) may tags =
        by_below s ok next (wakes.Event (record { 0 = 1 })) (ask_in below s.leaving.items s.leaving.out)
        (ask_step s leaving_outlet (λ x. not (is_response x.cmd)) s.leaving ok.leaving ok.requests (may.fired 1 refl)) tags
    event (suc (suc p)) may tags = absurd (cc (may.fired (suc (suc p)) refl))

    taken : (p : ℕ) → KeepsAt s next now (wakes.Taken (record { 0 = p }))
    taken zero may tags =
        by_above s ok next (wakes.Taken (record { 0 = 0 })) (gone_in answers_outlet (later now (next_ready s.answers.items)) s.answers.items)
        (gone_step s answers_outlet (λ x. is_response x.cmd) s.answers ok.answers ok.responses (later now (next_ready s.answers.items))
        (omega (arith, may.told 0, only_self 0 1)) refl) tags
    taken (suc zero) may tags =
        by_below s ok next (wakes.Taken (record { 0 = 1 })) (gone_in leaving_outlet (later now (next_ready s.leaving.items)) s.leaving.items)
        (gone_step s leaving_outlet (λ x. not (is_response x.cmd)) s.leaving ok.leaving ok.requests (later now (next_ready s.leaving.items))
        (omega (arith, may.told 1, only_self 1 1)) refl) tags
    taken (suc (suc p)) may tags = absurd (omega (arith, may.told (suc (suc p)), only_self (suc (suc p)) 1))

    held : (p : ℕ) → KeepsAt s next now (wakes.Refused (record { 0 = p }))
    held zero may tags =
        by_above s ok next (wakes.Refused (record { 0 = 0 })) (hold_in s.answers.items s.answers.out)
        (hold_step s answers_outlet (λ x. is_response x.cmd) s.answers ok.answers ok.responses (omega (arith, may.told 0, only_self 0 1))) tags
    held (suc zero) may tags =
        by_below s ok next (wakes.Refused (record { 0 = 1 })) (hold_in s.leaving.items s.leaving.out)
        (hold_step s leaving_outlet (λ x. not (is_response x.cmd)) s.leaving ok.leaving ok.requests (omega (arith, may.told 1, only_self 1 1))) tags
    held (suc (suc p)) may tags = absurd (omega (arith, may.told (suc (suc p)), only_self (suc (suc p)) 1))

    again : (p : ℕ) → KeepsAt s next now (wakes.Retry (record { 0 = p }))
    again zero may tags =
        by_above s ok next (wakes.Retry (record { 0 = 0 })) (again_in above s.answers.items s.answers.out)
        (again_step s answers_outlet (λ x. is_response x.cmd) s.answers ok.answers ok.responses (omega (arith, may.retry 0, only_self 0 1))) tags
    again (suc zero) may tags =
        by_below s ok next (wakes.Retry (record { 0 = 1 })) (again_in below s.leaving.items s.leaving.out)
        (again_step s leaving_outlet (λ x. not (is_response x.cmd)) s.leaving ok.leaving ok.requests (omega (arith, may.retry 1, only_self 1 1))) tags
    again (suc (suc p)) may tags = absurd (omega (arith, may.retry (suc (suc p)), only_self (suc (suc p)) 1))

    request_of : (x : Packet) → MayWake (cache_face s) (wakes.Offer (record { 0 = 0 }) x) → is_response x.cmd ≡ false
    request_of x may = by (is_response x.cmd) (may.fits 0 x refl) where
      by : (b : Bool) → not b ≡ true → b ≡ false
      by true e = cc
      by false e = refl

    above_offer : (x : Packet) (blocked : Bool) → is_blocked s ≡ blocked → MayWake (cache_face s) (wakes.Offer (record { 0 = 0 }) x)
        → HasTags (from_above s next x now blocked).moved.cache
        → CacheKeeps (cache_face s) (wakes.Offer (record { 0 = 0 }) x) (from_above s next x now blocked)
    above_offer x true e may tags = denied s next x now ok may e tags
    above_offer x false e may tags =
        ends s (wakes.Offer (record { 0 = 0 }) x) answers.Taken (taking x now (is_cached s x) (begun s next))
        (taken_before s 0 x (taking x now (is_cached s x) (begun s next))
        (then_take s x now (is_cached s x) (begun s next) (request_of x may) (begins s x next (flows_of s ok)))) tags

    offer : (p : ℕ) (x : Packet) → KeepsAt s next now (wakes.Offer (record { 0 = p }) x)
    offer zero x may tags = above_offer x (is_blocked s) refl may tags
    offer (suc p) y may tags =
        ends s (wakes.Offer (record { 0 = suc p }) y) answers.Taken (returning y now (is_fill s y) (begun s next))
        (taken_before s (suc p) y (returning y now (is_fill s y) (begun s next))
        (then_return s y next now (is_fill s y) (flows_of s ok) ok.tags (may.fits (suc p) y refl) refl)) tags

    -- nothing of the ports changes
    still : (v : Wake) → ((p : ℕ) → (told v p ≡ 0) × (refused v p ≡ 0) × (retry v p ≡ 0) × (shown v p ≡ 0))
        → Law (cache_face s) v (cache_face s) answers.Nothing []
    still v mute =
        eager_law s s v answers.Nothing [] (calm_of s ok.full)
        (stays_law (cache_ports s) (cache_ports s) v answers.Nothing (ports_ok s (flows_of s ok))
        (record {
          ports = refl;
          asked = λ p. refl;
          waits = λ p. refl;
          head = λ p. refl;
          listed = λ p. refl;
          stands = λ l p. refl;
          hungry = λ l. refl;
          route = λ x. refl;
          sends = λ p x. refl;
          admits = λ p x. refl;
          passes = λ p. refl;
        })
        (λ p. ((mute p).0, (mute p).1, (mute p).2, omega (arith, rejected_le v answers.Nothing p, (mute p).3))) (λ q x e. refl))

    by : (v : Wake) → KeepsAt s next now v
    by (wakes.Event slot) may tags = event slot.0 may tags
    by (wakes.Offer port x) may tags = offer port.0 x may tags
    by (wakes.Taken port) may tags = taken port.0 may tags
    by (wakes.Refused port) may tags = held port.0 may tags
    by (wakes.Retry port) may tags = again port.0 may tags
    -- and nobody is called, since nobody waits who could be taken
    by (wakes.Line bit level) may tags = record {
      ok = ok;
      law = still (wakes.Line bit level) (λ p. (refl, refl, refl, refl));
      due = λ n. refl;
      conserves = record { kept = packets_in s; before = λ h k. omega arith; after = λ h k. omega arith; numbers = λ h k. refl };
      spends = record { few = λ p. omega arith; light = omega arith };
      same = record { cpu = refl; instant = refl; caches = refl; empty = λ k. absurd (cc k) };
      quiet = λ p h. absurd (omega (arith, h));
      acts = tt;
      hops = tt;
    }
    by (wakes.AtomicDone x latency) may tags = record {
      ok = ok;
      law = still (wakes.AtomicDone x latency) (λ p. (refl, refl, refl, refl));
      due = λ n. refl;
      conserves = record { kept = packets_in s; before = λ h k. omega arith; after = λ h k. omega arith; numbers = λ h k. refl };
      spends = record { few = λ p. omega arith; light = omega arith };
      same = record { cpu = refl; instant = refl; caches = refl; empty = λ k. absurd (cc k) };
      quiet = λ p h. absurd (omega (arith, h));
      acts = tt;
      hops = tt;
    }

pub cache_wakes_hold : CacheWakesHold
cache_wakes_hold s next w now ok may = keeps s ok next now w may (wakes_keep_tags s next w now ok.tags)

pub cache_starts_ok : CacheStartsOk
cache_starts_ok p source sets ways mshrs targets writeq latency allowed some_sets some_ways some_targets =
    record {
      tags = (starts_with_tags p source sets ways mshrs targets writeq latency allowed some_sets some_ways some_targets).tags;
      answers = tt;
      leaving = tt;
      responses = tt;
      requests = tt;
      full = λ t. absurd (cc t);
    }
