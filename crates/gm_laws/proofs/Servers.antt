-- The laws of a server.
use Rattle.std.proofs.Common.{◌≡◌, ℕ, zero, suc, ◌+◌, ◌<◌, ◌≤◌, ◌==◌, if◌then◌else◌, ◌&&◌, ◌||◌, nat_lt, Bool, true, false, List, [], ◌∷◌, ◌++◌, refl, sym, ◌∙◌, ap, subst, arith, Option, Some, inl, length}
use Rattle.std.proofs.lemmas.Bool.{and_parts}
use Rattle.std.proofs.lemmas.List.{append-nil}
use Rattle.gc_base.specs.declared.ids.SlotNo.{SlotNo}
use Rattle.gm_model.specs.Flows.{Outlet, Moved, LaneMoved, asked_bit, waits_bit, is_due_out, head_of, put_in, ask_in, hold_in, again_in, gone_in, moved, open_in, opened, taken_in, has_room, is_some_port, answer_of, refusal_of, joined_once}
use Rattle.gm_model.specs.ObjState.{Server, ServerState, Device, Memory, Uart, Exit, Timer}
use Rattle.gm_words.specs.Flow.{OutState, Quiet, Due, Asked, Waits, Queued, Flow, Lane}
use Rattle.pkt_pool.specs.Packet.{is_response, is_write_back}
use Rattle.gm_words.specs.Platform.{is_within}
use Rattle.gm_words.specs.Routes.{Route}
use Rattle.gm_model.specs.Serve.{Served}
use Rattle.gm_model.specs.Server.{serve, server_event, server_atomic, device_after_event, event_acts, server_outlet, waiting_of, server_lane, server_with, server_step, server_serves, server_served}
use Rattle.gm_model.specs.Timer.{is_awaited}
use Rattle.gm_model.specs.Stepped.{Stepped, stays}
use Rattle.gm_words.specs.Moves.{Moves, no_moves}
use Rattle.gm_words.specs.Changes.{Change, Schedule, Remove, due_after}
use Rattle.gm_model.specs.View.{Mind, queued_packets, device_view}
use Rattle.gm_model.specs.Xbar.{lane_at}
use Rattle.gm_words.specs.declared.act.Act.{Act}
use Rattle.gm_words.specs.declared.answer.Answer.{Answer}
use Rattle.gm_words.specs.declared.answer.Answer.TheVariants as answers
use Rattle.pkt_pool.specs.declared.cmd.Cmd.{Cmd}
use Rattle.pkt_pool.specs.declared.cmd.Cmd.TheVariants as cmds
use Rattle.gm_words.specs.declared.entry.Entry.{Entry}
use Rattle.gm_words.specs.declared.entry.Entry.TheVariants as entries
use Rattle.pkt_pool.specs.declared.packet.Packet.{Packet}
use Rattle.gm_words.specs.declared.wake.Wake.{Wake}
use Rattle.gm_words.specs.declared.wake.Wake.TheVariants as wakes
use Rattle.gm_laws.specs.Words.{only, weigh, told, refused, retry, shown, offers, requests_of, responses_of}
use Rattle.gm_laws.specs.Face.{Face, Law, MayWake, Conserves, came_in, went_out, head_weight, passed_packets, due_before}
use Rattle.gm_laws.specs.Fuel.{weight, spend, starts}
use Rattle.gm_laws.specs.Program.{core, bad, MayThink, Mindless, Serves, none, aside, seen}
use Rattle.gm_laws.specs.Faces.{face_of, IsOk, Keeps, server_face, server_rest, server_admits, server_due, device_due, device_range, ServerOk, HeadMeets, AllMeet, AllActsOk, stood, IsFlow, IsLane, is_hungry, lanes_face}
use Rattle.gm_laws.proofs.Counts.{only_self, only_le, rejected_le}
use Rattle.gm_laws.proofs.Bytes.{same_is}
use Rattle.gm_laws.proofs.Weights.{no_write_back}
use Rattle.gm_laws.proofs.Flows.{FlowLaw, IsCalm, ask_law, hold_law, again_law, gone_law, drop_law, other_head, still_flow, ask_calm, hold_calm, again_calm, gone_silent, put_silent, no_pass, put_weigh, gone_weigh, head_held}
use Rattle.gm_laws.proofs.Lanes.{LaneLaw, IsAt, AreSent, lanes_law, lanes_ok, stays_law, moved_law, opened_law, offer_law, opened_flow, opened_items, opened_passed, joins_last, event_at, taken_at, refused_at, retry_at, offer_at_port}
use Rattle.gm_laws.specs.Laws.{IsDone}
use Rattle.gm_laws.proofs.Calm.{no_both}
use Rattle.gm_laws.proofs.Lines.{AllLevels, no_offers, no_passed, levels_ok, levels_hop, levels_law, levels_passed, levels_acts, weight-append}
use Rattle.gm_laws.proofs.Serving.{serve_facts, write_back_facts, event_levels, event_light}
use Rattle.gm_laws.proofs.Sides.{offers-append}

and_false : (b : Bool) → (b && false) ≡ false
and_false true = refl
and_false false = refl

-- the own event that is served isn't pending any more
own_spent : (slot : SlotNo) (b : Bool) → (b && (slot.0 == 1)) ≡ true → (n : ℕ) → false ≡ due_before (wakes.Event slot) (b && (n == 1)) n
own_spent slot b h n = by (n == 1) (n == slot.0) refl refl where
  by : (x y : Bool) → (n == 1) ≡ x → (n == slot.0) ≡ y → false ≡ (if y then false else (b && x))
  by x true f g = refl
  by false false f g = sym (and_false b)
  by true false f g =
      absurd (no_both (n == slot.0) (let k : n ≡ 1 = same_is n 1 f in let l : slot.0 ≡ 1 = same_is slot.0 1 (and_parts b (slot.0 == 1) h).1 in rw (k, l) refl) g)

all_meet : {f g : Packet → Bool} (items : List Queued) → ((x : Packet) → f x ≡ g x) → AllMeet f items → AllMeet g items
all_meet [] e h = tt
all_meet (x ∷ xs) e h = (sym (e x.packet) ∙ h.0, all_meet xs e h.1)

pub one_lane : (l : Lane) → IsLane l → (q : ℕ) → IsLane (lane_at (l ∷ []) q)
one_lane l v zero = v
one_lane l v (suc q) = tt

-- the waiter is the list again
waiter_is : (b : Bool) → waiting_of (is_some_port (waiting_of b)) ≡ waiting_of b
waiter_is true = refl
waiter_is false = refl

opened_waiter : (room : Bool) (m : Moved) (b : Bool)
    → waiting_of (is_some_port (open_in room m (waiting_of b)).lane.waiting) ≡ (open_in room m (waiting_of b)).lane.waiting
opened_waiter true m true = refl
opened_waiter true m false = refl
opened_waiter false m true = refl
opened_waiter false m false = refl

taken_waiter : (l : Lane) (x : Packet) (ready : ℕ) (room : Bool) → l.waiting ≡ []
    → waiting_of (is_some_port (taken_in server_outlet l 0 x ready room).lane.waiting) ≡ (taken_in server_outlet l 0 x ready room).lane.waiting
taken_waiter l x ready true e = rw e refl
taken_waiter l x ready false e =
    subst (λ xs. waiting_of (is_some_port xs) ≡ xs) (sym (joins_last 0 l.waiting (ap (stood 0) e) ∙ ap (λ xs. xs ++ 0 ∷ []) e)) refl

none_full : (b : Bool) (xs : List ℕ) → xs ≡ [] → (b && is_some_port xs) ≡ false
none_full true xs e = rw e refl
none_full false xs e = refl

-- what a lane's step owes beside the law of the lane
record Beside (w : Wake) (answer : Answer) (s : ServerState) (dev : Device) (es : List Entry) (v : Moves) (dcs : List Change) (ls : List Act)
    (m : LaneMoved) : Type 0 where
  back : waiting_of (is_some_port m.lane.waiting) ≡ m.lane.waiting
  head : HeadMeets (λ x. is_response x.cmd) m.lane.flow.items m.lane.flow.out
  admits : AllMeet (λ x. server_admits s x) m.lane.flow.items
  range : (n : ℕ) → device_range n dev ≡ device_range n s.device
  due : (n : ℕ) → (n == 0) ≡ false → device_due dev n ≡ due_after dcs (due_before w (device_due s.device n) n) n
  own : (x : Bool) → due_after dcs x 0 ≡ x
  passed : passed_packets m.acts ≡ []
  acts : AllActsOk m.acts
  conserves : Conserves (server_face s) w (server_face (record s { flow = m.lane.flow; waiter = is_some_port m.lane.waiting; device = dev })) answer m.acts v
  few : (p : ℕ) → offers p m.acts ≤ retry w p + starts w
  levels : AllLevels ls
  light : weight ls + weight m.acts ≤ spend w answer
  quiet : (p : ℕ) → 1 ≤ told w p → (es ≡ []) × (v ≡ no_moves) × (device_view dev ≡ device_view s.device)

module _ (rs : List Route) (ram : ℕ) (s : ServerState) (ok : ServerOk rs ram s) where
  holds_head : (t : ServerState) (p : ℕ) (x : Packet) → head_of (lane_at (server_lane t ∷ []) p).flow.items ≡ Some x → (h : Packet → ℕ)
      → h x ≤ weigh h (queued_packets t.flow.items)
  holds_head t zero x e h = head_held t.flow.items x h e
  holds_head t (suc p) x e h = cc

  sends_head : (t : ServerState) → HeadMeets (λ x. is_response x.cmd) t.flow.items t.flow.out → (p : ℕ) (x : Packet)
      → 1 ≤ asked_bit (lane_at (server_lane t ∷ []) p).flow.out + waits_bit (lane_at (server_lane t ∷ []) p).flow.out
      → head_of (lane_at (server_lane t ∷ []) p).flow.items ≡ Some x → is_response x.cmd ≡ true
  sends_head t h zero x b e = by t.flow.items t.flow.out h b e where
    by : (items : List Queued) (out : OutState) → HeadMeets (λ y. is_response y.cmd) items out → 1 ≤ asked_bit out + waits_bit out → head_of items ≡ Some x
        → is_response x.cmd ≡ true
    by [] out h b e = cc
    by (y ∷ ys) Quiet h b e = absurd (omega arith)
    by (y ∷ ys) Due h b e = absurd (omega arith)
    by (y ∷ ys) Asked h b e = (let k : y.packet ≡ x = cc e in subst (λ z. is_response z.cmd ≡ true) k h)
    by (y ∷ ys) Waits h b e = (let k : y.packet ≡ x = cc e in subst (λ z. is_response z.cmd ≡ true) k h)
  sends_head t h (suc p) x b e = cc

  pub sent_of : (t : ServerState) → HeadMeets (λ x. is_response x.cmd) t.flow.items t.flow.out → AreSent (server_rest t) (server_lane t ∷ [])
  sent_of t h = record { sends = sends_head t h; holds = holds_head t; timed = refl }

  due_append : (cs ds : List Change) (x : Bool) (n : ℕ) → due_after (cs ++ ds) x n ≡ due_after ds (due_after cs x n) n
  due_append [] ds x n = refl
  due_append (Schedule slot class at ∷ cs) ds x n = due_append cs ds _ n
  due_append (Remove slot ∷ cs) ds x n = due_append cs ds _ n

  by_lane : (w : Wake) (next : ℕ) (answer : Answer) (dev : Device) (es : List Entry) (v : Moves) (dcs : List Change) (ls : List Act) (m : LaneMoved) → IsAt w 0
      → LaneLaw (is_hungry s.places) server_outlet (server_lane s) w m.lane answer m.acts m.changes → Beside w answer s dev es v dcs ls m
      → ((k : Mind) → MayThink rs ram k (server_face s) w
      → Mindless rs ram (server_face s) (server_face (record s { flow = m.lane.flow; waiter = is_some_port m.lane.waiting; device = dev })) (ls ++ m.acts) es v)
      → (let r = server_with (record s { device = dev }) next answer es v (record m { changes = dcs ++ m.changes; acts = ls ++ m.acts }) in Keeps rs ram (server_face s) w r)
  unfolding face_of IsOk
  by_lane w next answer dev es v dcs ls m at law b mindless =
      let t : ServerState = record s { flow = m.lane.flow; waiter = is_some_port m.lane.waiting; device = dev } in
      let same : server_lane t ≡ m.lane = ap (λ xs. let l : Lane = record { flow = m.lane.flow; waiting = xs } in l) b.back in
      let admits : (p : ℕ) (x : Packet) → server_admits t x ≡ server_admits s x = (λ p x. ap (λ r. is_response x.cmd || is_within x.addr r) (b.range s.common.ram)) in
      record {
        ok = record {
          places = ok.places;
          lane = law.flow.ok;
          head = b.head;
          admits = all_meet m.lane.flow.items (λ x. sym (admits 0 x)) b.admits;
          size = ok.size;
          mapped = λ a h. ok.mapped a (subst (λ r. is_within a r ≡ true) (b.range ram) h);
        };
        law =
            levels_law (server_face s) w (server_face t) answer ls m.acts b.levels
            (subst (λ l. Law (server_face s) w (lanes_face (server_rest t) (is_hungry s.places) (l ∷ []) (λ x. 0)) answer m.acts) (sym same)
            (lanes_law (is_hungry s.places) (server_lane s ∷ []) server_outlet m.lane w answer m.acts m.changes (omega arith) (one_lane (server_lane s) ok.lane) law (server_rest s) (server_rest t) (λ x. 0) (λ x. 0) at
            (λ q x e. refl) (λ x. refl) (λ p x. refl) admits (λ p. refl) (subst (λ l. AreSent (server_rest t) (l ∷ [])) same (sent_of t b.head))));
        due = λ n. by_slot n (n == 0) refl;
        conserves = record {
          kept = b.conserves.kept;
          before = b.conserves.before;
          after = λ f e. omega (arith, b.conserves.after f e, ap (weigh f) (levels_passed ls m.acts b.levels));
          numbers = b.conserves.numbers;
        };
        spends = record {
          few = λ p. omega (arith, b.few p, offers-append p ls m.acts, no_offers p ls b.levels);
          light = omega (arith, b.light, weight-append ls m.acts);
        };
        same = record { cpu = refl; instant = refl; caches = refl; empty = λ e. absurd (cc e) };
        quiet =
            λ p h. (let q = b.quiet p h in record { entries = q.0; moves = q.1; passed = levels_passed ls m.acts b.levels ∙ b.passed; mind = refl; memory = q.2 });
        acts = levels_acts ls m.acts b.levels b.acts;
        hops = no_pass (server_face s) (ls ++ m.acts) (levels_passed ls m.acts b.levels ∙ b.passed);
        mindless = λ k e may. mindless k may;
        thinks = λ k e may. absurd (cc e);
      } where
        by_slot : (n : ℕ) (z : Bool) → (n == 0) ≡ z
            → (if n == 0 then is_due_out m.lane.flow.out else device_due dev n) ≡ due_after (dcs ++ m.changes) (due_before w (if n == 0 then is_due_out s.flow.out else device_due s.device n) n) n
        by_slot n true e =
            let z : n ≡ 0 = same_is n 0 e in
            subst (λ k. (if k == 0 then is_due_out m.lane.flow.out else device_due dev k) ≡ due_after (dcs ++ m.changes) (due_before w (if k == 0 then is_due_out s.flow.out else device_due s.device k) k) k) (sym z)
            (law.flow.due ∙ sym (due_append dcs m.changes (due_before w (is_due_out s.flow.out) 0) 0 ∙ ap (λ x. due_after m.changes x 0) (b.own (due_before w (is_due_out s.flow.out) 0))))
        by_slot n false e = rw e
            (b.due n e ∙ sym (due_append dcs m.changes (due_before w (device_due s.device n) n) n ∙ law.flow.other_due n (due_after dcs (due_before w (device_due s.device n) n) n) (λ k. no_both (n == 0) (ap (λ j. j == 0) (sym k)) e)))

  -- the device may change, in what isn't seen
  device_ok : (dev : Device) → ((n : ℕ) → device_range n dev ≡ device_range n s.device) → ServerOk rs ram (record s { device = dev })
  device_ok dev range = record {
    places = ok.places;
    lane = ok.lane;
    head = ok.head;
    admits = all_meet s.flow.items (λ x. sym (ap (λ r. is_response x.cmd || is_within x.addr r) (range s.common.ram))) ok.admits;
    size = ok.size;
    mapped = λ a h. ok.mapped a (subst (λ r. is_within a r ≡ true) (range ram) h);
  }

  -- nothing of the ports does
  device_law : (w : Wake) (dev : Device) (ls : List Act) → AllLevels ls → ((n : ℕ) → device_range n dev ≡ device_range n s.device)
      → ((p : ℕ) → (told w p ≡ 0) × (refused w p ≡ 0) × (retry w p ≡ 0) × (shown w p ≡ 0))
      → Law (server_face s) w (server_face (record s { device = dev })) answers.Nothing ls
  device_law w dev ls levels range mute =
      let t : ServerState = record s { device = dev } in
      subst (λ xs. Law (server_face s) w (server_face t) answers.Nothing xs) (append-nil ls)
      (levels_law (server_face s) w (server_face t) answers.Nothing ls [] levels
      (stays_law (server_face s) (server_face t) w answers.Nothing (lanes_ok (server_rest t) (is_hungry s.places) (server_lane s ∷ []) (λ x. 0) (one_lane (server_lane s) ok.lane) (sent_of t ok.head))
      (record { ports = refl; asked = λ p. refl; waits = λ p. refl; head = λ p. refl; listed = λ p. refl; stands = λ l p. refl; hungry = λ l. refl; route = λ x. refl; sends = λ p x. refl; admits = λ p x. ap (λ r. is_response x.cmd || is_within x.addr r) (range s.common.ram); passes = λ p. refl })
      (λ p. ((mute p).0, (mute p).1, (mute p).2, omega (arith, rejected_le w answers.Nothing p, (mute p).3)))
      (λ q x e. absurd (omega (arith, ap (λ u. shown u q) e, only_self q 1, (mute q).3)))))

  -- nothing of the ports changes, and the device may
  by_device : (w : Wake) (next : ℕ) (dev : Device) (v : Moves) (ls : List Act) → AllLevels ls → weight ls ≤ spend w answers.Nothing
      → ((p : ℕ) → (told w p ≡ 0) × (refused w p ≡ 0) × (retry w p ≡ 0) × (shown w p ≡ 0))
      → (let t = record s { device = dev } in let r : Stepped = record (stays (Server t) next) { moves = v; acts = ls } in
      ((n : ℕ) → device_range n dev ≡ device_range n s.device) → ((n : ℕ) → server_due t n ≡ due_before w (server_due s n) n) → (device_view dev ≡ device_view s.device)
      → Conserves (server_face s) w (server_face t) answers.Nothing ls v → v.made ≡ [] → v.served ≡ [] → v.absorbed ≡ []
      → ((k : Mind) → MayThink rs ram k (server_face s) w → weigh core v.answered ≡ 0) → Keeps rs ram (server_face s) w r)
  unfolding face_of IsOk
  by_device w next dev v ls levels light mute range due view con none_made none_served none_absorbed answered =
      record {
        ok = device_ok dev range;
        law = device_law w dev ls levels range mute;
        due = due;
        conserves = con;
        spends = record { few = λ p. omega (arith, no_offers p ls levels); light = omega (arith, light) };
        same = record { cpu = refl; instant = refl; caches = refl; empty = λ e. absurd (cc e) };
        quiet = λ p h. absurd (omega (arith, h, (mute p).0));
        acts = levels_ok ls levels;
        hops = levels_hop (server_face s) ls levels;
        mindless = λ k e may. record {
          mind = refl;
          made = ap (weigh core) none_made;
          fits = λ n. ap (weigh (bad rs ram n)) none_made;
          answered = omega (arith, answered k may, ap (weigh core) none_absorbed);
          passed = ap (weigh core) (no_passed ls levels);
          recalls = λ plain. record {
            serves =
                λ m l c. rw none_served (subst (λ (o : Option (List ℕ)). Serves rs m [] [] (seen o m)) (sym view) (subst (λ (n : List ℕ). Serves rs m [] [] n) (sym c) (none m)));
            stays = λ h. view ∙ h;
            remains = λ h. sym view ∙ h;
          };
        };
        thinks = λ k e may. absurd (cc e);
      }

  -- no step of the lane alone notes more than a refusal
  quiet_mindless : (w : Wake) (t : ServerState) (acts : List Act) (es : List Entry) → device_view t.device ≡ device_view s.device → passed_packets acts ≡ []
      → ((m : List ℕ) → Serves rs m [] es m) → Mindless rs ram (server_face s) (server_face t) acts es no_moves
  quiet_mindless w t acts es view passed notes = record {
    mind = refl;
    made = refl;
    fits = λ n. refl;
    answered = refl;
    passed = ap (weigh core) passed;
    recalls = λ plain. record {
      serves = λ m l c. subst (λ (o : Option (List ℕ)). Serves rs m [] es (seen o m)) (sym view) (subst (λ (n : List ℕ). Serves rs m [] es n) (sym c) (notes m));
      stays = λ h. view ∙ h;
      remains = λ h. sym view ∙ h;
    };
  }

  calm_items : (m : Moved) (items : List Queued) → IsCalm items m → (f : Packet → ℕ) → weigh f (queued_packets m.flow.items) ≡ weigh f (queued_packets items)
  calm_items m items c f = ap (λ xs. weigh f (queued_packets xs)) c.same

  -- the offer of its head was refused, or is made again
  calm_head : (items : List Queued) (out to : OutState) → HeadMeets (λ x. is_response x.cmd) items out → 1 ≤ asked_bit out + waits_bit out
      → HeadMeets (λ x. is_response x.cmd) items to
  calm_head [] out to h b = tt
  calm_head (x ∷ xs) Quiet to h b = absurd (omega arith)
  calm_head (x ∷ xs) Due to h b = absurd (omega arith)
  calm_head (x ∷ xs) Asked Quiet h b = tt
  calm_head (x ∷ xs) Asked Due h b = tt
  calm_head (x ∷ xs) Asked Asked h b = h
  calm_head (x ∷ xs) Asked Waits h b = h
  calm_head (x ∷ xs) Waits Quiet h b = tt
  calm_head (x ∷ xs) Waits Due h b = tt
  calm_head (x ∷ xs) Waits Asked h b = h
  calm_head (x ∷ xs) Waits Waits h b = h

  by_calm : (w : Wake) (next : ℕ) (m : Moved) → IsAt w 0 → FlowLaw server_outlet s.flow w m.flow m.acts m.changes → IsCalm s.flow.items m
      → ((q : ℕ) → shown w q ≡ 0) → 1 ≤ asked_bit s.flow.out + waits_bit s.flow.out
      → ((b : Bool) (n : ℕ) → due_before w b n ≡ b) → ((f : Packet → ℕ) (a : Answer) → came_in f w a ≡ 0) → ((f : Packet → ℕ) (g : Face) → went_out f g w ≡ 0)
      → ((p : ℕ) → offers p m.acts ≤ retry w p + starts w) → weight m.acts ≤ spend w answers.Nothing
      → Keeps rs ram (server_face s) w (server_with s next answers.Nothing [] no_moves (moved (server_lane s) m))
  by_calm w next m at law calm quiet b due come out few light =
      by_lane w next answers.Nothing s.device [] no_moves [] [] (moved (server_lane s) m) at
      (moved_law s.places server_outlet (server_lane s) w m law calm quiet)
      (record {
        back = waiter_is s.waiter;
        head = subst (λ xs. HeadMeets (λ x. is_response x.cmd) xs m.flow.out) (sym calm.same) (calm_head s.flow.items s.flow.out m.flow.out ok.head b);
        admits = subst (λ xs. AllMeet (λ x. server_admits s x) xs) (sym calm.same) ok.admits;
        range = λ n. refl;
        due = λ n e. sym (due (device_due s.device n) n);
        own = λ x. refl;
        passed = calm.passed;
        acts = calm.acts;
        conserves = record {
          kept = queued_packets s.flow.items;
          before = λ f e. omega (arith, come f answers.Nothing, out f (server_face s));
          after = λ f e. omega (arith, calm_items m s.flow.items calm f, ap (weigh f) calm.passed);
          numbers = λ f e. refl;
        };
        few = few;
        levels = tt;
        light = omega (arith, light);
        quiet = λ p h. (refl, refl, refl);
      })
      (λ k may. quiet_mindless w (record s { flow = m.flow; waiter = is_some_port (waiting_of s.waiter) }) m.acts [] refl calm.passed (λ n. none n))

  gone_head : (now : ℕ) (items : List Queued)
      → (let f = (gone_in server_outlet (now + s.latency) items).flow in HeadMeets (λ x. is_response x.cmd) f.items f.out)
  gone_head now [] = tt
  gone_head now (x ∷ []) = tt
  gone_head now (x ∷ y ∷ ys) = tt

  gone_admits : (now : ℕ) (items : List Queued) → AllMeet (λ x. server_admits s x) items
      → AllMeet (λ x. server_admits s x) (gone_in server_outlet (now + s.latency) items).flow.items
  gone_admits now [] h = tt
  gone_admits now (x ∷ []) h = tt
  gone_admits now (x ∷ y ∷ ys) h = h.1

  -- the head is gone, and where there is room who waits is called
  gone_beside : (w : Wake) (now : ℕ) (dev : Device) (es : List Entry) (v : Moves) (dcs : List Change) (ls : List Act)
      → ((n : ℕ) → device_range n dev ≡ device_range n s.device)
      → ((n : ℕ) → (n == 0) ≡ false → device_due dev n ≡ due_after dcs (due_before w (device_due s.device n) n) n) → ((x : Bool) → due_after dcs x 0 ≡ x)
      → AllLevels ls → weight ls + 2 ≤ spend w answers.Nothing
      → (let m : Moved = gone_in server_outlet (now + s.latency) s.flow.items in
      ((f : Packet → ℕ) → weigh f (queued_packets s.flow.items) + came_in f w answers.Nothing
      ≡ weigh f (queued_packets m.flow.items) + went_out f (server_face s) w + weigh f v.answered + weigh f v.absorbed + weigh f (requests_of v.served)) → v.made ≡ [] → v.served ≡ []
      → ((p : ℕ) → 1 ≤ told w p → (es ≡ []) × (v ≡ no_moves) × (device_view dev ≡ device_view s.device))
      → Beside w answers.Nothing s dev es v dcs ls (opened s.places m (waiting_of s.waiter)))
  gone_beside w now dev es v dcs ls range due own levels light before none_made none_served quiet =
      let m : Moved = gone_in server_outlet (now + s.latency) s.flow.items in
      let room : Bool = nat_lt (length m.flow.items) s.places in
      let acts = opened_passed m room (waiting_of s.waiter) (gone_silent server_outlet (now + s.latency) s.flow.items) in
      record {
        back = opened_waiter room m s.waiter;
        head =
            subst (λ (f : Flow). HeadMeets (λ x. is_response x.cmd) f.items f.out) (sym (opened_flow m room (waiting_of s.waiter)))
            (gone_head now s.flow.items);
        admits = subst (λ xs. AllMeet (λ x. server_admits s x) xs) (sym (opened_items m room (waiting_of s.waiter))) (gone_admits now s.flow.items ok.admits);
        range = range;
        due = due;
        own = own;
        passed = acts.0;
        acts = acts.1;
        conserves = record {
          kept = queued_packets m.flow.items;
          before = λ f e. before f;
          after =
              λ f e. omega (arith, ap (λ xs. weigh f (queued_packets xs)) (opened_items m room (waiting_of s.waiter)), ap (weigh f) acts.0, ap (weigh f) none_made, ap (λ vs. weigh f (responses_of vs)) none_served);
          numbers = λ f e. rw none_served refl;
        };
        few = λ p. omega (arith, acts.3 p);
        levels = levels;
        light = omega (arith, light, acts.2);
        quiet = quiet;
      }

  pub server_taken : (next now : ℕ) → MayWake (server_face s) (wakes.Taken (record { 0 = 0 }))
      → Keeps rs ram (server_face s) (wakes.Taken (record { 0 = 0 })) (server_step s next (wakes.Taken (record { 0 = 0 })) now)
  server_taken next now may =
      let one : 1 ≤ asked_bit s.flow.out = omega (arith, may.told 0, only_self 0 1) in
      let m : Moved = gone_in server_outlet (now + s.latency) s.flow.items in
      let b : LaneMoved = opened s.places m (waiting_of s.waiter) in
      let w : Wake = wakes.Taken (record { 0 = 0 }) in
      let beside = gone_beside w now s.device [] no_moves [] [] (λ n. refl) (λ n e. refl) (λ x. refl) tt (omega arith) (λ f. omega (arith, gone_weigh f server_outlet (now + s.latency) s.flow.items)) refl refl (λ p h. (refl, refl, refl)) in
      by_lane w next answers.Nothing s.device [] no_moves [] [] b (taken_at 0)
      (opened_law s.places server_outlet s.flow w m (waiting_of s.waiter) (gone_law server_outlet (now + s.latency) s.flow.items s.flow.out ok.lane one) (gone_silent server_outlet (now + s.latency) s.flow.items) (λ q. refl)) beside
      (λ k may. quiet_mindless w (record s { flow = b.lane.flow; waiter = is_some_port b.lane.waiting }) b.acts [] refl beside.passed (λ n. none n))

  server_refused : (next now : ℕ) → MayWake (server_face s) (wakes.Refused (record { 0 = 0 }))
      → Keeps rs ram (server_face s) (wakes.Refused (record { 0 = 0 })) (server_step s next (wakes.Refused (record { 0 = 0 })) now)
  server_refused next now may =
      let one : 1 ≤ asked_bit s.flow.out = omega (arith, may.told 0, only_self 0 1) in
      by_calm (wakes.Refused (record { 0 = 0 })) next (hold_in s.flow.items s.flow.out) (refused_at 0)
      (hold_law server_outlet s.flow.items s.flow.out ok.lane one) (hold_calm s.flow.items s.flow.out) (λ q. refl)
      (omega (arith, one)) (λ b n. refl) (λ f a. refl) (λ f g. refl) (λ p. omega (arith, none p s.flow.items s.flow.out))
      (omega (arith, light s.flow.items s.flow.out)) where
        none : (p : ℕ) (items : List Queued) (out : OutState) → offers p (hold_in items out).acts ≡ 0
        none p items Quiet = refl
        none p items Due = refl
        none p items Asked = refl
        none p items Waits = refl

        light : (items : List Queued) (out : OutState) → weight (hold_in items out).acts ≡ 0
        light items Quiet = refl
        light items Due = refl
        light items Asked = refl
        light items Waits = refl

  server_retry : (next now : ℕ) → MayWake (server_face s) (wakes.Retry (record { 0 = 0 }))
      → Keeps rs ram (server_face s) (wakes.Retry (record { 0 = 0 })) (server_step s next (wakes.Retry (record { 0 = 0 })) now)
  server_retry next now may =
      let one : 1 ≤ waits_bit s.flow.out = omega (arith, may.retry 0, only_self 0 1) in
      by_calm (wakes.Retry (record { 0 = 0 })) next (again_in 0 s.flow.items s.flow.out) (retry_at 0)
      (again_law server_outlet s.flow.items s.flow.out ok.lane one) (again_calm 0 s.flow.items s.flow.out) (λ q. refl)
      (omega (arith, one)) (λ b n. refl) (λ f a. refl) (λ f g. refl) (λ p. few p s.flow.items s.flow.out) (light s.flow.items s.flow.out) where
        few : (p : ℕ) (items : List Queued) (out : OutState) → offers p (again_in 0 items out).acts ≤ only 0 p 1 + 0
        few p [] out = omega arith
        few p (x ∷ xs) Quiet = omega arith
        few p (x ∷ xs) Due = omega arith
        few p (x ∷ xs) Asked = omega arith
        few p (x ∷ xs) Waits = omega arith

        light : (items : List Queued) (out : OutState) → weight (again_in 0 items out).acts ≤ 1
        light [] out = omega arith
        light (x ∷ xs) Quiet = omega arith
        light (x ∷ xs) Due = omega arith
        light (x ∷ xs) Asked = omega arith
        light (x ∷ xs) Waits = omega arith

  put_head : (t : Packet → Bool) (o : Outlet) (y : Packet) (ready : ℕ) (items : List Queued) (out : OutState) → HeadMeets t items out
      → (let f = (put_in o y ready items out).flow in HeadMeets t f.items f.out)
  put_head t o y ready [] out h = tt
  put_head t o y ready (x ∷ xs) Quiet h = tt
  put_head t o y ready (x ∷ xs) Due h = tt
  put_head t o y ready (x ∷ xs) Asked h = h
  put_head t o y ready (x ∷ xs) Waits h = h

  put_meet : (t : Packet → Bool) (o : Outlet) (y : Packet) (ready : ℕ) (items : List Queued) (out : OutState) → AllMeet t items → t y ≡ true
      → AllMeet t (put_in o y ready items out).flow.items
  put_meet t o y ready [] out h e = (e, tt)
  put_meet t o y ready (x ∷ xs) out h e = more (x ∷ xs) h where
    more : (zs : List Queued) → AllMeet t zs → AllMeet t (zs ++ record { packet = y; ready = ready } ∷ [])
    more [] h = (e, tt)
    more (z ∷ zs) h = (h.0, more zs h.1)

  server_offered : (next now : ℕ) (x : Packet) → MayWake (server_face s) (wakes.Offer (record { 0 = 0 }) x)
      → Keeps rs ram (server_face s) (wakes.Offer (record { 0 = 0 }) x) (server_step s next (wakes.Offer (record { 0 = 0 }) x) now)
  server_offered next now x may =
      let l : Lane = server_lane s in
      let w : Wake = wakes.Offer (record { 0 = 0 }) x in
      let empty : waiting_of s.waiter ≡ [] = nobody s.waiter (omega (arith, may.fresh 0 (omega (arith, only_self 0 1)))) in
      let ready : ℕ = now + s.latency in
      let law = offer_law s.places server_outlet 0 l x x ready ok.lane
      (none_full (nat_lt (length (put_in server_outlet x ready s.flow.items s.flow.out).flow.items) s.places) (waiting_of s.waiter) empty)
      (ap (stood 0) empty) in
      by_room (has_room s.places l) law empty where
        nobody : (b : Bool) → stood 0 (waiting_of b) + 0 ≡ 0 → waiting_of b ≡ []
        nobody true e = absurd (omega (arith, only_self 0 1))
        nobody false e = refl

        by_room : (room : Bool) → (let m = taken_in server_outlet (server_lane s) 0 x (now + s.latency) room in
            LaneLaw (is_hungry s.places) server_outlet (server_lane s) (wakes.Offer (record { 0 = 0 }) x) m.lane (answer_of room) m.acts m.changes) → waiting_of s.waiter ≡ []
            → Keeps rs ram (server_face s) (wakes.Offer (record { 0 = 0 }) x) (server_with s next (answer_of room) (refusal_of s.common.object room) no_moves (taken_in server_outlet (server_lane s) 0 x (now + s.latency) room))
        by_room true law empty =
            let m : Moved = put_in server_outlet x (now + s.latency) s.flow.items s.flow.out in
            let silent = put_silent server_outlet x (now + s.latency) s.flow.items s.flow.out in
            by_lane (wakes.Offer (record { 0 = 0 }) x) next answers.Taken s.device [] no_moves [] [] (moved (server_lane s) m) (offer_at_port 0 0 x) law
            (record {
              back = taken_waiter (server_lane s) x (now + s.latency) true empty;
              head = put_head (λ y. is_response y.cmd) server_outlet x (now + s.latency) s.flow.items s.flow.out ok.head;
              admits = put_meet (λ y. server_admits s y) server_outlet x (now + s.latency) s.flow.items s.flow.out ok.admits (may.fits 0 x refl);
              range = λ n. refl;
              due = λ n e. refl;
              own = λ y. refl;
              passed = ap passed_packets silent;
              acts = subst AllActsOk (sym silent) tt;
              conserves = record {
                kept = queued_packets m.flow.items;
                before = λ f e. omega (arith, put_weigh f server_outlet x (now + s.latency) s.flow.items s.flow.out);
                after = λ f e. omega (arith, ap (λ xs. weigh f (passed_packets xs)) silent);
                numbers = λ f e. refl;
              };
              few = λ p. omega (arith, ap (offers p) silent);
              levels = tt;
              light = omega (arith, ap weight silent);
              quiet = λ p h. absurd (omega (arith, h));
            })
            (λ k may. quiet_mindless (wakes.Offer (record { 0 = 0 }) x) (record s { flow = m.flow; waiter = is_some_port (waiting_of s.waiter) }) m.acts [] refl (ap passed_packets silent) (λ n. none n))
        by_room false law empty =
            by_lane (wakes.Offer (record { 0 = 0 }) x) next answers.Refused s.device (entries.Refused (record { 0 = s.common.object }) ∷ []) no_moves [] []
            (taken_in server_outlet (server_lane s) 0 x (now + s.latency) false) (offer_at_port 0 0 x) law
            (record {
              back = taken_waiter (server_lane s) x (now + s.latency) false empty;
              head = ok.head;
              admits = ok.admits;
              range = λ n. refl;
              due = λ n e. refl;
              own = λ y. refl;
              passed = refl;
              acts = tt;
              conserves = record { kept = queued_packets s.flow.items; before = λ f e. omega arith; after = λ f e. omega arith; numbers = λ f e. refl };
              few = λ p. omega arith;
              levels = tt;
              light = omega arith;
              quiet = λ p h. absurd (omega (arith, h));
            })
            (λ k may. quiet_mindless (wakes.Offer (record { 0 = 0 }) x) (record s { flow = s.flow; waiter = is_some_port (joined_once 0 (waiting_of s.waiter)) }) [] (entries.Refused (record { 0 = s.common.object }) ∷ []) refl refl
            (λ n. aside n n [] (entries.Refused (record { 0 = s.common.object })) [] refl (none n)))

  -- the first request is served, at its event
  server_serving : (next now : ℕ) (x : Queued) (xs : List Queued) → s.flow.items ≡ x ∷ xs → is_due_out s.flow.out ≡ true
      → Keeps rs ram (server_face s) (wakes.Event (record { 0 = 0 })) (server_serves s next now (x ∷ xs) s.flow.out)
  server_serving next now x xs e due = by_write (is_write_back x.packet.cmd) refl where
    lane : IsFlow (x ∷ xs) s.flow.out
    lane = subst (λ ys. IsFlow ys s.flow.out) e ok.lane

    admits : AllMeet (λ y. server_admits s y) (x ∷ xs)
    admits = subst (λ ys. AllMeet (λ y. server_admits s y) ys) e ok.admits

    w : Wake
    w = wakes.Event (record { 0 = 0 })

    by_write : (b : Bool) → is_write_back x.packet.cmd ≡ b
        → Keeps rs ram (server_face s) (wakes.Event (record { 0 = 0 })) (server_served s next now x xs s.flow.out (serve s.device x.packet now) b)
    by_write true k =
        let c = write_back_is x.packet.cmd k in
        let r : Served = serve s.device x.packet now in
        let facts = write_back_facts x.packet now s.device c in
        let gone : LaneMoved = opened s.places (gone_in server_outlet (now + s.latency) s.flow.items) (waiting_of s.waiter) in
        subst (λ ys. (let b : LaneMoved = opened s.places (gone_in server_outlet (now + s.latency) ys) (waiting_of s.waiter) in
        Keeps rs ram (server_face s) (wakes.Event (record { 0 = 0 })) (server_with (record s { device = r.device }) next answers.Nothing r.entries (record no_moves { absorbed = x.packet ∷ [] }) (record b { changes = r.changes ++ b.changes; acts = r.acts ++ b.acts })))) e
        (by_lane (wakes.Event (record { 0 = 0 })) next answers.Nothing r.device r.entries (record no_moves { absorbed = x.packet ∷ [] }) r.changes r.acts gone (event_at 0 0)
        (opened_law s.places server_outlet s.flow (wakes.Event (record { 0 = 0 })) (gone_in server_outlet (now + s.latency) s.flow.items) (waiting_of s.waiter) (drop_law server_outlet (now + s.latency) s.flow.items s.flow.out ok.lane due) (gone_silent server_outlet (now + s.latency) s.flow.items) (λ q. refl))
        (gone_beside (wakes.Event (record { 0 = 0 })) now r.device r.entries (record no_moves { absorbed = x.packet ∷ [] }) r.changes r.acts facts.range
        (λ n z. facts.due n ∙ ap (λ (t : Bool). due_after r.changes t n) (sym (ap (λ t. if t then false else device_due s.device n) z))) facts.own facts.levels (omega (arith, facts.light))
        (λ f. omega (arith, gone_weigh f server_outlet (now + s.latency) s.flow.items, ap (λ ys. head_weight f (head_of ys)) e)) refl refl (λ p h. absurd (omega (arith, h))))
        (λ n may. absurd (no_write_back rs ram n x.packet (omega (arith, may.held, ap (λ ys. weigh (bad rs ram n) (queued_packets ys)) e)) c))) where
          write_back_is : (k : Cmd) → is_write_back k ≡ true → k ≡ cmds.WriteBack
          write_back_is cmds.WriteBack h = refl
          write_back_is cmds.Read h = cc
          write_back_is cmds.Write h = cc
          write_back_is cmds.ReadResp h = cc
          write_back_is cmds.WriteResp h = cc
    by_write false k =
        let r : Served = serve s.device x.packet now in
        let facts = serve_facts rs ram x.packet now s.device k (subst (λ n. (is_response x.packet.cmd || is_within x.packet.addr (device_range n s.device)) ≡ true) ok.size admits.0) ok.mapped in
        let y : Queued = record { packet = r.response; ready = x.ready } in
        let m : Moved = ask_in 0 (y ∷ xs) s.flow.out in
        let calm = ask_calm 0 (y ∷ xs) s.flow.out in
        let asked = ask_law server_outlet (y ∷ xs) s.flow.out (still_flow x y xs xs s.flow.out lane) due in
        let flow : FlowLaw server_outlet s.flow (wakes.Event (record { 0 = 0 })) m.flow m.acts m.changes = subst (λ ys. FlowLaw server_outlet (record { items = ys; out = s.flow.out }) (wakes.Event (record { 0 = 0 })) m.flow m.acts m.changes) (sym e)
        (other_head server_outlet (y ∷ xs) (x ∷ xs) s.flow.out (wakes.Event (record { 0 = 0 })) m.flow m.acts m.changes due asked) in
        by_lane (wakes.Event (record { 0 = 0 })) next answers.Nothing r.device r.entries
        (record no_moves { served = record { request = x.packet; response = r.response } ∷ [] }) r.changes r.acts (moved (server_lane s) m) (event_at 0 0)
        (moved_serving m flow (ap length (calm.same) ∙ sym (ap length e)) calm)
        (record {
          back = waiter_is s.waiter;
          head = asked_head y xs s.flow.out facts.response;
          admits = subst (λ zs. AllMeet (λ z. server_admits s z) zs) (sym calm.same) (or_left (is_response r.response.cmd) _ facts.response, admits.1);
          range = facts.range;
          due = λ n z. facts.due n z ∙ ap (λ (b : Bool). due_after r.changes b n) (sym (event_other n z (device_due s.device n)));
          own = facts.own;
          passed = calm.passed;
          acts = calm.acts;
          conserves = record {
            kept = queued_packets xs;
            before = λ f b. omega (arith, ap (λ ys. weigh f (queued_packets ys)) e);
            after = λ f b. omega (arith, ap (λ ys. weigh f (queued_packets ys)) calm.same, ap (weigh f) calm.passed);
            numbers = λ f b. omega (arith, b r.response x.packet facts.id);
          };
          few = λ p. few p (y ∷ xs) s.flow.out;
          levels = facts.levels;
          light = omega (arith, facts.light, light (y ∷ xs) s.flow.out);
          quiet = λ p h. absurd (omega (arith, h));
        })
        (λ n may. record {
          mind = refl;
          made = refl;
          fits = λ n. refl;
          answered = refl;
          passed = ap (weigh core) (levels_passed r.acts m.acts facts.levels ∙ calm.passed);
          recalls = λ plain. record {
            serves = facts.serves;
            stays = facts.stays;
            remains = facts.remains;
          };
        }) where
          or_left : (a b : Bool) → a ≡ true → (a || b) ≡ true
          or_left a b h = ap (λ t. t || b) h

          event_other : (n : ℕ) → (n == 0) ≡ false → (b : Bool) → (if n == 0 then false else b) ≡ b
          event_other n z b = rw z refl

          asked_head : (y : Queued) (ys : List Queued) (out : OutState) → is_response y.packet.cmd ≡ true
              → (let f = (ask_in 0 (y ∷ ys) out).flow in HeadMeets (λ z. is_response z.cmd) f.items f.out)
          asked_head y ys Quiet h = tt
          asked_head y ys Due h = h
          asked_head y ys Asked h = h
          asked_head y ys Waits h = h

          few : (p : ℕ) (items : List Queued) (out : OutState) → offers p (ask_in 0 items out).acts ≤ 0 + 1
          few p [] out = omega arith
          few p (z ∷ zs) Quiet = omega arith
          few p (z ∷ zs) Due = omega (arith, only_le 0 p 1)
          few p (z ∷ zs) Asked = omega arith
          few p (z ∷ zs) Waits = omega arith

          light : (items : List Queued) (out : OutState) → weight (ask_in 0 items out).acts ≤ 6
          light [] out = omega arith
          light (z ∷ zs) Quiet = omega arith
          light (z ∷ zs) Due = omega arith
          light (z ∷ zs) Asked = omega arith
          light (z ∷ zs) Waits = omega arith

          moved_serving : (m : Moved) → FlowLaw server_outlet s.flow (wakes.Event (record { 0 = 0 })) m.flow m.acts m.changes
              → length m.flow.items ≡ length s.flow.items → IsCalm (record { packet = (serve s.device x.packet now).response; ready = x.ready } ∷ xs) m
              → LaneLaw (is_hungry s.places) server_outlet (server_lane s) (wakes.Event (record { 0 = 0 })) (moved (server_lane s) m).lane answers.Nothing m.acts m.changes
          moved_serving m law long calm = record {
            flow = law;
            listed = λ q. omega (arith, calm.calls_none q);
            feeds = λ q x o. cc;
            hungry = λ h. inl (subst (λ n. (nat_lt n s.places && is_some_port (waiting_of s.waiter)) ≡ true) long h);
          }

  -- nothing of the ports and the memory changes at the event of the device's own slot
  own_keeps : (d : Device) (next : ℕ) (slot : SlotNo) (b : Bool) → s.device ≡ d → (b && (slot.0 == 1)) ≡ true → ((n : ℕ) → device_due d n ≡ (b && (n == 1)))
      → ((n : ℕ) → device_range n (device_after_event d) ≡ device_range n d) → device_view (device_after_event d) ≡ device_view d
      → ((n : ℕ) → device_due (device_after_event d) n ≡ false)
      → Keeps rs ram (server_face s) (wakes.Event slot) (if slot.0 == 1 then server_event s next d else stays (Server s) next)
  own_keeps d next slot b e h due range view after =
      let at : (slot.0 == 1) ≡ true = (and_parts b (slot.0 == 1) h).1 in
      rw at (by_device (wakes.Event slot) next (device_after_event d) no_moves (event_acts d) (event_levels d) (omega (arith, event_light d)) (λ p. (refl, refl, refl, refl))
      (λ n. range n ∙ sym (ap (device_range n) e)) (λ n. by_slot n (n == 0) refl) (view ∙ sym (ap device_view e))
      (record { kept = queued_packets s.flow.items; before = λ f e. omega arith; after = λ f e. omega (arith, ap (weigh f) (no_passed (event_acts d) (event_levels d))); numbers = λ f e. refl })
      refl refl refl (λ k may. refl)) where
        by_slot : (n : ℕ) (z : Bool) → (n == 0) ≡ z
            → (if n == 0 then is_due_out s.flow.out else device_due (device_after_event d) n) ≡ (if n == slot.0 then false else (if n == 0 then is_due_out s.flow.out else device_due s.device n))
        by_slot n true e = let zero_is : n ≡ 0 = same_is n 0 e in let one_is : slot.0 ≡ 1 = same_is slot.0 1 (and_parts b (slot.0 == 1) h).1 in rw (one_is, zero_is) refl
        by_slot n false z = rw z (after n ∙ (own_spent slot b h n ∙ sym (ap (λ k. due_before (wakes.Event slot) k n) (ap (λ k. device_due k n) e ∙ due n))))

  -- an event of another slot that is pending is the device's own
  event_keeps : (dev : Device) (next : ℕ) (slot : SlotNo) → s.device ≡ dev → device_due dev slot.0 ≡ true
      → Keeps rs ram (server_face s) (wakes.Event slot) (if slot.0 == 1 then server_event s next dev else stays (Server s) next)
  event_keeps (Memory m) next slot e h = absurd (cc h)
  event_keeps (Exit code) next slot e h = absurd (cc h)
  event_keeps (Uart u) next slot e h = own_keeps (Uart u) next slot u.busy e h (λ n. refl) (λ n. refl) refl (λ n. refl)
  event_keeps (Timer t) next slot e h = own_keeps (Timer t) next slot (is_awaited t) e h (λ n. refl) (λ n. refl) refl (λ n. refl)

  pub server_law : (next now : ℕ) (w : Wake) → MayWake (server_face s) w → Keeps rs ram (server_face s) w (server_step s next w now)
  server_law next now (wakes.Event slot) may = by_slot (slot.0 == 0) refl (may.fired slot.0 refl) where
    by_slot : (z : Bool) → (slot.0 == 0) ≡ z → server_due s slot.0 ≡ true
        → Keeps rs ram (server_face s) (wakes.Event slot) (if z then server_serves s next now s.flow.items s.flow.out else if slot.0 == 1 then server_event s next s.device else stays (Server s) next)
    by_slot false a due = event_keeps s.device next slot refl (subst (λ t. (if t then is_due_out s.flow.out else device_due s.device slot.0) ≡ true) a due)
    by_slot true a due =
        let z : slot ≡ record { 0 = 0 } = ap (λ n. let k : SlotNo = record { 0 = n } in k) (same_is slot.0 0 a) in
        let d : is_due_out s.flow.out ≡ true = subst (λ t. (if t then is_due_out s.flow.out else device_due s.device slot.0) ≡ true) a due in
        subst (λ k. Keeps rs ram (server_face s) (wakes.Event k) (server_serves s next now s.flow.items s.flow.out)) (sym z)
        (by_items s.flow.items refl d) where
          by_items : (items : List Queued) → s.flow.items ≡ items → is_due_out s.flow.out ≡ true
              → Keeps rs ram (server_face s) (wakes.Event (record { 0 = 0 })) (server_serves s next now items s.flow.out)
          by_items [] e d = absurd (empty s.flow.out (subst (λ ys. IsFlow ys s.flow.out) e ok.lane) d) where
            empty : (out : OutState) → IsFlow [] out → is_due_out out ≡ true → ⊥
            empty Quiet v d = cc
            empty Due v d = v
            empty Asked v d = v
            empty Waits v d = v
          by_items (x ∷ xs) e d = server_serving next now x xs e d
  server_law next now (wakes.Offer port x) may = by_port port.0 (may.there port.0 (omega (arith, only_self port.0 1))) may where
    by_port : (p : ℕ) → p < 1 → MayWake (server_face s) (wakes.Offer (record { 0 = p }) x)
        → Keeps rs ram (server_face s) (wakes.Offer (record { 0 = p }) x) (server_step s next (wakes.Offer (record { 0 = p }) x) now)
    by_port zero h may = server_offered next now x may
    by_port (suc p) h may = absurd (omega arith)
  server_law next now (wakes.Taken port) may = by_port port.0 may where
    by_port : (p : ℕ) → MayWake (server_face s) (wakes.Taken (record { 0 = p }))
        → Keeps rs ram (server_face s) (wakes.Taken (record { 0 = p })) (server_step s next (wakes.Taken (record { 0 = p })) now)
    by_port zero may = server_taken next now may
    by_port (suc p) may = absurd (omega (arith, may.told (suc p), only_self (suc p) 1))
  server_law next now (wakes.Refused port) may = by_port port.0 may where
    by_port : (p : ℕ) → MayWake (server_face s) (wakes.Refused (record { 0 = p }))
        → Keeps rs ram (server_face s) (wakes.Refused (record { 0 = p })) (server_step s next (wakes.Refused (record { 0 = p })) now)
    by_port zero may = server_refused next now may
    by_port (suc p) may = absurd (omega (arith, may.told (suc p), only_self (suc p) 1))
  server_law next now (wakes.Retry port) may = by_port port.0 may where
    by_port : (p : ℕ) → MayWake (server_face s) (wakes.Retry (record { 0 = p }))
        → Keeps rs ram (server_face s) (wakes.Retry (record { 0 = p })) (server_step s next (wakes.Retry (record { 0 = p })) now)
    by_port zero may = server_retry next now may
    by_port (suc p) may = absurd (omega (arith, may.retry (suc p), only_self (suc p) 1))
  server_law next now (wakes.Line b l) may =
      by_device (wakes.Line b l) next s.device no_moves [] tt (omega arith) (λ p. (refl, refl, refl, refl)) (λ n. refl) (λ n. refl) refl
      (record { kept = queued_packets s.flow.items; before = λ f e. omega arith; after = λ f e. omega arith; numbers = λ f e. refl }) refl refl refl
      (λ k m. refl)
  server_law next now (wakes.AtomicDone x l) may =
      by_device (wakes.AtomicDone x l) next s.device (record no_moves { answered = x ∷ [] }) [] tt (omega arith) (λ p. (refl, refl, refl, refl))
      (λ n. refl) (λ n. refl) refl
      (record { kept = queued_packets s.flow.items; before = λ f e. omega arith; after = λ f e. omega arith; numbers = λ f e. refl }) refl refl refl
      (λ k m. omega (arith, m.done refl x l refl))

  -- a packet that is passed at once
  pub server_passes : (x : Packet) (now : ℕ) → server_admits s x ≡ true → is_write_back x.cmd ≡ false → IsDone rs ram (server_face s) x (server_atomic s x now)
  unfolding face_of IsOk
  server_passes x now fits plain =
      let facts = serve_facts rs ram x now s.device plain (subst (λ n. (is_response x.cmd || is_within x.addr (device_range n s.device)) ≡ true) ok.size fits) ok.mapped in
      let r : Served = serve s.device x now in
      let t : ServerState = record s { device = r.device } in
      record {
        ok = device_ok r.device facts.range;
        law = device_law (wakes.AtomicDone x 0) r.device r.acts facts.levels facts.range (λ p. (refl, refl, refl, refl));
        due = λ n. due n (n == 0) refl facts.own facts.due;
        acts = levels_ok r.acts facts.levels;
        passed = no_passed r.acts facts.levels;
        few = λ p. no_offers p r.acts facts.levels;
        light = omega (arith, facts.light);
        held = refl;
        cpu = refl;
        instant = refl;
        caches = refl;
        mindless = (refl, refl);
        response = facts.response;
        id = facts.id;
        recalls = λ plain. record {
          serves = facts.serves;
          stays = facts.stays;
          remains = facts.remains;
        };
      } where
        due : (n : ℕ) (z : Bool) → (n == 0) ≡ z → ((b : Bool) → due_after (serve s.device x now).changes b 0 ≡ b)
            → ((n : ℕ) → (n == 0) ≡ false → device_due (serve s.device x now).device n ≡ due_after (serve s.device x now).changes (device_due s.device n) n)
            → server_due (record s { device = (serve s.device x now).device }) n ≡ due_after (serve s.device x now).changes (server_due s n) n
        due n true e own others =
            let is : n ≡ 0 = same_is n 0 e in subst (λ k. server_due (record s { device = (serve s.device x now).device }) k ≡ due_after (serve s.device x now).changes (server_due s k) k) (sym is) (sym (own _))
        due n false e own others = rw e (others n e)
