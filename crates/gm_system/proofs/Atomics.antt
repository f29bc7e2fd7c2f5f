-- A packet that is passed at once: on its way, and when it is served.
use Rattle.std.proofs.Common.{◌≡◌, ℕ, zero, suc, ◌+◌, ◌*◌, ◌<◌, ◌≤◌, ◌==◌, if◌then◌else◌, Bool, true, false, List, [], ◌∷◌, ◌++◌, refl, sym, ◌∙◌, ap, subst, arith, Some, None, ◌⊎◌, inl, inr, length, length-set, set}
use Rattle.std.proofs.lemmas.Bool.{cases_eq}
use Rattle.std.proofs.lemmas.List.{append-nil, set-get_or}
use Rattle.gm_model.specs.Deliver.{Item, Sent, Done, Delivery, sent_by, deliver_passed, done_at, deliver_atomic, pass_way, way_latency, passes_max}
use Rattle.gm_model.specs.ObjState.{ObjState, Blank}
use Rattle.gc_base.specs.declared.limits.TheConstants.{LATENCY_MAX}
use Rattle.pkt_pool.specs.Packet.{is_response, is_write_back}
use Rattle.gm_model.specs.Stepped.{Stepped}
use Rattle.gm_words.specs.Moves.{no_moves, Moves}
use Rattle.gm_words.specs.Changes.{Change}
use Rattle.gm_model.specs.Sys.{Sys, object_at, peer_in, pass_at, passed, with_object}
use Rattle.gm_words.specs.Platform.{End}
use Rattle.gm_model.specs.View.{Mind, all_packets, part_packets, item_packets}
use Rattle.gm_words.specs.declared.act.Act.TheVariants as acts
use Rattle.gm_words.specs.declared.answer.Answer.TheVariants as answers
use Rattle.gm_words.specs.declared.entry.Entry.{Entry}
use Rattle.gm_words.specs.declared.kind.Kind.TheVariants as kinds
use Rattle.pkt_pool.specs.declared.packet.Packet.{Packet}
use Rattle.gm_words.specs.declared.wake.Wake.TheVariants as wakes
use Rattle.gm_words.specs.declared.act.Act.{Act}
use Rattle.pkt_pool.specs.declared.cmd.Cmd.{Cmd}
use Rattle.pkt_pool.specs.declared.cmd.Cmd.TheVariants as cmds
use Rattle.gm_words.specs.Routes.{Route}
use Rattle.gm_words.specs.declared.way.Way.{Way}
use Rattle.gm_words.specs.declared.way.Way.TheVariants as ways
use Rattle.gm_model.specs.EventMoves.{atomic_moves, pass_moves}
use Rattle.gm_laws.specs.Words.{weigh, IsIn, offer_out}
use Rattle.gm_laws.specs.Face.{Face, passed_packets}
use Rattle.gm_laws.specs.Faces.{face_of, AllItemsOk, AllPassOk}
use Rattle.gm_system.specs.Net.{Clear, Net}
use Rattle.gm_laws.specs.Program.{core, bad, MayThink, Mindless}
use Rattle.gm_system.specs.MemoryLaws.{IsElse, MemoryLaws}
use Rattle.gm_system.specs.MemoryView.{MemoryView, MemoryStep}
use Rattle.gm_system.specs.System.{IsNet, IsProgram, IsSoundOver, faces, others_packets, Handled}
use Rattle.gm_system.specs.Ways.{HasWay, GoesFrom}
use Rattle.gm_laws.proofs.Counts.{only_zero, offered-append, called-append, IsIn-append}
use Rattle.gm_system.proofs.Debts.{pays_none}
use Rattle.gm_system.proofs.Handles.{pop_none}
use Rattle.gm_system.proofs.Offers.{before_wake}
use Rattle.gm_system.proofs.Packets.{parts-set, part_le, items-weigh, sent-weigh, others-append, others-sent}
use Rattle.gm_laws.specs.Laws.{GoesOn, IsDone, WayKeeps, PassesHold}
use Rattle.gm_system.proofs.Programs.{Shift, Step, program_step}
use Rattle.gm_system.proofs.Systems.{placed-append, instant_there, IsBefore, put, at_same, at_other, net_kept, part_there}
use Rattle.gm_system.proofs.Wakes.{responses_core}
use Rattle.gm_laws.proofs.Weights.{weigh-append, no_write_back}

written_back : (c : Cmd) → is_write_back c ≡ true → c ≡ cmds.WriteBack
written_back cmds.WriteBack h = refl
written_back cmds.Read h = cc
written_back cmds.Write h = cc
written_back cmds.ReadResp h = cc
written_back cmds.WriteResp h = cc

-- acts that pass no packet at once
pub no_pass : (f : Face) (list : List Act) → passed_packets list ≡ [] → AllPassOk f list
no_pass f [] e = tt
no_pass f (acts.Offer p x ∷ rest) e = (tt, no_pass f rest e)
no_pass f (acts.CallRetry p ∷ rest) e = (tt, no_pass f rest e)
no_pass f (acts.SetLine b l ∷ rest) e = (tt, no_pass f rest e)
no_pass f (acts.Atomic p x ∷ rest) e = cc

-- a served packet at the end of the list is about no port
push_done : (peer : ℕ → ℕ → End) (f : ℕ → Face) (items : List Item) (i l : ℕ) (y : Packet) → Net peer f items Clear → Net peer f (items ++ Done i y l ∷ []) Clear
push_done peer f items i l y net = record {
  faces = net.faces;
  asked = λ k r. omega (arith, net.asked k r, offered-append k r items (Done i y l ∷ []));
  waits = λ k r. omega (arith, net.waits k r, called-append (peer k r).part (peer k r).port items (Done i y l ∷ []));
  carried = λ k r z h. carried k r z (IsIn-append (Sent k (offer_out r z)) items (Done i y l ∷ []) h);
  placed = net.placed;
  fed = λ q lane h. let n = net.fed q lane h in
      record { port = n.port; pkt = n.pkt; head = n.head; there = n.there; comes = omega (arith, n.comes, offered-append (peer q n.port).part (peer q n.port).port items (Done i y l ∷ []), called-append q n.port items (Done i y l ∷ [])) };
} where
  carried : (k r : ℕ) (z : Packet) → IsIn (Sent k (offer_out r z)) items ⊎ IsIn (Sent k (offer_out r z)) (Done i y l ∷ []) → (f k).head r ≡ Some z
  carried k r z (inl h) = net.carried k r z h
  carried k r z (inr (inl e)) = cc e
  carried k r z (inr (inr h)) = absurd h

ok-done : (items : List Item) (i l : ℕ) (y : Packet) → AllItemsOk items → is_response y.cmd ≡ true → AllItemsOk (items ++ Done i y l ∷ [])
ok-done [] i l y h r = (r, tt)
ok-done (Sent j a ∷ items) i l y h r = (h.0, ok-done items i l y h.1 r)
ok-done (Done j x m ∷ items) i l y h r = (h.0, ok-done items i l y h.1 r)

module _ (y : MemoryView) (memory : MemoryLaws y) (ram : ℕ) (s : Sys) (rest : List Item) (i port : ℕ) (x : Packet) (k total : ℕ) (h : IsSoundOver y ram s (Sent i (acts.Atomic (record { 0 = port }) x) ∷ rest)) (here : k < length s.objects)
    (d : IsDone s.routes ram (faces s k) x (pass_at s k x)) where
  abbrev r : Stepped
  r = record {
    state = (pass_at s k x).state;
    next = s.next;
    changes = (pass_at s k x).changes;
    acts = (pass_at s k x).acts;
    entries = (pass_at s k x).entries;
    answer = answers.Nothing;
    moves = record no_moves { served = record { request = x; response = (pass_at s k x).packet } ∷ [] };
  }

  abbrev t : Sys
  t = put s k r

  abbrev p : IsProgram y ram s (Sent i (acts.Atomic (record { 0 = port }) x) ∷ rest)
  p = h.program

  abbrev later : List Item
  later = (rest ++ sent_by k (pass_at s k x).acts) ++ Done i (pass_at s k x).packet total ∷ []

  first : IsNet ram s rest Clear
  first = record {
    parts = h.net.parts;
    wired = h.net.wired;
    net = pop_none (peer_in s.wires) (faces s) (Sent i (acts.Atomic (record { 0 = port }) x)) rest (λ j q. (omega (arith, only_zero i j), omega (arith, only_zero i j))) h.net.net;
    due = h.net.due;
    sent = h.net.sent.1;
    routed = h.net.routed;
    placed = h.net.placed.1;
  }

  before : IsBefore ram s rest Clear k (wakes.AtomicDone x 0)
  before = before_wake ram s rest Clear k (wakes.AtomicDone x 0) first (λ b n. refl) (λ n e. cc)

  net : IsNet ram t later Clear
  net =
      let n = net_kept ram s rest k (wakes.AtomicDone x 0) r Clear Clear before here (record { ok = d.ok; law = d.law; due = d.due; acts = d.acts; hops = no_pass (faces s k) (pass_at s k x).acts d.passed; instant = d.instant })
      (pays_none (peer_in s.wires) (faces s) h.net.wired k (wakes.AtomicDone x 0) answers.Nothing (λ q. (refl, refl, refl, refl))) in
      record {
        parts = n.parts;
        wired = n.wired;
        net = push_done (peer_in s.wires) (faces t) (rest ++ sent_by k (pass_at s k x).acts) i total (pass_at s k x).packet n.net;
        due = n.due;
        sent = ok-done (rest ++ sent_by k (pass_at s k x).acts) i total (pass_at s k x).packet n.sent d.response;
        routed = n.routed;
        placed = placed-append (faces t) (length t.objects) (rest ++ sent_by k (pass_at s k x).acts) (Done i (pass_at s k x).packet total ∷ []) n.placed (omega (arith, instant_there s i h.net.placed.0.0, length-set s.objects k (pass_at s k x).state), tt);
      }

  all_now : (f : Packet → ℕ) → weigh f (all_packets s (Sent i (acts.Atomic (record { 0 = port }) x) ∷ rest)) ≡ weigh f (part_packets s.objects) + (f x + weigh f (item_packets rest))
  all_now f = weigh-append f (part_packets s.objects) (x ∷ item_packets rest)

  items_later : (f : Packet → ℕ) → weigh f (item_packets later) ≡ weigh f (item_packets rest) + f (pass_at s k x).packet
  items_later f = omega (arith, items-weigh f (rest ++ sent_by k (pass_at s k x).acts) (Done i (pass_at s k x).packet total ∷ []), items-weigh f rest (sent_by k (pass_at s k x).acts), sent-weigh f k (pass_at s k x).acts, ap (weigh f) d.passed)

  parts_later : (f : Packet → ℕ) → weigh f (part_packets (set s.objects k (pass_at s k x).state)) ≡ weigh f (part_packets s.objects)
  parts_later f = omega (arith, parts-set f s.objects k (pass_at s k x).state (Blank kinds.AtomicCpu) here, ap (weigh f) d.held)

  all_later : (f : Packet → ℕ) → weigh f (all_packets t later) ≡ weigh f (part_packets s.objects) + weigh f (item_packets rest) + f (pass_at s k x).packet
  all_later f = omega (arith, weigh-append f (part_packets (set s.objects k (pass_at s k x).state)) (item_packets later), items_later f, parts_later f)

  shift : Shift (all_packets s (Sent i (acts.Atomic (record { 0 = port }) x) ∷ rest)) (all_packets t later) r.moves
  shift = record {
    stay = part_packets s.objects ++ item_packets rest;
    before = λ f e. omega (arith, all_now f, weigh-append f (part_packets s.objects) (item_packets rest));
    after = λ f e. omega (arith, all_later f, weigh-append f (part_packets s.objects) (item_packets rest));
  }

  same_else : IsElse s t k (face_of (pass_at s k x).state)
  same_else = record {
    routes = refl;
    mind = ap (λ o. (face_of o).mind) same;
    memory = ap (λ o. (face_of o).memory) same;
    minds = λ j n. ap (λ o. (face_of o).mind) (other j n);
    memories = λ j n. ap (λ o. (face_of o).memory) (other j n);
    cpus = λ j. by_cpu j (cases_eq j k);
    instants = λ j. by_instant j (cases_eq j k);
    caches = λ j. by_caches j (cases_eq j k);
  } where
    same : object_at t k ≡ (pass_at s k x).state
    same = at_same ram s rest k (wakes.AtomicDone x 0) r Clear Clear before here (record { ok = d.ok; law = d.law; due = d.due; acts = d.acts; hops = no_pass (faces s k) (pass_at s k x).acts d.passed; instant = d.instant })
        (pays_none (peer_in s.wires) (faces s) h.net.wired k (wakes.AtomicDone x 0) answers.Nothing (λ q. (refl, refl, refl, refl)))

    other : (j : ℕ) → (j ≡ k → ⊥) → object_at t j ≡ object_at s j
    other = at_other ram s rest k (wakes.AtomicDone x 0) r Clear Clear before here (record { ok = d.ok; law = d.law; due = d.due; acts = d.acts; hops = no_pass (faces s k) (pass_at s k x).acts d.passed; instant = d.instant })
        (pays_none (peer_in s.wires) (faces s) h.net.wired k (wakes.AtomicDone x 0) answers.Nothing (λ q. (refl, refl, refl, refl)))

    by_cpu : (j : ℕ) → (j ≡ k) ⊎ (j ≡ k → ⊥) → (faces t j).cpu ≡ (faces s j).cpu
    by_cpu j (inl e) = subst (λ q. (faces t q).cpu ≡ (faces s q).cpu) (sym e) (ap (λ o. (face_of o).cpu) same ∙ d.cpu)
    by_cpu j (inr n) = ap (λ o. (face_of o).cpu) (other j n)

    by_instant : (j : ℕ) → (j ≡ k) ⊎ (j ≡ k → ⊥) → (faces t j).instant ≡ (faces s j).instant
    by_instant j (inl e) = subst (λ q. (faces t q).instant ≡ (faces s q).instant) (sym e) (ap (λ o. (face_of o).instant) same ∙ d.instant)
    by_instant j (inr n) = ap (λ o. (face_of o).instant) (other j n)

    by_caches : (j : ℕ) → (j ≡ k) ⊎ (j ≡ k → ⊥) → (faces t j).caches ≡ (faces s j).caches
    by_caches j (inl e) = subst (λ q. (faces t q).caches ≡ (faces s q).caches) (sym e) (ap (λ o. (face_of o).caches) same ∙ d.caches)
    by_caches j (inr n) = ap (λ o. (face_of o).caches) (other j n)

  may : MayThink s.routes ram p.mind (faces s k) (wakes.Refused (record { 0 = 0 }))
  may = record {
    held = omega (arith, p.fits, all_now (bad s.routes ram p.mind), part_le (bad s.routes ram p.mind) s.objects k (Blank kinds.AtomicCpu) here);
    shows = refl;
    owned = λ e. omega (arith, p.owes, all_now core, part_le core s.objects k (Blank kinds.AtomicCpu) here);
    foreign = λ e u. refl;
    done = λ e z l o. cc;
    timed = λ e u z l o. cc;
    response = λ z l o. cc;
    lines = λ b l o. cc;
  }

  mindless : Mindless s.routes ram (faces s k) (face_of (pass_at s k x).state) (pass_at s k x).acts (pass_at s k x).entries r.moves
  mindless = record {
    mind = d.mindless.1;
    made = refl;
    fits = λ n. refl;
    answered = refl;
    passed = ap (weigh core) d.passed;
    recalls = d.recalls;
  }

  -- a packet of the hart's is passed at once only where the active CPU's are
  instant : (c : ℕ) (m : Mind) → (faces s c).mind ≡ Some m → (faces s c).instant ≡ false → core x ≡ 0
  instant c m e u = by (cases_eq c p.cpu) where
    by : (c ≡ p.cpu) ⊎ (c ≡ p.cpu → ⊥) → core x ≡ 0
    by (inl o) = omega (arith, p.in_time (ap (λ j. (faces s j).instant) (sym o) ∙ u))
    by (inr n) = absurd (let z : Some m ≡ None = sym e ∙ p.alone c n in cc)

  recalled : MemoryStep y s.routes ram s t (record { request = x; response = (pass_at s k x).packet } ∷ []) (pass_at s k x).entries
  recalled = memory.passes ram s k x (record { kept = p.kept; size = p.size; parts = h.net.parts; instant = instant; same = same_else }) mindless

  same_core : core (pass_at s k x).packet ≡ core x
  same_core = omega (arith, responses_core s.routes (y.view s) (y.view t) (record { request = x; response = (pass_at s k x).packet } ∷ []) (pass_at s k x).entries recalled.serves)

  senders : weigh core (others_packets p.cpu later) ≡ 0
  senders = by (i == p.cpu) p.senders (others-append core p.cpu (rest ++ sent_by k (pass_at s k x).acts) (Done i (pass_at s k x).packet total ∷ [])) where
    by : (b : Bool) → weigh core ((if b then [] else x ∷ []) ++ others_packets p.cpu rest) ≡ 0
        → weigh core (others_packets p.cpu later) ≡ weigh core (others_packets p.cpu (rest ++ sent_by k (pass_at s k x).acts)) + weigh core ((if b then [] else (pass_at s k x).packet ∷ []) ++ [])
        → weigh core (others_packets p.cpu later) ≡ 0
    by true a e = omega (arith, a, e, others-append core p.cpu rest (sent_by k (pass_at s k x).acts), others-sent core p.cpu k (pass_at s k x).acts, ap (weigh core) d.passed)
    by false a e = omega (arith, a, e, same_core, others-append core p.cpu rest (sent_by k (pass_at s k x).acts), others-sent core p.cpu k (pass_at s k x).acts, ap (weigh core) d.passed)

  step : Step y ram s t (Sent i (acts.Atomic (record { 0 = port }) x) ∷ rest) later (pass_at s k x).entries
  step =
      program_step y ram s t (Sent i (acts.Atomic (record { 0 = port }) x) ∷ rest) later k (wakes.Refused (record { 0 = 0 })) (face_of (pass_at s k x).state) (pass_at s k x).acts (pass_at s k x).entries r.moves p same_else shift may
      (λ e. mindless) (λ e. absurd (no_mind (sym d.mindless.0 ∙ e))) (λ e. recalled) (λ e. absurd (no_mind (sym d.mindless.0 ∙ e)))
      (λ u. omega (arith, parts_later core, p.at_once u)) (λ u. omega (arith, items_later core, p.in_time u, same_core)) senders where
        no_mind : None ≡ Some p.mind → ⊥
        no_mind e = cc

  pub pass_done : (es : List Entry) → Handled y ram (record { sys = s; items = Sent i (acts.Atomic (record { 0 = port }) x) ∷ rest; entries = es }) (done_at (deliver_passed (record { sys = s; items = rest; entries = es }) k x) i (pass_at s k x).packet total) (record no_moves { served = record { request = x; response = (pass_at s k x).packet } ∷ [] })
  pass_done es = record {
    sound = record { net = net; program = step.program };
    wiring = record { wires = refl; ways = refl; routes = refl };
    replayed = record { noted = (pass_at s k x).entries; entries = refl; replays = step.replays };
    conserved = record { same = λ f e. omega (arith, all_now f, all_later f, e (pass_at s k x).packet x d.id) };
  }

-- a part that only passes it on is as it was
pub same_sys : (s : Sys) (k port : ℕ) (x : Packet) → GoesOn (faces s k) (object_at s k) x (pass_at s k x) port → passed s k x ≡ s
same_sys s k port x g =
    ap (λ (o : ObjState). with_object s k o (pass_at s k x).changes) g.state
    ∙ (ap (λ (c : List Change). with_object s k (object_at s k) c) g.changes ∙ ap (λ (os : List ObjState). let u : Sys = record s { objects = os } in u) (set-get_or s.objects k (Blank kinds.AtomicCpu)))

pub stays_same : (d : Delivery) (k port : ℕ) (x : Packet) → GoesOn (faces d.sys k) (object_at d.sys k) x (pass_at d.sys k x) port → deliver_passed d k x ≡ d
stays_same d k port x g =
    let items : d.items ++ sent_by k (pass_at d.sys k x).acts ≡ d.items = ap (λ a. d.items ++ sent_by k a) g.acts ∙ append-nil d.items in
    let noted : d.entries ++ (pass_at d.sys k x).entries ≡ d.entries = ap (λ e. d.entries ++ e) g.entries ∙ append-nil d.entries in
    ap (λ (u : Sys). let v : Delivery = record { sys = u; items = d.items ++ sent_by k (pass_at d.sys k x).acts; entries = d.entries ++ (pass_at d.sys k x).entries } in v) (same_sys d.sys k port x g)
    ∙ (ap (λ (u : List Item). let v : Delivery = record { sys = d.sys; items = u; entries = d.entries ++ (pass_at d.sys k x).entries } in v) items
    ∙ ap (λ (u : List Entry). let v : Delivery = record { sys = d.sys; items = d.items; entries = u } in v) noted)

-- a part on the way of a packet, from which it has at most so many parts to go
pub record IsOnWay (f : ℕ → Face) (depth : ℕ → ℕ) (k n : ℕ) (x : Packet) : Type 0 where
  pub port : ℕ
  pub deep : depth k < n
  pub there : port < (f k).ports
  pub fits : (f k).admits port x ≡ true

-- a way has an end: there the packet is served, and only that part changes
pub record IsServedBy (rs : List Route) (ram : ℕ) (s : Sys) (rest : List Item) (es : List Entry) (i : ℕ) (x : Packet) (before n : ℕ) (e : Delivery) (m : Moves) : Type 0 where
  pub place : ℕ
  pub took : ℕ
  pub there : place < length s.objects
  pub done : IsDone rs ram (faces s place) x (pass_at s place x)
  pub short : ((j : ℕ) → way_latency (pass_at s j x).way ≤ LATENCY_MAX) → took ≤ before + n * LATENCY_MAX
  pub ends : e ≡ done_at (deliver_passed (record { sys = s; items = rest; entries = es }) place x) i (pass_at s place x).packet took
  pub moves : m ≡ record no_moves { served = record { request = x; response = (pass_at s place x).packet } ∷ [] }

module _ (passes : PassesHold) (y : MemoryView) (memory : MemoryLaws y) (ram : ℕ) (s : Sys) (rest : List Item) (i port : ℕ) (x : Packet) (h : IsSoundOver y ram s (Sent i (acts.Atomic (record { 0 = port }) x) ∷ rest)) where
  -- a packet that the hart waits for is no write-back
  plain : is_write_back x.cmd ≡ false
  plain = by (is_write_back x.cmd) refl where
    by : (b : Bool) → is_write_back x.cmd ≡ b → is_write_back x.cmd ≡ false
    by false e = e
    by true e = absurd (no_write_back s.routes ram h.program.mind x
        (omega (arith, h.program.fits, weigh-append (bad s.routes ram h.program.mind) (part_packets s.objects) (x ∷ item_packets rest))) (written_back x.cmd e))

  -- what each part on the way owes
  pub hop_keeps : (k n : ℕ) → IsOnWay (faces s) h.net.wired.depth k n x → WayKeeps s.routes ram (faces s k) (object_at s k) x (pass_at s k x) (pass_at s k x).way
  hop_keeps k n w = passes s.routes ram (object_at s k) x s.tick w.port (h.net.parts k) w.there w.fits h.net.sent.0 plain

  -- the first part, and the next after one that passes it on
  pub first_hop : IsOnWay (faces s) h.net.wired.depth (peer_in s.ways i port).part passes_max x
  first_hop =
      let hop = h.net.routed i port x h.net.placed.0.0 h.net.placed.0.1 in
      record { port = (peer_in s.ways i port).port; deep = hop.deep; there = hop.there; fits = hop.fits }

  pub next_hop : (k n p : ℕ) → h.net.wired.depth k < suc n → GoesOn (faces s k) (object_at s k) x (pass_at s k x) p → IsOnWay (faces s) h.net.wired.depth (peer_in s.wires k p).part n x
  next_hop k n p deep g = record {
    port = (peer_in s.wires k p).port;
    deep = omega (arith, deep, h.net.wired.falls k p x g.there g.passes g.sends);
    there = h.net.wired.real k p g.there;
    fits = h.net.wired.fit k p x g.there g.sends;
  }

  -- so a packet has a way from each part on it, and from the first
  way_from : (n k : ℕ) → IsOnWay (faces s) h.net.wired.depth k n x → HasWay n s k x
  unfolding HasWay
  way_from zero k w = omega (arith, w.deep)
  way_from (suc n) k w = (part_there s k w.port w.there, by (pass_at s k x).way (hop_keeps k (suc n) w) (λ j m. way_from n j m)) where
    by : (v : Way) → WayKeeps s.routes ram (faces s k) (object_at s k) x (pass_at s k x) v → ((j : ℕ) → IsOnWay (faces s) h.net.wired.depth j n x → HasWay n s j x)
        → GoesFrom (λ j. HasWay n s j x) s k x v
    by (ways.Done l) done more = tt
    by (ways.Pass p l) g more = (g, more (peer_in s.wires k p.0).part (next_hop k n p.0 w.deep g))

  pub way_there : HasWay passes_max s (peer_in s.ways i port).part x
  way_there = way_from passes_max (peer_in s.ways i port).part first_hop

  module _ (es : List Entry) where
    -- from part to part, as far as the fuel goes
    way_served : (n k before : ℕ) → IsOnWay (faces s) h.net.wired.depth k n x
        → IsServedBy s.routes ram s rest es i x before n (deliver_atomic n (record { sys = s; items = rest; entries = es }) i k x before) (atomic_moves n s k x)
    unfolding deliver_atomic atomic_moves
    way_served zero k before w = absurd (omega (arith, w.deep))
    way_served (suc n) k before w =
        by (pass_at s k x).way refl (hop_keeps k (suc n) w) (λ j t more. way_served n j t more) where
          by : (v : Way) → (pass_at s k x).way ≡ v → WayKeeps s.routes ram (faces s k) (object_at s k) x (pass_at s k x) v
              → ((j t : ℕ) → IsOnWay (faces s) h.net.wired.depth j n x
              → IsServedBy s.routes ram s rest es i x t n (deliver_atomic n (record { sys = s; items = rest; entries = es }) i j x t) (atomic_moves n s j x))
              → (let d : Delivery = record { sys = s; items = rest; entries = es } in
              IsServedBy s.routes ram s rest es i x before (suc n)
              (pass_way (λ p t. deliver_atomic n (deliver_passed d k x) i (peer_in s.wires k p).part (pass_at s k x).packet t) (deliver_passed d k x) i (pass_at s k x).packet before v)
              (pass_moves (λ p. atomic_moves n (passed s k x) (peer_in s.wires k p).part (pass_at s k x).packet) x (pass_at s k x).packet v))
          by (ways.Done l) e done more = record {
            place = k;
            took = before + l;
            there = part_there s k w.port w.there;
            done = done;
            short = λ soon. omega (arith, soon k, ap way_latency e);
            ends = refl;
            moves = refl;
          }
          by (ways.Pass p l) e g more =
              let d : Delivery = record { sys = s; items = rest; entries = es } in
              let r = more (peer_in s.wires k p.0).part (before + l) (next_hop k n p.0 w.deep g) in
              record {
                place = r.place;
                took = r.took;
                there = r.there;
                done = r.done;
                short = λ soon. omega (arith, soon k, ap way_latency e, r.short soon);
                ends = ap (λ (u : Delivery). deliver_atomic n u i (peer_in s.wires k p.0).part (pass_at s k x).packet (before + l)) (stays_same d k p.0 x g)
                    ∙ (ap (λ (z : Packet). deliver_atomic n d i (peer_in s.wires k p.0).part z (before + l)) g.packet ∙ r.ends);
                moves = ap (λ (u : Sys). atomic_moves n u (peer_in s.wires k p.0).part (pass_at s k x).packet) (same_sys s k p.0 x g)
                    ∙ (ap (λ (z : Packet). atomic_moves n s (peer_in s.wires k p.0).part z) g.packet ∙ r.moves);
              }

    pub atomic_served : (let d : Delivery = record { sys = s; items = rest; entries = es } in let k = (peer_in s.ways i port).part in
        IsServedBy s.routes ram s rest es i x 0 passes_max (deliver_atomic passes_max d i k x 0) (atomic_moves passes_max s k x))
    atomic_served = way_served passes_max (peer_in s.ways i port).part 0 first_hop

    -- a packet that is passed at once
    pub atomic_handled : (let d : Delivery = record { sys = s; items = rest; entries = es } in let k = (peer_in s.ways i port).part in
        Handled y ram (record { sys = s; items = Sent i (acts.Atomic (record { 0 = port }) x) ∷ rest; entries = es }) (deliver_atomic passes_max d i k x 0) (atomic_moves passes_max s k x))
    atomic_handled =
        let v = atomic_served in
        subst (λ (e : Delivery). Handled y ram (record { sys = s; items = Sent i (acts.Atomic (record { 0 = port }) x) ∷ rest; entries = es }) e (atomic_moves passes_max s (peer_in s.ways i port).part x)) (sym v.ends)
        (subst (λ (m : Moves). Handled y ram (record { sys = s; items = Sent i (acts.Atomic (record { 0 = port }) x) ∷ rest; entries = es })
        (done_at (deliver_passed (record { sys = s; items = rest; entries = es }) v.place x) i (pass_at s v.place x).packet v.took) m) (sym v.moves)
        (pass_done y memory ram s rest i port x v.place v.took h v.there v.done es))
