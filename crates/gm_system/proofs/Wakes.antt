-- One wake with all that it means: ports, events and the program.
use Rattle.std.proofs.Common.{◌≡◌, ℕ, ◌+◌, ◌<◌, ◌≤◌, Bool, true, false, List, ◌++◌, refl, sym, ◌∙◌, ap, subst, arith, Some, None, ◌⊎◌, inl, inr, length, set}
use Rattle.std.proofs.lemmas.Bool.{cases_eq}
use Rattle.gm_model.specs.Deliver.{Item, sent_by}
use Rattle.gm_words.specs.HartLine.{is_line}
use Rattle.gm_model.specs.ObjState.{Blank}
use Rattle.pkt_pool.specs.Packet.{is_response}
use Rattle.gm_words.specs.Routes.{Route}
use Rattle.gm_model.specs.Stepped.{Stepped}
use Rattle.gm_words.specs.Moves.{Service}
use Rattle.gm_model.specs.Sys.{Sys, object_at, step_at, woken, peer_in}
use Rattle.gm_model.specs.View.{all_packets, part_packets, item_packets, is_of_hart}
use Rattle.gm_words.specs.declared.answer.Answer.{Answer}
use Rattle.gm_words.specs.declared.answer.Answer.TheVariants as answers
use Rattle.gm_words.specs.declared.entry.Entry.{Entry}
use Rattle.gm_words.specs.declared.kind.Kind.TheVariants as kinds
use Rattle.pkt_pool.specs.declared.packet.Packet.{Packet}
use Rattle.gm_words.specs.declared.wake.Wake.{Wake}
use Rattle.gm_words.specs.declared.wake.Wake.TheVariants as wakes
use Rattle.gm_laws.specs.Words.{weigh, IsBlind, requests_of, responses_of}
use Rattle.gm_laws.specs.Face.{Face, came_in, went_out, passed_packets}
use Rattle.gm_laws.specs.Faces.{face_of, Keeps}
use Rattle.gm_system.specs.Net.{Debt, Clear, Pays}
use Rattle.gm_laws.specs.Program.{bit, core, bad, Serves, none, aside, serves, MayThink, Mindless, Thinks}
use Rattle.gm_system.specs.MemoryLaws.{IsElse, IsStepOf, MemoryLaws}
use Rattle.gm_system.specs.MemoryView.{MemoryView, MemoryStep, MemoryRests, Alone, is_lone}
use Rattle.gm_system.specs.System.{IsNet, IsProgram, faces, others_packets, IsById}
use Rattle.gm_laws.proofs.Weights.{weigh-append, core_blind}
use Rattle.gm_system.proofs.Packets.{parts-set, part_le, items-weigh, sent-weigh, others-append, others-sent, others-own, blank_packets}
use Rattle.gm_system.proofs.Programs.{Shift, Step, program_step}
use Rattle.gm_system.proofs.Services.{same_source}
use Rattle.gm_laws.specs.Laws.{WakesHold}
use Rattle.gm_system.proofs.Systems.{IsBefore, net_part, may, keeps, at_same, at_other, net_kept}

-- what is served is the hart's, or not, as its response is
pub responses_core : (rs : List Route) (m n : List ℕ) (vs : List Service) (es : List Entry) → Serves rs m vs es n → weigh core (responses_of vs) ≡ weigh core (requests_of vs)
responses_core rs _ _ _ _ (none m) = refl
responses_core rs _ _ _ _ (aside m n vs e es h more) = responses_core rs m n vs es more
responses_core rs _ _ _ _ (serves m n o v vs xs es svc more) =
    omega (arith, ap (λ k. bit (is_of_hart k)) (same_source rs v.request v.response m n xs svc), responses_core rs n o vs es more)

-- what the program asks of the wake, by the item that it comes of
pub record Comes (s : Sys) (before rest : List Item) (c : ℕ) (i : ℕ) (w : Wake) : Type 0 where
  pub popped : (f : Packet → ℕ) (a : Answer) → weigh f (item_packets before) ≡ weigh f (item_packets rest) + came_in f w a
  pub stays : (f : Packet → ℕ) (k : Face) → went_out f k w ≡ 0
  pub others : weigh core (others_packets c rest) ≤ weigh core (others_packets c before)
  pub done : (i ≡ c → ⊥) → (a : Answer) → came_in core w a ≤ weigh core (others_packets c before)
  pub is_done : (x : Packet) (l : ℕ) → w ≡ wakes.AtomicDone x l → (is_response x.cmd ≡ true) × (core x ≡ came_in core w answers.Nothing)
  pub lines : (b : ℕ) (l : Bool) → w ≡ wakes.Line b l → is_line b ≡ true
  pub lone : is_lone w ≡ true

-- a wake's effect on the whole machine
pub record Woke (y : MemoryView) (ram : ℕ) (s : Sys) (before rest : List Item) (i : ℕ) (w : Wake) : Type 0 where
  pub net : IsNet ram (woken s i w) (rest ++ sent_by i (step_at s i w).acts) Clear
  pub step : Step y ram s (woken s i w) before (rest ++ sent_by i (step_at s i w).acts) (step_at s i w).entries
  pub same : (h : Packet → ℕ) → IsBlind h → IsById h → weigh h (all_packets (woken s i w) (rest ++ sent_by i (step_at s i w).acts)) + weigh h ((step_at s i w).moves.answered ++ (step_at s i w).moves.absorbed)
      ≡ weigh h (all_packets s before) + weigh h (step_at s i w).moves.made

module _ (laws : WakesHold) (y : MemoryView) (memory : MemoryLaws y) (ram : ℕ) (s : Sys) (before rest : List Item) (i : ℕ) (w : Wake) (d : Debt) (b : IsBefore ram s rest d i w) (here : i < length s.objects)
    (pays : Pays (peer_in s.wires) (faces s) i w (step_at s i w).answer d Clear) (p : IsProgram y ram s before) (c : Comes s before rest p.cpu i w) where
  r : Stepped
  r = step_at s i w

  t : Sys
  t = woken s i w

  later : List Item
  later = rest ++ sent_by i (step_at s i w).acts

  k : Keeps s.routes ram (faces s i) w (step_at s i w)
  k = keeps laws ram s rest i w d Clear b here pays

  all_now : (f : Packet → ℕ) → weigh f (all_packets s before) ≡ weigh f (part_packets s.objects) + weigh f (item_packets before)
  all_now f = weigh-append f (part_packets s.objects) (item_packets before)

  all_later : (f : Packet → ℕ) → weigh f (all_packets (woken s i w) (rest ++ sent_by i (step_at s i w).acts))
      ≡ weigh f (part_packets (set s.objects i (step_at s i w).state)) + weigh f (item_packets rest) + weigh f (passed_packets (step_at s i w).acts)
  all_later f =
      omega (arith, weigh-append f (part_packets (set s.objects i (step_at s i w).state)) (item_packets (rest ++ sent_by i (step_at s i w).acts)), items-weigh f rest (sent_by i (step_at s i w).acts), sent-weigh f i (step_at s i w).acts)

  others : List Packet
  others = part_packets (set s.objects i (Blank kinds.AtomicCpu)) ++ item_packets rest

  parts_later : (f : Packet → ℕ) → weigh f (part_packets (set s.objects i (step_at s i w).state)) + weigh f (faces s i).packets ≡ weigh f (part_packets s.objects) + weigh f (face_of (step_at s i w).state).packets
  parts_later f = parts-set f s.objects i (step_at s i w).state (Blank kinds.AtomicCpu) here

  parts_others : (f : Packet → ℕ) → weigh f (part_packets (set s.objects i (Blank kinds.AtomicCpu))) + weigh f (faces s i).packets ≡ weigh f (part_packets s.objects)
  parts_others f = omega (arith, parts-set f s.objects i (Blank kinds.AtomicCpu) (Blank kinds.AtomicCpu) here, ap (weigh f) blank_packets)

  shift : Shift (all_packets s before) (all_packets (woken s i w) (rest ++ sent_by i (step_at s i w).acts)) (step_at s i w).moves
  shift = record {
    stay = k.conserves.kept ++ (part_packets (set s.objects i (Blank kinds.AtomicCpu)) ++ item_packets rest);
    before = λ f e. omega (arith, all_now f, c.popped f (step_at s i w).answer, c.stays f (faces s i), parts_others f, k.conserves.before f e, weigh-append f k.conserves.kept (part_packets (set s.objects i (Blank kinds.AtomicCpu)) ++ item_packets rest), weigh-append f (part_packets (set s.objects i (Blank kinds.AtomicCpu))) (item_packets rest));
    after = λ f e. omega (arith, all_later f, parts_later f, parts_others f, k.conserves.after f e, weigh-append f k.conserves.kept (part_packets (set s.objects i (Blank kinds.AtomicCpu)) ++ item_packets rest), weigh-append f (part_packets (set s.objects i (Blank kinds.AtomicCpu))) (item_packets rest));
  }

  may_think : MayThink s.routes ram p.mind (faces s i) w
  may_think = record {
    held = omega (arith, p.fits, all_now (bad s.routes ram p.mind), part_le (bad s.routes ram p.mind) s.objects i (Blank kinds.AtomicCpu) here);
    shows = omega (arith, p.fits, all_now (bad s.routes ram p.mind), c.popped (bad s.routes ram p.mind) answers.Nothing);
    owned = λ e. omega (arith, p.owes, all_now core, part_le core s.objects i (Blank kinds.AtomicCpu) here, c.popped core answers.Nothing);
    foreign = λ e u. omega (arith, c.done (no_mind e) answers.Nothing, p.senders);
    done = λ e x l o. omega (arith, (c.is_done x l o).1, c.done (no_mind e) answers.Nothing, p.senders);
    timed = λ h u x l o. timed u x l o (cases_eq i p.cpu);
    response = λ x l o. (c.is_done x l o).0;
    lines = c.lines;
  } where
    timed : (faces s i).instant ≡ false → (x : Packet) (l : ℕ) → w ≡ wakes.AtomicDone x l → (i ≡ p.cpu) ⊎ (i ≡ p.cpu → ⊥) → core x ≡ 0
    timed u x l o (inl e) = omega (arith, (c.is_done x l o).1, c.popped core answers.Nothing, p.in_time (ap (λ j. (faces s j).instant) (sym e) ∙ u))
    timed u x l o (inr n) = omega (arith, (c.is_done x l o).1, c.done n answers.Nothing, p.senders)

    no_mind : (faces s i).mind ≡ None → i ≡ p.cpu → ⊥
    no_mind e f = let z : Some p.mind ≡ None = sym p.here ∙ (ap (λ j. (faces s j).mind) (sym f) ∙ e) in cc

  same_else : IsElse s (woken s i w) i (face_of (step_at s i w).state)
  same_else = record {
    routes = refl;
    mind = ap (λ o. (face_of o).mind) same;
    memory = ap (λ o. (face_of o).memory) same;
    minds = λ j n. ap (λ o. (face_of o).mind) (other j n);
    memories = λ j n. ap (λ o. (face_of o).memory) (other j n);
    cpus = λ j. by_cpu j (cases_eq j i);
    instants = λ j. by_instant j (cases_eq j i);
    caches = λ j. by_caches j (cases_eq j i);
  } where
    same : object_at (woken s i w) i ≡ (step_at s i w).state
    same = at_same ram s rest i w (step_at s i w) d Clear b here (net_part s.routes ram (faces s i) w (step_at s i w) k) pays

    other : (j : ℕ) → (j ≡ i → ⊥) → object_at (woken s i w) j ≡ object_at s j
    other = at_other ram s rest i w (step_at s i w) d Clear b here (net_part s.routes ram (faces s i) w (step_at s i w) k) pays

    by_cpu : (j : ℕ) → (j ≡ i) ⊎ (j ≡ i → ⊥) → (faces (woken s i w) j).cpu ≡ (faces s j).cpu
    by_cpu j (inl e) = subst (λ q. (faces (woken s i w) q).cpu ≡ (faces s q).cpu) (sym e) (ap (λ o. (face_of o).cpu) same ∙ k.same.cpu)
    by_cpu j (inr n) = ap (λ o. (face_of o).cpu) (other j n)

    by_instant : (j : ℕ) → (j ≡ i) ⊎ (j ≡ i → ⊥) → (faces (woken s i w) j).instant ≡ (faces s j).instant
    by_instant j (inl e) = subst (λ q. (faces (woken s i w) q).instant ≡ (faces s q).instant) (sym e) (ap (λ o. (face_of o).instant) same ∙ k.same.instant)
    by_instant j (inr n) = ap (λ o. (face_of o).instant) (other j n)

    by_caches : (j : ℕ) → (j ≡ i) ⊎ (j ≡ i → ⊥) → (faces (woken s i w) j).caches ≡ (faces s j).caches
    by_caches j (inl e) = subst (λ q. (faces (woken s i w) q).caches ≡ (faces s q).caches) (sym e) (ap (λ o. (face_of o).caches) same ∙ k.same.caches)
    by_caches j (inr n) = ap (λ o. (face_of o).caches) (other j n)

  -- what it means to memory
  is_step : IsStepOf y ram p.mind s (woken s i w) i w
  is_step = record {
    kept = p.kept;
    size = p.size;
    parts = b.parts;
    happens = Alone c.lone refl;
    same = same_else;
    wake = may laws ram s rest i w d Clear b here pays;
    think = may_think;
  }

  recalled : (faces s i).mind ≡ None → MemoryStep y s.routes ram s (woken s i w) (step_at s i w).moves.served (step_at s i w).entries
  recalled e = memory.serves ram p.mind s (woken s i w) i w is_step (k.mindless p.mind e may_think)

  rests : (faces s i).mind ≡ Some p.mind → MemoryRests y ram s (woken s i w)
  rests e = memory.rests ram p.mind s (woken s i w) i w is_step (k.thinks p.mind e may_think)

  quiet : (i ≡ p.cpu → ⊥) → Mindless s.routes ram (faces s i) (face_of (step_at s i w).state) (step_at s i w).acts (step_at s i w).entries (step_at s i w).moves
  quiet n = k.mindless p.mind (p.alone i n) may_think

  active : i ≡ p.cpu → Thinks ram p.mind (faces s i) (face_of (step_at s i w).state) (step_at s i w).acts (step_at s i w).entries (step_at s i w).moves
  active e = k.thinks p.mind (ap (λ j. (faces s j).mind) e ∙ p.here) may_think

  at_once : (faces s p.cpu).instant ≡ true → weigh core (part_packets (set s.objects i (step_at s i w).state)) ≡ 0
  at_once u = by (cases_eq i p.cpu) where
    by : (i ≡ p.cpu) ⊎ (i ≡ p.cpu → ⊥) → weigh core (part_packets (set s.objects i (step_at s i w).state)) ≡ 0
    by (inl e) =
        let g = (k.same.empty (ap (λ j. (faces s j).instant) e ∙ u)).1 in
        omega (arith, parts_later core, p.at_once u, ap (weigh core) g)
    by (inr n) =
        let q = quiet n in
        let sv = responses_core s.routes (y.view s) (y.view (woken s i w)) (step_at s i w).moves.served (step_at s i w).entries (recalled (p.alone i n)).serves in
        omega (arith, parts_later core, p.at_once u, part_le core s.objects i (Blank kinds.AtomicCpu) here, k.conserves.before core core_blind, k.conserves.after core core_blind, q.made, sv, c.done n (step_at s i w).answer, p.senders)

  in_time : (faces s p.cpu).instant ≡ false → weigh core (item_packets (rest ++ sent_by i (step_at s i w).acts)) ≡ 0
  in_time u = by (cases_eq i p.cpu) where
    by : (i ≡ p.cpu) ⊎ (i ≡ p.cpu → ⊥) → weigh core (item_packets (rest ++ sent_by i (step_at s i w).acts)) ≡ 0
    by (inl e) = omega (arith, items-weigh core rest (sent_by i (step_at s i w).acts), sent-weigh core i (step_at s i w).acts, (active e).passed (ap (λ j. (faces s j).instant) e ∙ u), p.in_time u, c.popped core answers.Nothing)
    by (inr n) = omega (arith, items-weigh core rest (sent_by i (step_at s i w).acts), sent-weigh core i (step_at s i w).acts, (quiet n).passed, p.in_time u, c.popped core answers.Nothing)

  senders : weigh core (others_packets p.cpu (rest ++ sent_by i (step_at s i w).acts)) ≡ 0
  senders = by (cases_eq i p.cpu) where
    by : (i ≡ p.cpu) ⊎ (i ≡ p.cpu → ⊥) → weigh core (others_packets p.cpu (rest ++ sent_by i (step_at s i w).acts)) ≡ 0
    by (inl e) = omega (arith, others-append core p.cpu rest (sent_by i (step_at s i w).acts), c.others, p.senders, subst (λ j. weigh core (others_packets p.cpu (sent_by j (step_at s i w).acts)) ≡ 0) (sym e) (others-own core p.cpu (step_at s i w).acts))
    by (inr n) = omega (arith, others-append core p.cpu rest (sent_by i (step_at s i w).acts), c.others, p.senders, others-sent core p.cpu i (step_at s i w).acts, (quiet n).passed)

  pub wake_keeps : Woke y ram s before rest i w
  wake_keeps = record {
    net = net_kept ram s rest i w (step_at s i w) d Clear b here (net_part s.routes ram (faces s i) w (step_at s i w) k) pays;
    step = program_step y ram s (woken s i w) before (rest ++ sent_by i (step_at s i w).acts) i w (face_of (step_at s i w).state) (step_at s i w).acts (step_at s i w).entries (step_at s i w).moves p same_else shift may_think
        (λ e. k.mindless p.mind e may_think) (λ e. k.thinks p.mind e may_think) recalled rests at_once in_time senders;
    same = λ h e u. omega (arith, shift.before h e, shift.after h e, k.conserves.numbers h u, weigh-append h (step_at s i w).moves.answered (step_at s i w).moves.absorbed);
  }
