-- The laws of the atomic CPU.
use Rattle.std.proofs.Common.{◌≡◌, ℕ, zero, suc, ◌+◌, ◌<◌, ◌≤◌, ◌==◌, if◌then◌else◌, cond, ◌&&◌, not, Bool, true, false, List, [], ◌∷◌, refl, sym, ◌∙◌, ap, subst, arith, Option, Some, None, inl, inr, take}
use Rattle.std.proofs.lemmas.Bool.{and_parts}
use Rattle.gc_base.specs.declared.ids.SlotNo.{SlotNo}
use Rattle.rv_step.specs.declared.arch.Arch.{Arch}
use Rattle.rv_step.specs.declared.demand.Demand.{Demand}
use Rattle.rv_step.specs.declared.demand.Demand.TheVariants as demand
use Rattle.rv_step.specs.Bytes.{number}
use Rattle.rv_step.specs.Demand.{need}
use Rattle.rv_step.specs.Retire.{finish}
use Rattle.rv_step.specs.Trap.{enter_trap, interrupt_cause}
use Rattle.gm_model.specs.Accesses.{fetch_request, load_request, store_request}
use Rattle.gm_model.specs.AtomicCpu.{cpu_ends, cpu_asks, cpu_begins, cpu_event, cpu_fetched, cpu_accessed, cpu_done, cpu_line, cpu_lined, goes_on, atomic_cpu_step}
use Rattle.gm_words.specs.HartLine.{with_line, next_multiple}
use Rattle.gm_model.specs.ObjState.{AtomicCpu, AtomicCpuState, CpuStage, Rest, AwaitFetch, AwaitData}
use Rattle.pkt_pool.specs.Packet.{is_response}
use Rattle.gm_words.specs.Platform.{is_in_ram}
use Rattle.gm_words.specs.Routes.{Route}
use Rattle.gm_model.specs.Stepped.{Stepped, answering, stays}
use Rattle.gm_words.specs.Moves.{Moves, no_moves}
use Rattle.gm_words.specs.Changes.{Change, Schedule, due_after}
use Rattle.gm_model.specs.View.{Mind, Doing, Boundary, Fetching, Decoded, Accessing, mind_with, atomic_doing}
use Rattle.gm_words.specs.declared.act.Act.{Act}
use Rattle.gm_words.specs.declared.act.Act.TheVariants as acts
use Rattle.gm_words.specs.declared.answer.Answer.TheVariants as answers
use Rattle.gm_words.specs.declared.entry.Entry.{Entry}
use Rattle.gm_words.specs.declared.entry.Entry.TheVariants as entries
use Rattle.pkt_pool.specs.declared.packet.Packet.{Packet}
use Rattle.gm_words.specs.declared.wake.Wake.{Wake}
use Rattle.gm_words.specs.declared.wake.Wake.TheVariants as wakes
use Rattle.gm_laws.specs.Words.{weigh, IsIn, offer_out, offers, calls, requests_of, responses_of}
use Rattle.gm_laws.specs.Face.{FaceOk, MayWake, came_in, passed_packets, due_before}
use Rattle.gm_laws.specs.Fuel.{weight, spend}
use Rattle.gm_laws.specs.Program.{bit, core, owed, suits, content_of, Content, is_access, MayThink, Mindless, Thinks, Thought, mind, over, silent, lined, interrupted, misfetched, fetches, finished, trapped, fetched_loads, fetched_stores, loaded, load_refused, stored, store_refused, none}
use Rattle.gm_laws.specs.Faces.{face_of, IsOk, Keeps, atomic_face, atomic_toil, AtomicOk, AllActsOk, AllPassOk}
use Rattle.gm_laws.proofs.Bytes.{same_is}
use Rattle.gm_laws.proofs.Counts.{only_self}
use Rattle.gm_laws.proofs.Calm.{IsCalmWake, calm_event, calm_line, calm_done, event_due, set_due, no_both}

pub atomic_ok : (s : AtomicCpuState) → FaceOk (atomic_face s)
atomic_ok s = record {
  bits = λ p. omega arith;
  within = λ p h. absurd (omega (arith, h));
  offers_one = λ p h. absurd (omega (arith, h));
  lists = λ l p. omega arith;
  holds = λ p x h e f. absurd (omega (arith, h));
  portless = λ e. refl;
}

-- acts that are neither offers nor calls
record IsPortless (list : List Act) : Type 0 where
  offers_none : (p : ℕ) → offers p list ≡ 0
  calls_none : (p : ℕ) → calls p list ≡ 0
  none_in : (p : ℕ) (x : Packet) → IsIn (offer_out p x) list → ⊥
  hops : (s : AtomicCpuState) → AllPassOk (atomic_face s) list

no_acts : IsPortless []
no_acts = record { offers_none = λ p. refl; calls_none = λ p. refl; none_in = λ p x h. h; hops = λ s. tt }

one_pass : (port : ℕ) (x : Packet) → port < 2 → IsPortless (acts.Atomic (record { 0 = port }) x ∷ [])
one_pass port x low = record { offers_none = λ p. refl; calls_none = λ p. refl; none_in = λ p y h. not_in p y h; hops = λ s. ((refl, low), tt) } where
  not_in : (p : ℕ) (y : Packet) → IsIn (offer_out p y) (acts.Atomic (record { 0 = port }) x ∷ []) → ⊥
  not_in p y (inl e) = cc e
  not_in p y (inr h) = h

by_step : (rs : List Route) (ram : ℕ) (s t : AtomicCpuState) (w : Wake) (next : ℕ) (list : List Act) (changes : List Change) (es : List Entry) (v : Moves) → AtomicOk ram t → IsCalmWake w answers.Nothing → IsPortless list
    → ((n : ℕ) → (t.due && (n == 0)) ≡ due_after changes (due_before w (s.due && (n == 0)) n) n) → ((f : Packet → ℕ) → came_in f w answers.Nothing ≡ weigh f v.answered) → passed_packets list ≡ v.made → v.served ≡ [] → v.absorbed ≡ []
    → weight list + atomic_toil t.stage ≤ atomic_toil s.stage + spend w answers.Nothing → AllActsOk list
    → ((m : Mind) → s.arch ≡ None → MayThink rs ram m (atomic_face s) w → Mindless rs ram (atomic_face s) (atomic_face t) list es v)
    → ((m : Mind) (a : Arch) → s.arch ≡ Some a → m ≡ mind a (atomic_doing s.stage) → MayThink rs ram m (atomic_face s) w → Thinks ram m (atomic_face s) (atomic_face t) list es v)
    → (let r : Stepped = record { state = AtomicCpu t; next = next; changes = changes; acts = list; entries = es; answer = answers.Nothing; moves = v } in Keeps rs ram (atomic_face s) w r)
unfolding face_of IsOk
by_step rs ram s t w next list changes es v ok calm portless due came passed served absorbed light sent mindless thinks = record {
  ok = ok;
  law = record {
    ok = atomic_ok t;
    ports = refl;
    route = λ x. refl;
    sends = λ p x. refl;
    admits = λ p x. refl;
    passes = λ p. refl;
    asked = λ p. omega (arith, calm.told_none p, portless.offers_none p);
    waits = λ p. omega (arith, calm.retry_none p, calm.refused_none p);
    listed = λ p. omega (arith, calm.rejected_none p, portless.calls_none p);
    joins = λ l p h. absurd (omega (arith, h));
    carries = λ p x h. absurd (portless.none_in p x h);
    keeps = λ p h z. absurd (omega (arith, h));
    again = λ p. omega (arith, calm.retry_none p);
    feeds = λ p x e. refl;
    hungry = λ l h. inl h;
  };
  due = due;
  conserves = record {
    kept = [];
    before = λ f e. omega (arith, came f, calm.out_none f (atomic_face s), ap (weigh f) absorbed, ap (λ x. weigh f (requests_of x)) served);
    after = λ f e. omega (arith, ap (weigh f) passed, ap (λ x. weigh f (responses_of x)) served);
    numbers = λ f e. ap (λ x. weigh f (responses_of x)) served ∙ sym (ap (λ x. weigh f (requests_of x)) served);
  };
  spends = record { few = λ p. omega (arith, portless.offers_none p); light = light };
  same = record { cpu = refl; instant = refl; caches = refl; empty = λ e. (refl, refl) };
  quiet = λ p h. absurd (omega (arith, h, calm.told_none p));
  acts = sent;
  hops = portless.hops s;
  mindless = λ m e may. mindless m (none_mind s.arch e) may;
  thinks = λ m e may. by_arch s.arch refl m e may;
} where
  none_mind : (o : Option Arch) → mind_with (atomic_doing s.stage) o ≡ None → o ≡ None
  none_mind None e = refl
  none_mind (Some a) e = cc

  by_arch : (o : Option Arch) → s.arch ≡ o → (m : Mind) → mind_with (atomic_doing s.stage) s.arch ≡ Some m → MayThink rs ram m (atomic_face s) w → Thinks ram m (atomic_face s) (atomic_face t) list es v
  by_arch None e m h may = absurd (no_some (sym h ∙ ap (mind_with (atomic_doing s.stage)) e)) where
    no_some : Some m ≡ None → ⊥
    no_some z = cc
  by_arch (Some a) e m h may = thinks m a e (some_is (sym h ∙ ap (mind_with (atomic_doing s.stage)) e)) may where
    some_is : Some m ≡ Some (mind a (atomic_doing s.stage)) → m ≡ mind a (atomic_doing s.stage)
    some_is z = cc

by_some : (rs : List Route) (ram : ℕ) (s t : AtomicCpuState) (a b : Arch) (w : Wake) (next : ℕ) (list : List Act) (changes : List Change) (es : List Entry) (v : Moves) → s.arch ≡ Some a → t.arch ≡ Some b
    → t.common.ram ≡ ram → IsCalmWake w answers.Nothing → IsPortless list → ((n : ℕ) → (t.due && (n == 0)) ≡ due_after changes (due_before w (s.due && (n == 0)) n) n) → ((f : Packet → ℕ) → came_in f w answers.Nothing ≡ weigh f v.answered)
    → passed_packets list ≡ v.made → v.served ≡ [] → v.absorbed ≡ [] → weight list + atomic_toil t.stage ≤ atomic_toil s.stage + spend w answers.Nothing → AllActsOk list
    → (MayThink rs ram (mind a (atomic_doing s.stage)) (atomic_face s) w → Thought ram a (atomic_doing s.stage) v.made v.answered es (mind b (atomic_doing t.stage)))
    → (let r : Stepped = record { state = AtomicCpu t; next = next; changes = changes; acts = list; entries = es; answer = answers.Nothing; moves = v } in Keeps rs ram (atomic_face s) w r)
by_some rs ram s t a b w next list changes es v at bt size calm portless due came passed served absorbed light sent thought =
    by_step rs ram s t w next list changes es v (record { size = size; rests = λ e. absurd (no_b e) }) calm portless due came passed served absorbed light sent (λ m e may. absurd (no_a e)) (λ m x e f may. think m x e f may) where
      no_a : s.arch ≡ None → ⊥
      no_a e = let z : Some a ≡ None = sym at ∙ e in cc

      no_b : t.arch ≡ None → ⊥
      no_b e = let z : Some b ≡ None = sym bt ∙ e in cc

      think : (m : Mind) (x : Arch) → s.arch ≡ Some x → m ≡ mind x (atomic_doing s.stage) → MayThink rs ram m (atomic_face s) w → Thinks ram m (atomic_face s) (atomic_face t) list es v
      think m x e f may =
          let same : x ≡ a = (let z : Some x ≡ Some a = sym e ∙ at in cc) in
          let is : m ≡ mind a (atomic_doing s.stage) = f ∙ ap (λ y. mind y (atomic_doing s.stage)) same in
          subst (λ (n : Mind). Thinks ram n (atomic_face s) (atomic_face t) list es v) (sym is)
          (record {
            after = mind b (atomic_doing t.stage);
            mind = ap (mind_with (atomic_doing t.stage)) bt;
            thought = thought (subst (λ (n : Mind). MayThink rs ram n (atomic_face s) w) is may);
            memory = (refl, refl);
            served = served;
            absorbed = absorbed;
            passed = λ i. absurd (cc i);
          })

module _ (rs : List Route) (ram : ℕ) (s : AtomicCpuState) (ok : AtomicOk ram s) where
  -- nothing happens, but that a packet may end here
  stays_keeps : (w : Wake) (next : ℕ) (d : Bool) → IsCalmWake w answers.Nothing → ((n : ℕ) → due_before w (s.due && (n == 0)) n ≡ (d && (n == 0))) → (zs : List Packet) → ((f : Packet → ℕ) → came_in f w answers.Nothing ≡ weigh f zs)
      → ((m : Mind) → MayThink rs ram m (atomic_face s) w → weigh core zs ≡ 0)
      → (let q : Stepped = record (stays (AtomicCpu (record s { due = d })) next) { moves = record no_moves { answered = zs } } in Keeps rs ram (atomic_face s) w q)
  stays_keeps w next d calm due zs came none_core =
      by_step rs ram s (record s { due = d }) w next [] [] [] (record no_moves { answered = zs }) (record { size = ok.size; rests = ok.rests }) calm no_acts (λ n. sym (due n)) came refl refl refl (omega arith) tt
      (λ m e may. record {
        mind = ap (mind_with (atomic_doing s.stage)) e;
        made = refl;
        fits = λ n. refl;
        answered = omega (arith, none_core m may);
        passed = refl;
        recalls = λ plain. record {
          serves = λ n l h. none n;
          stays = λ h. refl;
          remains = λ h. refl;
        };
      })
      (λ m x e f may. (let z : Thought ram x (atomic_doing s.stage) [] zs [] (mind x (atomic_doing s.stage)) = silent (atomic_doing s.stage) zs (none_core m may) in
      subst (λ (n : Mind). Thinks ram n (atomic_face s) (atomic_face (record s { due = d })) [] [] (record no_moves { answered = zs })) (sym f)
      (record { after = mind x (atomic_doing s.stage); mind = ap (mind_with (atomic_doing s.stage)) e; thought = z; memory = (refl, refl); served = refl; absorbed = refl; passed = λ i. refl })))

  -- an instruction or a trap is over
  ends_keeps : (w : Wake) (next at : ℕ) (a b : Arch) (d : Bool) (e : Entry) (c : Bool) (zs : List Packet) → s.arch ≡ Some a → IsCalmWake w answers.Nothing → ((n : ℕ) → due_before w (s.due && (n == 0)) n ≡ (d && (n == 0)))
      → ((f : Packet → ℕ) → came_in f w answers.Nothing ≡ weigh f zs) → (MayThink rs ram (mind a (atomic_doing s.stage)) (atomic_face s) w → Thought ram a (atomic_doing s.stage) [] zs (over e c) (mind b Boundary))
      → (let r = cpu_ends (record s { due = d }) b next at e c in let q : Stepped = record r { moves = record no_moves { answered = zs } } in Keeps rs ram (atomic_face s) w q)
  ends_keeps w next at a b d e true zs is calm due came thought =
      by_some rs ram s (record s { arch = Some b; stage = Rest; due = d }) a b w next [] [] (e ∷ entries.Slept ∷ []) (record no_moves { answered = zs }) is refl ok.size calm no_acts (λ n. sym (due n)) came refl refl refl (omega arith) tt thought
  ends_keeps w next at a b d e false zs is calm due came thought =
      by_some rs ram s (record s { arch = Some b; stage = Rest; due = true }) a b w next [] (Schedule 0 50 at ∷ []) (e ∷ []) (record no_moves { answered = zs }) is refl ok.size calm no_acts
      (λ n. set_due n (n == 0) d ∙ ap (λ x. cond (n == 0) true x) (sym (due n))) came refl refl refl (omega arith) tt thought

  -- a packet is passed
  asks_keeps : (w : Wake) (next : ℕ) (a : Arch) (d : Bool) (port : ℕ) (p : Packet) (to : CpuStage) (zs : List Packet) → s.arch ≡ Some a → IsCalmWake w answers.Nothing → ((n : ℕ) → due_before w (s.due && (n == 0)) n ≡ (d && (n == 0)))
      → ((f : Packet → ℕ) → came_in f w answers.Nothing ≡ weigh f zs) → 4 + atomic_toil to ≤ atomic_toil s.stage + spend w answers.Nothing → port < 2 → is_response p.cmd ≡ false
      → (MayThink rs ram (mind a (atomic_doing s.stage)) (atomic_face s) w → Thought ram a (atomic_doing s.stage) (p ∷ []) zs [] (mind a (atomic_doing to)))
      → (let r = cpu_asks (record s { due = d }) to next port p in let q : Stepped = record r { moves = record no_moves { made = p ∷ []; answered = zs } } in Keeps rs ram (atomic_face s) w q)
  asks_keeps w next a d port p to zs is calm due came light low request thought =
      by_some rs ram s (record s { stage = to; due = d }) a a w (next + 1) (acts.Atomic (record { 0 = port }) p ∷ []) [] [] (record no_moves { made = p ∷ []; answered = zs }) is is ok.size calm (one_pass port p low) (λ n. sym (due n)) came refl refl refl
      (omega (arith, light)) (request, tt) thought

  ends_same : (t : AtomicCpuState) (b : Arch) (next at : ℕ) (e : Entry) (c : Bool) → (let r = cpu_ends t b next at e c in let q : Stepped = record r { moves = record no_moves { answered = [] } } in q ≡ r)
  ends_same t b next at e true = refl
  ends_same t b next at e false = refl

  done_same : (t : AtomicCpuState) (b : Arch) (next at : ℕ) (e : Entry) (c : Bool) (p : Packet) → (let r = cpu_ends t b next at e c in let q : Stepped = record r { moves = record no_moves { answered = p ∷ [] } } in q ≡ answering p r)
  done_same t b next at e true p = refl
  done_same t b next at e false p = refl

  -- its event
  event_keeps : (next now : ℕ) (slot : SlotNo) → slot.0 ≡ 0 → (o : Option Arch) (st : CpuStage) → s.arch ≡ o → s.stage ≡ st → Keeps rs ram (atomic_face s) (wakes.Event slot) (cpu_event (record s { due = false }) next now o st)
  event_keeps next now slot z None st at e = stays_keeps (wakes.Event slot) next false (calm_event slot) (event_due slot s.due z) [] (λ f. refl) (λ m may. refl)
  event_keeps next now slot z (Some a) AwaitFetch at e = stays_keeps (wakes.Event slot) next false (calm_event slot) (event_due slot s.due z) [] (λ f. refl) (λ m may. refl)
  event_keeps next now slot z (Some a) (AwaitData w l) at e = stays_keeps (wakes.Event slot) next false (calm_event slot) (event_due slot s.due z) [] (λ f. refl) (λ m may. refl)
  event_keeps next now slot z (Some a) Rest at e = by_sleep a.asleep refl where
    by_begin : (o : Option ℕ) (b : Bool) → interrupt_cause a ≡ o → is_in_ram s.common.ram a.pc 4 ≡ b → a.asleep ≡ false → Keeps rs ram (atomic_face s) (wakes.Event slot) (cpu_begins (record s { due = false }) a next now o b)
    by_begin (Some c) b i r h =
        subst (λ (q : Stepped). Keeps rs ram (atomic_face s) (wakes.Event slot) q) (ends_same (record s { due = false }) (enter_trap a c 0) next (now + s.period) (entries.Trapped c 0) (enter_trap a c 0).asleep)
        (ends_keeps (wakes.Event slot) next (now + s.period) a (enter_trap a c 0) false (entries.Trapped c 0) (enter_trap a c 0).asleep [] at (calm_event slot) (event_due slot s.due z) (λ f. refl)
        (λ may. subst (λ (d : Doing). Thought ram a d [] [] (over (entries.Trapped c 0) (enter_trap a c 0).asleep) (mind (enter_trap a c 0) Boundary)) (sym (ap atomic_doing e)) (interrupted c i)))
    by_begin None true i r h =
        asks_keeps (wakes.Event slot) next a false 0 (fetch_request next a.pc) AwaitFetch [] at (calm_event slot) (event_due slot s.due z) (λ f. refl) (omega (arith, ap atomic_toil e)) (omega arith) refl
        (λ may. subst (λ (d : Doing). Thought ram a d (fetch_request next a.pc ∷ []) [] [] (mind a Fetching)) (sym (ap atomic_doing e)) (fetches next h (subst (λ m. is_in_ram m a.pc 4 ≡ true) ok.size r)))
    by_begin None false i r h =
        subst (λ (q : Stepped). Keeps rs ram (atomic_face s) (wakes.Event slot) q) (ends_same (record s { due = false }) (enter_trap a 1 a.pc) next (now + s.period) (entries.Trapped 1 a.pc) (enter_trap a 1 a.pc).asleep)
        (ends_keeps (wakes.Event slot) next (now + s.period) a (enter_trap a 1 a.pc) false (entries.Trapped 1 a.pc) (enter_trap a 1 a.pc).asleep [] at (calm_event slot) (event_due slot s.due z) (λ f. refl)
        (λ may. subst (λ (d : Doing). Thought ram a d [] [] (over (entries.Trapped 1 a.pc) (enter_trap a 1 a.pc).asleep) (mind (enter_trap a 1 a.pc) Boundary)) (sym (ap atomic_doing e))
        (misfetched i h (subst (λ m. is_in_ram m a.pc 4 ≡ false) ok.size r))))

    by_sleep : (b : Bool) → a.asleep ≡ b → Keeps rs ram (atomic_face s) (wakes.Event slot) (if b then stays (AtomicCpu (record s { due = false })) next else cpu_begins (record s { due = false }) a next now (interrupt_cause a) (is_in_ram s.common.ram a.pc 4))
    by_sleep true h = stays_keeps (wakes.Event slot) next false (calm_event slot) (event_due slot s.due z) [] (λ f. refl) (λ m may. refl)
    by_sleep false h = by_begin (interrupt_cause a) (is_in_ram s.common.ram a.pc 4) refl refl h

  -- a packet that isn't of the source that is awaited isn't expected
  of_source : (n : ℕ) (d : Doing) (a : Arch) (k : ℕ) (c : Content) → owed d ≡ 1 → (d ≡ Fetching → k ≡ 0) → ((w : ℕ) → d ≡ Accessing w → k ≡ 1) → bit (not (suits rs ram (mind a d) n c)) ≡ 0 → n ≡ k
  of_source zero Fetching a k c o f g b = sym (f refl)
  of_source (suc zero) Fetching a k c o f g b = cc
  of_source (suc (suc n)) Fetching a k c o f g b = cc
  of_source zero (Accessing w) a k c o f g b = cc
  of_source (suc zero) (Accessing w) a k c o f g b = sym (g w refl)
  of_source (suc (suc n)) (Accessing w) a k c o f g b = cc
  of_source n Boundary a k c o f g b = cc
  of_source n (Decoded w) a k c o f g b = cc

  shown_bad : (m : Mind) (p : Packet) (l : ℕ) → MayThink rs ram m (atomic_face s) (wakes.AtomicDone p l) → bit (not (suits rs ram m p.src (content_of p))) ≡ 0
  shown_bad m p l may = may.shows

  -- its packet was served
  done_keeps : (next now : ℕ) (p : Packet) (l : ℕ) (o : Option Arch) (st : CpuStage) → s.arch ≡ o → s.stage ≡ st → Keeps rs ram (atomic_face s) (wakes.AtomicDone p l) (answering p (cpu_done s next now p l o st))
  done_keeps next now p l None st at e =
      stays_keeps (wakes.AtomicDone p l) next s.due (calm_done p l) (λ n. refl) (p ∷ []) (λ f. omega arith) (λ m may. omega (arith, may.done (ap (mind_with (atomic_doing s.stage)) at) p l refl))
  done_keeps next now p l (Some a) Rest at e =
      by_some rs ram s s a a (wakes.AtomicDone p l) next [] [] [] (record no_moves { answered = p ∷ [] }) at at ok.size (calm_done p l) no_acts (λ n. refl) (λ f. omega arith) refl refl refl (omega arith) tt
      (λ may. silent (atomic_doing s.stage) (p ∷ []) (omega (arith, may.owned (ap (mind_with (atomic_doing s.stage)) at), ap (λ t. owed (atomic_doing t)) e)))
  done_keeps next now p l (Some a) AwaitFetch at e = by_need (need a (number (take 4 p.bytes))) refl where
    source : MayThink rs ram (mind a (atomic_doing s.stage)) (atomic_face s) (wakes.AtomicDone p l) → p.src ≡ 0
    source may = of_source p.src Fetching a 0 (content_of p) refl (λ z. refl) (λ w z. cc) (subst (λ (t : CpuStage). bit (not (suits rs ram (mind a (atomic_doing t)) p.src (content_of p))) ≡ 0) e (shown_bad (mind a (atomic_doing s.stage)) p l may))

    ends : (b : Arch) (en : Entry) (c : Bool) → (p.src ≡ 0 → is_response p.cmd ≡ true → Thought ram a Fetching [] (p ∷ []) (over en c) (mind b Boundary))
        → Keeps rs ram (atomic_face s) (wakes.AtomicDone p l) (answering p (cpu_ends s b next (now + s.period + l) en c))
    ends b en c th =
        subst (λ (q : Stepped). Keeps rs ram (atomic_face s) (wakes.AtomicDone p l) q) (done_same s b next (now + s.period + l) en c p)
        (ends_keeps (wakes.AtomicDone p l) next (now + s.period + l) a b s.due en c (p ∷ []) at (calm_done p l) (λ n. refl) (λ f. omega arith)
        (λ may. subst (λ (d : Doing). Thought ram a d [] (p ∷ []) (over en c) (mind b Boundary)) (sym (ap atomic_doing e)) (th (source may) (may.response p l refl))))

    asks : (q : Packet) → is_response q.cmd ≡ false → (p.src ≡ 0 → is_response p.cmd ≡ true → Thought ram a Fetching (q ∷ []) (p ∷ []) [] (mind a (Accessing (number (take 4 p.bytes)))))
        → Keeps rs ram (atomic_face s) (wakes.AtomicDone p l) (answering p (cpu_asks s (AwaitData (number (take 4 p.bytes)) l) next 1 q))
    asks q request th =
        asks_keeps (wakes.AtomicDone p l) next a s.due 1 q (AwaitData (number (take 4 p.bytes)) l) (p ∷ []) at (calm_done p l) (λ n. refl) (λ f. omega arith) (omega (arith, ap atomic_toil e)) (omega arith) request
        (λ may. subst (λ (d : Doing). Thought ram a d (q ∷ []) (p ∷ []) [] (mind a (Accessing (number (take 4 p.bytes))))) (sym (ap atomic_doing e)) (th (source may) (may.response p l refl)))

    by_need : (n : Demand) → need a (number (take 4 p.bytes)) ≡ n → Keeps rs ram (atomic_face s) (wakes.AtomicDone p l) (answering p (cpu_fetched s a next now l (number (take 4 p.bytes)) n))
    by_need demand.Nothing n = ends (finish a (number (take 4 p.bytes)) 0) (entries.Retired a.pc (number (take 4 p.bytes))) _ (λ src resp. finished p (number (take 4 p.bytes)) refl (rw n refl) src resp)
    by_need demand.Sleep n = ends (finish a (number (take 4 p.bytes)) 0) (entries.Retired a.pc (number (take 4 p.bytes))) _ (λ src resp. finished p (number (take 4 p.bytes)) refl (rw n refl) src resp)
    by_need (demand.Trap c t) n = ends (enter_trap a c t) (entries.Trapped c t) _ (λ src resp. trapped p (number (take 4 p.bytes)) c t refl n src resp)
    by_need (demand.Load address count) n =
        asks (load_request s.common.ram next address count) refl
        (λ src resp. subst (λ m. Thought ram a Fetching (load_request m next address count ∷ []) (p ∷ []) [] (mind a (Accessing (number (take 4 p.bytes))))) (sym ok.size) (fetched_loads p next (number (take 4 p.bytes)) address count refl n src resp))
    by_need (demand.Store address count v) n =
        asks (store_request s.common.ram next address count v) refl
        (λ src resp. subst (λ m. Thought ram a Fetching (store_request m next address count v ∷ []) (p ∷ []) [] (mind a (Accessing (number (take 4 p.bytes))))) (sym ok.size) (fetched_stores p next (number (take 4 p.bytes)) address count v refl n src resp))
  done_keeps next now p l (Some a) (AwaitData w before) at e = by_need (need a w) p.fault refl refl where
    source : MayThink rs ram (mind a (atomic_doing s.stage)) (atomic_face s) (wakes.AtomicDone p l) → p.src ≡ 1
    source may = of_source p.src (Accessing w) a 1 (content_of p) refl (λ z. cc) (λ v z. refl) (subst (λ (t : CpuStage). bit (not (suits rs ram (mind a (atomic_doing t)) p.src (content_of p))) ≡ 0) e (shown_bad (mind a (atomic_doing s.stage)) p l may))

    ends : (b : Arch) (en : Entry) (c : Bool) → (p.src ≡ 1 → is_response p.cmd ≡ true → Thought ram a (Accessing w) [] (p ∷ []) (over en c) (mind b Boundary))
        → Keeps rs ram (atomic_face s) (wakes.AtomicDone p l) (answering p (cpu_ends s b next (now + s.period + before + l) en c))
    ends b en c th =
        subst (λ (q : Stepped). Keeps rs ram (atomic_face s) (wakes.AtomicDone p l) q) (done_same s b next (now + s.period + before + l) en c p)
        (ends_keeps (wakes.AtomicDone p l) next (now + s.period + before + l) a b s.due en c (p ∷ []) at (calm_done p l) (λ n. refl) (λ f. omega arith)
        (λ may. subst (λ (d : Doing). Thought ram a d [] (p ∷ []) (over en c) (mind b Boundary)) (sym (ap atomic_doing e)) (th (source may) (may.response p l refl))))

    stays_here : (n : Demand) → need a w ≡ n → ((c : Content) → is_access rs c n ≡ false) → Keeps rs ram (atomic_face s) (wakes.AtomicDone p l) (answering p (stays (AtomicCpu s) next))
    stays_here n d no_access =
        by_some rs ram s s a a (wakes.AtomicDone p l) next [] [] [] (record no_moves { answered = p ∷ [] }) at at ok.size (calm_done p l) no_acts (λ n. refl) (λ f. omega arith) refl refl refl (omega arith) tt
        (λ may. absurd (let b : bit (not (suits rs ram (mind a (Accessing w)) p.src (content_of p))) ≡ 0 = subst (λ (t : CpuStage). bit (not (suits rs ram (mind a (atomic_doing t)) p.src (content_of p))) ≡ 0) e (shown_bad (mind a (atomic_doing s.stage)) p l may) in
        let c : bit (not (suits rs ram (mind a (Accessing w)) 1 (content_of p))) ≡ 0 = subst (λ k. bit (not (suits rs ram (mind a (Accessing w)) k (content_of p))) ≡ 0) (source may) b in
        let f : bit (not (is_access rs (content_of p) n)) ≡ 0 = subst (λ t. bit (not (is_access rs (content_of p) t)) ≡ 0) d c in
        omega (arith, f, ap (λ t. bit (not t)) (no_access (content_of p)))))

    by_need : (n : Demand) (f : Bool) → need a w ≡ n → p.fault ≡ f → Keeps rs ram (atomic_face s) (wakes.AtomicDone p l) (answering p (cpu_accessed s a next (now + s.period + before + l) p w n f))
    by_need (demand.Load address count) false n f = ends (finish a w (number (take count p.bytes))) (entries.Retired a.pc w) _ (λ src resp. loaded p w address count n f src resp)
    by_need (demand.Load address count) true n f = ends (enter_trap a 5 address) (entries.Trapped 5 address) _ (λ src resp. load_refused p w address count n f src resp)
    by_need (demand.Store address count v) false n f = ends (finish a w 0) (entries.Retired a.pc w) _ (λ src resp. stored p w address count v n f src resp)
    by_need (demand.Store address count v) true n f = ends (enter_trap a 7 address) (entries.Trapped 7 address) _ (λ src resp. store_refused p w address count v n f src resp)
    by_need demand.Nothing f n g = stays_here demand.Nothing n (λ c. refl)
    by_need demand.Sleep f n g = stays_here demand.Sleep n (λ c. refl)
    by_need (demand.Trap c t) f n g = stays_here (demand.Trap c t) n (λ k. refl)

  -- a line has a new level
  lined_keeps : (next now b : ℕ) (l : Bool) (o : Option Arch) → s.arch ≡ o → Keeps rs ram (atomic_face s) (wakes.Line b l) (cpu_lined s next now b l o)
  lined_keeps next now b l None at = stays_keeps (wakes.Line b l) next s.due (calm_line b l) (λ n. refl) [] (λ f. refl) (λ m may. refl)
  lined_keeps next now b l (Some a) at = by (goes_on s a b l) where
    by : (c : Bool) → Keeps rs ram (atomic_face s) (wakes.Line b l) (cpu_line s a next now b l c)
    by true =
        by_some rs ram s (record s { arch = Some (with_line a b l); due = true }) a (with_line a b l) (wakes.Line b l) next [] (Schedule 0 50 (next_multiple s.period now) ∷ []) (entries.Line b l ∷ []) no_moves at refl ok.size (calm_line b l) no_acts
        (λ n. set_due n (n == 0) s.due) (λ f. refl) refl refl refl (omega arith) tt (λ may. lined (atomic_doing s.stage) b l (may.lines b l refl))
    by false =
        by_some rs ram s (record s { arch = Some (with_line a b l) }) a (with_line a b l) (wakes.Line b l) next [] [] (entries.Line b l ∷ []) no_moves at refl ok.size (calm_line b l) no_acts
        (λ n. refl) (λ f. refl) refl refl refl (omega arith) tt (λ may. lined (atomic_doing s.stage) b l (may.lines b l refl))

  pub atomic_law : (next now : ℕ) (w : Wake) → MayWake (atomic_face s) w → Keeps rs ram (atomic_face s) w (atomic_cpu_step s next w now)
  atomic_law next now (wakes.Event slot) may = by (slot.0 == 0) refl (may.fired slot.0 refl) where
    by : (z : Bool) → (slot.0 == 0) ≡ z → (s.due && (slot.0 == 0)) ≡ true → Keeps rs ram (atomic_face s) (wakes.Event slot) (if z then cpu_event (record s { due = false }) next now s.arch s.stage else stays (AtomicCpu s) next)
    by true z d = event_keeps next now slot (same_is slot.0 0 z) s.arch s.stage refl refl
    by false z d = absurd (no_both (slot.0 == 0) (and_parts s.due (slot.0 == 0) d).1 z)
  atomic_law next now (wakes.AtomicDone p l) may = done_keeps next now p l s.arch s.stage refl refl
  atomic_law next now (wakes.Line b l) may = lined_keeps next now b l s.arch refl
  atomic_law next now (wakes.Offer q x) may = absurd (omega (arith, may.there q.0 (omega (arith, only_self q.0 1))))
  atomic_law next now (wakes.Taken q) may = absurd (omega (arith, may.told q.0, only_self q.0 1))
  atomic_law next now (wakes.Refused q) may = absurd (omega (arith, may.told q.0, only_self q.0 1))
  atomic_law next now (wakes.Retry q) may = absurd (omega (arith, may.retry q.0, only_self q.0 1))
