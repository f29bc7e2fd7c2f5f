-- The laws of the timing CPU.
use Rattle.std.proofs.Common.{◌≡◌, ℕ, zero, suc, ◌+◌, ◌<◌, ◌≤◌, ◌==◌, if◌then◌else◌, cond, ◌&&◌, not, Bool, true, false, List, [], ◌∷◌, refl, sym, ◌∙◌, ap, subst, arith, Option, Some, None, ◌⊎◌, inl, inr, take}
use Rattle.std.proofs.lemmas.Bool.{cases_eq, and_parts}
use Rattle.gc_base.specs.declared.ids.PortNo.{PortNo}
use Rattle.gc_base.specs.declared.ids.SlotNo.{SlotNo}
use Rattle.rv_step.specs.declared.arch.Arch.{Arch}
use Rattle.rv_step.specs.declared.demand.Demand.{Demand}
use Rattle.rv_step.specs.declared.demand.Demand.TheVariants as demand
use Rattle.rv_step.specs.Bytes.{number}
use Rattle.rv_step.specs.Demand.{need}
use Rattle.rv_step.specs.Retire.{finish}
use Rattle.rv_step.specs.Trap.{enter_trap, interrupt_cause}
use Rattle.gm_words.specs.Changes.{Change, due_after}
use Rattle.gm_words.specs.HartLine.{with_line}
use Rattle.gm_words.specs.Moves.{Moves, no_moves}
use Rattle.pkt_pool.specs.Packet.{is_response}
use Rattle.gm_words.specs.Platform.{is_in_ram}
use Rattle.gm_words.specs.Routes.{Route}
use Rattle.gm_words.specs.declared.act.Act.{Act}
use Rattle.gm_words.specs.declared.answer.Answer.{Answer}
use Rattle.gm_words.specs.declared.answer.Answer.TheVariants as answers
use Rattle.gm_words.specs.declared.entry.Entry.{Entry}
use Rattle.gm_words.specs.declared.entry.Entry.TheVariants as entries
use Rattle.pkt_pool.specs.declared.packet.Packet.{Packet}
use Rattle.gm_words.specs.declared.wake.Wake.{Wake}
use Rattle.gm_words.specs.declared.wake.Wake.TheVariants as wakes
use Rattle.gm_model.specs.Accesses.{fetch_request, load_request, store_request}
use Rattle.gm_model.specs.Flows.{offer_at}
use Rattle.gm_model.specs.ObjState.{TimingCpu, TimingCpuState, TimingStage, Between, Fetch, Ready, Data, Hand, Asks, Held, Away}
use Rattle.gm_model.specs.Stepped.{Stepped, answering, stays}
use Rattle.gm_model.specs.TimingCpu.{tcpu_in, tcpu_ends, tcpu_asks, tcpu_begins, tcpu_demands, tcpu_event, tcpu_fetched, tcpu_accessed, tcpu_response, tcpu_with, tcpu_taken, tcpu_refused, tcpu_called, tcpu_lined, timing_cpu_step, next_event}
use Rattle.gm_model.specs.View.{Mind, Doing, Boundary, Fetching, Decoded, Accessing, mind_with, timing_doing, stage_packets, is_of_hart}
use Rattle.gm_laws.specs.Words.{only, weigh, IsIn, offer_out, told, taken, refused, retry, rejected, offers, calls, requests_of, responses_of}
use Rattle.gm_laws.specs.Face.{FaceOk, MayWake, Conserves, came_in, head_weight, passed_packets, due_before}
use Rattle.gm_laws.specs.Fuel.{weight, spend, starts}
use Rattle.gm_laws.specs.Program.{bit, core, owed, bad, suits, content_of, Content, is_access, MayThink, Mindless, Thinks, Thought, mind, over, silent, lined, interrupted, misfetched, fetches, finished, trapped, decoded, loads, stores, loaded, load_refused, stored, store_refused, none}
use Rattle.gm_laws.specs.Faces.{face_of, IsOk, Keeps, timing_face, TimingOk, StageOk, hand_asked, hand_waits, hand_head, hand_of, port_of, AllActsOk}
use Rattle.gm_laws.proofs.Bytes.{same_is}
use Rattle.gm_laws.proofs.Calm.{IsCalmWake, calm_event, calm_line, calm_done, event_due, set_due, no_both}
use Rattle.gm_laws.proofs.Counts.{only_self, only_other, only_zero, only_le, only_is}
use Rattle.gm_laws.proofs.Flows.{no_pass}

hand_bits : (h : Hand) → hand_asked h + hand_waits h ≤ 1
hand_bits (Asks x) = omega arith
hand_bits (Held x) = omega arith
hand_bits Away = omega arith

hand_one : (h : Hand) → 1 ≤ hand_asked h + hand_waits h → (x : Packet) × (hand_head h ≡ Some x)
hand_one (Asks x) b = (x, refl)
hand_one (Held x) b = (x, refl)
hand_one Away b = absurd (omega arith)

port_le : (st : TimingStage) → port_of st ≤ 1
port_le Between = omega arith
port_le (Fetch h) = omega arith
port_le (Ready w) = omega arith
port_le (Data w h) = omega arith

hand_held : (st : TimingStage) (x : Packet) → hand_head (hand_of st) ≡ Some x → (f : Packet → ℕ) → f x ≤ weigh f (stage_packets st)
hand_held (Fetch (Asks y)) x e f = let k : y ≡ x = cc e in omega (arith, ap f k)
hand_held (Fetch (Held y)) x e f = let k : y ≡ x = cc e in omega (arith, ap f k)
hand_held (Data w (Asks y)) x e f = let k : y ≡ x = cc e in omega (arith, ap f k)
hand_held (Data w (Held y)) x e f = let k : y ≡ x = cc e in omega (arith, ap f k)
hand_held Between x e f = cc
hand_held (Fetch Away) x e f = cc
hand_held (Ready w) x e f = cc
hand_held (Data w Away) x e f = cc

pub timing_ok : (s : TimingCpuState) → FaceOk (timing_face s)
timing_ok s = record {
  bits = λ p. omega (arith, only_le (port_of s.stage) p (hand_asked (hand_of s.stage)), only_le (port_of s.stage) p (hand_waits (hand_of s.stage)), hand_bits (hand_of s.stage));
  within = λ p h. within p h (cases_eq (port_of s.stage) p);
  offers_one = λ p h. (let x = hand_one (hand_of s.stage) (omega (arith, h, only_le (port_of s.stage) p (hand_asked (hand_of s.stage)), only_le (port_of s.stage) p (hand_waits (hand_of s.stage)))) in (x.0, x.1, refl));
  lists = λ l p. omega arith;
  holds = λ p x h e f. hand_held s.stage x e f;
  portless = λ e. cc;
} where
  within : (p : ℕ) → 1 ≤ only (port_of s.stage) p (hand_asked (hand_of s.stage)) + only (port_of s.stage) p (hand_waits (hand_of s.stage)) → (port_of s.stage ≡ p) ⊎ (port_of s.stage ≡ p → ⊥) → p < 2
  within p h (inl e) = omega (arith, port_le s.stage, e)
  within p h (inr n) = absurd (omega (arith, h, only_other (port_of s.stage) p (hand_asked (hand_of s.stage)) n, only_other (port_of s.stage) p (hand_waits (hand_of s.stage)) n))

-- what a step owes beside what holds of every timing CPU
record TStep (ram : ℕ) (s : TimingCpuState) (w : Wake) (t : TimingCpuState) (answer : Answer) (acts : List Act) (changes : List Change) (v : Moves) : Type 0 where
  ok : TimingOk ram t
  asked : (p : ℕ) → only (port_of t.stage) p (hand_asked (hand_of t.stage)) + told w p ≡ only (port_of s.stage) p (hand_asked (hand_of s.stage)) + offers p acts
  waits : (p : ℕ) → only (port_of t.stage) p (hand_waits (hand_of t.stage)) + retry w p ≡ only (port_of s.stage) p (hand_waits (hand_of s.stage)) + refused w p
  taken_all : (p : ℕ) → rejected w answer p ≡ 0
  carries : (p : ℕ) (x : Packet) → IsIn (offer_out p x) acts → hand_head (hand_of t.stage) ≡ Some x
  keeps : (p : ℕ) → 1 ≤ only (port_of s.stage) p (hand_asked (hand_of s.stage)) + only (port_of s.stage) p (hand_waits (hand_of s.stage)) → taken w p ≡ 0 → hand_head (hand_of t.stage) ≡ hand_head (hand_of s.stage)
  calls : (p : ℕ) → calls p acts ≡ 0
  again : (p : ℕ) → retry w p ≤ offers p acts
  due : (n : ℕ) → (t.due && (n == 0)) ≡ due_after changes (due_before w (s.due && (n == 0)) n) n
  conserves : Conserves (timing_face s) w (timing_face t) answer acts v
  few : (p : ℕ) → offers p acts ≤ retry w p + starts w
  light : weight acts ≤ spend w answer
  sent : AllActsOk acts
  passed : passed_packets acts ≡ []

by_step : (rs : List Route) (ram : ℕ) (s t : TimingCpuState) (w : Wake) (next : ℕ) (answer : Answer) (acts : List Act) (changes : List Change) (es : List Entry) (v : Moves) → TStep ram s w t answer acts changes v
    → ((p : ℕ) → 1 ≤ told w p → (es ≡ []) × (v ≡ no_moves) × (mind_with (timing_doing t.stage) t.arch ≡ mind_with (timing_doing s.stage) s.arch))
    → ((m : Mind) → s.arch ≡ None → MayThink rs ram m (timing_face s) w → Mindless rs ram (timing_face s) (timing_face t) acts es v)
    → ((m : Mind) (a : Arch) → s.arch ≡ Some a → m ≡ mind a (timing_doing s.stage) → MayThink rs ram m (timing_face s) w → Thinks ram m (timing_face s) (timing_face t) acts es v)
    → (let r : Stepped = record { state = TimingCpu t; next = next; changes = changes; acts = acts; entries = es; answer = answer; moves = v } in Keeps rs ram (timing_face s) w r)
unfolding face_of IsOk
by_step rs ram s t w next answer acts changes es v k quiet mindless thinks = record {
  ok = k.ok;
  law = record {
    ok = timing_ok t;
    ports = refl;
    route = λ x. refl;
    sends = λ p x. refl;
    admits = λ p x. refl;
    passes = λ p. refl;
    asked = k.asked;
    waits = k.waits;
    listed = λ p. omega (arith, k.calls p, k.taken_all p);
    joins = λ l p h. inl h;
    carries = k.carries;
    keeps = k.keeps;
    again = k.again;
    feeds = λ p x e. refl;
    hungry = λ l h. inl h;
  };
  due = k.due;
  conserves = k.conserves;
  spends = record { few = k.few; light = omega (arith, k.light) };
  same = record { cpu = refl; instant = refl; caches = refl; empty = λ e. cc };
  quiet = λ p h. (let q = quiet p h in record { entries = q.0; moves = q.1; passed = k.passed; mind = q.2; memory = refl });
  acts = k.sent;
  hops = no_pass (timing_face s) acts k.passed;
  mindless = λ m e may. mindless m (none_mind s.arch e) may;
  thinks = λ m e may. by_arch s.arch refl m e may;
} where
  none_mind : (o : Option Arch) → mind_with (timing_doing s.stage) o ≡ None → o ≡ None
  none_mind None e = refl
  none_mind (Some a) e = cc

  by_arch : (o : Option Arch) → s.arch ≡ o → (m : Mind) → mind_with (timing_doing s.stage) s.arch ≡ Some m → MayThink rs ram m (timing_face s) w → Thinks ram m (timing_face s) (timing_face t) acts es v
  by_arch None e m h may = absurd (no_some (sym h ∙ ap (mind_with (timing_doing s.stage)) e)) where
    no_some : Some m ≡ None → ⊥
    no_some z = cc
  by_arch (Some a) e m h may = thinks m a e (some_is (sym h ∙ ap (mind_with (timing_doing s.stage)) e)) may where
    some_is : Some m ≡ Some (mind a (timing_doing s.stage)) → m ≡ mind a (timing_doing s.stage)
    some_is z = cc

-- the active CPU's step, by what it makes of the wake
by_some : (rs : List Route) (ram : ℕ) (s t : TimingCpuState) (a b : Arch) (w : Wake) (next : ℕ) (answer : Answer) (acts : List Act) (changes : List Change) (es : List Entry) (v : Moves) → s.arch ≡ Some a → t.arch ≡ Some b
    → TStep ram s w t answer acts changes v → v.served ≡ [] → v.absorbed ≡ []
    → ((p : ℕ) → 1 ≤ told w p → (es ≡ []) × (v ≡ no_moves) × (mind_with (timing_doing t.stage) t.arch ≡ mind_with (timing_doing s.stage) s.arch))
    → (MayThink rs ram (mind a (timing_doing s.stage)) (timing_face s) w → Thought ram a (timing_doing s.stage) v.made v.answered es (mind b (timing_doing t.stage)))
    → (let r : Stepped = record { state = TimingCpu t; next = next; changes = changes; acts = acts; entries = es; answer = answer; moves = v } in Keeps rs ram (timing_face s) w r)
by_some rs ram s t a b w next answer acts changes es v at bt k served absorbed quiet thought =
    by_step rs ram s t w next answer acts changes es v k quiet (λ m e may. absurd (no_arch e)) (λ m x e f may. think m x e f may) where
      no_arch : s.arch ≡ None → ⊥
      no_arch e = let z : Some a ≡ None = sym at ∙ e in cc

      think : (m : Mind) (x : Arch) → s.arch ≡ Some x → m ≡ mind x (timing_doing s.stage) → MayThink rs ram m (timing_face s) w → Thinks ram m (timing_face s) (timing_face t) acts es v
      think m x e f may =
          let same : x ≡ a = (let z : Some x ≡ Some a = sym e ∙ at in cc) in
          let is : m ≡ mind a (timing_doing s.stage) = f ∙ ap (λ y. mind y (timing_doing s.stage)) same in
          subst (λ (n : Mind). Thinks ram n (timing_face s) (timing_face t) acts es v) (sym is)
          (record {
            after = mind b (timing_doing t.stage);
            mind = ap (mind_with (timing_doing t.stage)) bt;
            thought = thought (subst (λ (n : Mind). MayThink rs ram n (timing_face s) w) is may);
            memory = (refl, refl);
            served = served;
            absorbed = absorbed;
            passed = λ i. ap (weigh core) k.passed;
          })

-- a step that offers nothing and shows the same hand
calm_step : (ram : ℕ) (s t : TimingCpuState) (w : Wake) (answer : Answer) (changes : List Change) (v : Moves) → IsCalmWake w answer → TimingOk ram t
    → ((p : ℕ) → only (port_of t.stage) p (hand_asked (hand_of t.stage)) ≡ only (port_of s.stage) p (hand_asked (hand_of s.stage)))
    → ((p : ℕ) → only (port_of t.stage) p (hand_waits (hand_of t.stage)) ≡ only (port_of s.stage) p (hand_waits (hand_of s.stage)))
    → hand_head (hand_of t.stage) ≡ hand_head (hand_of s.stage) → stage_packets t.stage ≡ stage_packets s.stage
    → ((n : ℕ) → (t.due && (n == 0)) ≡ due_after changes (due_before w (s.due && (n == 0)) n) n)
    → v.made ≡ [] → v.served ≡ [] → v.absorbed ≡ [] → ((f : Packet → ℕ) → came_in f w answer ≡ weigh f v.answered)
    → TStep ram s w t answer [] changes v
calm_step ram s t w answer changes v calm ok asked waits head packets due made served absorbed came = record {
  ok = ok;
  asked = λ p. omega (arith, asked p, calm.told_none p);
  waits = λ p. omega (arith, waits p, calm.retry_none p, calm.refused_none p);
  taken_all = calm.rejected_none;
  carries = λ p x h. absurd h;
  keeps = λ p h z. head;
  calls = λ p. refl;
  again = λ p. omega (arith, calm.retry_none p);
  due = due;
  conserves = record {
    kept = stage_packets s.stage;
    before = λ f e. omega (arith, came f, calm.out_none f (timing_face s), ap (weigh f) absorbed, ap (λ x. weigh f (requests_of x)) served);
    after = λ f e. omega (arith, ap (weigh f) packets, ap (weigh f) made, ap (λ x. weigh f (responses_of x)) served);
    numbers = λ f e. ap (λ x. weigh f (responses_of x)) served ∙ sym (ap (λ x. weigh f (requests_of x)) served);
  };
  few = λ p. omega arith;
  light = omega arith;
  sent = tt;
  passed = refl;
}

none_asked : (st to : TimingStage) (p : ℕ) → hand_of st ≡ Away → hand_of to ≡ Away → only (port_of to) p (hand_asked (hand_of to)) ≡ only (port_of st) p (hand_asked (hand_of st))
none_asked st to p e f = rw (e, f) (omega (arith, only_zero (port_of st) p, only_zero (port_of to) p))

none_waits : (st to : TimingStage) (p : ℕ) → hand_of st ≡ Away → hand_of to ≡ Away → only (port_of to) p (hand_waits (hand_of to)) ≡ only (port_of st) p (hand_waits (hand_of st))
none_waits st to p e f = rw (e, f) (omega (arith, only_zero (port_of st) p, only_zero (port_of to) p))

-- the CPU is then in a stage whose hand is away, as it was, with its event or without
module _ (rs : List Route) (ram : ℕ) (s : TimingCpuState) (a : Arch) (at : s.arch ≡ Some a) (size : s.common.ram ≡ ram) (away : hand_of s.stage ≡ Away) (none_held : stage_packets s.stage ≡ []) (w : Wake) (answer : Answer)
    (calm : IsCalmWake w answer) (d : Bool) (due : (n : ℕ) → due_before w (s.due && (n == 0)) n ≡ (d && (n == 0))) (zs : List Packet) (came : (f : Packet → ℕ) → came_in f w answer ≡ weigh f zs) where
  in_keeps : (to : TimingStage) → hand_of to ≡ Away → stage_packets to ≡ [] → StageOk to → (next now : ℕ) (b : Arch) (es : List Entry) (c : Bool)
      → (MayThink rs ram (mind a (timing_doing s.stage)) (timing_face s) w → Thought ram a (timing_doing s.stage) [] zs es (mind b (timing_doing to)))
      → (let r = tcpu_in (record s { due = d }) b to next now es c in let q : Stepped = record r { answer = answer; moves = record no_moves { answered = zs } } in Keeps rs ram (timing_face s) w q)
  in_keeps to e p so next now b es true thought =
      by_some rs ram s (record s { arch = Some b; stage = to; due = true }) a b w next answer [] (next_event s now ∷ []) es (record no_moves { answered = zs }) at refl
      (calm_step ram s (record s { arch = Some b; stage = to; due = true }) w answer (next_event s now ∷ []) (record no_moves { answered = zs }) calm (record { size = size; rests = λ x. cc; stage = so })
      (λ q. none_asked s.stage to q away e) (λ q. none_waits s.stage to q away e) (ap hand_head e ∙ sym (ap hand_head away)) (p ∙ sym none_held)
      (λ n. set_due n (n == 0) d ∙ ap (λ x. cond (n == 0) true x) (sym (due n))) refl refl refl came) refl refl
      (λ q h. absurd (omega (arith, h, calm.told_none q))) thought
  in_keeps to e p so next now b es false thought =
      by_some rs ram s (record s { arch = Some b; stage = to; due = d }) a b w next answer [] [] es (record no_moves { answered = zs }) at refl
      (calm_step ram s (record s { arch = Some b; stage = to; due = d }) w answer [] (record no_moves { answered = zs }) calm (record { size = size; rests = λ x. cc; stage = so })
      (λ q. none_asked s.stage to q away e) (λ q. none_waits s.stage to q away e) (ap hand_head e ∙ sym (ap hand_head away)) (p ∙ sym none_held)
      (λ n. sym (due n)) refl refl refl came) refl refl
      (λ q h. absurd (omega (arith, h, calm.told_none q))) thought

  -- an instruction or a trap is over
  ends_keeps : (next now : ℕ) (b : Arch) (e : Entry) (c : Bool)
      → (MayThink rs ram (mind a (timing_doing s.stage)) (timing_face s) w → Thought ram a (timing_doing s.stage) [] zs (over e c) (mind b Boundary))
      → (let r = tcpu_ends (record s { due = d }) b next now e c in let q : Stepped = record r { answer = answer; moves = record no_moves { answered = zs } } in Keeps rs ram (timing_face s) w q)
  ends_keeps next now b e true thought = in_keeps Between refl refl tt next now b (e ∷ entries.Slept ∷ []) false thought
  ends_keeps next now b e false thought = in_keeps Between refl refl tt next now b (e ∷ []) (not s.common.draining) thought

-- nothing happens, but that a packet may end here
module _ (rs : List Route) (ram : ℕ) (s : TimingCpuState) (ok : TimingOk ram s) (w : Wake) (answer : Answer) (calm : IsCalmWake w answer) (d : Bool)
    (due : (n : ℕ) → due_before w (s.due && (n == 0)) n ≡ (d && (n == 0))) (zs : List Packet) (came : (f : Packet → ℕ) → came_in f w answer ≡ weigh f zs) where
  still_step : TStep ram s w (record s { due = d }) answer [] [] (record no_moves { answered = zs })
  still_step = calm_step ram s (record s { due = d }) w answer [] (record no_moves { answered = zs }) calm (record { size = ok.size; rests = ok.rests; stage = ok.stage }) (λ p. refl) (λ p. refl) refl refl (λ n. sym (due n)) refl refl refl came

  stays_keeps : (next : ℕ) → ((m : Mind) → MayThink rs ram m (timing_face s) w → weigh core zs ≡ 0)
      → (let q : Stepped = record (stays (TimingCpu (record s { due = d })) next) { answer = answer; moves = record no_moves { answered = zs } } in Keeps rs ram (timing_face s) w q)
  stays_keeps next none_core =
      by_step rs ram s (record s { due = d }) w next answer [] [] [] (record no_moves { answered = zs }) still_step
      (λ q h. absurd (omega (arith, h, calm.told_none q)))
      (λ m e may. record {
        mind = ap (mind_with (timing_doing s.stage)) e;
        made = refl;
        fits = λ n. refl;
        answered = omega (arith, none_core m may);
        passed = refl;
        recalls = λ plain. record {
          serves = λ n l h. none n;
          stays = λ h. refl;
          remains = λ h. refl;
        };
      })
      (λ m x e f may. (let z : Thought ram x (timing_doing s.stage) [] zs [] (mind x (timing_doing s.stage)) = silent (timing_doing s.stage) zs (none_core m may) in
      subst (λ (n : Mind). Thinks ram n (timing_face s) (timing_face (record s { due = d })) [] [] (record no_moves { answered = zs })) (sym f)
      (record { after = mind x (timing_doing s.stage); mind = ap (mind_with (timing_doing s.stage)) e; thought = z; memory = (refl, refl); served = refl; absorbed = refl; passed = λ i. refl })))

-- what a stage's step says beside
event_same : (s : TimingCpuState) (a : Arch) (st : TimingStage) (next now : ℕ) (es : List Entry) (c : Bool)
    → (let r = tcpu_in s a st next now es c in let q : Stepped = record r { answer = answers.Nothing; moves = record no_moves { answered = [] } } in q ≡ r)
event_same s a st next now es true = refl
event_same s a st next now es false = refl

event_ends : (s : TimingCpuState) (a : Arch) (next now : ℕ) (e : Entry) (c : Bool)
    → (let r = tcpu_ends s a next now e c in let q : Stepped = record r { answer = answers.Nothing; moves = record no_moves { answered = [] } } in q ≡ r)
event_ends s a next now e true = refl
event_ends s a next now e false = event_same s a Between next now (e ∷ []) (not s.common.draining)

taken_same : (s : TimingCpuState) (a : Arch) (st : TimingStage) (next now : ℕ) (es : List Entry) (c : Bool) (p : Packet)
    → (let r = tcpu_in s a st next now es c in let q : Stepped = record r { answer = answers.Taken; moves = record no_moves { answered = p ∷ [] } } in let t : Stepped = record (answering p r) { answer = answers.Taken } in q ≡ t)
taken_same s a st next now es true p = refl
taken_same s a st next now es false p = refl

taken_ends : (s : TimingCpuState) (a : Arch) (next now : ℕ) (e : Entry) (c : Bool) (p : Packet)
    → (let r = tcpu_ends s a next now e c in let q : Stepped = record r { answer = answers.Taken; moves = record no_moves { answered = p ∷ [] } } in let t : Stepped = record (answering p r) { answer = answers.Taken } in q ≡ t)
taken_ends s a next now e true p = refl
taken_ends s a next now e false p = taken_same s a Between next now (e ∷ []) (not s.common.draining) p

calm_offer : (port : PortNo) (x : Packet) → IsCalmWake (wakes.Offer port x) answers.Taken
calm_offer port x = record { told_none = λ p. refl; refused_none = λ p. refl; retry_none = λ p. refl; rejected_none = λ p. refl; out_none = λ f k. refl }

module _ (rs : List Route) (ram : ℕ) (s : TimingCpuState) (ok : TimingOk ram s) where
  -- a new packet is offered
  asks_keeps : (w : Wake) (next : ℕ) (a : Arch) (port : ℕ) (p : Packet) (to : TimingStage) → s.arch ≡ Some a → hand_of s.stage ≡ Away → stage_packets s.stage ≡ [] → port_of to ≡ port → hand_of to ≡ Asks p → stage_packets to ≡ p ∷ [] → StageOk to
      → IsCalmWake w answers.Nothing → ((n : ℕ) → due_before w (s.due && (n == 0)) n ≡ (false && (n == 0))) → ((f : Packet → ℕ) → came_in f w answers.Nothing ≡ 0) → starts w ≡ 1 → spend w answers.Nothing ≡ 8
      → Thought ram a (timing_doing s.stage) (p ∷ []) [] [] (mind a (timing_doing to))
      → Keeps rs ram (timing_face s) w (tcpu_asks (record s { due = false }) to next port p)
  asks_keeps w next a port p to at away empty op oh ps so calm due came st sp thought =
      by_some rs ram s (record s { due = false; stage = to }) a a w (next + 1) answers.Nothing (offer_at port p ∷ []) [] [] (record no_moves { made = p ∷ [] }) at at
      (record {
        ok = record { size = ok.size; rests = λ e. absurd (no_arch e); stage = so };
        asked = λ q. rw (away, oh, op) (omega (arith, only_zero (port_of s.stage) q, calm.told_none q));
        waits = λ q. rw (away, oh, op) (omega (arith, only_zero (port_of s.stage) q, only_zero port q, calm.retry_none q, calm.refused_none q));
        taken_all = calm.rejected_none;
        carries = λ q x h. ap hand_head oh ∙ one q x h;
        keeps = λ q h z. absurd (omega (arith, h, none q));
        calls = λ q. refl;
        again = λ q. omega (arith, calm.retry_none q);
        due = λ n. sym (due n);
        conserves = record {
          kept = [];
          before = λ f e. omega (arith, ap (weigh f) empty, came f, calm.out_none f (timing_face s));
          after = λ f e. omega (arith, ap (weigh f) ps);
          numbers = λ f e. refl;
        };
        few = λ q. omega (arith, st, only_le port q 1);
        light = omega (arith, sp);
        sent = (tt, tt);
        passed = refl;
      }) refl refl (λ q h. absurd (omega (arith, h, calm.told_none q))) (λ may. thought) where
        no_arch : s.arch ≡ None → ⊥
        no_arch e = let z : Some a ≡ None = sym at ∙ e in cc

        one : (q : ℕ) (x : Packet) → IsIn (offer_out q x) (offer_at port p ∷ []) → ◌≡◌ {A = Option Packet} (Some p) (Some x)
        one q x (inl e) = let k : p ≡ x = cc e in ap Some k
        one q x (inr h) = absurd h

        none : (q : ℕ) → only (port_of s.stage) q (hand_asked (hand_of s.stage)) + only (port_of s.stage) q (hand_waits (hand_of s.stage)) ≡ 0
        none q = rw away (omega (arith, only_zero (port_of s.stage) q))

  -- its event
  event_keeps : (next now : ℕ) (slot : SlotNo) → slot.0 ≡ 0 → (o : Option Arch) (st : TimingStage) → s.arch ≡ o → s.stage ≡ st
      → Keeps rs ram (timing_face s) (wakes.Event slot) (tcpu_event (record s { due = false }) next now o st)
  event_keeps next now slot z None st at e = stays_keeps rs ram s ok (wakes.Event slot) answers.Nothing (calm_event slot) false (event_due slot s.due z) [] (λ f. refl) next (λ m may. refl)
  event_keeps next now slot z (Some a) (Fetch h) at e = stays_keeps rs ram s ok (wakes.Event slot) answers.Nothing (calm_event slot) false (event_due slot s.due z) [] (λ f. refl) next (λ m may. refl)
  event_keeps next now slot z (Some a) (Data w h) at e = stays_keeps rs ram s ok (wakes.Event slot) answers.Nothing (calm_event slot) false (event_due slot s.due z) [] (λ f. refl) next (λ m may. refl)
  event_keeps next now slot z (Some a) (Ready w) at e = by_need (need a w) refl where
    by_need : (n : Demand) → need a w ≡ n → Keeps rs ram (timing_face s) (wakes.Event slot) (tcpu_demands (record s { due = false }) next w n)
    by_need (demand.Load address count) n =
        asks_keeps (wakes.Event slot) next a 1 (load_request s.common.ram next address count) (Data w (Asks (load_request s.common.ram next address count))) at (ap hand_of e) (ap stage_packets e) refl refl refl refl
        (calm_event slot) (event_due slot s.due z) (λ f. refl) refl refl
        (subst (λ (d : Doing). Thought ram a d (load_request s.common.ram next address count ∷ []) [] [] (mind a (Accessing w))) (sym (ap timing_doing e))
        (subst (λ m. Thought ram a (Decoded w) (load_request m next address count ∷ []) [] [] (mind a (Accessing w))) (sym ok.size) (loads next w address count n)))
    by_need (demand.Store address count v) n =
        asks_keeps (wakes.Event slot) next a 1 (store_request s.common.ram next address count v) (Data w (Asks (store_request s.common.ram next address count v))) at (ap hand_of e) (ap stage_packets e) refl refl refl refl
        (calm_event slot) (event_due slot s.due z) (λ f. refl) refl refl
        (subst (λ (d : Doing). Thought ram a d (store_request s.common.ram next address count v ∷ []) [] [] (mind a (Accessing w))) (sym (ap timing_doing e))
        (subst (λ m. Thought ram a (Decoded w) (store_request m next address count v ∷ []) [] [] (mind a (Accessing w))) (sym ok.size) (stores next w address count v n)))
    by_need demand.Nothing n = stays_keeps rs ram s ok (wakes.Event slot) answers.Nothing (calm_event slot) false (event_due slot s.due z) [] (λ f. refl) next (λ m may. refl)
    by_need demand.Sleep n = stays_keeps rs ram s ok (wakes.Event slot) answers.Nothing (calm_event slot) false (event_due slot s.due z) [] (λ f. refl) next (λ m may. refl)
    by_need (demand.Trap c t) n = stays_keeps rs ram s ok (wakes.Event slot) answers.Nothing (calm_event slot) false (event_due slot s.due z) [] (λ f. refl) next (λ m may. refl)
  event_keeps next now slot z (Some a) Between at e = by_sleep a.asleep refl where
    by_begin : (o : Option ℕ) (b : Bool) → interrupt_cause a ≡ o → is_in_ram s.common.ram a.pc 4 ≡ b → a.asleep ≡ false → Keeps rs ram (timing_face s) (wakes.Event slot) (tcpu_begins (record s { due = false }) a next now o b)
    by_begin (Some c) b i r h =
        subst (λ (q : Stepped). Keeps rs ram (timing_face s) (wakes.Event slot) q) (event_ends (record s { due = false }) (enter_trap a c 0) next now (entries.Trapped c 0) (enter_trap a c 0).asleep)
        (ends_keeps rs ram s a at ok.size (ap hand_of e) (ap stage_packets e) (wakes.Event slot) answers.Nothing (calm_event slot) false (event_due slot s.due z) [] (λ f. refl) next now (enter_trap a c 0) (entries.Trapped c 0) (enter_trap a c 0).asleep
        (λ may. subst (λ (d : Doing). Thought ram a d [] [] (over (entries.Trapped c 0) (enter_trap a c 0).asleep) (mind (enter_trap a c 0) Boundary)) (sym (ap timing_doing e)) (interrupted c i)))
    by_begin None true i r h =
        asks_keeps (wakes.Event slot) next a 0 (fetch_request next a.pc) (Fetch (Asks (fetch_request next a.pc))) at (ap hand_of e) (ap stage_packets e) refl refl refl refl (calm_event slot) (event_due slot s.due z) (λ f. refl) refl refl
        (subst (λ (d : Doing). Thought ram a d (fetch_request next a.pc ∷ []) [] [] (mind a Fetching)) (sym (ap timing_doing e)) (fetches next h (subst (λ m. is_in_ram m a.pc 4 ≡ true) ok.size r)))
    by_begin None false i r h =
        subst (λ (q : Stepped). Keeps rs ram (timing_face s) (wakes.Event slot) q) (event_ends (record s { due = false }) (enter_trap a 1 a.pc) next now (entries.Trapped 1 a.pc) (enter_trap a 1 a.pc).asleep)
        (ends_keeps rs ram s a at ok.size (ap hand_of e) (ap stage_packets e) (wakes.Event slot) answers.Nothing (calm_event slot) false (event_due slot s.due z) [] (λ f. refl) next now (enter_trap a 1 a.pc) (entries.Trapped 1 a.pc) (enter_trap a 1 a.pc).asleep
        (λ may. subst (λ (d : Doing). Thought ram a d [] [] (over (entries.Trapped 1 a.pc) (enter_trap a 1 a.pc).asleep) (mind (enter_trap a 1 a.pc) Boundary)) (sym (ap timing_doing e))
        (misfetched i h (subst (λ m. is_in_ram m a.pc 4 ≡ false) ok.size r))))

    by_sleep : (b : Bool) → a.asleep ≡ b → Keeps rs ram (timing_face s) (wakes.Event slot) (if b then stays (TimingCpu (record s { due = false })) next else tcpu_begins (record s { due = false }) a next now (interrupt_cause a) (is_in_ram s.common.ram a.pc 4))
    by_sleep true h = stays_keeps rs ram s ok (wakes.Event slot) answers.Nothing (calm_event slot) false (event_due slot s.due z) [] (λ f. refl) next (λ m may. refl)
    by_sleep false h = by_begin (interrupt_cause a) (is_in_ram s.common.ram a.pc 4) refl refl h

  -- a packet that is nobody's ends here
  stays_some : (w : Wake) (answer : Answer) → IsCalmWake w answer → ((n : ℕ) → due_before w (s.due && (n == 0)) n ≡ (s.due && (n == 0))) → (zs : List Packet) → ((f : Packet → ℕ) → came_in f w answer ≡ weigh f zs) → (a : Arch) → s.arch ≡ Some a → (next : ℕ)
      → (MayThink rs ram (mind a (timing_doing s.stage)) (timing_face s) w → weigh core zs ≡ 0)
      → (let q : Stepped = record (stays (TimingCpu s) next) { answer = answer; moves = record no_moves { answered = zs } } in Keeps rs ram (timing_face s) w q)
  stays_some w answer calm due zs came a at next none_core =
      by_some rs ram s s a a w next answer [] [] [] (record no_moves { answered = zs }) at at (still_step rs ram s ok w answer calm s.due due zs came) refl refl
      (λ q h. absurd (omega (arith, h, calm.told_none q))) (λ may. silent (timing_doing s.stage) zs (none_core may))

  owned_by : (a : Arch) → s.arch ≡ Some a → (w : Wake) → MayThink rs ram (mind a (timing_doing s.stage)) (timing_face s) w → weigh core (stage_packets s.stage) + came_in core w answers.Nothing ≤ owed (timing_doing s.stage)
  owned_by a at w may = may.owned (ap (mind_with (timing_doing s.stage)) at)

  -- a response
  response_keeps : (next now : ℕ) (port : PortNo) (p : Packet) → is_response p.cmd ≡ true → (o : Option Arch) (st : TimingStage) → s.arch ≡ o → s.stage ≡ st
      → (let q : Stepped = record (answering p (tcpu_response s next now p o st)) { answer = answers.Taken } in Keeps rs ram (timing_face s) (wakes.Offer port p) q)
  response_keeps next now port p resp None st at e =
      by_step rs ram s s (wakes.Offer port p) next answers.Taken [] [] [] (record no_moves { answered = p ∷ [] })
      (still_step rs ram s ok (wakes.Offer port p) answers.Taken (calm_offer port p) s.due (λ n. refl) (p ∷ []) (λ f. omega arith)) (λ q h. absurd (omega (arith, h)))
      (λ m z may. record { mind = ap (mind_with (timing_doing s.stage)) z; made = refl; fits = λ n. refl; answered = omega (arith, may.foreign (ap (mind_with (timing_doing s.stage)) z) refl); passed = refl; recalls = λ plain. record { serves = λ n l h. none n; stays = λ h. refl; remains = λ h. refl } })
      (λ m x z f may. absurd (no_arch x (sym z ∙ at))) where
        no_arch : (x : Arch) → Some x ≡ None → ⊥
        no_arch x z = cc
  response_keeps next now port p resp (Some a) Between at e =
      stays_some (wakes.Offer port p) answers.Taken (calm_offer port p) (λ n. refl) (p ∷ []) (λ f. omega arith) a at next (λ may. omega (arith, owned_by a at (wakes.Offer port p) may, ap (λ t. owed (timing_doing t)) e))
  response_keeps next now port p resp (Some a) (Ready w) at e =
      stays_some (wakes.Offer port p) answers.Taken (calm_offer port p) (λ n. refl) (p ∷ []) (λ f. omega arith) a at next (λ may. omega (arith, owned_by a at (wakes.Offer port p) may, ap (λ t. owed (timing_doing t)) e))
  response_keeps next now port p resp (Some a) (Fetch (Asks x)) at e =
      stays_some (wakes.Offer port p) answers.Taken (calm_offer port p) (λ n. refl) (p ∷ []) (λ f. omega arith) a at next
      (λ may. omega (arith, owned_by a at (wakes.Offer port p) may, ap (λ t. owed (timing_doing t)) e, ap (λ t. weigh core (stage_packets t)) e, ap (λ n. bit (is_of_hart n)) (let k : x.src ≡ 0 = subst StageOk e ok.stage in k)))
  response_keeps next now port p resp (Some a) (Fetch (Held x)) at e =
      stays_some (wakes.Offer port p) answers.Taken (calm_offer port p) (λ n. refl) (p ∷ []) (λ f. omega arith) a at next
      (λ may. omega (arith, owned_by a at (wakes.Offer port p) may, ap (λ t. owed (timing_doing t)) e, ap (λ t. weigh core (stage_packets t)) e, ap (λ n. bit (is_of_hart n)) (let k : x.src ≡ 0 = subst StageOk e ok.stage in k)))
  response_keeps next now port p resp (Some a) (Data w (Asks x)) at e =
      stays_some (wakes.Offer port p) answers.Taken (calm_offer port p) (λ n. refl) (p ∷ []) (λ f. omega arith) a at next
      (λ may. omega (arith, owned_by a at (wakes.Offer port p) may, ap (λ t. owed (timing_doing t)) e, ap (λ t. weigh core (stage_packets t)) e, ap (λ n. bit (is_of_hart n)) (let k : x.src ≡ 1 = subst StageOk e ok.stage in k)))
  response_keeps next now port p resp (Some a) (Data w (Held x)) at e =
      stays_some (wakes.Offer port p) answers.Taken (calm_offer port p) (λ n. refl) (p ∷ []) (λ f. omega arith) a at next
      (λ may. omega (arith, owned_by a at (wakes.Offer port p) may, ap (λ t. owed (timing_doing t)) e, ap (λ t. weigh core (stage_packets t)) e, ap (λ n. bit (is_of_hart n)) (let k : x.src ≡ 1 = subst StageOk e ok.stage in k)))
  response_keeps next now port p resp (Some a) (Fetch Away) at e = by_source (p.src == 0) refl where
    n4 : ℕ
    n4 = number (take 4 p.bytes)

    w : Wake
    w = wakes.Offer port p

    ends : (b : Arch) (en : Entry) (c : Bool) → Thought ram a Fetching [] (p ∷ []) (over en c) (mind b Boundary)
        → (let q : Stepped = record (answering p (tcpu_ends s b next now en c)) { answer = answers.Taken } in Keeps rs ram (timing_face s) (wakes.Offer port p) q)
    ends b en c th =
        subst (λ (q : Stepped). Keeps rs ram (timing_face s) (wakes.Offer port p) q) (taken_ends s b next now en c p)
        (ends_keeps rs ram s a at ok.size (ap hand_of e) (ap stage_packets e) (wakes.Offer port p) answers.Taken (calm_offer port p) s.due (λ n. refl) (p ∷ []) (λ f. omega arith) next now b en c
        (λ may. subst (λ (d : Doing). Thought ram a d [] (p ∷ []) (over en c) (mind b Boundary)) (sym (ap timing_doing e)) th))

    ready : p.src ≡ 0 → (let q : Stepped = record (answering p (tcpu_in s a (Ready (number (take 4 p.bytes))) next now [] true)) { answer = answers.Taken } in Keeps rs ram (timing_face s) (wakes.Offer port p) q)
    ready src =
        in_keeps rs ram s a at ok.size (ap hand_of e) (ap stage_packets e) (wakes.Offer port p) answers.Taken (calm_offer port p) s.due (λ n. refl) (p ∷ []) (λ f. omega arith) (Ready (number (take 4 p.bytes))) refl refl tt next now a [] true
        (λ may. subst (λ (d : Doing). Thought ram a d [] (p ∷ []) [] (mind a (Decoded (number (take 4 p.bytes))))) (sym (ap timing_doing e)) (decoded p (number (take 4 p.bytes)) refl src resp))

    by_need : (n : Demand) → need a (number (take 4 p.bytes)) ≡ n → p.src ≡ 0
        → (let q : Stepped = record (answering p (tcpu_fetched s a next now (number (take 4 p.bytes)) n)) { answer = answers.Taken } in Keeps rs ram (timing_face s) (wakes.Offer port p) q)
    by_need demand.Nothing n src = ends (finish a (number (take 4 p.bytes)) 0) (entries.Retired a.pc (number (take 4 p.bytes))) _ (finished p (number (take 4 p.bytes)) refl (rw n refl) src resp)
    by_need demand.Sleep n src = ends (finish a (number (take 4 p.bytes)) 0) (entries.Retired a.pc (number (take 4 p.bytes))) _ (finished p (number (take 4 p.bytes)) refl (rw n refl) src resp)
    by_need (demand.Load address count) n src = ready src
    by_need (demand.Store address count v) n src = ready src
    by_need (demand.Trap c t) n src = ends (enter_trap a c t) (entries.Trapped c t) _ (trapped p (number (take 4 p.bytes)) c t refl n src resp)

    foreign : (n : ℕ) (c : Content) → (n == 0) ≡ false → bit (not (suits rs ram (mind a Fetching) n c)) ≡ 0 → bit (is_of_hart n) ≡ 0
    foreign zero c z b = cc
    foreign (suc zero) c z b = absurd (omega arith)
    foreign (suc (suc n)) c z b = refl

    by_source : (z : Bool) → (p.src == 0) ≡ z
        → (let q : Stepped = record (answering p (if z then tcpu_fetched s a next now (number (take 4 p.bytes)) (need a (number (take 4 p.bytes))) else stays (TimingCpu s) next)) { answer = answers.Taken } in Keeps rs ram (timing_face s) (wakes.Offer port p) q)
    by_source true z = by_need (need a (number (take 4 p.bytes))) refl (same_is p.src 0 z)
    by_source false z =
        stays_some (wakes.Offer port p) answers.Taken (calm_offer port p) (λ n. refl) (p ∷ []) (λ f. omega arith) a at next
        (λ may. omega (arith, foreign p.src (content_of p) z (let b : bad rs ram (mind a (timing_doing s.stage)) p ≡ 0 = may.shows in subst (λ (t : TimingStage). bad rs ram (mind a (timing_doing t)) p ≡ 0) e b)))
  response_keeps next now port p resp (Some a) (Data w Away) at e = by_source (p.src == 1) refl where
    ends : (b : Arch) (en : Entry) (c : Bool) → Thought ram a (Accessing w) [] (p ∷ []) (over en c) (mind b Boundary)
        → (let q : Stepped = record (answering p (tcpu_ends s b next now en c)) { answer = answers.Taken } in Keeps rs ram (timing_face s) (wakes.Offer port p) q)
    ends b en c th =
        subst (λ (q : Stepped). Keeps rs ram (timing_face s) (wakes.Offer port p) q) (taken_ends s b next now en c p)
        (ends_keeps rs ram s a at ok.size (ap hand_of e) (ap stage_packets e) (wakes.Offer port p) answers.Taken (calm_offer port p) s.due (λ n. refl) (p ∷ []) (λ f. omega arith) next now b en c
        (λ may. subst (λ (d : Doing). Thought ram a d [] (p ∷ []) (over en c) (mind b Boundary)) (sym (ap timing_doing e)) th))

    stays_here : (n : Demand) → need a w ≡ n → p.src ≡ 1 → ((c : Content) → is_access rs c n ≡ false) → (let q : Stepped = record (answering p (stays (TimingCpu s) next)) { answer = answers.Taken } in Keeps rs ram (timing_face s) (wakes.Offer port p) q)
    stays_here n d src no_access =
        stays_some (wakes.Offer port p) answers.Taken (calm_offer port p) (λ n. refl) (p ∷ []) (λ f. omega arith) a at next
        (λ may. absurd (let b : bad rs ram (mind a (timing_doing s.stage)) p ≡ 0 = may.shows in
        let c : bit (not (suits rs ram (mind a (Accessing w)) 1 (content_of p))) ≡ 0 = subst (λ k. bit (not (suits rs ram (mind a (Accessing w)) k (content_of p))) ≡ 0) src (subst (λ (t : TimingStage). bad rs ram (mind a (timing_doing t)) p ≡ 0) e b) in
        let f : bit (not (is_access rs (content_of p) n)) ≡ 0 = subst (λ t. bit (not (is_access rs (content_of p) t)) ≡ 0) d c in
        omega (arith, f, ap (λ t. bit (not t)) (no_access (content_of p)))))

    by_need : (n : Demand) (f : Bool) → need a w ≡ n → p.fault ≡ f → p.src ≡ 1
        → (let q : Stepped = record (answering p (tcpu_accessed s a next now p w n f)) { answer = answers.Taken } in Keeps rs ram (timing_face s) (wakes.Offer port p) q)
    by_need (demand.Load address count) false n f src = ends (finish a w (number (take count p.bytes))) (entries.Retired a.pc w) _ (loaded p w address count n f src resp)
    by_need (demand.Load address count) true n f src = ends (enter_trap a 5 address) (entries.Trapped 5 address) _ (load_refused p w address count n f src resp)
    by_need (demand.Store address count v) false n f src = ends (finish a w 0) (entries.Retired a.pc w) _ (stored p w address count v n f src resp)
    by_need (demand.Store address count v) true n f src = ends (enter_trap a 7 address) (entries.Trapped 7 address) _ (store_refused p w address count v n f src resp)
    by_need demand.Nothing f n g src = stays_here demand.Nothing n src (λ c. refl)
    by_need demand.Sleep f n g src = stays_here demand.Sleep n src (λ c. refl)
    by_need (demand.Trap c t) f n g src = stays_here (demand.Trap c t) n src (λ k. refl)

    foreign : (n : ℕ) (c : Content) → (n == 1) ≡ false → bit (not (suits rs ram (mind a (Accessing w)) n c)) ≡ 0 → bit (is_of_hart n) ≡ 0
    foreign zero c z b = absurd (omega arith)
    foreign (suc zero) c z b = cc
    foreign (suc (suc n)) c z b = refl

    by_source : (z : Bool) → (p.src == 1) ≡ z
        → (let q : Stepped = record (answering p (if z then tcpu_accessed s a next now p w (need a w) p.fault else stays (TimingCpu s) next)) { answer = answers.Taken } in Keeps rs ram (timing_face s) (wakes.Offer port p) q)
    by_source true z = by_need (need a w) p.fault refl refl (same_is p.src 1 z)
    by_source false z =
        stays_some (wakes.Offer port p) answers.Taken (calm_offer port p) (λ n. refl) (p ∷ []) (λ f. omega arith) a at next
        (λ may. omega (arith, foreign p.src (content_of p) z (let b : bad rs ram (mind a (timing_doing s.stage)) p ≡ 0 = may.shows in subst (λ (t : TimingStage). bad rs ram (mind a (timing_doing t)) p ≡ 0) e b)))

-- wakes that tell of the own offer
module _ (rs : List Route) (ram : ℕ) (s : TimingCpuState) (ok : TimingOk ram s) where
  hand_step : (w : Wake) (next : ℕ) (to : TimingStage) (list : List Act) → timing_doing to ≡ timing_doing s.stage → TStep ram s w (record s { stage = to }) answers.Nothing list [] no_moves
      → Keeps rs ram (timing_face s) w (tcpu_with s next to list)
  hand_step w next to list doing k =
      by_step rs ram s (record s { stage = to }) w next answers.Nothing list [] [] no_moves k (λ p h. (refl, refl, ap (λ d. mind_with d s.arch) doing))
      (λ m e may. record {
        mind = ap (mind_with (timing_doing to)) e;
        made = refl;
        fits = λ n. refl;
        answered = refl;
        passed = ap (weigh core) k.passed;
        recalls = λ plain. record {
          serves = λ n l h. none n;
          stays = λ h. refl;
          remains = λ h. refl;
        };
      })
      (λ m x e f may. (let z : Thought ram x (timing_doing s.stage) [] [] [] (mind x (timing_doing s.stage)) = silent (timing_doing s.stage) [] refl in
      subst (λ (n : Mind). Thinks ram n (timing_face s) (timing_face (record s { stage = to })) list [] no_moves) (sym f)
      (record { after = mind x (timing_doing s.stage); mind = ap (mind_with (timing_doing to)) e ∙ ap (λ d. Some (mind x d)) doing; thought = z; memory = (refl, refl); served = refl; absorbed = refl; passed = λ i. ap (weigh core) k.passed })))

  -- an offer was made or waits, so the CPU is the active one
  rests : (to : TimingStage) → (hand_of s.stage ≡ Away → ⊥) → s.arch ≡ None → to ≡ Between
  rests to n z = absurd (n (ap hand_of (ok.rests z)))

  no_asks : (x : Packet) → Asks x ≡ Away → ⊥
  no_asks x e = cc

  no_held : (x : Packet) → Held x ≡ Away → ⊥
  no_held x e = cc

  -- it was taken
  lets_go : (q : PortNo) (next : ℕ) (x : Packet) (to : TimingStage) → hand_of s.stage ≡ Asks x → stage_packets s.stage ≡ x ∷ [] → port_of to ≡ port_of s.stage → hand_of to ≡ Away → stage_packets to ≡ [] → StageOk to
      → timing_doing to ≡ timing_doing s.stage → port_of s.stage ≡ q.0 → Keeps rs ram (timing_face s) (wakes.Taken q) (tcpu_with s next to [])
  lets_go q next x to h ps port away empty so doing at =
      hand_step (wakes.Taken q) next to [] doing (record {
        ok = record { size = ok.size; rests = rests to (λ z. no_asks x (sym h ∙ z)); stage = so };
        asked = λ p. rw (h, away, port) (omega (arith, only_zero (port_of s.stage) p, ap (λ k. only k p 1) at));
        waits = λ p. rw (h, away, port) (omega (arith, only_zero (port_of s.stage) p));
        taken_all = λ p. refl;
        carries = λ p y i. absurd i;
        keeps = λ p b z. absurd (busy p b z);
        calls = λ p. refl;
        again = λ p. omega arith;
        due = λ n. refl;
        conserves = record {
          kept = [];
          before = λ f e. omega (arith, ap (weigh f) ps, ap (λ k. head_weight f (hand_head k)) h);
          after = λ f e. omega (arith, ap (weigh f) empty);
          numbers = λ f e. refl;
        };
        few = λ p. omega arith;
        light = omega arith;
        sent = tt;
        passed = refl;
      }) where
        busy : (p : ℕ) → 1 ≤ only (port_of s.stage) p (hand_asked (hand_of s.stage)) + only (port_of s.stage) p (hand_waits (hand_of s.stage)) → only q.0 p 1 ≡ 0 → ⊥
        busy p b z = omega (arith, z, only_le (port_of s.stage) p (hand_waits (hand_of s.stage)), ap (λ k. only (port_of s.stage) p (hand_asked k)) h, ap (λ k. only (port_of s.stage) p (hand_waits k)) h, b, only_zero (port_of s.stage) p, ap (λ k. only k p 1) at)

  -- it was refused
  holds_back : (q : PortNo) (next : ℕ) (x : Packet) (to : TimingStage) → hand_of s.stage ≡ Asks x → stage_packets s.stage ≡ x ∷ [] → port_of to ≡ port_of s.stage → hand_of to ≡ Held x → stage_packets to ≡ x ∷ [] → StageOk to
      → timing_doing to ≡ timing_doing s.stage → port_of s.stage ≡ q.0 → Keeps rs ram (timing_face s) (wakes.Refused q) (tcpu_with s next to [])
  holds_back q next x to h ps port held packets so doing at =
      hand_step (wakes.Refused q) next to [] doing (record {
        ok = record { size = ok.size; rests = rests to (λ z. no_asks x (sym h ∙ z)); stage = so };
        asked = λ p. rw (h, held, port) (omega (arith, only_zero (port_of s.stage) p, ap (λ k. only k p 1) at));
        waits = λ p. rw (h, held, port) (omega (arith, only_zero (port_of s.stage) p, ap (λ k. only k p 1) at));
        taken_all = λ p. refl;
        carries = λ p y i. absurd i;
        keeps = λ p b z. ap hand_head held ∙ sym (ap hand_head h);
        calls = λ p. refl;
        again = λ p. omega arith;
        due = λ n. refl;
        conserves = record {
          kept = x ∷ [];
          before = λ f e. omega (arith, ap (weigh f) ps);
          after = λ f e. omega (arith, ap (weigh f) packets);
          numbers = λ f e. refl;
        };
        few = λ p. omega arith;
        light = omega arith;
        sent = tt;
        passed = refl;
      })

  -- it is made again
  calls_again : (q : PortNo) (next : ℕ) (x : Packet) (to : TimingStage) (n : ℕ) → hand_of s.stage ≡ Held x → stage_packets s.stage ≡ x ∷ [] → port_of to ≡ port_of s.stage → hand_of to ≡ Asks x → stage_packets to ≡ x ∷ [] → StageOk to
      → timing_doing to ≡ timing_doing s.stage → port_of s.stage ≡ q.0 → port_of s.stage ≡ n → Keeps rs ram (timing_face s) (wakes.Retry q) (tcpu_with s next to (offer_at n x ∷ []))
  calls_again q next x to n h ps port asks packets so doing at an =
      hand_step (wakes.Retry q) next to (offer_at n x ∷ []) doing (record {
        ok = record { size = ok.size; rests = rests to (λ z. no_held x (sym h ∙ z)); stage = so };
        asked = λ p. rw (h, asks, port) (omega (arith, only_zero (port_of s.stage) p, ap (λ k. only k p 1) an));
        waits = λ p. rw (h, asks, port) (omega (arith, only_zero (port_of s.stage) p, ap (λ k. only k p 1) at));
        taken_all = λ p. refl;
        carries = λ p y i. ap hand_head asks ∙ one p y i;
        keeps = λ p b z. ap hand_head asks ∙ sym (ap hand_head h);
        calls = λ p. refl;
        again = λ p. omega (arith, ap (λ k. only k p 1) at, ap (λ k. only k p 1) an);
        due = λ n. refl;
        conserves = record {
          kept = x ∷ [];
          before = λ f e. omega (arith, ap (weigh f) ps);
          after = λ f e. omega (arith, ap (weigh f) packets);
          numbers = λ f e. refl;
        };
        few = λ p. omega (arith, ap (λ k. only k p 1) at, ap (λ k. only k p 1) an);
        light = omega arith;
        sent = (tt, tt);
        passed = refl;
      }) where
        one : (p : ℕ) (y : Packet) → IsIn (offer_out p y) (offer_at n x ∷ []) → ◌≡◌ {A = Option Packet} (Some x) (Some y)
        one p y (inl e) = let k : x ≡ y = cc e in ap Some k
        one p y (inr i) = absurd i

  asked_at : (q : PortNo) (st : TimingStage) → s.stage ≡ st → ((p : ℕ) → only q.0 p 1 ≤ only (port_of s.stage) p (hand_asked (hand_of s.stage))) → 1 ≤ only (port_of st) q.0 (hand_asked (hand_of st))
  asked_at q st e h = omega (arith, h q.0, only_self q.0 1, ap (λ t. only (port_of t) q.0 (hand_asked (hand_of t))) e)

  taken_keeps : (q : PortNo) (next : ℕ) (st : TimingStage) → s.stage ≡ st → 1 ≤ only (port_of st) q.0 (hand_asked (hand_of st)) → Keeps rs ram (timing_face s) (wakes.Taken q) (tcpu_taken s next st)
  taken_keeps q next (Fetch (Asks x)) e h = lets_go q next x (Fetch Away) (ap hand_of e) (ap stage_packets e) (sym (ap port_of e)) refl refl tt (sym (ap timing_doing e)) (ap port_of e ∙ only_is 0 q.0 1 h)
  taken_keeps q next (Data w (Asks x)) e h = lets_go q next x (Data w Away) (ap hand_of e) (ap stage_packets e) (sym (ap port_of e)) refl refl tt (sym (ap timing_doing e)) (ap port_of e ∙ only_is 1 q.0 1 h)
  taken_keeps q next (Fetch (Held x)) e h = absurd (omega (arith, h, only_zero 0 q.0))
  taken_keeps q next (Data w (Held x)) e h = absurd (omega (arith, h, only_zero 1 q.0))
  taken_keeps q next (Fetch Away) e h = absurd (omega (arith, h, only_zero 0 q.0))
  taken_keeps q next (Data w Away) e h = absurd (omega (arith, h, only_zero 1 q.0))
  taken_keeps q next Between e h = absurd (omega (arith, h, only_zero 0 q.0))
  taken_keeps q next (Ready w) e h = absurd (omega (arith, h, only_zero 1 q.0))

  refused_keeps : (q : PortNo) (next : ℕ) (st : TimingStage) → s.stage ≡ st → 1 ≤ only (port_of st) q.0 (hand_asked (hand_of st)) → Keeps rs ram (timing_face s) (wakes.Refused q) (tcpu_refused s next st)
  refused_keeps q next (Fetch (Asks x)) e h = holds_back q next x (Fetch (Held x)) (ap hand_of e) (ap stage_packets e) (sym (ap port_of e)) refl refl (subst StageOk e ok.stage) (sym (ap timing_doing e)) (ap port_of e ∙ only_is 0 q.0 1 h)
  refused_keeps q next (Data w (Asks x)) e h = holds_back q next x (Data w (Held x)) (ap hand_of e) (ap stage_packets e) (sym (ap port_of e)) refl refl (subst StageOk e ok.stage) (sym (ap timing_doing e)) (ap port_of e ∙ only_is 1 q.0 1 h)
  refused_keeps q next (Fetch (Held x)) e h = absurd (omega (arith, h, only_zero 0 q.0))
  refused_keeps q next (Data w (Held x)) e h = absurd (omega (arith, h, only_zero 1 q.0))
  refused_keeps q next (Fetch Away) e h = absurd (omega (arith, h, only_zero 0 q.0))
  refused_keeps q next (Data w Away) e h = absurd (omega (arith, h, only_zero 1 q.0))
  refused_keeps q next Between e h = absurd (omega (arith, h, only_zero 0 q.0))
  refused_keeps q next (Ready w) e h = absurd (omega (arith, h, only_zero 1 q.0))

  waits_at : (q : PortNo) (st : TimingStage) → s.stage ≡ st → ((p : ℕ) → only q.0 p 1 ≤ only (port_of s.stage) p (hand_waits (hand_of s.stage))) → 1 ≤ only (port_of st) q.0 (hand_waits (hand_of st))
  waits_at q st e h = omega (arith, h q.0, only_self q.0 1, ap (λ t. only (port_of t) q.0 (hand_waits (hand_of t))) e)

  called_keeps : (q : PortNo) (next : ℕ) (st : TimingStage) → s.stage ≡ st → 1 ≤ only (port_of st) q.0 (hand_waits (hand_of st)) → Keeps rs ram (timing_face s) (wakes.Retry q) (tcpu_called s next st)
  called_keeps q next (Fetch (Held x)) e h = calls_again q next x (Fetch (Asks x)) 0 (ap hand_of e) (ap stage_packets e) (sym (ap port_of e)) refl refl (subst StageOk e ok.stage) (sym (ap timing_doing e)) (ap port_of e ∙ only_is 0 q.0 1 h) (ap port_of e)
  called_keeps q next (Data w (Held x)) e h = calls_again q next x (Data w (Asks x)) 1 (ap hand_of e) (ap stage_packets e) (sym (ap port_of e)) refl refl (subst StageOk e ok.stage) (sym (ap timing_doing e)) (ap port_of e ∙ only_is 1 q.0 1 h) (ap port_of e)
  called_keeps q next (Fetch (Asks x)) e h = absurd (omega (arith, h, only_zero 0 q.0))
  called_keeps q next (Data w (Asks x)) e h = absurd (omega (arith, h, only_zero 1 q.0))
  called_keeps q next (Fetch Away) e h = absurd (omega (arith, h, only_zero 0 q.0))
  called_keeps q next (Data w Away) e h = absurd (omega (arith, h, only_zero 1 q.0))
  called_keeps q next Between e h = absurd (omega (arith, h, only_zero 0 q.0))
  called_keeps q next (Ready w) e h = absurd (omega (arith, h, only_zero 1 q.0))

  -- a line has a new level
  lined_keeps : (next now b : ℕ) (l : Bool) (o : Option Arch) → s.arch ≡ o → Keeps rs ram (timing_face s) (wakes.Line b l) (tcpu_lined s next now b l o)
  lined_keeps next now b l None at = stays_keeps rs ram s ok (wakes.Line b l) answers.Nothing (calm_line b l) s.due (λ n. refl) [] (λ f. refl) next (λ m may. refl)
  lined_keeps next now b l (Some a) at = by (a.asleep && not (with_line a b l).asleep && not s.common.draining) where
    by : (c : Bool) → Keeps rs ram (timing_face s) (wakes.Line b l) (tcpu_in s (with_line a b l) s.stage next now (entries.Line b l ∷ []) c)
    by true =
        by_some rs ram s (record s { arch = Some (with_line a b l); due = true }) a (with_line a b l) (wakes.Line b l) next answers.Nothing [] (next_event s now ∷ []) (entries.Line b l ∷ []) no_moves at refl
        (calm_step ram s (record s { arch = Some (with_line a b l); due = true }) (wakes.Line b l) answers.Nothing (next_event s now ∷ []) no_moves (calm_line b l) (record { size = ok.size; rests = λ x. cc; stage = ok.stage })
        (λ p. refl) (λ p. refl) refl refl (λ n. set_due n (n == 0) s.due) refl refl refl (λ f. refl)) refl refl
        (λ q h. absurd (omega (arith, h))) (λ may. lined (timing_doing s.stage) b l (may.lines b l refl))
    by false =
        by_some rs ram s (record s { arch = Some (with_line a b l) }) a (with_line a b l) (wakes.Line b l) next answers.Nothing [] [] (entries.Line b l ∷ []) no_moves at refl
        (calm_step ram s (record s { arch = Some (with_line a b l) }) (wakes.Line b l) answers.Nothing [] no_moves (calm_line b l) (record { size = ok.size; rests = λ x. cc; stage = ok.stage })
        (λ p. refl) (λ p. refl) refl refl (λ n. refl) refl refl refl (λ f. refl)) refl refl
        (λ q h. absurd (omega (arith, h))) (λ may. lined (timing_doing s.stage) b l (may.lines b l refl))

  pub timing_law : (next now : ℕ) (w : Wake) → MayWake (timing_face s) w → Keeps rs ram (timing_face s) w (timing_cpu_step s next w now)
  timing_law next now (wakes.Event slot) may = by (slot.0 == 0) refl (may.fired slot.0 refl) where
    by : (z : Bool) → (slot.0 == 0) ≡ z → (s.due && (slot.0 == 0)) ≡ true → Keeps rs ram (timing_face s) (wakes.Event slot) (if z then tcpu_event (record s { due = false }) next now s.arch s.stage else stays (TimingCpu s) next)
    by true z d = event_keeps rs ram s ok next now slot (same_is slot.0 0 z) s.arch s.stage refl refl
    by false z d = absurd (no_both (slot.0 == 0) (and_parts s.due (slot.0 == 0) d).1 z)
  timing_law next now (wakes.Offer port p) may = response_keeps rs ram s ok next now port p (may.fits port.0 p refl) s.arch s.stage refl refl
  timing_law next now (wakes.Taken q) may = taken_keeps q next s.stage refl (asked_at q s.stage refl may.told)
  timing_law next now (wakes.Refused q) may = refused_keeps q next s.stage refl (asked_at q s.stage refl may.told)
  timing_law next now (wakes.Retry q) may = called_keeps q next s.stage refl (waits_at q s.stage refl may.retry)
  timing_law next now (wakes.Line b l) may = lined_keeps next now b l s.arch refl
  timing_law next now (wakes.AtomicDone x l) may = stays_keeps rs ram s ok (wakes.AtomicDone x l) answers.Nothing (calm_done x l) s.due (λ n. refl) (x ∷ []) (λ f. omega arith) next (λ m think. omega (arith, think.timed refl refl x l refl))
