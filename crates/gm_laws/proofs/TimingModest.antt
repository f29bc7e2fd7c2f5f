-- The timing CPU's rule is modest, by its cases.
use Rattle.std.proofs.Common.{◌≡◌, ℕ, ◌≤◌, ◌==◌, cond, ◌&&◌, not, Bool, true, false, List, [], ◌∷◌, take, length, All, Option, Some, None, refl, ap, arith}
use Rattle.std.proofs.lemmas.List.Elements.{All-nil, All-cons, All-head}
use Rattle.rv_step.specs.declared.arch.Arch.{Arch}
use Rattle.rv_step.specs.declared.demand.Demand.{Demand}
use Rattle.rv_step.specs.declared.demand.Demand.TheVariants as demand
use Rattle.rv_step.specs.Bytes.{number}
use Rattle.rv_step.specs.Demand.{need}
use Rattle.rv_step.specs.Trap.{enter_trap, interrupt_cause}
use Rattle.gm_words.specs.Allowed.{MayPass}
use Rattle.gm_words.specs.Entries.{console_of}
use Rattle.gm_words.specs.HartLine.{with_line, next_multiple}
use Rattle.gm_words.specs.Platform.{is_in_ram, fetch_port, data_port}
use Rattle.gm_words.specs.declared.act.Act.{Act}
use Rattle.gm_words.specs.declared.answer.Answer.TheVariants as answers
use Rattle.gm_words.specs.declared.entry.Entry.{Entry}
use Rattle.gm_words.specs.declared.entry.Entry.TheVariants as entries
use Rattle.pkt_pool.specs.declared.packet.Packet.{Packet}
use Rattle.gm_words.specs.declared.wake.Wake.{Wake}
use Rattle.gm_words.specs.declared.wake.Wake.TheVariants as wakes
use Rattle.gm_model.specs.Accesses.{fetch_request, load_request, store_request}
use Rattle.gm_model.specs.Flows.{offer_at}
use Rattle.gm_model.specs.ObjState.{TimingCpu, TimingCpuState, TimingStage, Between, Fetch, Ready, Data, Asks, Held, Away}
use Rattle.gm_model.specs.ObjectStep.{object_step, atomic_step}
use Rattle.gm_model.specs.Stepped.{stays}
use Rattle.gm_model.specs.TimingCpu.{tcpu_in, tcpu_ends, tcpu_asks, tcpu_begins, tcpu_demands, tcpu_event, tcpu_fetched, tcpu_accessed, tcpu_response, tcpu_with, tcpu_taken, tcpu_refused, tcpu_called, tcpu_lined}
use Rattle.gm_model.specs.View.{stage_packets}
use Rattle.gm_laws.specs.Bounds.{IsWithin, IsModest, IsModestPass, AreFit, speech, part_speech}
use Rattle.gm_laws.specs.Faces.{face_of}
use Rattle.gm_laws.proofs.Bytes.{IsNarrow, need_narrow}
use Rattle.gm_laws.proofs.StillModest.{answered_modest, drops_modest}
use Rattle.gm_laws.proofs.Ticks.{soon, next_bounds}

-- an entry that isn't of an access brings nothing to the console
abbrev IsQuiet : Entry → Type 0
IsQuiet e = console_of (e ∷ []) ≡ []

-- one packet that may pass
one_held : (p : Packet) → p.size ≤ 64 → All MayPass (p ∷ [])
one_held p h = All-cons MayPass p [] h (All-nil MayPass)

module _ (s : TimingCpuState) (next : ℕ) (w : Wake) (now : ℕ) (small : 1 ≤ s.period) (large : s.period ≤ 1000000) where
  in_modest : (d : Bool) (a : Arch) (stage : TimingStage) (es : List Entry) (c : Bool) → All MayPass (stage_packets stage) → length es ≤ 2 → console_of es ≡ []
      → IsModest (TimingCpu s) next w now (tcpu_in (record s { due = d }) a stage next now es c)
  unfolding IsWithin part_speech face_of
  in_modest d a stage es true h few quiet =
      let n = next_bounds s.period now small in
      record {
        object = refl;
        slots = refl;
        ports = refl;
        within = (small, large, h);
        own = (refl, tt);
        timely = (n.0, soon now (next_multiple s.period now) (omega (arith, n.1, large)), tt);
        fit = tt;
        entries = few;
        drawn = refl;
        few = omega arith;
        spoken = omega (arith, ap length quiet);
      }
  in_modest d a stage es false h few quiet = record {
    object = refl;
    slots = refl;
    ports = refl;
    within = (small, large, h);
    own = tt;
    timely = tt;
    fit = tt;
    entries = few;
    drawn = refl;
    few = omega arith;
    spoken = omega (arith, ap length quiet);
  }

  ends_modest : (d : Bool) (a : Arch) (e : Entry) (b : Bool) → IsQuiet e → IsModest (TimingCpu s) next w now (tcpu_ends (record s { due = d }) a next now e b)
  ends_modest d a e true q = in_modest d a Between (e ∷ entries.Slept ∷ []) false (All-nil MayPass) (omega arith) q
  ends_modest d a e false q = in_modest d a Between (e ∷ []) (not s.common.draining) (All-nil MayPass) (omega arith) q

  asks_modest : (d : Bool) (stage : TimingStage) (port : ℕ) (p : Packet) → stage_packets stage ≡ p ∷ [] → p.size ≤ 64 → p.id.0 ≡ next
      → IsModest (TimingCpu s) next w now (tcpu_asks (record s { due = d }) stage next port p)
  unfolding IsWithin part_speech face_of
  asks_modest d stage port p e h n = record {
    object = refl;
    slots = refl;
    ports = refl;
    within = (small, large, rw e (one_held p h));
    own = tt;
    timely = tt;
    fit = (h, tt);
    entries = omega arith;
    drawn = (n, refl);
    few = omega arith;
    spoken = omega arith;
  }

  -- it stands in another stage, and offers what it may
  with_modest : (d : Bool) (stage : TimingStage) (list : List Act) → All MayPass (stage_packets stage) → AreFit list → speech list ≡ 0
      → IsModest (TimingCpu s) next w now (tcpu_with (record s { due = d }) next stage list)
  unfolding IsWithin part_speech face_of
  with_modest d stage list h fit z = record {
    object = refl;
    slots = refl;
    ports = refl;
    within = (small, large, h);
    own = tt;
    timely = tt;
    fit = fit;
    entries = omega arith;
    drawn = refl;
    few = omega arith;
    spoken = omega (arith, z);
  }

  stays_here : (d : Bool) → All MayPass (stage_packets s.stage) → IsModest (TimingCpu s) next w now (stays (TimingCpu (record s { due = d })) next)
  stays_here d h = with_modest d s.stage [] h tt refl

  begins_modest : (d : Bool) (a : Arch) (o : Option ℕ) (b : Bool) → IsModest (TimingCpu s) next w now (tcpu_begins (record s { due = d }) a next now o b)
  begins_modest d a (Some cause) b = ends_modest d _ _ (enter_trap a cause 0).asleep refl
  begins_modest d a None true = asks_modest d (Fetch (Asks (fetch_request next a.pc))) fetch_port (fetch_request next a.pc) refl (omega arith) refl
  begins_modest d a None false = ends_modest d _ _ _ refl

  demands_modest : (d : Bool) (v : ℕ) (n : Demand) → All MayPass (stage_packets s.stage) → IsNarrow n → IsModest (TimingCpu s) next w now (tcpu_demands (record s { due = d }) next v n)
  demands_modest d v (demand.Load address size) h k =
      let p : Packet = load_request s.common.ram next address size in asks_modest d (Data v (Asks p)) data_port p refl (omega (arith, k.1)) refl
  demands_modest d v (demand.Store address size n) h k =
      let p : Packet = store_request s.common.ram next address size n in asks_modest d (Data v (Asks p)) data_port p refl (omega (arith, k.1)) refl
  demands_modest d v demand.Nothing h k = stays_here d h
  demands_modest d v demand.Sleep h k = stays_here d h
  demands_modest d v (demand.Trap cause tval) h k = stays_here d h

  event_modest : (d : Bool) (o : Option Arch) (stage : TimingStage) → All MayPass (stage_packets s.stage) → IsModest (TimingCpu s) next w now (tcpu_event (record s { due = d }) next now o stage)
  event_modest d None stage h = stays_here d h
  event_modest d (Some a) Between h = by_sleep a.asleep where
    by_sleep : (b : Bool) → IsModest (TimingCpu s) next w now (cond b (stays (TimingCpu (record s { due = d })) next) (tcpu_begins (record s { due = d }) a next now (interrupt_cause a) (is_in_ram s.common.ram a.pc 4)))
    by_sleep true = stays_here d h
    by_sleep false = begins_modest d a (interrupt_cause a) (is_in_ram s.common.ram a.pc 4)
  event_modest d (Some a) (Ready v) h = demands_modest d v (need a v) h (need_narrow a v)
  event_modest d (Some a) (Fetch hand) h = stays_here d h
  event_modest d (Some a) (Data v hand) h = stays_here d h

  fetched_modest : (a : Arch) (v : ℕ) (n : Demand) → IsModest (TimingCpu s) next w now (tcpu_fetched s a next now v n)
  fetched_modest a v demand.Nothing = ends_modest s.due _ _ _ refl
  fetched_modest a v demand.Sleep = ends_modest s.due _ _ _ refl
  fetched_modest a v (demand.Load address size) = in_modest s.due a (Ready v) [] true (All-nil MayPass) (omega arith) refl
  fetched_modest a v (demand.Store address size n) = in_modest s.due a (Ready v) [] true (All-nil MayPass) (omega arith) refl
  fetched_modest a v (demand.Trap cause tval) = ends_modest s.due _ _ _ refl

  accessed_modest : (a : Arch) (p : Packet) (v : ℕ) (n : Demand) (b : Bool) → All MayPass (stage_packets s.stage) → IsModest (TimingCpu s) next w now (tcpu_accessed s a next now p v n b)
  accessed_modest a p v (demand.Load address size) false h = ends_modest s.due _ _ _ refl
  accessed_modest a p v (demand.Load address size) true h = ends_modest s.due _ _ _ refl
  accessed_modest a p v (demand.Store address size n) false h = ends_modest s.due _ _ _ refl
  accessed_modest a p v (demand.Store address size n) true h = ends_modest s.due _ _ _ refl
  accessed_modest a p v demand.Nothing b h = stays_here s.due h
  accessed_modest a p v demand.Sleep b h = stays_here s.due h
  accessed_modest a p v (demand.Trap cause tval) b h = stays_here s.due h

  response_modest : (p : Packet) (o : Option Arch) (stage : TimingStage) → All MayPass (stage_packets s.stage) → IsModest (TimingCpu s) next w now (tcpu_response s next now p o stage)
  response_modest p None stage h = stays_here s.due h
  response_modest p (Some a) Between h = stays_here s.due h
  response_modest p (Some a) (Ready v) h = stays_here s.due h
  response_modest p (Some a) (Fetch (Asks x)) h = stays_here s.due h
  response_modest p (Some a) (Fetch (Held x)) h = stays_here s.due h
  response_modest p (Some a) (Data v (Asks x)) h = stays_here s.due h
  response_modest p (Some a) (Data v (Held x)) h = stays_here s.due h
  response_modest p (Some a) (Fetch Away) h = by_source (p.src == 0) where
    by_source : (b : Bool) → IsModest (TimingCpu s) next w now (cond b (tcpu_fetched s a next now (number (take 4 p.bytes)) (need a (number (take 4 p.bytes)))) (stays (TimingCpu s) next))
    by_source true = fetched_modest a _ _
    by_source false = stays_here s.due h
  response_modest p (Some a) (Data v Away) h = by_source (p.src == 1) where
    by_source : (b : Bool) → IsModest (TimingCpu s) next w now (cond b (tcpu_accessed s a next now p v (need a v) p.fault) (stays (TimingCpu s) next))
    by_source true = accessed_modest a p v (need a v) p.fault h
    by_source false = stays_here s.due h

  taken_modest : (stage : TimingStage) → All MayPass (stage_packets s.stage) → IsModest (TimingCpu s) next w now (tcpu_taken s next stage)
  taken_modest (Fetch hand) h = with_modest s.due (Fetch Away) [] (All-nil MayPass) tt refl
  taken_modest (Data v hand) h = with_modest s.due (Data v Away) [] (All-nil MayPass) tt refl
  taken_modest Between h = stays_here s.due h
  taken_modest (Ready v) h = stays_here s.due h

  refused_modest : (stage : TimingStage) → All MayPass (stage_packets s.stage) → All MayPass (stage_packets stage) → IsModest (TimingCpu s) next w now (tcpu_refused s next stage)
  refused_modest (Fetch (Asks x)) h k = with_modest s.due (Fetch (Held x)) [] k tt refl
  refused_modest (Data v (Asks x)) h k = with_modest s.due (Data v (Held x)) [] k tt refl
  refused_modest (Fetch (Held x)) h k = stays_here s.due h
  refused_modest (Data v (Held x)) h k = stays_here s.due h
  refused_modest (Fetch Away) h k = stays_here s.due h
  refused_modest (Data v Away) h k = stays_here s.due h
  refused_modest Between h k = stays_here s.due h
  refused_modest (Ready v) h k = stays_here s.due h

  called_modest : (stage : TimingStage) → All MayPass (stage_packets s.stage) → All MayPass (stage_packets stage) → IsModest (TimingCpu s) next w now (tcpu_called s next stage)
  called_modest (Fetch (Held x)) h k = with_modest s.due (Fetch (Asks x)) (offer_at fetch_port x ∷ []) k (All-head MayPass x [] k, tt) refl
  called_modest (Data v (Held x)) h k = with_modest s.due (Data v (Asks x)) (offer_at data_port x ∷ []) k (All-head MayPass x [] k, tt) refl
  called_modest (Fetch (Asks x)) h k = stays_here s.due h
  called_modest (Data v (Asks x)) h k = stays_here s.due h
  called_modest (Fetch Away) h k = stays_here s.due h
  called_modest (Data v Away) h k = stays_here s.due h
  called_modest Between h k = stays_here s.due h
  called_modest (Ready v) h k = stays_here s.due h

  lined_modest : (bit : ℕ) (level : Bool) (o : Option Arch) → All MayPass (stage_packets s.stage) → IsModest (TimingCpu s) next w now (tcpu_lined s next now bit level o)
  lined_modest bit level None h = stays_here s.due h
  lined_modest bit level (Some a) h =
      in_modest s.due (with_line a bit level) s.stage (entries.Line bit level ∷ []) (a.asleep && not (with_line a bit level).asleep && not s.common.draining) h (omega arith) refl

pub timing_modest : (s : TimingCpuState) (next : ℕ) (w : Wake) (now : ℕ) → IsWithin (TimingCpu s) → IsModest (TimingCpu s) next w now (object_step (TimingCpu s) next w now)
unfolding object_step IsWithin
timing_modest s next (wakes.Event slot) now h = by (slot.0 == 0) where
  by : (b : Bool) → IsModest (TimingCpu s) next (wakes.Event slot) now (cond b (tcpu_event (record s { due = false }) next now s.arch s.stage) (stays (TimingCpu s) next))
  by true = event_modest s next (wakes.Event slot) now h.0 h.1 false s.arch s.stage h.2
  by false = stays_here s next (wakes.Event slot) now h.0 h.1 s.due h.2
timing_modest s next (wakes.Offer port p) now h =
    answered_modest (TimingCpu s) next (wakes.Offer port p) now p answers.Taken (tcpu_response s next now p s.arch s.stage) (response_modest s next (wakes.Offer port p) now h.0 h.1 p s.arch s.stage h.2)
timing_modest s next (wakes.Taken port) now h = taken_modest s next (wakes.Taken port) now h.0 h.1 s.stage h.2
timing_modest s next (wakes.Refused port) now h = refused_modest s next (wakes.Refused port) now h.0 h.1 s.stage h.2 h.2
timing_modest s next (wakes.Retry port) now h = called_modest s next (wakes.Retry port) now h.0 h.1 s.stage h.2 h.2
timing_modest s next (wakes.Line bit level) now h = lined_modest s next (wakes.Line bit level) now h.0 h.1 bit level s.arch h.2
timing_modest s next (wakes.AtomicDone p latency) now h = drops_modest (TimingCpu s) next (wakes.AtomicDone p latency) now p h

-- a packet that is passed to it is nobody's
pub timing_modest_pass : (s : TimingCpuState) (x : Packet) (now : ℕ) → IsWithin (TimingCpu s) → IsModestPass (TimingCpu s) x now (atomic_step (TimingCpu s) x now)
unfolding atomic_step IsWithin part_speech face_of
timing_modest_pass s x now h = record { object = refl; slots = refl; ports = refl; within = h; own = tt; timely = tt; fit = tt; size = refl; soon = omega arith; entries = omega arith; spoken = omega arith }
