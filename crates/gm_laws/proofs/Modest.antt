-- Each rule is modest, by the cases of the rules.
use Rattle.std.proofs.Common.{◌≡◌, ℕ, ◌+◌, ◌^◌, ◌≤◌, ◌==◌, refl, ap, subst, arith, Bool, true, false, cond, [], ◌∷◌, take, length, Option, Some, None}
use Rattle.rv_step.specs.declared.arch.Arch.{Arch}
use Rattle.rv_step.specs.declared.demand.Demand.{Demand}
use Rattle.rv_step.specs.declared.demand.Demand.TheVariants as demand
use Rattle.rv_step.specs.Bytes.{number}
use Rattle.rv_step.specs.Demand.{need}
use Rattle.rv_step.specs.Trap.{enter_trap, interrupt_cause}
use Rattle.gm_words.specs.Allowed.{MayCome}
use Rattle.gm_words.specs.Entries.{console_of}
use Rattle.gm_words.specs.HartLine.{next_multiple}
use Rattle.gm_words.specs.Platform.{is_in_ram}
use Rattle.gm_words.specs.declared.kind.Kind.{Kind}
use Rattle.gm_words.specs.declared.entry.Entry.{Entry}
use Rattle.pkt_pool.specs.declared.packet.Packet.{Packet}
use Rattle.gm_words.specs.declared.wake.Wake.{Wake}
use Rattle.gm_words.specs.declared.wake.Wake.TheVariants as wakes
use Rattle.gm_model.specs.AtomicCpu.{cpu_ends, cpu_asks, cpu_begins, cpu_event, cpu_fetched, cpu_accessed, cpu_done, cpu_line, cpu_lined, goes_on}
use Rattle.gm_model.specs.ObjState.{ObjState, Blank, AtomicCpu, TimingCpu, Xbar, Server, AtomicCpuState, CpuStage, Rest, AwaitFetch, AwaitData}
use Rattle.gm_model.specs.ObjectStep.{object_step, atomic_step}
use Rattle.gm_model.specs.Stepped.{stays}
use Rattle.gm_laws.specs.Bounds.{IsWithin, IsStageWithin, IsModest, IsModestPass, packet_speech, part_speech, stage_speech, wake_speech, RulesAreModest}
use Rattle.gm_laws.specs.Faces.{face_of}
use Rattle.gm_laws.proofs.Bytes.{IsNarrow, need_narrow}
use Rattle.gm_laws.proofs.ServerModest.{server_modest, server_modest_pass}
use Rattle.gm_laws.proofs.StillModest.{stays_modest, answered_modest, drops_modest}
use Rattle.gm_laws.proofs.Ticks.{soon, next_bounds}
use Rattle.gm_laws.proofs.TimingModest.{timing_modest, timing_modest_pass}
use Rattle.gm_laws.proofs.XbarModest.{xbar_modest, xbar_modest_pass}

-- an entry that isn't of an access brings nothing to the console
abbrev IsQuiet : Entry → Type 0
IsQuiet e = console_of (e ∷ []) ≡ []

module _ (s : AtomicCpuState) (next : ℕ) (w : Wake) (now : ℕ) (small : 1 ≤ s.period) (large : s.period ≤ 1000000) where
  ends_modest : (d b : Bool) (a : Arch) (at : ℕ) (e : Entry) → IsQuiet e → now ≤ at → at ≤ now + 2 ^ 40
      → IsModest (AtomicCpu s) next w now (cpu_ends (record s { due = d }) a next at e b)
  unfolding IsWithin part_speech face_of
  ends_modest d false a at e q l m = record {
    object = refl;
    slots = refl;
    ports = refl;
    within = (small, large, tt);
    own = (refl, tt);
    timely = (l, soon now at m, tt);
    fit = tt;
    entries = omega arith;
    drawn = refl;
    few = omega arith;
    spoken = omega (arith, ap length q);
  }
  ends_modest d true a at e q l m = record {
    object = refl;
    slots = refl;
    ports = refl;
    within = (small, large, tt);
    own = tt;
    timely = tt;
    fit = tt;
    entries = omega arith;
    drawn = refl;
    few = omega arith;
    spoken = omega (arith, ap length q);
  }

  asks_modest : (d : Bool) (stage : CpuStage) (port : ℕ) (p : Packet) → IsStageWithin stage → p.size ≤ 64 → p.id.0 ≡ next → packet_speech p + stage_speech stage ≤ stage_speech s.stage + wake_speech w
      → IsModest (AtomicCpu s) next w now (cpu_asks (record s { due = d }) stage next port p)
  unfolding IsWithin part_speech face_of
  asks_modest d stage port p h k n l = record {
    object = refl;
    slots = refl;
    ports = refl;
    within = (small, large, h);
    own = tt;
    timely = tt;
    fit = (k, tt);
    entries = omega arith;
    drawn = (n, refl);
    few = omega arith;
    spoken = omega (arith, l);
  }

  stays_here : (d : Bool) → IsStageWithin s.stage → IsModest (AtomicCpu s) next w now (stays (AtomicCpu (record s { due = d })) next)
  unfolding IsWithin part_speech face_of
  stays_here d h = record {
    object = refl;
    slots = refl;
    ports = refl;
    within = (small, large, h);
    own = tt;
    timely = tt;
    fit = tt;
    entries = omega arith;
    drawn = refl;
    few = omega arith;
    spoken = omega arith;
  }

  begins_modest : (d : Bool) (a : Arch) (o : Option ℕ) (b : Bool) → 1 ≤ wake_speech w → IsModest (AtomicCpu s) next w now (cpu_begins (record s { due = d }) a next now o b)
  begins_modest d a (Some cause) b l = ends_modest d (enter_trap a cause 0).asleep (enter_trap a cause 0) (now + s.period) _ refl (omega arith) (omega (arith, large))
  begins_modest d a None true l = asks_modest d AwaitFetch 0 _ tt (omega arith) refl (omega (arith, l))
  begins_modest d a None false l = ends_modest d _ _ (now + s.period) _ refl (omega arith) (omega (arith, large))

  event_modest : (d : Bool) (o : Option Arch) (stage : CpuStage) → IsStageWithin s.stage → 1 ≤ wake_speech w → IsModest (AtomicCpu s) next w now (cpu_event (record s { due = d }) next now o stage)
  event_modest d None stage h l = stays_here d h
  event_modest d (Some a) Rest h l = by_sleep a.asleep where
    by_sleep : (b : Bool) → IsModest (AtomicCpu s) next w now (cond b (stays (AtomicCpu (record s { due = d })) next) (cpu_begins (record s { due = d }) a next now (interrupt_cause a) (is_in_ram s.common.ram a.pc 4)))
    by_sleep true = stays_here d h
    by_sleep false = begins_modest d a (interrupt_cause a) (is_in_ram s.common.ram a.pc 4) l
  event_modest d (Some a) AwaitFetch h l = stays_here d h
  event_modest d (Some a) (AwaitData v before) h l = stays_here d h

  fetched_modest : (a : Arch) (latency v : ℕ) (n : Demand) → IsNarrow n → latency ≤ 2 ^ 32 → s.stage ≡ AwaitFetch → IsModest (AtomicCpu s) next w now (cpu_fetched s a next now latency v n)
  fetched_modest a latency v demand.Nothing k l e = ends_modest s.due _ _ (now + s.period + latency) _ refl (omega arith) (omega (arith, large, l))
  fetched_modest a latency v demand.Sleep k l e = ends_modest s.due _ _ (now + s.period + latency) _ refl (omega arith) (omega (arith, large, l))
  fetched_modest a latency v (demand.Load address size) k l e = asks_modest s.due (AwaitData v latency) 1 _ l (omega (arith, k.1)) refl (omega (arith, ap stage_speech e))
  fetched_modest a latency v (demand.Store address size n) k l e = asks_modest s.due (AwaitData v latency) 1 _ l (omega (arith, k.1)) refl (omega (arith, ap stage_speech e))
  fetched_modest a latency v (demand.Trap cause tval) k l e = ends_modest s.due _ _ (now + s.period + latency) _ refl (omega arith) (omega (arith, large, l))

  accessed_modest : (a : Arch) (at : ℕ) (p : Packet) (v : ℕ) (n : Demand) (b : Bool) → IsStageWithin s.stage → now ≤ at → at ≤ now + 2 ^ 40 → IsModest (AtomicCpu s) next w now (cpu_accessed s a next at p v n b)
  accessed_modest a at p v (demand.Load address size) false h l m = ends_modest s.due _ _ at _ refl l m
  accessed_modest a at p v (demand.Load address size) true h l m = ends_modest s.due _ _ at _ refl l m
  accessed_modest a at p v (demand.Store address size n) false h l m = ends_modest s.due _ _ at _ refl l m
  accessed_modest a at p v (demand.Store address size n) true h l m = ends_modest s.due _ _ at _ refl l m
  accessed_modest a at p v demand.Nothing b h l m = stays_here s.due h
  accessed_modest a at p v demand.Sleep b h l m = stays_here s.due h
  accessed_modest a at p v (demand.Trap cause tval) b h l m = stays_here s.due h

  done_modest : (p : Packet) (latency : ℕ) (o : Option Arch) (stage : CpuStage) → s.stage ≡ stage → IsStageWithin s.stage → latency ≤ 2 ^ 32 → IsModest (AtomicCpu s) next w now (cpu_done s next now p latency o stage)
  done_modest p latency None stage e h l = stays_here s.due h
  done_modest p latency (Some a) Rest e h l = stays_here s.due h
  done_modest p latency (Some a) AwaitFetch e h l = fetched_modest a latency _ _ (need_narrow a (number (take 4 p.bytes))) l e
  done_modest p latency (Some a) (AwaitData v before) e h l =
      let b : before ≤ 2 ^ 32 = subst IsStageWithin e h in
      accessed_modest a (now + s.period + before + latency) p v (need a v) p.fault h (omega arith) (omega (arith, large, b, l))

  line_modest : (a : Arch) (bit : ℕ) (level b : Bool) → IsStageWithin s.stage → IsModest (AtomicCpu s) next w now (cpu_line s a next now bit level b)
  unfolding IsWithin part_speech face_of
  line_modest a bit level true h =
      let n = next_bounds s.period now small in
      record {
        object = refl;
        slots = refl;
        ports = refl;
        within = (small, large, h);
        own = (refl, tt);
        timely = (n.0, soon now (next_multiple s.period now) (omega (arith, n.1, large)), tt);
        fit = tt;
        entries = omega arith;
        drawn = refl;
        few = omega arith;
        spoken = omega arith;
      }
  line_modest a bit level false h = record {
    object = refl;
    slots = refl;
    ports = refl;
    within = (small, large, h);
    own = tt;
    timely = tt;
    fit = tt;
    entries = omega arith;
    drawn = refl;
    few = omega arith;
    spoken = omega arith;
  }

  lined_modest : (bit : ℕ) (level : Bool) (o : Option Arch) → IsStageWithin s.stage → IsModest (AtomicCpu s) next w now (cpu_lined s next now bit level o)
  lined_modest bit level None h = stays_here s.due h
  lined_modest bit level (Some a) h = line_modest a bit level (goes_on s a bit level) h

cpu_modest : (s : AtomicCpuState) (next : ℕ) (w : Wake) (now : ℕ) → IsWithin (AtomicCpu s) → MayCome w → IsModest (AtomicCpu s) next w now (object_step (AtomicCpu s) next w now)
unfolding object_step IsWithin
cpu_modest s next (wakes.Event slot) now h m = by (slot.0 == 0) where
  by : (b : Bool) → IsModest (AtomicCpu s) next (wakes.Event slot) now (cond b (cpu_event (record s { due = false }) next now s.arch s.stage) (stays (AtomicCpu s) next))
  by true = event_modest s next (wakes.Event slot) now h.0 h.1 false s.arch s.stage h.2 (omega arith)
  by false = stays_modest (AtomicCpu s) next (wakes.Event slot) now h
cpu_modest s next (wakes.AtomicDone p latency) now h m = answered_modest (AtomicCpu s) next (wakes.AtomicDone p latency) now p _ _ (done_modest s next (wakes.AtomicDone p latency) now h.0 h.1 p latency s.arch s.stage refl h.2 m.1)
cpu_modest s next (wakes.Line bit level) now h m = lined_modest s next (wakes.Line bit level) now h.0 h.1 bit level s.arch h.2
cpu_modest s next (wakes.Offer port p) now h m = drops_modest (AtomicCpu s) next (wakes.Offer port p) now p h
cpu_modest s next (wakes.Taken port) now h m = stays_modest (AtomicCpu s) next (wakes.Taken port) now h
cpu_modest s next (wakes.Refused port) now h m = stays_modest (AtomicCpu s) next (wakes.Refused port) now h
cpu_modest s next (wakes.Retry port) now h m = stays_modest (AtomicCpu s) next (wakes.Retry port) now h

blank_modest : (k : Kind) (next : ℕ) (w : Wake) (now : ℕ) → IsModest (Blank k) next w now (object_step (Blank k) next w now)
unfolding object_step IsWithin
blank_modest k next (wakes.Event slot) now = stays_modest (Blank k) next (wakes.Event slot) now tt
blank_modest k next (wakes.AtomicDone p latency) now = drops_modest (Blank k) next (wakes.AtomicDone p latency) now p tt
blank_modest k next (wakes.Line bit level) now = stays_modest (Blank k) next (wakes.Line bit level) now tt
blank_modest k next (wakes.Offer port p) now = drops_modest (Blank k) next (wakes.Offer port p) now p tt
blank_modest k next (wakes.Taken port) now = stays_modest (Blank k) next (wakes.Taken port) now tt
blank_modest k next (wakes.Refused port) now = stays_modest (Blank k) next (wakes.Refused port) now tt
blank_modest k next (wakes.Retry port) now = stays_modest (Blank k) next (wakes.Retry port) now tt

wake_modest : (o : ObjState) (next : ℕ) (w : Wake) (now : ℕ) → IsWithin o → MayCome w → IsModest o next w now (object_step o next w now)
wake_modest (Blank k) next w now h m = blank_modest k next w now
wake_modest (AtomicCpu s) next w now h m = cpu_modest s next w now h m
wake_modest (TimingCpu s) next w now h m = timing_modest s next w now h
wake_modest (Xbar s) next w now h m = xbar_modest s next w now h m
wake_modest (Server s) next w now h m = server_modest s next w now h m

pass_modest : (o : ObjState) (x : Packet) (now : ℕ) → IsWithin o → IsModestPass o x now (atomic_step o x now)
unfolding atomic_step IsWithin part_speech face_of
pass_modest (Blank k) x now h = record { object = refl; slots = refl; ports = refl; within = h; own = tt; timely = tt; fit = tt; size = refl; soon = omega arith; entries = omega arith; spoken = omega arith }
pass_modest (AtomicCpu s) x now h = record { object = refl; slots = refl; ports = refl; within = h; own = tt; timely = tt; fit = tt; size = refl; soon = omega arith; entries = omega arith; spoken = omega arith }
pass_modest (TimingCpu s) x now h = timing_modest_pass s x now h
pass_modest (Xbar s) x now h = xbar_modest_pass s x now h
pass_modest (Server s) x now h = server_modest_pass s x now h

pub rules_are_modest : RulesAreModest
rules_are_modest = record { wake = wake_modest; pass = pass_modest }
