-- Events and runs of a machine.
use Rattle.std.proofs.Common.{◌≡◌, ℕ, zero, suc, ◌+◌, ◌-◌, ◌<◌, ◌≤◌, ◌⊎◌, inl, inr, ◌++◌, refl, sym, ◌∙◌, ap, subst, arith, add-one, IfSome, IsSome, Bool, true, false, cond, nat_lt, nat_le, List, [], ◌∷◌, length, slice_get, Option, Some, None}
use Rattle.std.proofs.lemmas.Bool.{cases_lt}
use Rattle.std.proofs.lemmas.Bool.Decides.{nat_tests}
use Rattle.ev_queue.specs.declared.due.Due.{Due}
use Rattle.ev_queue.specs.declared.slot.Slot.{Slot}
use Rattle.ev_queue.specs.PendingList.{first, rest}
use Rattle.gm_words.specs.Counts.{Counts, count_access, count_entry, count_entries}
use Rattle.gm_model.specs.Sys.{Sys}
use Rattle.gm_model.specs.Deliver.{Delivery}
use Rattle.gm_model.specs.Fire.{Ran, fire, fire_first, fire_due, fire_event, timed_run, taken_out, without_nth, event_begun, event_delivered, counted}
use Rattle.gm_model.specs.Run.{RunEnd, EndsRun, run_to, reason_at, reason_for, exit_reason, due_reason, late_reason, has_retired, is_late, exit_of, retired_in, last_tick}
use Rattle.gm_words.specs.Entries.{console_of}
use Rattle.gm_system.specs.Runs.{IsRunReplayed}
use Rattle.gm_system.specs.Machine.{IsMachineSound}
use Rattle.gm_words.specs.declared.entry.Entry.{Entry}
use Rattle.gm_words.specs.declared.entry.Entry.TheVariants as entries
use Rattle.gm_words.specs.declared.goal.Goal.{Goal}
use Rattle.gm_words.specs.declared.goal.Reason.{Reason}
use Rattle.gm_words.specs.declared.goal.Reason.TheVariants as reasons
use Rattle.gm_model.proofs.RunEnds.{runs_end, run_is, budget_ends}
use Rattle.gm_words.proofs.CountLaws.{same_events}
use Rattle.kernel.specs.Ends.{TellsEnd, last_noted}
use Rattle.kernel.specs.Ready.{MayServe, HasEventsLeft, at_tick, without_first}
use Rattle.kernel.proofs.Deliveries.{deliver_counts, deliver_trace}
use Rattle.gm_system.proofs.ForKernel.{served_sound, small_event, run_replayed}
use Rattle.kernel.proofs.UnderWay.{may_serve}

first_taken : (es : List Due) → rest es ≡ without_nth es 0
first_taken [] = refl
first_taken (e ∷ es) = refl

first_at : (es : List Due) (e : Due) → first es ≡ Some e → slice_get es 0 ≡ Some e
first_at [] e h = cc
first_at (f ∷ es) e h = h

-- the first event is popped: `b` is the machine without it
module _ (s b : Sys) (e : Due) (table : List Slot) (h : IsMachineSound s table) (events : HasEventsLeft s) (is : first s.pending ≡ Some e) (l : e.tick ≤ 4611703610613432320)
    (popped : b ≡ without_first s) where
  taken : at_tick e.tick b ≡ taken_out s 0 e.tick
  taken = rw (popped, first_taken s.pending) refl

  pub pop_may : (table' : List Slot) → table' ≡ table → MayServe (at_tick e.tick b) e table'
  pop_may table' t = rw (taken, t) (may_serve s table 0 e.tick e h events (first_at s.pending e is) l)

  pub fired_is : fire_first s ≡ counted (event_delivered (at_tick e.tick b) e)
  unfolding fire
  fired_is =
      let P : Option Due → Type 0 = λ o. fire_due s o ≡ counted (event_delivered (at_tick e.tick b) e) in
      let Q : Option Due → Type 0 = λ o. fire_event s 0 e.tick o ≡ counted (event_delivered (at_tick e.tick b) e) in
      subst P (sym is) (subst Q (sym (first_at s.pending e is)) (ap (λ x. counted (event_delivered x e)) (sym taken)))

  fired_once : fire_first s ≡ fire s 0 e.tick
  fired_once = let P : Option Due → Type 0 = λ o. fire_due s o ≡ fire s 0 e.tick in subst P (sym is) refl

  pub byte_few : (es : List Entry) → es ≡ (event_delivered (at_tick e.tick b) e).entries → length (console_of es) ≤ 1
  byte_few es t =
      let few = small_event s table 0 e.tick h.steady in
      let same : es ≡ (fire s 0 e.tick).entries = t ∙ ap (λ r. r.entries) (sym fired_is ∙ fired_once) in
      rw same few

  pub fired_sys : (s' : Sys) → s' ≡ (counted (event_delivered (at_tick e.tick b) e)).sys → s' ≡ (fire_first s).sys
  fired_sys s' t = t ∙ ap (λ r. r.sys) (sym fired_is)

  pub fired_entries : (es : List Entry) → es ≡ (event_delivered (at_tick e.tick b) e).entries → es ≡ (fire_first s).entries
  fired_entries es t = t ∙ ap (λ r. r.entries) (sym fired_is)

  pub fired_sound : (s' : Sys) (table' : List Slot) → s' ≡ (counted (event_delivered (at_tick e.tick b) e)).sys → table' ≡ table → IsMachineSound s' table'
  fired_sound s' table' t u = rw (fired_sys s' t, fired_once, u) (served_sound s table 0 e.tick h l)

-- where no event is pending, the machine stays as it is
pub none_pending : (s t : Sys) (table table' : List Slot) → first s.pending ≡ None → t ≡ without_first s → table' ≡ table → IsMachineSound s table → IsMachineSound t table'
none_pending s t table table' none taken same h =
    let kept : t ≡ s = taken ∙ ap (λ es. let u : Sys = record s { pending = es } in u) (by s.pending none) in
    subst (λ v. IsMachineSound t v) (sym same) (subst (λ (u : Sys). IsMachineSound u table) (sym kept) h) where
      by : (es : List Due) → first es ≡ None → rest es ≡ es
      by [] e = refl
      by (x ∷ xs) e = absurd (cc)

-- the first event is replayed, if there is one
pub first_replayed : (s : Sys) (table : List Slot) → IsMachineSound s table → IsRunReplayed s (fire_first s)
unfolding timed_run
first_replayed s table h = let r = run_replayed s table 1 h.steady in record { wiring = r.wiring; replays = r.replays }

pub run_to_replayed : (s : Sys) (table : List Slot) (g : Goal) → IsMachineSound s table → IsRunReplayed s (run_to s g).ran
run_to_replayed s table g h =
    let e = runs_end.run s g in
    let P : Ran → Type 0 = λ r. IsRunReplayed s r in subst P (sym e.ran) (run_replayed s table (run_to s g).events h.steady)

-- the first event isn't too late
pub first_early : (es : List Due) (e : Due) → first es ≡ Some e → IfSome (first es) (λ d. d.tick ≤ 4611703610613432320) → e.tick ≤ 4611703610613432320
first_early es e is l = let P : Option Due → Type 0 = λ o. IfSome o (λ d. d.tick ≤ 4611703610613432320) in given (subst P is l) where
  given : IfSome (Some e) (λ d. d.tick ≤ 4611703610613432320) → e.tick ≤ 4611703610613432320
  given h = h

-- a run goes on: there is an event, and not too late a one
pub record GoesOn (o : Option Due) : Type 0 where
  pub some : IsSome o
  pub tick : IfSome o (λ d. d.tick ≤ 4611703610613432320)

late : (g : Goal) (n : ℕ) (e : Due) → late_reason g n e.tick ≡ None → e.tick ≤ 4611703610613432320
late g n e h = by_late (nat_lt last_tick e.tick) refl h where
  by_late : (b : Bool) → nat_lt last_tick e.tick ≡ b
      → cond b (Some reasons.TickLimit) (cond (is_late g.until e.tick) (Some reasons.Tick) (cond (nat_le g.budget n) (Some reasons.Limit) None)) ≡ None
      → e.tick ≤ 4611703610613432320
  by_late true k m = cc
  by_late false k m = grind (arith, nat_tests, k)

goes_due : (g : Goal) (n : ℕ) (o : Option Due) → due_reason g n o ≡ None → GoesOn o
goes_due g n None h = cc
goes_due g n (Some e) h = record { some = refl; tick = late g n e h }

pub goes_on : (g : Goal) (n insts : ℕ) (s : Sys) → reason_for g n insts s ≡ None → GoesOn (first s.pending)
goes_on g n insts s h = by_exit (exit_of s) h where
  by_insts : (b : Bool) → cond b (Some reasons.Insts) (due_reason g n (first s.pending)) ≡ None → GoesOn (first s.pending)
  by_insts true k = cc
  by_insts false k = goes_due g n (first s.pending) k

  by_exit : (o : Option ℕ) → exit_reason g n insts s o ≡ None → GoesOn (first s.pending)
  by_exit (Some code) k = cc
  by_exit None k = by_insts (has_retired g.until insts) k

-- what retired in two stretches
retired-append : (xs ys : List Entry) → retired_in (xs ++ ys) ≡ retired_in xs + retired_in ys
retired-append [] ys = omega arith
retired-append (x ∷ xs) ys = omega (arith, retired-append xs ys)

-- an event more
module _ (start s : Sys) (n : ℕ) (here : s ≡ (timed_run start n).sys) where
  pub run_more : (s' : Sys) → s' ≡ (fire_first s).sys → s' ≡ (timed_run start (n + 1)).sys
  unfolding timed_run
  run_more s' e = rw add-one (e ∙ ap (λ x. (fire_first x).sys) here)

  -- what it noted is what the last event did
  pub noted_more : (es before : List Entry) → es ≡ (fire_first s).entries → es ≡ last_noted start before (n + 1)
  noted_more es before e = rw add-one (e ∙ ap (λ x. (fire_first x).entries) here)

  pub reason_is : (g : Goal) (insts : ℕ) (o : Option Reason) → insts ≡ retired_in (timed_run start n).entries → o ≡ reason_for g n insts s → reason_at g n (timed_run start n) ≡ o
  reason_is g insts o i e = sym (rw (sym here, sym i) e)

  pub last_reason : (g : Goal) (insts : ℕ) (o : Option Reason) → insts ≡ retired_in (timed_run start n).entries → o ≡ reason_for g g.budget insts s → n ≡ g.budget
      → reason_at g n (timed_run start n) ≡ o
  last_reason g insts o i e k = let P : ℕ → Type 0 = λ m. o ≡ reason_for g m insts s in reason_is g insts o i (subst P (sym k) e)

-- there was no reason to end up to the n-th event
pub none_before : (g : Goal) (start : Sys) (n : ℕ) → ((k : ℕ) → k < n → reason_at g k (timed_run start k) ≡ None) → reason_at g n (timed_run start n) ≡ None
    → (k : ℕ) → k < n + 1 → reason_at g k (timed_run start k) ≡ None
none_before g start n below at k l = by_place (cases_lt k n) where
  by_place : (k < n) ⊎ (n ≤ k) → reason_at g k (timed_run start k) ≡ None
  by_place (inl m) = below k m
  by_place (inr m) = let P : ℕ → Type 0 = λ j. reason_at g j (timed_run start j) ≡ None in subst P (omega (arith, m, l)) at

pub run_longer : (g : Goal) (start : Sys) (n : ℕ) → ((k : ℕ) → k < n + 1 → reason_at g k (timed_run start k) ≡ None) → n < (run_to start g).events
run_longer g start n none = by_place (cases_lt n (run_to start g).events) where
  wrong : (r : RunEnd) → EndsRun start g r → r.events ≤ n → ⊥
  wrong r e l = let both : ◌≡◌ {A = Option Reason} None (Some r.reason) = sym (none r.events (omega (arith, l))) ∙ e.ends in cc

  by_place : (n < (run_to start g).events) ⊎ ((run_to start g).events ≤ n) → n < (run_to start g).events
  by_place (inl l) = l
  by_place (inr l) = absurd (wrong (run_to start g) (runs_end.run start g) l)

-- what the counters say of what retired
retired_access : (c : Counts) (device write : Bool) → (count_access c device write).retired ≡ c.retired
retired_access c true true = refl
retired_access c true false = refl
retired_access c false true = refl
retired_access c false false = refl

retired_entry : (c : Counts) (e : Entry) → (count_entry c e).retired ≡ c.retired + retired_in (e ∷ [])
retired_entry c (entries.Served src id write addr size bytes device fault) = omega (arith, retired_access c device write)
retired_entry c (entries.Retired pc word) = omega arith
retired_entry c (entries.Trapped cause tval) = omega arith
retired_entry c (entries.Line bit level) = omega arith
retired_entry c entries.Slept = omega arith
retired_entry c (entries.Hit object) = omega arith
retired_entry c (entries.Miss object) = omega arith
retired_entry c (entries.Refused object) = omega arith

retired_entries : (c : Counts) (es : List Entry) → (count_entries c es).retired ≡ c.retired + retired_in es
retired_entries c [] = omega arith
retired_entries c (e ∷ es) = omega (arith, retired_entries (count_entry c e) es, retired_entry c e, retired-append (e ∷ []) es)

retired_event : (s : Sys) (n t : ℕ) (e : Due) → (fire_event s n t (Some e)).sys.counts.retired ≡ s.counts.retired + retired_in (fire_event s n t (Some e)).entries
retired_event s n t e =
    let d : Delivery = event_delivered (taken_out s n t) e in
    omega (arith, retired_entries d.sys.counts d.entries, ap (λ c. c.retired) (deliver_counts 256 (event_begun (taken_out s n t) e)))

retired_first : (s : Sys) → (fire_first s).sys.counts.retired ≡ s.counts.retired + retired_in (fire_first s).entries
unfolding fire
retired_first s = by_first s.pending refl where
  by_first : (es : List Due) → s.pending ≡ es → (fire_due s (first es)).sys.counts.retired ≡ s.counts.retired + retired_in (fire_due s (first es)).entries
  by_first [] e = omega arith
  by_first (d ∷ es) e =
      let P : List Due → Type 0 = λ xs. (fire_event s 0 d.tick (slice_get xs 0)).sys.counts.retired ≡ s.counts.retired + retired_in (fire_event s 0 d.tick (slice_get xs 0)).entries in
      subst P (sym e) (retired_event s 0 d.tick d)

retired_run : (s : Sys) (n : ℕ) → (timed_run s n).sys.counts.retired ≡ s.counts.retired + retired_in (timed_run s n).entries
unfolding timed_run
retired_run s zero = omega arith
retired_run s (suc n) =
    omega (arith, retired_run s n, retired_first (timed_run s n).sys, retired-append (timed_run s n).entries (fire_first (timed_run s n).sys).entries)

-- and so of how many retired in a run
pub retired_here : (start s : Sys) (n before now : ℕ) → s ≡ (timed_run start n).sys → before ≡ start.counts.retired → now ≡ s.counts.retired
    → (before ≤ now) × (now - before ≡ retired_in (timed_run start n).entries)
retired_here start s n before now h b e = (omega (arith, b, e, ap (λ x. x.counts.retired) h, retired_run start n), omega (arith, b, e, ap (λ x. x.counts.retired) h, retired_run start n))

-- a run before its first event
pub begun_sys : (s : Sys) → s ≡ (timed_run s 0).sys
unfolding timed_run
begun_sys s = refl

fired_event_more : (s : Sys) (n t : ℕ) (e : Due) → (fire_event s n t (Some e)).sys.counts.events ≡ s.counts.events + 1
fired_event_more s n t e =
    let d : Delivery = event_delivered (taken_out s n t) e in
    omega (arith, same_events d.sys.counts d.entries, ap (λ c. c.events) (deliver_counts 256 (event_begun (taken_out s n t) e)))

-- an event leaves it whether events are traced
pub fired_trace : (s : Sys) → (fire_first s).sys.trace ≡ s.trace
unfolding fire
fired_trace s = by_first s.pending refl where
  by_first : (es : List Due) → s.pending ≡ es → (fire_due s (first es)).sys.trace ≡ s.trace
  by_first [] e = refl
  by_first (d ∷ es) e = let P : List Due → Type 0 = λ xs. (fire_event s 0 d.tick (slice_get xs 0)).sys.trace ≡ s.trace in
      subst P (sym e) (deliver_trace 256 (event_begun (taken_out s 0 d.tick) d))

-- an event more is counted
pub events_more : (s : Sys) → IsSome (first s.pending) → (fire_first s).sys.counts.events ≡ s.counts.events + 1
unfolding fire
events_more s h = by_first s.pending refl h where
  by_first : (es : List Due) → s.pending ≡ es → IsSome (first es) → (fire_due s (first es)).sys.counts.events ≡ s.counts.events + 1
  by_first [] e k = cc
  by_first (d ∷ es) e k = let P : List Due → Type 0 = λ xs. (fire_event s 0 d.tick (slice_get xs 0)).sys.counts.events ≡ s.counts.events + 1 in
      subst P (sym e) (fired_event_more s 0 d.tick d)

-- what is told of a run that ends here
module _ (start : Sys) (g : Goal) (n : ℕ) (why : Reason) (h : reason_at g n (timed_run start n) ≡ Some why)
    (none : (k : ℕ) → k < n → reason_at g k (timed_run start k) ≡ None) where
  pub ends_here : run_to start g ≡ record { ran = timed_run start n; events = n; reason = why }
  ends_here = run_is start g n why h none

  pub tells_end : (insts events : ℕ) → insts ≡ retired_in (timed_run start n).entries → events ≡ n
      → TellsEnd (record { reason = why; insts = insts; events = events }) (run_to start g)
  tells_end insts events i e = rw ends_here (record { reason = refl; insts = i; events = e })

  pub ends_sys : (s : Sys) → s ≡ (timed_run start n).sys → s ≡ (run_to start g).ran.sys
  ends_sys s e = rw ends_here e

  pub ends_noted : (es before : List Entry) → es ≡ last_noted start before n → es ≡ last_noted start before (run_to start g).events
  ends_noted es before e = rw ends_here e

-- a run that goes on serves an event
module _ (s : Sys) (table : List Slot) (h : IsMachineSound s table) (g : Goal) (n insts : ℕ) (none : ◌≡◌ {A = Option Reason} None (reason_for g n insts s)) where
  pub events_running : (s' : Sys) → s' ≡ (fire_first s).sys → s'.counts.events ≡ s.counts.events + 1
  events_running s' e = ap (λ x. x.counts.events) e ∙ events_more s (goes_on g n insts s (sym none)).some

-- the budget is served
pub budget_out : (s : Sys) (table : List Slot) (h : IsMachineSound s table) (g : Goal) (insts : ℕ) → ◌≡◌ {A = Option Reason} None (reason_for g g.budget insts s) → ⊥
budget_out s table h g insts e = budget_ends g g.budget insts s (omega arith) (sym e)
