-- What events and runs have written.
use Rattle.std.proofs.Common.{◌≡◌, ℕ, zero, suc, ◌+◌, ◌-◌, ◌<◌, ◌≤◌, ◌++◌, refl, sym, ◌∙◌, ap, subst, arith, add-one, append_assoc, append-nil, Bool, true, false, List, [], ◌∷◌, length, drop, map, get_or, IsSome, MatchOption, Option, Some, None, option_to_list}
use Rattle.std.proofs.Math.ListN.{drop_of_length-le}
use Rattle.std.proofs.Math.Seq.{drop-cons}
use Rattle.std.proofs.lemmas.List.{get_or-map, length-map}
use Rattle.ev_queue.specs.declared.due.Due.{Due}
use Rattle.ev_queue.specs.PendingList.{first}
use Rattle.gc_outside.specs.Emissions.{Emission, EmitsInOrder, EmitsToConsole, EmitsToReport}
use Rattle.gc_outside.specs.Emits.{Emits}
use Rattle.gc_outside.specs.Sinks.{SinkSeen, Sinks}
use Rattle.gc_outside.proofs.InOrder.{order_console, order_nothing, order_then, order_cut}
use Rattle.gc_outside.proofs.Outputs.{rose_later}
use Rattle.gm_model.specs.Fire.{fire_first, timed_run}
use Rattle.gm_model.specs.Run.{run_to, reason_at}
use Rattle.gm_model.specs.Sys.{Sys}
use Rattle.gm_words.specs.Platform.{Part}
use Rattle.gm_words.specs.declared.entry.Entry.{Entry}
use Rattle.gm_words.specs.declared.goal.Goal.{Goal}
use Rattle.gm_words.specs.declared.goal.Reason.{Reason}
use Rattle.probe_stats.specs.Trace.{entry_line}
use Rattle.kernel.specs.Emitted.{byte_emissions, due_emissions, event_emissions, first_emissions, timed_emissions, run_emissions}
use Rattle.kernel.specs.Ends.{StopsInEvent, IsFaultOf}
use Rattle.kernel.specs.declared.run_end.RunFault.{RunFault}
use Rattle.kernel.specs.declared.run_end.RunFault.TheVariants as faults
use Rattle.kernel.proofs.Runs.{ends_here, fired_trace, none_before, run_longer, run_more}

-- what the first event wrote, where it is this one
pub due_wrote : (parts : List Part) (s t : Sys) (d : Due) (noted : List Entry) (ok : Bool) (a b : Sinks) → first s.pending ≡ Some d → t ≡ (fire_first s).sys
    → noted ≡ (fire_first s).entries → EmitsInOrder (event_emissions parts t.trace d noted) ok a b → EmitsInOrder (first_emissions parts s) ok a b
due_wrote parts s t d noted ok a b is fired entries h =
    let trace : t.trace ≡ s.trace = ap (λ (x : Sys). x.trace) fired ∙ fired_trace s in
    let P : Bool → Type 0 = λ on. EmitsInOrder (event_emissions parts on d noted) ok a b in
    let Q : List Entry → Type 0 = λ es. EmitsInOrder (event_emissions parts s.trace d es) ok a b in
    let R : Option Due → Type 0 = λ o. EmitsInOrder (due_emissions parts s o) ok a b in
    subst R (sym is) (subst Q entries (subst P trace h))

-- and where there is none
pub none_wrote : (parts : List Part) (s : Sys) (a : Sinks) → first s.pending ≡ None → EmitsInOrder (first_emissions parts s) true a a
none_wrote parts s a is = let R : Option Due → Type 0 = λ o. EmitsInOrder (due_emissions parts s o) true a a in subst R (sym is) (order_nothing a)

-- what it noted, where there is one
pub step_noted : (s : Sys) (old new : List Entry) → IsSome (first s.pending) → MatchOption (first s.pending) (new ≡ old) (λ d. new ≡ (fire_first s).entries) → new ≡ (fire_first s).entries
step_noted s old new some told = by (first s.pending) some told where
  by : (o : Option Due) → IsSome o → MatchOption o (new ≡ old) (λ d. new ≡ (fire_first s).entries) → new ≡ (fire_first s).entries
  by None h m = cc
  by (Some d) h m = m

-- before its first event a run has written nothing
pub begun_emissions : (parts : List Part) (s : Sys) (a : Sinks) → EmitsInOrder (timed_emissions parts s 0) true a a
unfolding timed_emissions
begun_emissions parts s a = order_nothing a

-- what more events write begins with what fewer write
timed_front : (parts : List Part) (s : Sys) (n k : ℕ) → (rest : List Emission) × (timed_emissions parts s (n + k) ≡ timed_emissions parts s n ++ rest)
unfolding timed_emissions
timed_front parts s n zero =
    ([], (let P : ℕ → Type 0 = λ m. timed_emissions parts s m ≡ timed_emissions parts s n ++ [] in let same : n ≡ n + 0 = omega arith in subst P same (sym (append-nil (timed_emissions parts s n)))))
timed_front parts s n (suc k) =
    let before = timed_front parts s n k in
    let last : List Emission = first_emissions parts (timed_run s (n + k)).sys in
    let P : ℕ → Type 0 = λ m. timed_emissions parts s m ≡ timed_emissions parts s n ++ (before.0 ++ last) in
    let same : suc (n + k) ≡ n + suc k = omega arith in
    (before.0 ++ last, subst P same (ap (λ es. es ++ last) before.1 ∙ append_assoc (timed_emissions parts s n) before.0 last))

-- an event more, which told the same parts
module _ (parts parts' : List Part) (start s : Sys) (n : ℕ) (here : s ≡ (timed_run start n).sys) (same : parts' ≡ parts) (ok : Bool) (a b c : Sinks)
    (before : EmitsInOrder (timed_emissions parts start n) true a b) (event : EmitsInOrder (first_emissions parts' s) ok b c) where
  first_here : EmitsInOrder (first_emissions parts (timed_run start n).sys) ok b c
  first_here =
      let P : List Part → Type 0 = λ ps. EmitsInOrder (first_emissions ps s) ok b c in
      let Q : Sys → Type 0 = λ x. EmitsInOrder (first_emissions parts x) ok b c in
      subst Q here (subst P same event)

  all_so_far : EmitsInOrder (timed_emissions parts start (suc n)) ok a c
  unfolding timed_emissions
  all_so_far = order_then (timed_emissions parts start n) (first_emissions parts (timed_run start n).sys) ok a b c before first_here

  pub emitted_more : EmitsInOrder (timed_emissions parts start (n + 1)) ok a c
  emitted_more = rw add-one all_so_far

  -- where a sink failed in it
  module _ (g : Goal) (failed : ok ≡ false) (none : (k : ℕ) → k < n → reason_at g k (timed_run start k) ≡ None) (at : reason_at g n (timed_run start n) ≡ None) where
    within : n < (run_to start g).events
    within = run_longer g start n (none_before g start n none at)

    pub cut_run : EmitsInOrder (run_emissions parts start g) false a c
    cut_run =
        let more = timed_front parts start (suc n) ((run_to start g).events - suc n) in
        let P : ℕ → Type 0 = λ m. timed_emissions parts start m ≡ timed_emissions parts start (suc n) ++ more.0 in
        let whole : suc n + ((run_to start g).events - suc n) ≡ (run_to start g).events = omega (arith, within) in
        let Q : List Emission → Type 0 = λ es. EmitsInOrder es false a c in
        let R : Bool → Type 0 = λ x. EmitsInOrder (timed_emissions parts start (suc n)) x a c in
        subst Q (sym (subst P whole more.1)) (order_cut (timed_emissions parts start (suc n)) more.0 a c (subst R failed all_so_far))

    pub stops_in_event : (s' : Sys) (es : List Entry) → s' ≡ (fire_first s).sys → es ≡ (fire_first s).entries → StopsInEvent parts start g s' es a c
    stops_in_event s' es e f = record {
      before = n;
      within = within;
      sys = (let P : ℕ → Type 0 = λ m. s' ≡ (timed_run start m).sys in subst P (omega arith) (run_more start s n here s' e));
      entries = f ∙ ap (λ x. (fire_first x).entries) here;
      mid = b;
      took = before.all refl;
      refused = first_here.front failed;
    }

-- a run that ended has written all
pub ends_emissions : (parts : List Part) (start : Sys) (g : Goal) (n : ℕ) (why : Reason) (h : reason_at g n (timed_run start n) ≡ Some why)
    (none : (k : ℕ) → k < n → reason_at g k (timed_run start k) ≡ None) (a b : Sinks) → EmitsInOrder (timed_emissions parts start n) true a b
    → EmitsInOrder (run_emissions parts start g) true a b
ends_emissions parts start g n why h none a b t = rw (ends_here start g n why h none) t

-- a fault is one from an earlier count on
pub fault_later : (f : RunFault) (c c' c'' r r' r'' : ℕ) → c ≤ c' → r ≤ r' → IsFaultOf f c' c'' r' r'' → IsFaultOf f c c'' r r''
fault_later faults.Console c c' c'' r r' r'' l m h = rose_later c c' c'' l h
fault_later faults.Report c c' c'' r r' r'' l m h = rose_later r r' r'' m h

-- the line of an entry comes next
pub entry_next : (parts : List Part) (es : List Entry) (i : ℕ) (x d : Entry) → i < length es → x ≡ get_or es i d
    → (let lines : List (List ℕ) = map (λ e. entry_line parts e) es in drop i lines ≡ entry_line parts x ∷ drop (i + 1) lines)
entry_next parts es i x d here is =
    let lines : List (List ℕ) = map (λ e. entry_line parts e) es in
    rw add-one (drop-cons lines i (entry_line parts x) (rw length-map here)
    ∙ ap (λ l. l ∷ drop (suc i) lines) (get_or-map (λ e. entry_line parts e) es i d (entry_line parts x) here ∙ sym (ap (λ e. entry_line parts e) is)))

pub no_entry_next : (parts : List Part) (es : List Entry) (i : ℕ) → length es ≤ i → drop i (map (λ e. entry_line parts e) es) ≡ []
no_entry_next parts es i l = drop_of_length-le (map (λ e. entry_line parts e) es) (rw length-map l)

-- what an event writes: its byte, or a front of it
pub byte_wrote : (o : Option ℕ) (b : ℕ) (ok : Bool) (old new : SinkSeen) → o ≡ Some b → Emits (b ∷ []) ok old.taken new.taken old.faults new.faults
    → EmitsToConsole (byte_emissions (option_to_list o)) ok old new
byte_wrote o b ok old new is h report =
    let P : Option ℕ → Type 0 = λ x. EmitsInOrder (byte_emissions (option_to_list x)) ok (record { console = old; report = report }) (record { console = new; report = report }) in
    subst P (sym is) (order_console (b ∷ []) ok old new h report)

pub event_cut : (bytes bytes' : List ℕ) (rest : List Emission) (old new report : SinkSeen) → bytes ≡ bytes' → EmitsToConsole (byte_emissions bytes) false old new
    → EmitsInOrder (byte_emissions bytes' ++ rest) false (record { console = old; report = report }) (record { console = new; report = report })
event_cut bytes bytes' rest old new report e h =
    let P : List ℕ → Type 0 = λ l. EmitsInOrder (byte_emissions l) false (record { console = old; report = report }) (record { console = new; report = report }) in
    order_cut (byte_emissions bytes') rest _ _ (subst P e (h report))

pub event_then : (bytes bytes' : List ℕ) (rest : List Emission) (ok : Bool) (old new report report' : SinkSeen) → bytes ≡ bytes' → EmitsToConsole (byte_emissions bytes) true old new
    → EmitsToReport rest ok report report'
    → EmitsInOrder (byte_emissions bytes' ++ rest) ok (record { console = old; report = report }) (record { console = new; report = report' })
event_then bytes bytes' rest ok old new report report' e h k =
    let P : List ℕ → Type 0 = λ l. EmitsInOrder (byte_emissions l) true (record { console = old; report = report }) (record { console = new; report = report }) in
    order_then (byte_emissions bytes') rest ok _ _ _ (subst P e (h report)) (k new)
