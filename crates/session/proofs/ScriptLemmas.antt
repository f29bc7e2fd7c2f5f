-- What a machine has written while it carries out a script.
use Rattle.std.proofs.Common.{◌≡◌, ℕ, suc, zero, ◌+◌, ◌-◌, ◌<◌, ◌≤◌, ◌⊎◌, inl, inr, ◌++◌, refl, sym, ◌∙◌, ap, subst, arith, add-one, append_assoc, append-nil, List, [], ◌∷◌, length, drop, take, get_or, Option, Some, None, IsSome, Bool, true, false}
use Rattle.std.specs.Prelude.{IfErr, OnOk, Result, Ok, Err, is_ok}
use Rattle.std.proofs.Math.ListN.{drop_of_length-le}
use Rattle.std.proofs.Math.Seq.{drop-cons, take-add}
use Rattle.std.proofs.lemmas.Bool.{cases_lt}
use Rattle.std.proofs.lemmas.List.{take-append-drop}
use Rattle.cfg_tree.specs.declared.config.Config.{Config}
use Rattle.gc_outside.specs.Emits.{Emits}
use Rattle.ev_queue.specs.declared.due.Due.{Due}
use Rattle.ev_queue.specs.PendingList.{first}
use Rattle.gm_model.specs.Sys.{Sys}
use Rattle.gm_model.specs.Fire.{fire_first, fire_due, timed_run}
use Rattle.gm_model.specs.Run.{RunEnd, EndsRun, run_to, retired_in}
use Rattle.gm_words.specs.Platform.{Part, platform}
use Rattle.gm_words.specs.declared.goal.Goal.{Goal}
use Rattle.gm_model.proofs.RunEnds.{runs_end, budget_ends}
use Rattle.kernel.proofs.Runs.{events_more}
use Rattle.kernel.specs.Emitted.{run_emissions}
use Rattle.kernel.specs.Ends.{TellsEnd}
use Rattle.kernel.specs.Input.{input_given}
use Rattle.kernel.specs.declared.run_end.RunEnd.{RunEnd as ToldEnd}
use Rattle.gc_outside.specs.Emissions.{Emission, ToReport, EmitsInOrder}
use Rattle.gc_outside.specs.Sinks.{SinkSeen, Sinks}
use Rattle.gc_outside.proofs.InOrder.{order_nothing, order_then, order_cut, order_report}
use Rattle.session.specs.Ending.{Ending, Leaves, LeavesInOrder, memory_refusal, work_done}
use Rattle.session.specs.Script.{Written, run_line, run_written, silent, then_written, stop_written, script_written, ScriptComesTo, StopFails}
use Rattle.session.specs.declared.status.Status.{Status}
use Rattle.session.specs.declared.status.Status.TheVariants as status
use Rattle.stop_script.specs.declared.stop.Stop.{Stop}
use Rattle.stop_script.specs.declared.stop.Stop.TheVariants as stops

-- an event counts one at most
event_up : (s : Sys) → (fire_first s).sys.counts.events ≤ s.counts.events + 1
event_up s = by_first (first s.pending) refl where
  by_first : (o : Option Due) → first s.pending ≡ o → (fire_first s).sys.counts.events ≤ s.counts.events + 1
  by_first None e = let P : Option Due → Type 0 = λ o. (fire_due s o).sys.counts.events ≤ s.counts.events + 1 in subst P (sym e) (omega arith)
  by_first (Some d) e = omega (arith, events_more s (let P : Option Due → Type 0 = λ o. IsSome o in subst P (sym e) refl))

events_up : (s : Sys) (n : ℕ) → (timed_run s n).sys.counts.events ≤ s.counts.events + n
unfolding timed_run
events_up s zero = omega arith
events_up s (suc n) = omega (arith, event_up (timed_run s n).sys, events_up s n)

-- a run serves no more events than its budget
events_within : (s : Sys) (g : Goal) (r : RunEnd) → EndsRun s g r → r.events ≤ g.budget
events_within s g r e = by_order (cases_lt g.budget r.events) where
  wrong : g.budget < r.events → ⊥
  wrong l = budget_ends g g.budget _ (timed_run s g.budget).sys (omega arith) (e.least g.budget l)

  by_order : (g.budget < r.events) ⊎ (r.events ≤ g.budget) → r.events ≤ g.budget
  by_order (inl l) = absurd (wrong l)
  by_order (inr l) = l

pub run_counts : (s : Sys) (g : Goal) → (run_to s g).ran.sys.counts.events ≤ s.counts.events + g.budget
run_counts s g =
    let e = runs_end.run s g in
    omega (arith, ap (λ r. r.sys.counts.events) e.ran, events_up s (run_to s g).events, events_within s g (run_to s g) e)

-- input counts nothing
pub input_counts : (bytes : List ℕ) (s : Sys) → (input_given bytes s).counts ≡ s.counts
input_counts [] s = refl
input_counts (b ∷ bytes) s = input_counts bytes _

then_assoc : (a b c : Written) → then_written (then_written a b) c ≡ then_written a (then_written b c)
then_assoc a b c = rw (append_assoc a.emissions b.emissions c.emissions, append_assoc a.history b.history c.history) refl

-- a script in two parts, and of one stop
script_append : (c : Config) (s : Sys) (xs ys : List Stop) → script_written c s (xs ++ ys) ≡ then_written (script_written c s xs) (script_written c (script_written c s xs).sys ys)
unfolding script_written
script_append c s [] ys = refl
script_append c s (x ∷ xs) ys =
    let a : Written = stop_written c s x in
    ap (λ w. then_written a w) (script_append c a.sys xs ys)
    ∙ sym (then_assoc a (script_written c a.sys xs) (script_written c (script_written c a.sys xs).sys ys))

script_one : (c : Config) (s : Sys) (x : Stop) → script_written c s (x ∷ []) ≡ stop_written c s x
unfolding script_written
script_one c s x = rw (append-nil (stop_written c s x).emissions, append-nil (stop_written c s x).history) refl

-- so far these stops were carried out
pub record HasDone (c : Config) (start : Sys) (list : List Stop) (i : ℕ) (now : Sys) (old new : Sinks) : Type 0 where
  pub at : now ≡ (script_written c start (take i list)).sys
  pub emitted : EmitsInOrder (script_written c start (take i list)).emissions true old new

module _ (c : Config) (start : Sys) (list : List Stop) (old : Sinks) where
  pub done_start : HasDone c start list 0 start old old
  unfolding script_written
  done_start = record { at = refl; emitted = order_nothing old }

  module _ (i : ℕ) (now : Sys) (x d : Stop) (mid : Sinks) (here : i < length list) (is : x ≡ get_or list i d) (h : HasDone c start list i now old mid) where
    next : drop i list ≡ x ∷ drop (i + 1) list
    next = rw add-one (drop-cons list i d here ∙ ap (λ y. y ∷ drop (suc i) list) (sym is))

    whole : list ≡ take i list ++ x ∷ drop (i + 1) list
    whole = sym (take-append-drop i list) ∙ ap (λ ys. take i list ++ ys) next

    front : take (i + 1) list ≡ take i list ++ x ∷ []
    front = take-add i 1 list ∙ ap (λ ys. take i list ++ take 1 ys) next

    one_more : script_written c start (take (i + 1) list) ≡ then_written (script_written c start (take i list)) (stop_written c now x)
    one_more =
        ap (λ xs. script_written c start xs) front
        ∙ (script_append c start (take i list) (x ∷ [])
        ∙ (ap (λ s. then_written (script_written c start (take i list)) (script_written c s (x ∷ []))) (sym h.at)
        ∙ ap (λ w. then_written (script_written c start (take i list)) w) (script_one c now x)))

    pub done_more : (now' : Sys) (new : Sinks) → now' ≡ (stop_written c now x).sys → EmitsInOrder (stop_written c now x).emissions true mid new
        → HasDone c start list (i + 1) now' old new
    done_more now' new e k =
        let P : List Emission → Type 0 = λ es. EmitsInOrder es true old new in record {
          at = e ∙ sym (ap (λ w. w.sys) one_more);
          emitted = subst P (sym (ap (λ w. w.emissions) one_more))
              (order_then (script_written c start (take i list)).emissions (stop_written c now x).emissions true old mid new h.emitted k);
        }

    split : script_written c start list
        ≡ then_written (script_written c start (take i list)) (then_written (stop_written c now x) (script_written c (stop_written c now x).sys (drop (i + 1) list)))
    unfolding script_written
    split =
        ap (λ xs. script_written c start xs) whole
        ∙ (script_append c start (take i list) (x ∷ drop (i + 1) list)
        ∙ ap (λ s. then_written (script_written c start (take i list)) (script_written c s (x ∷ drop (i + 1) list))) (sym h.at))

    done_cut : (new : Sinks) → EmitsInOrder (stop_written c now x).emissions false mid new → EmitsInOrder (script_written c start list).emissions false old new
    done_cut new k =
        let rest : Written = script_written c (stop_written c now x).sys (drop (i + 1) list) in
        let P : List Emission → Type 0 = λ es. EmitsInOrder es false old new in
        subst P (sym (ap (λ w. w.emissions) split))
        (order_then (script_written c start (take i list)).emissions ((stop_written c now x).emissions ++ rest.emissions) false old mid new h.emitted
        (order_cut (stop_written c now x).emissions rest.emissions mid new k))

    -- the stop failed
    pub done_fails : (answer : Status) (new : Sinks) → StopFails c now x answer mid new → (e : Ending) × ScriptComesTo c start list e × Leaves e answer old new
    done_fails answer new (inl k) =
        let cut = done_cut new k.1 in (work_done (script_written c start list).emissions, inl refl, inr (k.0, cut.cause refl, cut.front refl))
    done_fails answer new (inr k) =
        let before : List Emission = (script_written c start (take i list)).emissions in
        let e : Ending = record { status = status.Memory; emissions = before ++ memory_refusal.emissions } in
        let place : list ≡ take i list ++ stops.StatsJson ∷ drop (i + 1) list = whole ∙ ap (λ y. take i list ++ y ∷ drop (i + 1) list) k.0 in
        (e, inr (record { before = take i list; later = drop (i + 1) list; place = place; ending = refl }), by_said k.1) where
          by_said : LeavesInOrder memory_refusal answer mid new
              → Leaves (record { status = status.Memory; emissions = (script_written c start (take i list)).emissions ++ memory_refusal.emissions }) answer old new
          by_said (inl l) = inl (l.0, (order_then (script_written c start (take i list)).emissions memory_refusal.emissions true old mid new h.emitted l.1).all refl)
          by_said (inr l) =
              let cut = order_then (script_written c start (take i list)).emissions memory_refusal.emissions false old mid new h.emitted l.1 in inr (l.0, cut.cause refl, cut.front refl)

  pub done_all : (i : ℕ) (now : Sys) (new : Sinks) → length list ≤ i → HasDone c start list i now old new → (e : Ending) × ScriptComesTo c start list e × Leaves e status.Done old new
  done_all i now new l h =
      let P : List Stop → Type 0 = λ ys. EmitsInOrder (script_written c start ys).emissions true old new in
      let whole : take i list ≡ list = sym (append-nil (take i list)) ∙ (ap (λ ys. take i list ++ ys) (sym (drop_of_length-le list l)) ∙ take-append-drop i list) in
      let all = subst P whole h.emitted in
      (work_done (script_written c start list).emissions, inl refl, inl (refl, all.all refl))

-- the line of a run, as it is told
pub run_text : (told : ToldEnd) (r : RunEnd) (tick : ℕ) → TellsEnd told r → tick ≡ r.ran.sys.tick
    → run_line told.reason tick told.insts told.events ≡ run_line r.reason r.ran.sys.tick (retired_in r.ran.entries) r.events
run_text told r tick e t = rw (e.reason, t, e.insts, e.events) refl

-- a run that ended: what its events write was taken, and its line is emitted
pub ran_emits : (c : Config) (s : Sys) (g : Goal) (parts : List Part) (text : List ℕ) (ok : Bool) (old mid : Sinks) (new : SinkSeen) → parts ≡ platform c
    → (let r : RunEnd = run_to s g in text ≡ run_line r.reason r.ran.sys.tick (retired_in r.ran.entries) r.events)
    → EmitsInOrder (run_emissions parts s g) true old mid → Emits text ok mid.report.taken new.taken mid.report.faults new.faults
    → EmitsInOrder (run_written c s g).emissions ok old (record { console = mid.console; report = new })
ran_emits c s g parts text ok old mid new p t h said =
    let P : List Part → Type 0 = λ ps. EmitsInOrder (run_emissions ps s g) true old mid in
    let Q : List ℕ → Type 0 = λ l. EmitsInOrder (ToReport l ∷ []) ok mid (record { console = mid.console; report = new }) in
    order_then (run_emissions (platform c) s g) _ ok old mid _ (subst P p h) (subst Q t (order_report text ok mid.report new said mid.console))

-- a run in which a sink failed
pub cut_emits : (c : Config) (s : Sys) (g : Goal) (parts : List Part) (old new : Sinks) → parts ≡ platform c → EmitsInOrder (run_emissions parts s g) false old new
    → EmitsInOrder (run_written c s g).emissions false old new
cut_emits c s g parts old new p h =
    let P : List Part → Type 0 = λ ps. EmitsInOrder (run_emissions ps s g) false old new in
    order_cut (run_emissions (platform c) s g) _ old new (subst P p h)

-- a stop that emits
module _ {F : Type 0} (r : Result (Unit {0}) Status) (done : Result (Unit {0}) F) (same : is_ok r ≡ is_ok done) where
  pub or_kept : (A : Type 0) → OnOk done A → OnOk r A
  or_kept A h = by r done same h where
    by : (q : Result (Unit {0}) Status) (e : Result (Unit {0}) F) → is_ok q ≡ is_ok e → OnOk e A → OnOk q A
    by (Ok u) (Ok v) m k = k
    by (Ok u) (Err f) m k = cc
    by (Err s) e m k = tt

  pub or_true : (A : Type 0) → A → OnOk r A
  or_true A a = by r where
    by : (q : Result (Unit {0}) Status) → OnOk q A
    by (Ok u) = a
    by (Err s) = tt

  pub or_emitted : (es : List Emission) (old new : Sinks) → EmitsInOrder es (is_ok done) old new → OnOk r (EmitsInOrder es true old new)
  or_emitted es old new h = by r same where
    by : (q : Result (Unit {0}) Status) → is_ok q ≡ is_ok done → OnOk q (EmitsInOrder es true old new)
    by (Ok u) m = let P : Bool → Type 0 = λ b. EmitsInOrder es b old new in subst P (sym m) h
    by (Err s) m = tt

  pub or_fails : (c : Config) (s : Sys) (x : Stop) (old new : Sinks) → EmitsInOrder (stop_written c s x).emissions (is_ok done) old new → IfErr r (λ q. q ≡ status.Sink)
      → IfErr r (λ q. StopFails c s x q old new)
  or_fails c s x old new h k = by r same k where
    by : (q : Result (Unit {0}) Status) → is_ok q ≡ is_ok done → IfErr q (λ e. e ≡ status.Sink) → IfErr q (λ e. StopFails c s x e old new)
    by (Ok u) m l = tt
    by (Err e) m l = let P : Bool → Type 0 = λ b. EmitsInOrder (stop_written c s x).emissions b old new in inl (l, subst P (sym m) h)
