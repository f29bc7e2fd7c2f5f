-- What a run leaves to be served, for tests that run a machine more than once.
use Rattle.std.proofs.Common.{◌≡◌, ℕ, suc, zero, ◌+◌, ◌-◌, ◌<◌, ◌≤◌, ◌⊎◌, inl, inr, refl, sym, ◌∙◌, ap, subst, arith, IfSome, IfOk, OnOk, Bool, true, false, cond, nat_lt, nat_le, List, [], ◌∷◌, ◌++◌, map, Option, Some, None, Result, Ok, Err}
use Rattle.std.proofs.lemmas.Bool.{cases_lt}
use Rattle.std.proofs.lemmas.Bool.Decides.{nat_tests}
use Rattle.ev_queue.specs.declared.due.Due.{Due}
use Rattle.ev_queue.specs.PendingList.{first}
use Rattle.gm_model.specs.Sys.{Sys}
use Rattle.gm_model.specs.Fire.{fire_first, fire_due, timed_run}
use Rattle.gm_model.specs.Run.{RunEnd, EndsRun, run_to, reason_at, reason_for, exit_reason, due_reason, late_reason, has_retired, is_late, exit_of, retired_in, last_tick}
use Rattle.gm_words.specs.declared.goal.Goal.{Goal}
use Rattle.gm_words.specs.declared.goal.Reason.{Reason}
use Rattle.gm_words.specs.declared.goal.Reason.TheVariants as reasons
use Rattle.gm_model.proofs.RunEnds.{runs_end, budget_ends}
use Rattle.kernel.specs.Ends.{TellsEnd}
use Rattle.kernel.specs.declared.run_end.RunEnd.{RunEnd as ToldEnd}
use Rattle.kernel.proofs.Runs.{events_more}

-- an event counts one at most
one_event : (s : Sys) → (fire_first s).sys.counts.events ≤ s.counts.events + 1
one_event s = by_first (first s.pending) refl where
  by_first : (o : Option Due) → first s.pending ≡ o → (fire_first s).sys.counts.events ≤ s.counts.events + 1
  by_first None e = let P : Option Due → Type 0 = λ o. (fire_due s o).sys.counts.events ≤ s.counts.events + 1 in subst P (sym e) (omega arith)
  by_first (Some d) e = omega (arith, events_more s (rw e refl))

pub event_after : (n : ℕ) (s s' : Sys) → s' ≡ (fire_first s).sys → s.counts.events ≤ n + 0 → s'.counts.events ≤ n + 1
event_after n s s' e l = omega (arith, ap (λ x. x.counts.events) e, one_event s, l)

so_many : (s : Sys) (n : ℕ) → (timed_run s n).sys.counts.events ≤ s.counts.events + n
unfolding timed_run
so_many s zero = omega arith
so_many s (suc n) = omega (arith, so_many s n, one_event (timed_run s n).sys)

within_budget : (s : Sys) (g : Goal) (r : RunEnd) → EndsRun s g r → r.events ≤ g.budget
within_budget s g r e = by_place (cases_lt g.budget r.events) where
  by_place : (g.budget < r.events) ⊎ (r.events ≤ g.budget) → r.events ≤ g.budget
  by_place (inl l) = absurd (budget_ends g g.budget (retired_in (timed_run s g.budget).entries) (timed_run s g.budget).sys (omega arith) (e.least g.budget l))
  by_place (inr l) = l

-- a run counts its budget at most
pub budget_more : (s s' : Sys) (g : Goal) → s' ≡ (run_to s g).ran.sys → s'.counts.events ≤ s.counts.events + g.budget
budget_more s s' g e =
    let ends = runs_end.run s g in
    omega (arith, ap (λ x. x.counts.events) (e ∙ ap (λ r. r.sys) ends.ran), so_many s (run_to s g).events, within_budget s g (run_to s g) ends)

-- where the budget alone ended a run, the next event isn't too late
abbrev IsEarly : Option Due → Type 0
IsEarly o = IfSome o (λ d. d.tick ≤ 4611703610613432320)

late_early : (g : Goal) (n : ℕ) (d : Due) → late_reason g n d.tick ≡ Some reasons.Limit → d.tick ≤ 4611703610613432320
late_early g n d h = by_late (nat_lt last_tick d.tick) refl h where
  by_late : (b : Bool) → nat_lt last_tick d.tick ≡ b
      → cond b (Some reasons.TickLimit) (cond (is_late g.until d.tick) (Some reasons.Tick) (cond (nat_le g.budget n) (Some reasons.Limit) None)) ≡ Some reasons.Limit
      → d.tick ≤ 4611703610613432320
  by_late true k m = cc
  by_late false k m = grind (arith, nat_tests, k)

due_early : (g : Goal) (n : ℕ) (o : Option Due) → due_reason g n o ≡ Some reasons.Limit → IsEarly o
due_early g n None h = cc
due_early g n (Some d) h = late_early g n d h

limit_early : (g : Goal) (n insts : ℕ) (s : Sys) → reason_for g n insts s ≡ Some reasons.Limit → IsEarly (first s.pending)
limit_early g n insts s h = by_exit (exit_of s) h where
  by_insts : (b : Bool) → cond b (Some reasons.Insts) (due_reason g n (first s.pending)) ≡ Some reasons.Limit → IsEarly (first s.pending)
  by_insts true k = cc
  by_insts false k = due_early g n (first s.pending) k

  by_exit : (o : Option ℕ) → exit_reason g n insts s o ≡ Some reasons.Limit → IsEarly (first s.pending)
  by_exit (Some code) k = cc
  by_exit None k = by_insts (has_retired g.until insts) k

pub ended_early : (s s' : Sys) (g : Goal) → s' ≡ (run_to s g).ran.sys → (run_to s g).reason ≡ reasons.Limit → IsEarly (first s'.pending)
ended_early s s' g e h =
    let ends = runs_end.run s g in
    let n : ℕ = (run_to s g).events in
    let P : Sys → Type 0 = λ x. IsEarly (first x.pending) in
    subst P (sym (e ∙ ap (λ r. r.sys) ends.ran)) (limit_early g n (retired_in (timed_run s n).entries) (timed_run s n).sys (ends.ends ∙ ap (λ r. Some r) h))

-- what is told of a run that the budget alone ended
pub tells_early : {E : Type 0} (r : Result ToldEnd E) (s s' : Sys) (g : Goal) → IfOk r (λ e. TellsEnd e (run_to s g)) → OnOk r (s' ≡ (run_to s g).ran.sys)
    → IfOk r (λ e. e.reason ≡ reasons.Limit → IsEarly (first s'.pending))
tells_early (Ok e) s s' g t h = λ l. ended_early s s' g h (sym t.reason ∙ l)
tells_early (Err x) s s' g t h = tt
