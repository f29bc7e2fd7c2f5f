-- A run to a goal ends after the least number of events for which there is a reason.
use Rattle.std.proofs.Common.{◌≡◌, ℕ, suc, zero, ◌+◌, ◌<◌, ◌≤◌, ◌⊎◌, ◌∙◌, inl, inr, refl, sym, subst, arith, eq-or-lt_of_le, le_of_suc-le-suc, Bool, true, false, if◌then◌else◌, nat_lt, nat_le, Option, Some, None}
use Rattle.std.proofs.lemmas.Bool.{le-leb, cases_lt}
use Rattle.ev_queue.specs.declared.due.Due.{Due}
use Rattle.ev_queue.specs.PendingList.{first}
use Rattle.gm_model.specs.Sys.{Sys}
use Rattle.gm_model.specs.Fire.{timed_run, one_more}
use Rattle.gm_model.specs.Run.{RunEnd, reason_for, EndsRun, RunsEnd, run_on, run_to, reason_at, exit_reason, due_reason, has_retired, retired_in, exit_of, is_late, last_tick}
use Rattle.gm_words.specs.declared.goal.Goal.{Goal}
use Rattle.gm_words.specs.declared.goal.Reason.{Reason}
use Rattle.gm_words.specs.declared.goal.Reason.TheVariants as reasons

-- the budget is served, so there is a reason
late_reason : (a b c : Bool) → c ≡ true
    → (if a then Some reasons.TickLimit else if b then Some reasons.Tick else if c then Some reasons.Limit else None) ≡ None → ⊥
late_reason true b c h e = absurd (cc)
late_reason false true c h e = absurd (cc)
late_reason false false true h e = absurd (cc)
late_reason false false false h e = absurd (cc)

due_some : (g : Goal) (n : ℕ) (o : Option Due) → nat_le g.budget n ≡ true → due_reason g n o ≡ None → ⊥
due_some g n None h e = absurd (cc)
due_some g n (Some d) h e = late_reason (nat_lt last_tick d.tick) (is_late g.until d.tick) (nat_le g.budget n) h e

insts_some : (g : Goal) (n : ℕ) (o : Option Due) (b : Bool) → nat_le g.budget n ≡ true
    → (if b then Some reasons.Insts else due_reason g n o) ≡ None → ⊥
insts_some g n o true h e = absurd (cc)
insts_some g n o false h e = due_some g n o h e

exit_some : (g : Goal) (n insts : ℕ) (s : Sys) (o : Option ℕ) → nat_le g.budget n ≡ true → exit_reason g n insts s o ≡ None → ⊥
exit_some g n insts s (Some code) h e = absurd (cc)
exit_some g n insts s None h e = insts_some g n (first s.pending) (has_retired g.until insts) h e

-- once as many events as the budget allows were served, there is a reason
pub budget_ends : (g : Goal) (n insts : ℕ) (s : Sys) → g.budget ≤ n → reason_for g n insts s ≡ None → ⊥
budget_ends g n insts s l e = exit_some g n insts s (exit_of s) (le-leb g.budget n l) e

-- no reason for the numbers below n, and none for n, is none for those up to n
none_up_to : (g : Goal) (s : Sys) (n : ℕ) → ((k : ℕ) → k < n → reason_at g k (timed_run s k) ≡ None)
    → reason_at g n (timed_run s n) ≡ None → (k : ℕ) → k < suc n → reason_at g k (timed_run s k) ≡ None
none_up_to g s n below at k h = up (eq-or-lt_of_le (le_of_suc-le-suc h)) where
  up : (k ≡ n) ⊎ (k < n) → reason_at g k (timed_run s k) ≡ None
  up (inl e) = subst (λ m. reason_at g m (timed_run s m) ≡ None) (sym e) at
  up (inr l) = below k l

-- the run ends here for a reason, or goes on
ends_case : (fuel n : ℕ) (s : Sys) (g : Goal) (o : Option Reason) → reason_at g n (timed_run s n) ≡ o
    → ((k : ℕ) → k < n → reason_at g k (timed_run s k) ≡ None)
    → (reason_at g n (timed_run s n) ≡ None → EndsRun s g (run_on fuel g (suc n) (one_more (timed_run s n))))
    → EndsRun s g (elim o [
      | Some why ↦ record { ran = timed_run s n; events = n; reason = why }
      | None ↦ run_on fuel g (suc n) (one_more (timed_run s n))
    ])
ends_case fuel n s g (Some why) r h next = record { ran = refl; ends = r; least = h }
ends_case fuel n s g None r h next = next r

ends_on : (fuel n : ℕ) (s : Sys) (g : Goal) → fuel + n ≡ suc g.budget
    → ((k : ℕ) → k < n → reason_at g k (timed_run s k) ≡ None) → EndsRun s g (run_on fuel g n (timed_run s n))
unfolding run_on timed_run
ends_on zero n s g e h = absurd (exit_some g g.budget (retired_in (timed_run s g.budget).entries) (timed_run s g.budget).sys (exit_of (timed_run s g.budget).sys) (le-leb g.budget g.budget (omega arith)) (h g.budget (omega arith)))
ends_on (suc fuel) n s g e h =
    ends_case fuel n s g (reason_at g n (timed_run s n)) refl h
    (λ r. ends_on fuel (suc n) s g (omega arith) (none_up_to g s n h r))

pub runs_end : RunsEnd
unfolding run_to timed_run
runs_end = record { run = λ s g. ends_on (suc g.budget) 0 s g (omega arith) (λ k l. absurd (omega arith)) }

-- a run ends where there is a reason for the first time
pub run_is : (s : Sys) (g : Goal) (n : ℕ) (why : Reason) → reason_at g n (timed_run s n) ≡ Some why
    → ((k : ℕ) → k < n → reason_at g k (timed_run s k) ≡ None) → run_to s g ≡ record { ran = timed_run s n; events = n; reason = why }
run_is s g n why h least = by_order (cases_lt (run_to s g).events n) where
  e : EndsRun s g (run_to s g)
  e = runs_end.run s g

  same : (r : RunEnd) → EndsRun s g r → r.events ≡ n → r ≡ record { ran = timed_run s n; events = n; reason = why }
  same r k m =
      let P : ℕ → Type 0 = λ j. reason_at g j (timed_run s j) ≡ Some r.reason in
      let both : Some r.reason ≡ Some why = sym (subst P m k.ends) ∙ h in
      let reason : r.reason ≡ why = cc in
      rw (k.ran, m, reason) refl

  no_earlier : (r : RunEnd) → EndsRun s g r → r.events < n → ⊥
  no_earlier r k l =
      let both : ◌≡◌ {A = Option Reason} None (Some r.reason) = sym (least r.events l) ∙ k.ends in cc

  no_later : (r : RunEnd) → EndsRun s g r → n < r.events → ⊥
  no_later r k l = let both : ◌≡◌ {A = Option Reason} None (Some why) = sym (k.least n l) ∙ h in cc

  by_more : (n ≡ (run_to s g).events) ⊎ (n < (run_to s g).events) → run_to s g ≡ record { ran = timed_run s n; events = n; reason = why }
  by_more (inl m) = same (run_to s g) e (sym m)
  by_more (inr l) = absurd (no_later (run_to s g) e l)

  by_order : ((run_to s g).events < n) ⊎ (n ≤ (run_to s g).events) → run_to s g ≡ record { ran = timed_run s n; events = n; reason = why }
  by_order (inl l) = absurd (no_earlier (run_to s g) e l)
  by_order (inr l) = by_more (eq-or-lt_of_le l)
