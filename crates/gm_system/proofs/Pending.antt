-- What changes of one object do to the list of pending events.
use Rattle.std.proofs.Common.{◌≡◌, ℕ, refl, sym, ◌∙◌, ap, arith, Bool, true, false, cond, ◌||◌, ◌==◌, List, [], ◌∷◌, ne_eqb}
use Rattle.std.proofs.lemmas.Grind.{common_steps}
use Rattle.std.proofs.lemmas.Bool.Decides.{nat_tests}
use Rattle.ev_queue.specs.declared.due.Due.{Due}
use Rattle.gm_words.proofs.QueueLaws.{pending-scheduled}
use Rattle.ev_queue.specs.PendingList.{is_of, without, is_pending, event}
use Rattle.gm_words.specs.Changes.{Change, Schedule, Remove, changed, changed_by}

-- the events of another object
other-without : (es : List Due) (i k slot n : ℕ) → (i == k) ≡ false → is_pending (without es i slot) k n ≡ is_pending es k n
other-without [] i k slot n h = refl
other-without (e ∷ es) i k slot n h = by (is_of e i slot) refl (other-without es i k slot n h) where
  not_of : is_of e i slot ≡ true → is_of e k n ≡ false
  not_of t = grind (arith, common_steps, nat_tests, t, h)

  by : (b : Bool) → is_of e i slot ≡ b → is_pending (without es i slot) k n ≡ is_pending es k n
      → is_pending (cond b (without es i slot) (e ∷ without es i slot)) k n ≡ (is_of e k n || is_pending es k n)
  by true t h = h ∙ sym (ap (λ b. b || is_pending es k n) (not_of t))
  by false t h = ap (λ b. is_of e k n || b) h

other_one : (es : List Due) (i k : ℕ) (c : Change) (n : ℕ) → (i == k) ≡ false → is_pending (changed_by i es c) k n ≡ is_pending es k n
other_one es i k (Schedule slot class at) n h =
    pending-scheduled (without es i slot) (event at class i slot) k n ∙ (rw h (other-without es i k slot n h))
other_one es i k (Remove slot) n h = other-without es i k slot n h

pub other_queue : (es : List Due) (i k : ℕ) (cs : List Change) (n : ℕ) → (i ≡ k → ⊥) → is_pending (changed i es cs) k n ≡ is_pending es k n
other_queue es i k [] n h = refl
other_queue es i k (c ∷ cs) n h = other_queue (changed_by i es c) i k cs n h ∙ other_one es i k c n (ne_eqb i k h)
