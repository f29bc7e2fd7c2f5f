-- What changes of one object do to the list of pending events.
use Rattle.std.proofs.Common.{◌≡◌, ℕ, refl, ◌∙◌, ap, arith, Bool, true, false, cond, ◌&&◌, ◌||◌, ◌==◌, List, [], ◌∷◌}
use Rattle.std.proofs.lemmas.Grind.{common_steps}
use Rattle.std.proofs.lemmas.Bool.Decides.{nat_tests}
use Rattle.ev_queue.specs.declared.due.Due.{Due}
use Rattle.ev_queue.specs.PendingList.{is_of, is_before, scheduled, without, is_pending, event}
use Rattle.gm_words.specs.Changes.{Change, Schedule, Remove, changed, changed_by, due_after}
use Rattle.gm_words.specs.EventLaws.{events_of_others, KeepsOthersEvents, TellsQueue}

-- taking out an object's event
others-without : (object : ℕ) (es : List Due) (slot : ℕ) → events_of_others object (without es object slot) ≡ events_of_others object es
others-without object [] slot = refl
others-without object (e ∷ es) slot = by_tests (e.owner.0 == object) (e.slot.0 == slot) (others-without object es slot) refl where
  by_tests : (b c : Bool) → events_of_others object (without es object slot) ≡ events_of_others object es → (e.owner.0 == object) ≡ b
      → events_of_others object (cond (b && c) (without es object slot) (e ∷ without es object slot)) ≡ cond b (events_of_others object es) (e ∷ events_of_others object es)
  by_tests true true h t = h
  by_tests true false h t = rw t h
  by_tests false c h t = rw t (ap (λ xs. e ∷ xs) h)

-- scheduling an object's event
others-scheduled : (object : ℕ) (es : List Due) (d : Due) → (d.owner.0 == object) ≡ true → events_of_others object (scheduled es d) ≡ events_of_others object es
others-scheduled object [] d o = rw o refl
others-scheduled object (e ∷ es) d o = by_order (is_before d e) (others-scheduled object es d o) where
  by_order : (b : Bool) → events_of_others object (scheduled es d) ≡ events_of_others object es
      → events_of_others object (cond b (d ∷ e ∷ es) (e ∷ scheduled es d)) ≡ cond (e.owner.0 == object) (events_of_others object es) (e ∷ events_of_others object es)
  by_order true h = rw o refl
  by_order false h = ap (λ xs. cond (e.owner.0 == object) xs (e ∷ xs)) h

same_number : (n : ℕ) → (n == n) ≡ true
same_number n = grind (arith, nat_tests)

others-changed_by : (object : ℕ) (es : List Due) (c : Change) → events_of_others object (changed_by object es c) ≡ events_of_others object es
others-changed_by object es (Schedule slot class at) =
    others-scheduled object (without es object slot) (event at class object slot) (same_number object) ∙ others-without object es slot
others-changed_by object es (Remove slot) = others-without object es slot

pub others_kept : KeepsOthersEvents
others_kept object es [] = refl
others_kept object es (c ∷ cs) = others_kept object (changed_by object es c) cs ∙ others-changed_by object es c

-- the slot that is taken out, and another one
same_slot : (k slot n : ℕ) (b : Bool) → (k == slot) ≡ true → cond (n == slot) false b ≡ cond (n == slot) false ((k == n) || b)
same_slot k slot n b t = grind (arith, common_steps, nat_tests, t)

other_slot : (k slot n : ℕ) (b : Bool) → (k == slot) ≡ false → ((k == n) || cond (n == slot) false b) ≡ cond (n == slot) false ((k == n) || b)
other_slot k slot n b t = grind (arith, common_steps, nat_tests, t)

-- what is pending once an event is taken out
pub pending-without : (es : List Due) (object slot n : ℕ) → is_pending (without es object slot) object n ≡ cond (n == slot) false (is_pending es object n)
pending-without [] object slot n = by_test (n == slot) where
  by_test : (b : Bool) → false ≡ cond b false false
  by_test true = refl
  by_test false = refl
pending-without (e ∷ es) object slot n = by_owner (e.owner.0 == object) (pending-without es object slot n) refl where
  by_slot : (c : Bool) → is_pending (without es object slot) object n ≡ cond (n == slot) false (is_pending es object n)
      → (e.owner.0 == object) ≡ true → (e.slot.0 == slot) ≡ c
      → is_pending (cond c (without es object slot) (e ∷ without es object slot)) object n ≡ cond (n == slot) false ((e.slot.0 == n) || is_pending es object n)
  by_slot true h o t = h ∙ same_slot (e.slot.0) slot n (is_pending es object n) t
  by_slot false h o t = rw o (ap (λ x. (e.slot.0 == n) || x) h ∙ other_slot e.slot.0 slot n (is_pending es object n) t)

  by_owner : (b : Bool) → is_pending (without es object slot) object n ≡ cond (n == slot) false (is_pending es object n) → (e.owner.0 == object) ≡ b
      → is_pending (cond (b && (e.slot.0 == slot)) (without es object slot) (e ∷ without es object slot)) object n
      ≡ cond (n == slot) false ((b && (e.slot.0 == n)) || is_pending es object n)
  by_owner true h o = by_slot (e.slot.0 == slot) h o refl
  by_owner false h o = rw o h

pub pending-scheduled : (es : List Due) (d : Due) (object n : ℕ) → is_pending (scheduled es d) object n ≡ (is_of d object n || is_pending es object n)
pending-scheduled [] d object n = refl
pending-scheduled (e ∷ es) d object n = by_order (is_before d e) (pending-scheduled es d object n) where
  swap_or : (a b c : Bool) → (a || (b || c)) ≡ (b || (a || c))
  swap_or true true c = refl
  swap_or true false c = refl
  swap_or false b c = refl

  by_order : (b : Bool) → is_pending (scheduled es d) object n ≡ (is_of d object n || is_pending es object n)
      → is_pending (cond b (d ∷ e ∷ es) (e ∷ scheduled es d)) object n ≡ (is_of d object n || (is_of e object n || is_pending es object n))
  by_order true h = refl
  by_order false h = ap (λ x. is_of e object n || x) h ∙ swap_or (is_of e object n) (is_of d object n) (is_pending es object n)

-- what is pending after a change
due_one : (object : ℕ) (es : List Due) (c : Change) (n : ℕ) → is_pending (changed_by object es c) object n ≡ due_after (c ∷ []) (is_pending es object n) n
due_one object es (Schedule slot class at) n =
    pending-scheduled (without es object slot) (event at class object slot) object n
    ∙ (ap (λ x. is_of (event at class object slot) object n || x) (pending-without es object slot n) ∙ rw (same_number object) (set_slot slot n (is_pending es object n))) where
      set_slot : (slot n : ℕ) (b : Bool) → ((slot == n) || cond (n == slot) false b) ≡ cond (n == slot) true b
      set_slot slot n b = grind (arith, common_steps, nat_tests)
due_one object es (Remove slot) n = pending-without es object slot n

pub due_queue : (object : ℕ) (es : List Due) (cs : List Change) (n : ℕ) → is_pending (changed object es cs) object n ≡ due_after cs (is_pending es object n) n
due_queue object es [] n = refl
due_queue object es (Schedule slot class at ∷ cs) n =
    due_queue object (changed_by object es (Schedule slot class at)) cs n ∙ ap (λ b. due_after cs b n) (due_one object es (Schedule slot class at) n)
due_queue object es (Remove slot ∷ cs) n =
    due_queue object (changed_by object es (Remove slot)) cs n ∙ ap (λ b. due_after cs b n) (due_one object es (Remove slot) n)

pub told_queue : TellsQueue
told_queue object es cs n = due_queue object es cs n
