-- Whichever pending event is served: the invariant is kept, what is noted is replayed, and no packet is lost.
use Rattle.std.specs.Prelude.{IsFalse, slice_get}
use Rattle.std.proofs.Common.{◌≡◌, ℕ, zero, suc, ◌==◌, ◌&&◌, ◌||◌, if◌then◌else◌, Bool, true, false, List, [], ◌∷◌, refl, sym, ◌∙◌, ap, subst, Some, ne_eqb, eq-eqb, length}
use Rattle.std.proofs.lemmas.Bool.{and_parts}
use Rattle.ev_queue.specs.declared.due.Due.{Due}
use Rattle.ev_queue.specs.PendingList.{is_of, is_pending, HoldsSlotsOnce}
use Rattle.gm_model.specs.Deliver.{Delivery, items_max}
use Rattle.gm_model.specs.Fire.{without_nth, taken_out, event_begun, event_delivered}
use Rattle.gm_model.specs.Sys.{Sys, step_at}
use Rattle.gm_model.specs.EventMoves.{event_moves, deliver_moves}
use Rattle.gm_words.specs.declared.wake.Wake.TheVariants as wakes
use Rattle.gm_system.specs.MemoryLaws.{MemoryLaws}
use Rattle.gm_system.specs.MemoryView.{MemoryView}
use Rattle.gm_system.specs.System.{IsSoundOver, faces, Handled}
use Rattle.gm_laws.proofs.Bytes.{same_is, same_number}
use Rattle.gm_system.proofs.Deliveries.{handled_then, deliver_keeps}
use Rattle.gm_laws.proofs.EachKind.{wakes_hold}
use Rattle.gm_system.proofs.Handles.{event_handled}

false_is : (b : Bool) → IsFalse b → b ≡ false
false_is false h = h
false_is true h = h

or_left : (a b : Bool) → a ≡ true → (a || b) ≡ true
or_left true b e = refl
or_left false b e = cc

or_right : (a b : Bool) → b ≡ true → (a || b) ≡ true
or_right true b e = refl
or_right false b e = e

own : (e : Due) → is_of e e.owner.0 e.slot.0 ≡ true
own e = rw (same_number e.owner.0, same_number e.slot.0) refl

nth_is : (es : List Due) (n : ℕ) (e : Due) → slice_get es n ≡ Some e → is_pending es e.owner.0 e.slot.0 ≡ true
nth_is [] n e h = cc
nth_is (x ∷ xs) zero e h = let k : x ≡ e = cc h in or_left (is_of x e.owner.0 e.slot.0) (is_pending xs e.owner.0 e.slot.0) (subst (λ (y : Due). is_of y e.owner.0 e.slot.0 ≡ true) (sym k) (own e))
nth_is (x ∷ xs) (suc n) e h = or_right (is_of x e.owner.0 e.slot.0) (is_pending xs e.owner.0 e.slot.0) (nth_is xs n e h)

-- the other slots' events are pending as they were
nth_other : (es : List Due) (n : ℕ) (e : Due) (k m : ℕ) → slice_get es n ≡ Some e → is_of e k m ≡ false → is_pending (without_nth es n) k m ≡ is_pending es k m
nth_other [] n e k m h f = refl
nth_other (x ∷ xs) zero e k m h f = let s : x ≡ e = cc h in sym (ap (λ b. b || is_pending xs k m) (ap (λ (y : Due). is_of y k m) s ∙ f))
nth_other (x ∷ xs) (suc n) e k m h f = ap (λ b. is_of x k m || b) (nth_other xs n e k m h f)

-- its own slot's isn't any more
nth_gone : (es : List Due) (n : ℕ) (e : Due) → HoldsSlotsOnce es → slice_get es n ≡ Some e → is_pending (without_nth es n) e.owner.0 e.slot.0 ≡ false
nth_gone [] n e once h = refl
nth_gone (x ∷ xs) zero e once h = let s : x ≡ e = cc h in subst (λ (y : Due). is_pending xs y.owner.0 y.slot.0 ≡ false) s (false_is (is_pending xs x.owner.0 x.slot.0) once.0)
nth_gone (x ∷ xs) (suc n) e once h = by (is_of x e.owner.0 e.slot.0) refl (nth_gone xs n e once.1 h) where
  by : (b : Bool) → is_of x e.owner.0 e.slot.0 ≡ b → is_pending (without_nth xs n) e.owner.0 e.slot.0 ≡ false → (is_of x e.owner.0 e.slot.0 || is_pending (without_nth xs n) e.owner.0 e.slot.0) ≡ false
  by false f more = rw (f, more) refl
  by true f more =
      let p = and_parts (x.owner.0 == e.owner.0) (x.slot.0 == e.slot.0) f in
      let o : x.owner.0 ≡ e.owner.0 = same_is x.owner.0 e.owner.0 p.0 in
      let s : x.slot.0 ≡ e.slot.0 = same_is x.slot.0 e.slot.0 p.1 in
      let here : is_pending xs x.owner.0 x.slot.0 ≡ true = subst (λ a. is_pending xs a x.slot.0 ≡ true) (sym o) (subst (λ c. is_pending xs e.owner.0 c ≡ true) (sym s) (nth_is xs n e h)) in
      absurd (let z : true ≡ false = sym here ∙ false_is (is_pending xs x.owner.0 x.slot.0) once.0 in cc)

module _ (y : MemoryView) (memory : MemoryLaws y) (ram : ℕ) (s : Sys) (n t : ℕ) (e : Due) (h : IsSoundOver y ram s []) (once : HoldsSlotsOnce s.pending) (there : slice_get s.pending n ≡ Some e) where
  pub fired : (faces s e.owner.0).due e.slot.0 ≡ true
  fired = h.net.due e.owner.0 e.slot.0 ∙ nth_is s.pending n e there

  pub mine : (m : ℕ) → (if m == e.slot.0 then false else (faces s e.owner.0).due m) ≡ is_pending (without_nth s.pending n) e.owner.0 m
  mine m = by (m == e.slot.0) refl where
    by : (b : Bool) → (m == e.slot.0) ≡ b → (if m == e.slot.0 then false else (faces s e.owner.0).due m) ≡ is_pending (without_nth s.pending n) e.owner.0 m
    by true f = let k : m ≡ e.slot.0 = same_is m e.slot.0 f in rw f (sym (subst (λ j. is_pending (without_nth s.pending n) e.owner.0 j ≡ false) (sym k) (nth_gone s.pending n e once there)))
    by false f = rw f (h.net.due e.owner.0 m ∙ sym (nth_other s.pending n e e.owner.0 m there (apart (e.owner.0 == e.owner.0) (e.slot.0 == m) (ne_eqb e.slot.0 m (λ c. differ c)))))
      where
        differ : e.slot.0 ≡ m → ⊥
        differ c = let z : true ≡ false = sym (eq-eqb m e.slot.0 (sym c)) ∙ f in cc

        apart : (a b : Bool) → b ≡ false → (a && b) ≡ false
        apart true b h = h
        apart false b h = refl

  pub others : (k m : ℕ) → (k ≡ e.owner.0 → ⊥) → (faces s k).due m ≡ is_pending (without_nth s.pending n) k m
  others k m a = h.net.due k m ∙ sym (nth_other s.pending n e k m there (ap (λ b. b && (e.slot.0 == m)) (ne_eqb e.owner.0 k (λ c. a (sym c)))))

  -- the n-th pending event is served at a tick
  pub event_keeps : (let d : Delivery = record { sys = taken_out s n t; items = []; entries = [] } in Handled y ram d (event_delivered (taken_out s n t) e) (event_moves (taken_out s n t) e))
  event_keeps = handled_then y memory ram (record { sys = taken_out s n t; items = []; entries = [] }) (event_begun (taken_out s n t) e) (event_delivered (taken_out s n t) e)
      (step_at (taken_out s n t) e.owner.0 (wakes.Event e.slot)).moves (deliver_moves items_max (event_begun (taken_out s n t) e)) begun (deliver_keeps y memory ram items_max (event_begun (taken_out s n t) e) begun.sound) where
        begun : (let d : Delivery = record { sys = taken_out s n t; items = []; entries = [] } in Handled y ram d (event_begun (taken_out s n t) e) (step_at (taken_out s n t) e.owner.0 (wakes.Event e.slot)).moves)
        begun = event_handled wakes_hold y memory ram (taken_out s n t) [] e.owner.0 e.slot (record {
          cpu = h.program.cpu;
          mind = h.program.mind;
          here = h.program.here;
          alone = h.program.alone;
          kinds = h.program.kinds;
          kept = (memory.timed ram s n t h.program.kept).kept;
          size = ap length (memory.timed ram s n t h.program.kept).same ∙ h.program.size;
          owes = h.program.owes;
          fits = h.program.fits;
          at_once = h.program.at_once;
          in_time = h.program.in_time;
          mapped = h.program.mapped;
          senders = h.program.senders;
        })
            h.net.parts h.net.wired h.net.net h.net.routed fired mine others
