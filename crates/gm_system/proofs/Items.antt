-- Whichever item is delivered: the invariant is kept, and what is noted is replayed.
use Rattle.std.proofs.Common.{◌≡◌, ℕ, zero, suc, ◌+◌, ◌<◌, cond, is_some, Bool, true, false, List, [], ◌∷◌, refl, ap, subst, arith, Option, Some, None, length, get_or}
use Rattle.gm_model.specs.Deliver.{Item, Sent, Done, handle, deliver_line}
use Rattle.gm_model.specs.ObjState.{ObjState, Blank}
use Rattle.gm_model.specs.Command.{arch_of}
use Rattle.gm_model.specs.Sys.{Sys, active_cpu, active_from}
use Rattle.gm_model.specs.EventMoves.{item_moves, line_moves}
use Rattle.gm_model.specs.View.{Mind}
use Rattle.gm_words.specs.declared.act.Act.TheVariants as acts
use Rattle.gm_words.specs.declared.entry.Entry.{Entry}
use Rattle.gm_words.specs.declared.wake.Wake.TheVariants as wakes
use Rattle.gm_words.specs.declared.kind.Kind.TheVariants as kinds
use Rattle.gm_laws.specs.Faces.{face_of}
use Rattle.gm_system.specs.MemoryLaws.{MemoryLaws}
use Rattle.gm_system.specs.MemoryView.{MemoryView}
use Rattle.gm_system.specs.System.{IsSoundOver, Handled}
use Rattle.gm_system.proofs.Atomics.{atomic_handled}
use Rattle.gm_laws.proofs.EachKind.{wakes_hold, passes_hold, active_mind}
use Rattle.gm_system.proofs.Handles.{offer_handled, call_handled, done_handled, line_handled}

pub active_below : (i k : ℕ) (os : List ObjState) → active_from i os ≡ Some k → k < i + length os
active_below i k [] e = cc
active_below i k (o ∷ os) e = by (is_some (arch_of o)) refl (active_below (i + 1) k os) where
  by : (b : Bool) → is_some (arch_of o) ≡ b → (active_from (i + 1) os ≡ Some k → k < i + 1 + length os) → k < i + length (o ∷ os)
  by true f more = let z : ◌≡◌ {A = Option ℕ} (Some i) (Some k) = subst (λ b. cond b (Some i) (active_from (i + 1) os) ≡ Some k) f e in let n : i ≡ k = cc z in omega (arith, n)
  by false f more = omega (arith, more (subst (λ b. cond b (Some i) (active_from (i + 1) os) ≡ Some k) f e))

some_from : (i k : ℕ) (os : List ObjState) (m : Mind) → (face_of (get_or os k (Blank kinds.AtomicCpu))).mind ≡ Some m → is_some (active_from i os) ≡ true
some_from i k [] m e = let z : is_some (arch_of (Blank kinds.AtomicCpu)) ≡ true = active_mind (Blank kinds.AtomicCpu) m e in cc
some_from i zero (o ∷ os) m e = ap (λ b. is_some (cond b (Some i) (active_from (i + 1) os))) (active_mind o m e)
some_from i (suc k) (o ∷ os) m e = by (is_some (arch_of o)) (some_from (i + 1) k os m e) where
  by : (b : Bool) → is_some (active_from (i + 1) os) ≡ true → is_some (cond b (Some i) (active_from (i + 1) os)) ≡ true
  by true h = refl
  by false h = h

pub active_there : (os : List ObjState) (k : ℕ) (m : Mind) → (face_of (get_or os k (Blank kinds.AtomicCpu))).mind ≡ Some m → is_some (active_cpu os) ≡ true
active_there os k m e = some_from 0 k os m e

module _ (y : MemoryView) (memory : MemoryLaws y) (ram : ℕ) where
  pub handle_keeps : (s : Sys) (rest : List Item) (es : List Entry) (it : Item) → IsSoundOver y ram s (it ∷ rest)
      → Handled y ram (record { sys = s; items = it ∷ rest; entries = es }) (handle (record { sys = s; items = rest; entries = es }) it) (item_moves s it)
  handle_keeps s rest es (Sent i (acts.Offer p x)) h = offer_handled wakes_hold y memory ram s rest es i p.0 x h
  handle_keeps s rest es (Sent i (acts.CallRetry p)) h = call_handled wakes_hold y memory ram s rest es i p.0 h
  handle_keeps s rest es (Sent i (acts.SetLine b l)) h = by (active_cpu s.objects) refl (active_there s.objects h.program.cpu h.program.mind h.program.here) where
    by : (o : Option ℕ) → active_cpu s.objects ≡ o → is_some o ≡ true
        → Handled y ram (record { sys = s; items = Sent i (acts.SetLine b l) ∷ rest; entries = es }) (deliver_line (record { sys = s; items = rest; entries = es }) (wakes.Line b l) o) (line_moves s (wakes.Line b l) o)
    by None e f = cc
    by (Some k) e f = line_handled wakes_hold y memory ram s rest es i b l k (omega (arith, active_below 0 k s.objects e)) h
  handle_keeps s rest es (Sent i (acts.Atomic p x)) h = atomic_handled passes_hold y memory ram s rest i p.0 x h es
  handle_keeps s rest es (Done i x l) h = done_handled wakes_hold y memory ram s rest es i l x h.net.placed.0 h
