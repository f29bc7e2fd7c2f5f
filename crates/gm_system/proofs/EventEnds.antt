-- An event comes to an end: all that it causes is delivered.
use Rattle.std.specs.Prelude.{slice_get}
use Rattle.std.proofs.Common.{◌≡◌, ℕ, zero, suc, ◌+◌, ◌<◌, ◌≤◌, true, List, [], ◌∷◌, refl, ◌∙◌, ap, subst, arith, Some, length, get_or, sum_by}
use Rattle.std.proofs.lemmas.List.Sums.{sum_by-set, sum_by-cons}
use Rattle.gc_base.specs.declared.ids.SlotNo.{SlotNo}
use Rattle.ev_queue.specs.declared.due.Due.{Due}
use Rattle.ev_queue.specs.PendingList.{HoldsSlotsOnce}
use Rattle.gm_model.specs.Deliver.{Delivery}
use Rattle.gm_model.specs.Fire.{taken_out, event_begun}
use Rattle.gm_model.specs.ObjState.{ObjState, Blank}
use Rattle.gm_model.specs.Sys.{Sys, step_at, object_at, peer_in}
use Rattle.gm_words.specs.declared.kind.Kind.TheVariants as kinds
use Rattle.gm_words.specs.declared.wake.Wake.TheVariants as wakes
use Rattle.gm_laws.specs.Face.{Face, FaceOk}
use Rattle.gm_laws.specs.Faces.{face_of, Keeps}
use Rattle.gm_laws.specs.Fuel.{busy, busy_below}
use Rattle.gm_system.specs.Net.{Clear}
use Rattle.gm_system.specs.Machine.{most_of}
use Rattle.gm_system.specs.MemoryLaws.{MemoryLaws}
use Rattle.gm_system.specs.MemoryView.{MemoryView}
use Rattle.gm_system.specs.System.{IsSoundOver, faces, fuel_of, Handled}
use Rattle.gm_system.proofs.Debts.{pays_none}
use Rattle.gm_laws.proofs.EachKind.{wakes_hold, toil_le}
use Rattle.gm_system.proofs.Events.{fired, mine, others}
use Rattle.gm_system.proofs.Fuels.{weight-sent}
use Rattle.gm_system.proofs.Handles.{event_handled}
use Rattle.gm_system.proofs.Systems.{IsBefore, keeps, due_there}

below_le : (f : Face) → FaceOk f → (n : ℕ) → busy_below f n ≤ n
unfolding busy_below
below_le f ok zero = omega arith
below_le f ok (suc n) = omega (arith, below_le f ok n, ok.bits n)

busy_le : (o : ObjState) → FaceOk (face_of o) → busy (face_of o) ≤ most_of o
unfolding busy
busy_le o ok = omega (arith, below_le (face_of o) ok (face_of o).ports, toil_le o)

all_le : (os : List ObjState) (d : ObjState) → ((k : ℕ) → FaceOk (face_of (get_or os k d))) → sum_by (λ (o : ObjState). busy (face_of o)) os ≤ sum_by most_of os
all_le [] d h = omega arith
all_le (o ∷ os) d h = omega (arith, busy_le o (h 0), all_le os d (λ k. h (suc k)), sum_by-cons (λ (q : ObjState). busy (face_of q)) o os, sum_by-cons most_of o os)

module _ (y : MemoryView) (memory : MemoryLaws y) (ram : ℕ) (s : Sys) (n t : ℕ) (e : Due) (h : IsSoundOver y ram s []) (once : HoldsSlotsOnce s.pending) (there : slice_get s.pending n ≡ Some e) (most : ℕ) (room : sum_by most_of s.objects + 12 ≤ most) where
  abbrev start : Sys
  start = taken_out s n t

  before : IsBefore ram start [] Clear e.owner.0 (wakes.Event e.slot)
  before = record {
    parts = h.net.parts;
    wired = h.net.wired;
    net = h.net.net;
    due = mine y memory ram s n t e h once there;
    others = others y memory ram s n t e h once there;
    fired = λ m c. (let o : e.slot ≡ record { 0 = m } = cc c in subst (λ (z : SlotNo). (faces s e.owner.0).due z.0 ≡ true) o (fired y memory ram s n t e h once there));
    sent = tt;
    routed = h.net.routed;
    placed = tt;
  }

  pub here : e.owner.0 < length s.objects
  here = due_there s e.owner.0 e.slot.0 (fired y memory ram s n t e h once there)

  k : Keeps start.routes ram (faces start e.owner.0) (wakes.Event e.slot) (step_at start e.owner.0 (wakes.Event e.slot))
  k = keeps wakes_hold ram start [] e.owner.0 (wakes.Event e.slot) Clear Clear before here
      (pays_none (peer_in s.wires) (faces start) h.net.wired e.owner.0 (wakes.Event e.slot) (step_at start e.owner.0 (wakes.Event e.slot)).answer (λ r. (refl, refl, refl, refl)))

  pub begun : (let d : Delivery = record { sys = start; items = []; entries = [] } in Handled y ram d (event_begun start e) (step_at start e.owner.0 (wakes.Event e.slot)).moves)
  begun = event_handled wakes_hold y memory ram start [] e.owner.0 e.slot (record {
    cpu = h.program.cpu;
    mind = h.program.mind;
    here = h.program.here;
    alone = h.program.alone;
    kinds = h.program.kinds;
    kept = (memory.timed ram s n t h.program.kept).kept;
    size = ap length (memory.timed ram s n t h.program.kept).same ∙ h.program.size;
    owes = h.program.owes;
    fits = h.program.fits;
    at_once = h.program.at_once;
    in_time = h.program.in_time;
    mapped = h.program.mapped;
    senders = h.program.senders;
  })
      h.net.parts h.net.wired h.net.net h.net.routed (fired y memory ram s n t e h once there) (mine y memory ram s n t e h once there) (others y memory ram s n t e h once there)

  pub fuel_enough : fuel_of (event_begun start e).sys (event_begun start e).items ≤ most
  fuel_enough =
      let r = step_at start e.owner.0 (wakes.Event e.slot) in
      omega (arith, room, all_le (event_begun start e).sys.objects (Blank kinds.AtomicCpu) begun.sound.net.net.faces, sum_by-set most_of s.objects e.owner.0 r.state (Blank kinds.AtomicCpu) here, k.law.ports, k.spends.light, toil_le (object_at s e.owner.0), weight-sent e.owner.0 r.acts)
