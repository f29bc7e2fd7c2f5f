-- A list of boxed parts, of which one is woken or is passed a packet.
use Rattle.std.proofs.Common.{arith, ◌≡◌, ℕ, suc, ◌+◌, ◌<◌, ◌≤◌, add-one, Bool, true, false, cond, List, ◌∷◌, length, drop, map, get_or, set, refl, sym, ◌∙◌, ap, subst, Option, Some, is_some}
use Rattle.std.proofs.Math.Seq.{drop-cons}
use Rattle.std.proofs.lemmas.List.{get_or-map, length-map, map-set}
use Rattle.ev_queue.specs.Queue.{Queue}
use Rattle.gm_words.specs.Counts.{Counts}
use Rattle.gm_words.specs.Platform.{Part, wires_of, ways_of}
use Rattle.gm_words.specs.Routes.{routes_of}
use Rattle.gm_model.specs.ObjState.{ObjState, Blank, object_of}
use Rattle.gm_model.specs.ObjectStep.{object_step, atomic_step}
use Rattle.gm_model.specs.Command.{arch_of}
use Rattle.gm_model.specs.Sys.{Sys, active_from, active_cpu, pass_at}
use Rattle.gm_model.specs.Deliver.{Delivery, deliver_wake, deliver_passed, done_at, deliver_atomic, way_latency}
use Rattle.gm_words.specs.declared.answer.Answer.{Answer}
use Rattle.gm_words.specs.declared.kind.Kind.TheVariants as kinds
use Rattle.pkt_pool.specs.declared.packet.Packet.{Packet}
use Rattle.gm_words.specs.declared.wake.Wake.{Wake}
use Rattle.gm_words.specs.declared.way.Way.{Way}
use Rattle.obj_core.specs.Events.{with_changes}
use Rattle.obj_core.specs.Out.{Out, extended}
use Rattle.rv_step.specs.declared.arch.Arch.{Arch}

module _ {X : Type 0} (f : X → ObjState) (xs : List X) (i : ℕ) (b : X) (here : i < length xs) (is : b ≡ get_or xs i b)
    (number : object_of (get_or (map f xs) i (Blank kinds.AtomicCpu)) ≡ i)
    (tick rebased : ℕ) (counts : Counts) (trace draining : Bool) (board : List Part) where
  -- what the list shows at the part's place
  pub shown_at : get_or (map f xs) i (Blank kinds.AtomicCpu) ≡ f b
  shown_at = get_or-map f xs i b (Blank kinds.AtomicCpu) here ∙ sym (ap f is)

  number_is : object_of (f b) ≡ i
  number_is = ap object_of (sym shown_at) ∙ number

  -- the machine with these parts
  abbrev pub sys_with : List X → Queue → ℕ → Sys
  sys_with ys q next = record {
    tick = tick;
    pending = q.pending;
    objects = map f ys;
    next = next;
    counts = counts;
    rebased = rebased;
    trace = trace;
    draining = draining;
    wires = wires_of board;
    ways = ways_of board;
    routes = routes_of 0 board;
  }

  -- the part was woken: it is the sender of what it asks for
  pub woken_shown : (w : Wake) (before called after : Out) (q q' : Queue) (b' : X)
      → called ≡ record before { sender = i }
      → f b' ≡ (object_step (f b) called.next w tick).state
      → q' ≡ with_changes q (f b) (object_step (f b) called.next w tick).changes
      → after ≡ extended called (object_step (f b) called.next w tick).acts (object_step (f b) called.next w tick).entries (object_step (f b) called.next w tick).next
      → (let d : Delivery = record { sys = sys_with (set xs i b') q' after.next; items = after.items; entries = after.entries } in d)
      ≡ deliver_wake (record { sys = sys_with xs q before.next; items = before.items; entries = before.entries }) i w
  woken_shown w before called after q q' b' c s e o =
      rw (map-set f xs i b', shown_at, s, e, o, c, number_is) refl

  -- and it answered as its rule says
  pub answer_shown : (w : Wake) (before called : Out) (r : Answer) → called ≡ record before { sender = i } → r ≡ (object_step (f b) called.next w tick).answer
      → r ≡ (object_step (get_or (map f xs) i (Blank kinds.AtomicCpu)) before.next w tick).answer
  answer_shown w before called r c e = rw (shown_at, e, c) refl

  -- a packet was passed to the part
  pub passed_shown : (p : Packet) (before called after : Out) (q q' : Queue) (b' : X)
      → called ≡ record before { sender = i }
      → f b' ≡ (atomic_step (f b) p tick).state
      → q' ≡ with_changes q (f b) (atomic_step (f b) p tick).changes
      → after ≡ extended called (atomic_step (f b) p tick).acts (atomic_step (f b) p tick).entries called.next
      → (let d : Delivery = record { sys = sys_with (set xs i b') q' after.next; items = after.items; entries = after.entries } in d)
      ≡ deliver_passed (record { sys = sys_with xs q before.next; items = before.items; entries = before.entries }) i p
  passed_shown p before called after q q' b' c s e o =
      rw (map-set f xs i b', shown_at, s, e, o, c, number_is) refl

-- the active CPU is the part at a place, or stands behind it
module _ {X : Type 0} (f : X → ObjState) (xs : List X) (i : ℕ) (b : X) (r : Option Arch) (t : Bool) (here : i < length xs) (is : b ≡ get_or xs i b)
    (a : r ≡ arch_of (f b)) (s : t ≡ is_some r) where
  shown_first : drop i (map f xs) ≡ f b ∷ drop (i + 1) (map f xs)
  shown_first = rw add-one (drop-cons (map f xs) i (f b) (rw length-map here) ∙ ap (λ o. o ∷ drop (suc i) (map f xs)) (get_or-map f xs i b (f b) here ∙ sym (ap f is)))

  told : active_from i (drop i (map f xs)) ≡ active_cpu (map f xs)
      → cond (is_some (arch_of (f b))) (Some i) (active_from (i + 1) (drop (i + 1) (map f xs))) ≡ active_cpu (map f xs)
  told e = let P : List ObjState → Type 0 = λ ys. active_from i ys ≡ active_cpu (map f xs) in subst P shown_first e

  pub active_here : t ≡ true → active_from i (drop i (map f xs)) ≡ active_cpu (map f xs) → Some i ≡ active_cpu (map f xs)
  active_here h e = front (is_some (arch_of (f b))) (ap (λ o. is_some o) (sym a) ∙ (sym s ∙ h)) (told e) where
    front : (c : Bool) → c ≡ true → cond c (Some i) (active_from (i + 1) (drop (i + 1) (map f xs))) ≡ active_cpu (map f xs) → Some i ≡ active_cpu (map f xs)
    front true k m = m
    front false k m = cc

  pub active_next : t ≡ false → active_from i (drop i (map f xs)) ≡ active_cpu (map f xs) → active_from (i + 1) (drop (i + 1) (map f xs)) ≡ active_cpu (map f xs)
  active_next h e = behind (is_some (arch_of (f b))) (ap (λ o. is_some o) (sym a) ∙ (sym s ∙ h)) (told e) where
    behind : (c : Bool) → c ≡ false → cond c (Some i) (active_from (i + 1) (drop (i + 1) (map f xs))) ≡ active_cpu (map f xs)
        → active_from (i + 1) (drop (i + 1) (map f xs)) ≡ active_cpu (map f xs)
    behind true k m = cc
    behind false k m = m

-- a part takes no longer than a latency may be
pub quick_passed : {X : Type 0} (f : X → ObjState) (xs : List X) (i : ℕ) (b : X) (p : Packet) (now : ℕ) (way : Way) → i < length xs → b ≡ get_or xs i b
    → way ≡ (atomic_step (f b) p now).way → way_latency (atomic_step (get_or (map f xs) i (Blank kinds.AtomicCpu)) p now).way ≤ 1000000 → way_latency way ≤ 1000000
quick_passed f xs i b p now way here is w l =
    let same : get_or (map f xs) i (Blank kinds.AtomicCpu) ≡ f b = get_or-map f xs i b (Blank kinds.AtomicCpu) here ∙ sym (ap f is) in
    omega (arith, ap way_latency w, ap (λ o. way_latency (atomic_step o p now).way) same, l)
