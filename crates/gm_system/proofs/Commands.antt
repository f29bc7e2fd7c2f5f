-- A machine stays sound when all its parts are commanded, when it gets input, and when bytes are put into memory.
use Rattle.std.proofs.Common.{◌≡◌, ℕ, zero, suc, ◌+◌, ◌-◌, ◌<◌, ◌≤◌, Bool, true, false, List, [], ◌∷◌, ◌++◌, refl, sym, ◌∙◌, ap, subst, arith, Option, Some, None, ◌⊎◌, inl, inr, length, map, get_or, take, drop}
use Rattle.std.proofs.Math.ListN.{get_or-map}
use Rattle.std.proofs.lemmas.Bool.{cases_lt}
use Rattle.std.proofs.lemmas.List.{get_or_past, length-map, length-append, length-take-le, length-drop}
use Rattle.std.specs.Option.{option_map}
use Rattle.ev_queue.specs.declared.due.Due.{Due}
use Rattle.ev_queue.specs.declared.slot.Slot.{Slot}
use Rattle.ev_queue.specs.PendingList.{IsInServiceOrder, HoldsSlotsOnce, is_pending}
use Rattle.gm_words.specs.Changes.{changed, due_after}
use Rattle.gm_words.specs.Routes.{Route}
use Rattle.gm_words.specs.declared.kind.Kind.TheVariants as kinds
use Rattle.pkt_pool.specs.declared.packet.Packet.{Packet}
use Rattle.gm_laws.specs.Words.{weigh}
use Rattle.gm_words.proofs.QueueLaws.{due_queue}
use Rattle.gm_model.specs.Command.{drain_step, resume_step, with_input, with_own_bytes}
use Rattle.gm_model.specs.Memory.{with_bytes_at}
use Rattle.gm_model.specs.ObjState.{ObjState, Blank, object_of}
use Rattle.gm_model.specs.Start.{commanded, commanded_events, drain_begun, resumed_state, with_raw}
use Rattle.gm_model.specs.Stepped.{Commanded}
use Rattle.gm_model.specs.Sys.{Sys, object_at}
use Rattle.gm_model.specs.View.{own_ram, program_state, all_packets}
use Rattle.gm_laws.specs.Bounds.{IsWithin, latest}
use Rattle.gm_laws.specs.Commands.{IsSameBut, KeepsCommand}
use Rattle.gm_laws.specs.Face.{Face}
use Rattle.gm_laws.specs.Faces.{face_of}
use Rattle.gm_laws.proofs.Commands.{commands_hold}
use Rattle.gm_system.specs.Machine.{IsSteady, AreBetween}
use Rattle.gm_system.specs.System.{IsSound, faces}
use Rattle.gm_system.proofs.Alike.{IsPartAlike, IsAlike, alike_sound, alike_parts, alike_state, alike_packets}
use Rattle.gm_system.proofs.Bounded.{changed_once, changed_order, changed_between}
use Rattle.gm_system.proofs.Pending.{other_queue}
use Rattle.gm_system.proofs.Stores.{same_stored, stored_size, stored_state}

-- each part's changes are to its own events

-- the numbers of objects from i on
abbrev AreNumbered : ℕ → List ObjState → Type 0
AreNumbered i os = (m : ℕ) → m < length os → object_of (get_or os m (Blank kinds.AtomicCpu)) ≡ i + m

abbrev NoneBlank : (ObjState → Commanded) → Type 0
NoneBlank f = ((f (Blank kinds.AtomicCpu)).changes ≡ []) × ((f (Blank kinds.AtomicCpu)).state ≡ Blank kinds.AtomicCpu)

module _ (f : ObjState → Commanded) where
  -- the events of an object that isn't among them
  pending-else : (os : List ObjState) (es : List Due) (i j n : ℕ) → AreNumbered i os → (j < i) ⊎ (i + length os ≤ j) → is_pending (commanded_events f os es) j n ≡ is_pending es j n
  pending-else [] es i j n num out = refl
  pending-else (o ∷ os) es i j n num out =
      pending-else os (changed (object_of o) es (f o).changes) (i + 1) j n (λ m l. num (suc m) (omega (arith, l)) ∙ omega arith) (beyond out)
      ∙ other_queue es (object_of o) j (f o).changes n (apart out) where
        beyond : (j < i) ⊎ (i + length (o ∷ os) ≤ j) → (j < i + 1) ⊎ (i + 1 + length os ≤ j)
        beyond (inl l) = inl (omega (arith, l))
        beyond (inr l) = inr (omega (arith, l))

        apart : (j < i) ⊎ (i + length (o ∷ os) ≤ j) → object_of o ≡ j → ⊥
        apart (inl l) e = absurd (omega (arith, l, e, num 0 (omega arith)))
        apart (inr l) e = absurd (omega (arith, l, e, num 0 (omega arith)))

  -- those of one that is
  pending-own : (os : List ObjState) (es : List Due) (i k n : ℕ) → AreNumbered i os → k < length os
      → is_pending (commanded_events f os es) (i + k) n ≡ due_after (f (get_or os k (Blank kinds.AtomicCpu))).changes (is_pending es (i + k) n) n
  pending-own [] es i k n num l = absurd (omega (arith, l))
  pending-own (o ∷ os) es i zero n num l =
      let at : object_of o ≡ i + 0 = num 0 (omega arith) in
      pending-else os (changed (object_of o) es (f o).changes) (i + 1) (i + 0) n (λ m l. num (suc m) (omega (arith, l)) ∙ omega arith) (inl (omega arith))
      ∙ subst (λ j. is_pending (changed (object_of o) es (f o).changes) j n ≡ due_after (f o).changes (is_pending es j n) n) at (due_queue (object_of o) es (f o).changes n)
  pending-own (o ∷ os) es i (suc k) n num l =
      let at : object_of o ≡ i + 0 = num 0 (omega arith) in
      let j : i + suc k ≡ i + 1 + k = omega arith in
      subst (λ q. is_pending (commanded_events f (o ∷ os) es) q n ≡ due_after (f (get_or os k (Blank kinds.AtomicCpu))).changes (is_pending es q n) n) (sym j)
      (pending-own os (changed (object_of o) es (f o).changes) (i + 1) k n (λ m l. num (suc m) (omega (arith, l)) ∙ omega arith) (omega (arith, l))
      ∙ ap (λ b. due_after (f (get_or os k (Blank kinds.AtomicCpu))).changes b n) (other_queue es (object_of o) (i + 1 + k) (f o).changes n (λ e. absurd (omega (arith, e, at)))))

  commanded_once : (os : List ObjState) (es : List Due) → HoldsSlotsOnce es → HoldsSlotsOnce (commanded_events f os es)
  commanded_once [] es h = h
  commanded_once (o ∷ os) es h = commanded_once os (changed (object_of o) es (f o).changes) (changed_once (object_of o) es (f o).changes h)

  commanded_order : (os : List ObjState) (es : List Due) → IsInServiceOrder es → IsInServiceOrder (commanded_events f os es)
  commanded_order [] es h = h
  commanded_order (o ∷ os) es h = commanded_order os (changed (object_of o) es (f o).changes) (changed_order (object_of o) es (f o).changes h)

  pub commanded_between : (os : List ObjState) (es : List Due) (now low high : ℕ) → ((o : ObjState) → KeepsCommand o now (f o)) → ((m : ℕ) → IsWithin (get_or os m (Blank kinds.AtomicCpu))) → low ≤ now → latest now ≤ high
      → AreBetween low high es → AreBetween low high (commanded_events f os es)
  commanded_between [] es now low high k w l m h = h
  commanded_between (o ∷ os) es now low high k w l m h =
      commanded_between os (changed (object_of o) es (f o).changes) now low high k (λ j. w (suc j)) l m (changed_between low high now (object_of o) es (f o).changes l m ((k o).timely (w 0)) h)

-- a part is the same to others
same_alike : (rs : List Route) (ram : ℕ) (o p : ObjState) → IsSameBut o p → IsPartAlike rs ram o p
same_alike rs ram o p h = record {
  face = h.face ∙ sym (ap (λ (m : Option (List ℕ)). let f : Face = face_of o in let g : Face = record f { due = (face_of p).due; memory = m } in g) (ap (λ (f : Face). f.memory) h.face));
  ok = h.ok rs ram;
  within = h.within;
  object = h.object;
  slots = h.slots;
}

module _ (s : Sys) (table : List Slot) (h : IsSteady s table) where
  number_all : AreNumbered 0 s.objects
  number_all = λ m l. h.parts.numbered m l ∙ omega arith

  module _ (f : ObjState → Commanded) (keeps : (o : ObjState) → KeepsCommand o s.tick (f o)) (none : NoneBlank f) where
    at_all : (k : ℕ) → object_at (commanded f s) k ≡ (f (object_at s k)).state
    at_all k = subst (λ (d : ObjState). get_or (map (λ o. (f o).state) s.objects) k d ≡ (f (object_at s k)).state) none.1 (get_or-map (λ o. (f o).state) s.objects k (Blank kinds.AtomicCpu))

    commanded_alike : IsAlike h.ram s (commanded f s)
    commanded_alike = record {
      wiring = record { wires = refl; ways = refl; routes = refl };
      count = length-map s.objects (λ o. (f o).state);
      parts = λ k. subst (IsPartAlike s.routes h.ram (object_at s k)) (sym (at_all k)) (same_alike s.routes h.ram (object_at s k) (f (object_at s k)).state (keeps (object_at s k)).same);
      due = λ k n. due k n (cases_lt k (length s.objects));
      order = commanded_order f s.objects s.pending h.parts.order;
      once = commanded_once f s.objects s.pending h.parts.once;
      next = refl;
      counts = refl;
      numbers = refl;
    } where
      zero_more : (k : ℕ) → 0 + k ≡ k
      zero_more k = omega arith

      due : (k n : ℕ) → (k < length s.objects) ⊎ (length s.objects ≤ k) → (faces (commanded f s) k).due n ≡ is_pending (commanded_events f s.objects s.pending) k n
      due k n (inl l) =
          let own : is_pending (commanded_events f s.objects s.pending) k n ≡ due_after (f (object_at s k)).changes (is_pending s.pending k n) n = subst (λ j. is_pending (commanded_events f s.objects s.pending) j n ≡ due_after (f (object_at s k)).changes (is_pending s.pending j n) n) (zero_more k) (pending-own f s.objects s.pending 0 k n number_all l) in
          ap (λ o. (face_of o).due n) (at_all k) ∙ ((keeps (object_at s k)).due n
          ∙ (ap (λ b. due_after (f (object_at s k)).changes b n) (h.sound.net.due k n) ∙ sym own))
      due k n (inr l) =
          let blank : object_at s k ≡ Blank kinds.AtomicCpu = get_or_past s.objects k (Blank kinds.AtomicCpu) l in
          let same : (f (object_at s k)).state ≡ object_at s k = ap (λ o. (f o).state) blank ∙ (none.1 ∙ sym blank) in
          ap (λ o. (face_of o).due n) (at_all k ∙ same) ∙ (h.sound.net.due k n ∙ sym (pending-else f s.objects s.pending 0 k n number_all (inr (omega (arith, l)))))

    memory_same : (k : ℕ) → (faces (commanded f s) k).memory ≡ (faces s k).memory
    memory_same k = ap (λ o. (face_of o).memory) (at_all k) ∙ ap (λ (g : Face). g.memory) (keeps (object_at s k)).same.face

    commanded_sound : IsSound h.ram (commanded f s) []
    commanded_sound = alike_sound h.ram s (commanded f s) h.sound commanded_alike h.sound.program.kept.memory (memory_same h.sound.program.kept.store ∙ h.sound.program.kept.kept) (stored_size h.ram s [] h.sound.program) (λ k n. memory_same k ∙ h.sound.program.kept.one_store k n)

    pub commanded_steady : IsSteady (commanded f s) table
    commanded_steady = record { ram = h.ram; sound = commanded_sound; parts = alike_parts h.ram s (commanded f s) table commanded_alike h.parts; numbers = h.numbers; counts = h.counts }

    pub commanded_state : program_state (commanded f s) [] ≡ program_state s []
    commanded_state =
        alike_state h.ram s (commanded f s) h.sound commanded_alike h.sound.program.kept.memory (memory_same h.sound.program.kept.store ∙ h.sound.program.kept.kept) (stored_size h.ram s [] h.sound.program) (λ k n. memory_same k ∙ h.sound.program.kept.one_store k n)
        ∙ sym (stored_state h.ram s [] h.sound.program)

    pub commanded_packets : (g : Packet → ℕ) → weigh g (all_packets (commanded f s) []) ≡ weigh g (all_packets s [])
    commanded_packets g =
        alike_packets h.ram s (commanded f s) h.sound commanded_alike h.sound.program.kept.memory (memory_same h.sound.program.kept.store ∙ h.sound.program.kept.kept) (stored_size h.ram s [] h.sound.program) (λ k n. memory_same k ∙ h.sound.program.kept.one_store k n) g

-- whether it is draining doesn't matter to the rest
set_draining : (s : Sys) (table : List Slot) (b : Bool) → IsSteady s table → IsSteady (record s { draining = b }) table
set_draining s table b h = record {
  ram = h.ram;
  sound = record {
    net = record { parts = h.sound.net.parts; wired = h.sound.net.wired; net = h.sound.net.net; due = h.sound.net.due; sent = tt; routed = h.sound.net.routed; placed = tt };
    program = (let p = h.sound.program in record {
      cpu = p.cpu;
      mind = p.mind;
      here = p.here;
      alone = p.alone;
      kinds = p.kinds;
      kept = same_stored h.ram s (record s { draining = b }) refl p.kept;
      size = p.size;
      owes = p.owes;
      fits = p.fits;
      at_once = p.at_once;
      in_time = p.in_time;
      mapped = p.mapped;
      senders = p.senders;
    });
  };
  parts = record { numbered = h.parts.numbered; slots = h.parts.slots; within = h.parts.within; room = h.parts.room; order = h.parts.order; once = h.parts.once };
  numbers = h.numbers;
  counts = h.counts;
}

-- all parts are asked to drain, and go on
pub drained_steady : (s : Sys) (table : List Slot) → IsSteady s table → IsSteady (drain_begun s) table
drained_steady s table h = set_draining (commanded drain_step s) table true (commanded_steady s table h drain_step (λ o. commands_hold.drain o s.tick) (refl, refl))

pub resumed_steady : (s : Sys) (table : List Slot) → IsSteady s table → IsSteady (resumed_state s) table
resumed_steady s table h = set_draining (commanded (λ o. resume_step o s.tick) s) table false (commanded_steady s table h (λ o. resume_step o s.tick) (λ o. commands_hold.resume o s.tick) (refl, refl))

pub drained_state : (s : Sys) (table : List Slot) → IsSteady s table → program_state (drain_begun s) [] ≡ program_state s []
drained_state s table h = commanded_state s table h drain_step (λ o. commands_hold.drain o s.tick) (refl, refl)

pub resumed_program : (s : Sys) (table : List Slot) → IsSteady s table → program_state (resumed_state s) [] ≡ program_state s []
resumed_program s table h = commanded_state s table h (λ o. resume_step o s.tick) (λ o. commands_hold.resume o s.tick) (refl, refl)

pub drained_packets : (s : Sys) (table : List Slot) → IsSteady s table → (g : Packet → ℕ) → weigh g (all_packets (drain_begun s) []) ≡ weigh g (all_packets s [])
drained_packets s table h g = commanded_packets s table h drain_step (λ o. commands_hold.drain o s.tick) (refl, refl) g

pub resumed_packets : (s : Sys) (table : List Slot) → IsSteady s table → (g : Packet → ℕ) → weigh g (all_packets (resumed_state s) []) ≡ weigh g (all_packets s [])
resumed_packets s table h g = commanded_packets s table h (λ o. resume_step o s.tick) (λ o. commands_hold.resume o s.tick) (refl, refl) g

-- the machine gets a byte of input
module _ (s : Sys) (table : List Slot) (b : ℕ) (h : IsSteady s table) where
  abbrev pub fed : Sys
  fed = record s { objects = map (with_input b) s.objects }

  input_at : (k : ℕ) → object_at (record s { objects = map (with_input b) s.objects }) k ≡ with_input b (object_at s k)
  input_at k = get_or-map (with_input b) s.objects k (Blank kinds.AtomicCpu)

  input_alike : IsAlike h.ram s (record s { objects = map (with_input b) s.objects })
  input_alike = record {
    wiring = record { wires = refl; ways = refl; routes = refl };
    count = length-map s.objects (with_input b);
    parts = λ k. subst (IsPartAlike s.routes h.ram (object_at s k)) (sym (input_at k)) (same_alike s.routes h.ram (object_at s k) (with_input b (object_at s k)) (commands_hold.input (object_at s k) b));
    due = λ k n. ap (λ o. (face_of o).due n) (input_at k) ∙ (commands_hold.input_due (object_at s k) b n ∙ h.sound.net.due k n);
    order = h.parts.order;
    once = h.parts.once;
    next = refl;
    counts = refl;
    numbers = refl;
  }

  input_memory : (k : ℕ) → (faces (record s { objects = map (with_input b) s.objects }) k).memory ≡ (faces s k).memory
  input_memory k = ap (λ o. (face_of o).memory) (input_at k) ∙ ap (λ (g : Face). g.memory) (commands_hold.input (object_at s k) b).face

  pub input_steady : IsSteady (record s { objects = map (with_input b) s.objects }) table
  input_steady = record {
    ram = h.ram;
    sound = alike_sound h.ram s (record s { objects = map (with_input b) s.objects }) h.sound input_alike h.sound.program.kept.memory (input_memory h.sound.program.kept.store ∙ h.sound.program.kept.kept) (stored_size h.ram s [] h.sound.program) (λ k n. input_memory k ∙ h.sound.program.kept.one_store k n);
    parts = alike_parts h.ram s (record s { objects = map (with_input b) s.objects }) table input_alike h.parts;
    numbers = h.numbers;
    counts = h.counts;
  }

  pub input_state : program_state (record s { objects = map (with_input b) s.objects }) [] ≡ program_state s []
  input_state =
      alike_state h.ram s (record s { objects = map (with_input b) s.objects }) h.sound input_alike h.sound.program.kept.memory (input_memory h.sound.program.kept.store ∙ h.sound.program.kept.kept) (stored_size h.ram s [] h.sound.program) (λ k n. input_memory k ∙ h.sound.program.kept.one_store k n)
      ∙ sym (stored_state h.ram s [] h.sound.program)

  pub input_packets : (g : Packet → ℕ) → weigh g (all_packets (record s { objects = map (with_input b) s.objects }) []) ≡ weigh g (all_packets s [])
  input_packets g =
      alike_packets h.ram s (record s { objects = map (with_input b) s.objects }) h.sound input_alike h.sound.program.kept.memory (input_memory h.sound.program.kept.store ∙ h.sound.program.kept.kept) (stored_size h.ram s [] h.sound.program) (λ k n. input_memory k ∙ h.sound.program.kept.one_store k n) g

-- events are traced, or not
module _ (s : Sys) (table : List Slot) (on : Bool) (h : IsSteady s table) where
  trace_alike : IsAlike h.ram s (record s { trace = on })
  trace_alike = record {
    wiring = record { wires = refl; ways = refl; routes = refl };
    count = refl;
    parts = λ k. record { face = refl; ok = λ o. o; within = λ w. w; object = refl; slots = refl };
    due = h.sound.net.due;
    order = h.parts.order;
    once = h.parts.once;
    next = refl;
    counts = refl;
    numbers = refl;
  }

  pub trace_steady : IsSteady (record s { trace = on }) table
  trace_steady = record {
    ram = h.ram;
    sound = alike_sound h.ram s (record s { trace = on }) h.sound trace_alike h.sound.program.kept.memory h.sound.program.kept.kept (stored_size h.ram s [] h.sound.program) h.sound.program.kept.one_store;
    parts = alike_parts h.ram s (record s { trace = on }) table trace_alike h.parts;
    numbers = h.numbers;
    counts = h.counts;
  }

-- bytes that are put into a list leave its length
pub put_size : (m : List ℕ) (at : ℕ) (bytes : List ℕ) → at + length bytes ≤ length m → length (with_bytes_at m at bytes) ≡ length m
put_size m at bytes l =
    omega (arith, l, length-append (take at m ++ bytes) (drop (at + length bytes) m), length-append (take at m) bytes, length-take-le at m (omega (arith, l)), length-drop (at + length bytes) m)

-- the bytes that memory keeps are those that the program sees
ram_there : (os : List ObjState) (i : ℕ) (m : List ℕ) → (face_of (get_or os i (Blank kinds.AtomicCpu))).memory ≡ Some m → ((k : ℕ) → (k ≡ i → ⊥) → (face_of (get_or os k (Blank kinds.AtomicCpu))).memory ≡ None) → own_ram os ≡ m
ram_there [] i m h n = absurd (let z : None ≡ Some m = sym (commands_hold.kept (Blank kinds.AtomicCpu)) ∙ h in cc)
ram_there (o ∷ os) zero m h n = ap (λ q. elim q as (λ _. List ℕ) [ None ↦ own_ram os | Some t ↦ t ]) (sym (commands_hold.kept o) ∙ h)
ram_there (o ∷ os) (suc i) m h n = ap (λ q. elim q as (λ _. List ℕ) [ None ↦ own_ram os | Some t ↦ t ]) (sym (commands_hold.kept o) ∙ n 0 (λ e. cc e)) ∙ ram_there os i m h (λ k b. n (suc k) (λ e. b (omega (arith, e))))

pub own_is : (ram : ℕ) (s : Sys) (h : IsSound ram s []) → own_ram s.objects ≡ h.program.kept.memory
own_is ram s h = ram_there s.objects h.program.kept.store h.program.kept.memory h.program.kept.kept h.program.kept.one_store

module _ (s : Sys) (table : List Slot) (address : ℕ) (bytes : List ℕ) (h : IsSteady s table) (within : address - 0x80000000 + length bytes ≤ length (own_ram s.objects)) where
  abbrev at : ℕ
  at = address - 0x80000000

  raw_at : (k : ℕ) → object_at (with_raw address bytes s) k ≡ with_own_bytes (address - 0x80000000) bytes (object_at s k)
  raw_at k = get_or-map (λ o. with_own_bytes (address - 0x80000000) bytes o) s.objects k (Blank kinds.AtomicCpu)

  put_face : (k : ℕ) → faces (with_raw address bytes s) k ≡ (let f : Face = faces s k in record f { memory = option_map (λ m. with_bytes_at m (address - 0x80000000) bytes) f.memory })
  put_face k = ap face_of (raw_at k) ∙ commands_hold.put (object_at s k) (address - 0x80000000) bytes

  raw_alike : IsAlike h.ram s (with_raw address bytes s)
  raw_alike = record {
    wiring = record { wires = refl; ways = refl; routes = refl };
    count = length-map s.objects (λ o. with_own_bytes (address - 0x80000000) bytes o);
    parts = λ k. subst (IsPartAlike s.routes h.ram (object_at s k)) (sym (raw_at k)) (record {
      face = alike (faces s k) (option_map (λ m. with_bytes_at m (address - 0x80000000) bytes) (faces s k).memory) (face_of (with_own_bytes (address - 0x80000000) bytes (object_at s k))) (commands_hold.put (object_at s k) (address - 0x80000000) bytes);
      ok = commands_hold.put_ok s.routes h.ram (object_at s k) (address - 0x80000000) bytes;
      within = commands_hold.put_within (object_at s k) (address - 0x80000000) bytes;
      object = commands_hold.put_object (object_at s k) (address - 0x80000000) bytes;
      slots = commands_hold.put_slots (object_at s k) (address - 0x80000000) bytes;
    });
    due = λ k n. ap (λ (f : Face). f.due n) (put_face k) ∙ h.sound.net.due k n;
    order = h.parts.order;
    once = h.parts.once;
    next = refl;
    counts = refl;
    numbers = refl;
  } where
    alike : (f : Face) (n : Option (List ℕ)) (g : Face) → g ≡ (let q : Face = record f { memory = n } in q) → g ≡ (let q : Face = record f { due = g.due; memory = g.memory } in q)
    alike f n g e = subst (λ (x : Face). x ≡ (let q : Face = record f { due = x.due; memory = x.memory } in q)) (sym e) refl

  memory_put : (faces (with_raw address bytes s) h.sound.program.kept.store).memory ≡ Some (with_bytes_at h.sound.program.kept.memory (address - 0x80000000) bytes)
  memory_put = ap (λ (f : Face). f.memory) (put_face h.sound.program.kept.store) ∙ ap (λ o. option_map (λ m. with_bytes_at m (address - 0x80000000) bytes) o) h.sound.program.kept.kept

  others_put : (k : ℕ) → (k ≡ h.sound.program.kept.store → ⊥) → (faces (with_raw address bytes s) k).memory ≡ None
  others_put k n = ap (λ (f : Face). f.memory) (put_face k) ∙ ap (λ o. option_map (λ m. with_bytes_at m (address - 0x80000000) bytes) o) (h.sound.program.kept.one_store k n)

  pub put_steady : IsSteady (with_raw address bytes s) table
  put_steady = record {
    ram = h.ram;
    sound = alike_sound h.ram s (with_raw address bytes s) h.sound raw_alike (with_bytes_at h.sound.program.kept.memory (address - 0x80000000) bytes) memory_put
        (put_size h.sound.program.kept.memory (address - 0x80000000) bytes (omega (arith, within, ap length (own_is h.ram s h.sound))) ∙ (stored_size h.ram s [] h.sound.program)) others_put;
    parts = alike_parts h.ram s (with_raw address bytes s) table raw_alike h.parts;
    numbers = h.numbers;
    counts = h.counts;
  }
