-- One wake of the machine keeps what holds of its ports and events, for any parts that meet the laws. No kind is named here.
use Rattle.std.proofs.Common.{◌≡◌, ℕ, ◌+◌, ◌<◌, ◌≤◌, true, false, List, [], ◌∷◌, ◌++◌, refl, sym, ◌∙◌, ap, subst, arith, ◌⊎◌, inl, inr, length, length-set, set}
use Rattle.std.proofs.lemmas.Bool.{cases_eq, cases_lt}
use Rattle.std.proofs.lemmas.List.{get_or-set_same, get_or-set_other, get_or_past}
use Rattle.ev_queue.specs.PendingList.{is_pending}
use Rattle.gm_model.specs.Deliver.{Item, Sent, Done, sent_by}
use Rattle.gm_model.specs.ObjState.{Blank}
use Rattle.gm_words.specs.Routes.{Route}
use Rattle.gm_model.specs.Stepped.{Stepped}
use Rattle.gm_words.specs.Changes.{changed, due_after}
use Rattle.gm_model.specs.Sys.{Sys, object_at, peer_in, step_at, with_object}
use Rattle.gm_words.specs.declared.act.Act.{Act}
use Rattle.gm_words.specs.declared.act.Act.TheVariants as acts
use Rattle.gm_words.specs.declared.kind.Kind.TheVariants as kinds
use Rattle.pkt_pool.specs.declared.packet.Packet.{Packet}
use Rattle.gm_words.specs.declared.wake.Wake.{Wake}
use Rattle.gm_words.specs.declared.wake.Wake.TheVariants as wakes
use Rattle.gm_laws.specs.Words.{taken}
use Rattle.gm_laws.specs.Face.{Face, Law, MayWake, TellsDue, due_before}
use Rattle.gm_system.specs.Net.{Debt, Net, IsWired, Pays}
use Rattle.gm_laws.specs.Laws.{WakesHold}
use Rattle.gm_laws.specs.Faces.{face_of, IsOk, Keeps, AllItemsOk, AllActsOk, PassOk, AllPassOk}
use Rattle.gm_system.specs.System.{IsNet, IsRouted, IsPlaced, faces}
use Rattle.gm_laws.proofs.EachKind.{blank_face}
use Rattle.gm_system.proofs.Nets.{net_woken}
use Rattle.gm_system.proofs.Debts.{may_wake}
use Rattle.gm_words.proofs.QueueLaws.{due_queue}
use Rattle.gm_system.proofs.Pending.{other_queue}

no_ports : (face_of (Blank kinds.AtomicCpu)).ports ≡ 0
no_ports = ap (λ f. f.ports) blank_face

no_due : (n : ℕ) → (face_of (Blank kinds.AtomicCpu)).due n ≡ false
no_due n = ap (λ f. f.due n) blank_face

-- a part with a port, or an event, is there
pub part_there : (s : Sys) (k p : ℕ) → p < (faces s k).ports → k < length s.objects
part_there s k p h = by (cases_lt k (length s.objects)) where
  by : (k < length s.objects) ⊎ (length s.objects ≤ k) → k < length s.objects
  by (inl b) = b
  by (inr b) = absurd (omega (arith, no_ports, ap (λ o. (face_of o).ports) (get_or_past s.objects k (Blank kinds.AtomicCpu) b)))

pub due_there : (s : Sys) (k n : ℕ) → (faces s k).due n ≡ true → k < length s.objects
due_there s k n h = by (cases_lt k (length s.objects)) where
  by : (k < length s.objects) ⊎ (length s.objects ≤ k) → k < length s.objects
  by (inl b) = b
  by (inr b) = absurd (let e : true ≡ false = sym h ∙ (ap (λ o. (face_of o).due n) (get_or_past s.objects k (Blank kinds.AtomicCpu) b) ∙ no_due n) in cc)

no_instant : (face_of (Blank kinds.AtomicCpu)).instant ≡ false
no_instant = ap (λ f. f.instant) blank_face

pub instant_there : (s : Sys) (k : ℕ) → (faces s k).instant ≡ true → k < length s.objects
instant_there s k h = by (cases_lt k (length s.objects)) where
  by : (k < length s.objects) ⊎ (length s.objects ≤ k) → k < length s.objects
  by (inl b) = b
  by (inr b) = absurd (let e : true ≡ false = sym h ∙ (ap (λ o. (face_of o).instant) (get_or_past s.objects k (Blank kinds.AtomicCpu) b) ∙ no_instant) in cc)

items-append : (xs ys : List Item) → AllItemsOk xs → AllItemsOk ys → AllItemsOk (xs ++ ys)
items-append [] ys h k = k
items-append (Sent i a ∷ xs) ys h k = (h.0, items-append xs ys h.1 k)
items-append (Done i x l ∷ xs) ys h k = (h.0, items-append xs ys h.1 k)

items-sent : (i : ℕ) (list : List Act) → AllActsOk list → AllItemsOk (sent_by i list)
items-sent i [] h = tt
items-sent i (a ∷ rest) h = (h.0, items-sent i rest h.1)

pass-change : (f g : Face) → g.instant ≡ f.instant → (a : Act) → PassOk f a → PassOk g a
pass-change f g e (acts.Atomic p x) h = (e ∙ h.0, h.1)
pass-change f g e (acts.Offer p x) h = h
pass-change f g e (acts.CallRetry p) h = h
pass-change f g e (acts.SetLine b l) h = h

hops-change : (f g : Face) → g.instant ≡ f.instant → (list : List Act) → AllPassOk f list → AllPassOk g list
hops-change f g e [] h = h
hops-change f g e (a ∷ rest) h = (pass-change f g e a h.0, hops-change f g e rest h.1)

placed-change : (f g : ℕ → Face) (n m : ℕ) → ((k : ℕ) → (g k).instant ≡ (f k).instant) → m ≡ n → (items : List Item) → IsPlaced f n items → IsPlaced g m items
placed-change f g n m e l [] h = h
placed-change f g n m e l (Sent i a ∷ rest) h = (pass-change (f i) (g i) (e i) a h.0, placed-change f g n m e l rest h.1)
placed-change f g n m e l (Done i x t ∷ rest) h = (omega (arith, h.0, l), placed-change f g n m e l rest h.1)

pub placed-append : (f : ℕ → Face) (n : ℕ) (xs ys : List Item) → IsPlaced f n xs → IsPlaced f n ys → IsPlaced f n (xs ++ ys)
placed-append f n [] ys h k = k
placed-append f n (Sent i a ∷ rest) ys h k = (h.0, placed-append f n rest ys h.1 k)
placed-append f n (Done i x t ∷ rest) ys h k = (h.0, placed-append f n rest ys h.1 k)

placed-sent : (f : ℕ → Face) (n i : ℕ) (list : List Act) → AllPassOk (f i) list → IsPlaced f n (sent_by i list)
placed-sent f n i [] h = h
placed-sent f n i (a ∷ rest) h = (h.0, placed-sent f n i rest h.1)

-- before a wake: what is pending once its event, if it is one, is taken out
pub record IsBefore (ram : ℕ) (s : Sys) (items : List Item) (d : Debt) (i : ℕ) (w : Wake) : Type 0 where
  pub parts : (k : ℕ) → IsOk s.routes ram (object_at s k)
  pub wired : IsWired (peer_in s.wires) (faces s)
  pub net : Net (peer_in s.wires) (faces s) items d
  pub due : (n : ℕ) → due_before w ((faces s i).due n) n ≡ is_pending s.pending i n
  pub others : (k n : ℕ) → (k ≡ i → ⊥) → (faces s k).due n ≡ is_pending s.pending k n
  pub fired : (n : ℕ) → w ≡ wakes.Event (record { 0 = n }) → (faces s i).due n ≡ true
  pub sent : AllItemsOk items
  pub routed : IsRouted s.ways (faces s) wired.depth
  pub placed : IsPlaced (faces s) (length s.objects) items

module _ (laws : WakesHold) (ram : ℕ) (s : Sys) (items : List Item) (i : ℕ) (w : Wake) (d e : Debt) (h : IsBefore ram s items d i w) (here : i < length s.objects)
    (pays : Pays (peer_in s.wires) (faces s) i w (step_at s i w).answer d e) where
  pub may : MayWake (faces s i) w
  may = may_wake (peer_in s.wires) (faces s) h.wired items i w (step_at s i w).answer d e h.net pays h.fired

  pub keeps : Keeps s.routes ram (faces s i) w (step_at s i w)
  keeps = laws s.routes ram (object_at s i) s.next w s.tick (h.parts i) may

-- a part is put in another state, with changes to its events
abbrev pub put : Sys → ℕ → Stepped → Sys
put s i r = record (with_object s i r.state r.changes) { next = r.next }

-- what a step owes to the ports and events
pub record NetKeeps (rs : List Route) (ram : ℕ) (f : Face) (w : Wake) (r : Stepped) : Type 0 where
  pub ok : IsOk rs ram r.state
  pub law : Law f w (face_of r.state) r.answer r.acts
  pub due : TellsDue f w (face_of r.state) r.changes
  pub acts : AllActsOk r.acts
  pub hops : AllPassOk f r.acts
  pub instant : (face_of r.state).instant ≡ f.instant

pub net_part : (rs : List Route) (ram : ℕ) (f : Face) (w : Wake) (r : Stepped) → Keeps rs ram f w r → NetKeeps rs ram f w r
net_part rs ram f w r h = record { ok = h.ok; law = h.law; due = h.due; acts = h.acts; hops = h.hops; instant = h.same.instant }

module _ (ram : ℕ) (s : Sys) (items : List Item) (i : ℕ) (w : Wake) (r : Stepped) (d e : Debt) (h : IsBefore ram s items d i w) (here : i < length s.objects)
    (ks : NetKeeps s.routes ram (faces s i) w r) (pays : Pays (peer_in s.wires) (faces s) i w r.answer d e) where
  pub at_same : object_at (put s i r) i ≡ r.state
  at_same = get_or-set_same s.objects i r.state (Blank kinds.AtomicCpu) here

  pub at_other : (k : ℕ) → (k ≡ i → ⊥) → object_at (put s i r) k ≡ object_at s k
  at_other k n = get_or-set_other s.objects i k r.state (Blank kinds.AtomicCpu) n

  pub law : Law (faces s i) w (faces (put s i r) i) r.answer r.acts
  law = subst (λ o. Law (faces s i) w (face_of o) r.answer r.acts) (sym at_same) ks.law

  -- a fact of the woken part, and of the others, is one of each
  each : (P : ℕ → Face → Face → Type 0) → P i (faces s i) (faces (put s i r) i) → ((k : ℕ) → (k ≡ i → ⊥) → P k (faces s k) (faces s k)) → (k : ℕ) → P k (faces s k) (faces (put s i r) k)
  each P mine other k = by (cases_eq k i) where
    by : (k ≡ i) ⊎ (k ≡ i → ⊥) → P k (faces s k) (faces (put s i r) k)
    by (inl c) = subst (λ j. P j (faces s j) (faces (put s i r) j)) (sym c) mine
    by (inr n) = subst (λ o. P k (faces s k) (face_of o)) (sym (at_other k n)) (other k n)

  -- who asks or waits, and isn't told, keeps its head
  pub head_same : (k p : ℕ) → 1 ≤ (faces s k).asked p + (faces s k).waits p → taken w p ≡ 0 → (faces (put s i r) k).head p ≡ (faces s k).head p
  head_same k p a z = each (λ j f g. 1 ≤ f.asked p + f.waits p → g.head p ≡ f.head p) (λ b. law.keeps p b z) (λ j n b. refl) k a

  ports_same : (k : ℕ) → (faces (put s i r) k).ports ≡ (faces s k).ports
  ports_same = each (λ j f g. g.ports ≡ f.ports) law.ports (λ j n. refl)

  sends_same : (k p : ℕ) (x : Packet) → (faces (put s i r) k).sends p x ≡ (faces s k).sends p x
  sends_same k p x = each (λ j f g. g.sends p x ≡ f.sends p x) (law.sends p x) (λ j n. refl) k

  admits_same : (k p : ℕ) (x : Packet) → (faces (put s i r) k).admits p x ≡ (faces s k).admits p x
  admits_same k p x = each (λ j f g. g.admits p x ≡ f.admits p x) (law.admits p x) (λ j n. refl) k

  passes_same : (k p : ℕ) → (faces (put s i r) k).passes p ≡ (faces s k).passes p
  passes_same k p = each (λ j f g. g.passes p ≡ f.passes p) (law.passes p) (λ j n. refl) k

  instants_same : (k : ℕ) → (faces (put s i r) k).instant ≡ (faces s k).instant
  instants_same = each (λ j f g. g.instant ≡ f.instant) (ap (λ o. (face_of o).instant) at_same ∙ ks.instant) (λ j n. refl)

  due_now : (k n : ℕ) → (faces (put s i r) k).due n ≡ is_pending (put s i r).pending k n
  due_now k n = by (cases_eq k i) where
    mine : (face_of r.state).due n ≡ is_pending (changed i s.pending r.changes) i n
    mine = ks.due n ∙ (ap (λ b. due_after r.changes b n) (h.due n) ∙ sym (due_queue i s.pending r.changes n))

    by : (k ≡ i) ⊎ (k ≡ i → ⊥) → (faces (put s i r) k).due n ≡ is_pending (put s i r).pending k n
    by (inl c) = subst (λ j. (faces (put s i r) j).due n ≡ is_pending (put s i r).pending j n) (sym c) (subst (λ o. (face_of o).due n ≡ is_pending (put s i r).pending i n) (sym at_same) mine)
    by (inr m) = ap (λ o. (face_of o).due n) (at_other k m) ∙ (h.others k n m ∙ sym (other_queue s.pending i k r.changes n (λ c. m (sym c))))

  -- one wake keeps all
  pub net_kept : IsNet ram (put s i r) (items ++ sent_by i r.acts) e
  net_kept = record {
    parts = λ k. part k (cases_eq k i);
    wired = record {
      both = h.wired.both;
      real = λ k p g. omega (arith, ports_same (peer_in s.wires k p).part, h.wired.real k p (omega (arith, ports_same k)));
      apart = λ k p x l g. h.wired.apart k p x (omega (arith, l, ports_same k)) (sym (sends_same k p x) ∙ g);
      fit = λ k p x l g. admits_same (peer_in s.wires k p).part (peer_in s.wires k p).port x ∙ h.wired.fit k p x (omega (arith, l, ports_same k)) (sym (sends_same k p x) ∙ g);
      depth = h.wired.depth;
      falls = λ k p x l g e. h.wired.falls k p x (omega (arith, l, ports_same k)) (sym (passes_same k p) ∙ g) (sym (sends_same k p x) ∙ e);
    };
    net = net_woken (peer_in s.wires) (faces s) (faces (put s i r)) h.wired i w r.answer r.acts law (λ k n. ap face_of (at_other k n)) items d e h.net pays;
    due = due_now;
    sent = items-append items (sent_by i r.acts) h.sent (items-sent i r.acts ks.acts);
    routed = λ k p x g l. (let e = peer_in s.ways k p in let m = h.routed k p x (sym (instants_same k) ∙ g) l in
        record { deep = m.deep; there = omega (arith, m.there, ports_same e.part); fits = admits_same e.part e.port x ∙ m.fits });
    placed = placed-append (faces (put s i r)) (length (set s.objects i r.state)) items (sent_by i r.acts)
        (placed-change (faces s) (faces (put s i r)) (length s.objects) (length (set s.objects i r.state)) instants_same (length-set s.objects i r.state) items h.placed)
        (placed-sent (faces (put s i r)) (length (set s.objects i r.state)) i r.acts (hops-change (faces s i) (faces (put s i r) i) (instants_same i) r.acts ks.hops));
  } where
    part : (k : ℕ) → (k ≡ i) ⊎ (k ≡ i → ⊥) → IsOk s.routes ram (object_at (put s i r) k)
    part k (inl c) = subst (λ j. IsOk s.routes ram (object_at (put s i r) j)) (sym c) (subst (IsOk s.routes ram) (sym at_same) ks.ok)
    part k (inr n) = subst (IsOk s.routes ram) (sym (at_other k n)) (h.parts k)
