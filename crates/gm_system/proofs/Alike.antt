-- A machine between two events whose parts change in nothing that others see, but for which events are due and for memory's bytes.
use Rattle.std.proofs.Common.{◌≡◌, ℕ, suc, Bool, IsTrue, List, [], ◌∷◌, ◌++◌, refl, sym, ◌∙◌, ap, subst, arith, Option, Some, None, length, get_or, sum_by}
use Rattle.std.proofs.lemmas.List.Sums.{sum_by-cons}
use Rattle.ev_queue.specs.declared.slot.Slot.{Slot}
use Rattle.ev_queue.specs.PendingList.{IsInServiceOrder, HoldsSlotsOnce, is_pending}
use Rattle.gm_words.specs.Platform.{End}
use Rattle.gm_words.specs.Routes.{Route, is_unmapped}
use Rattle.gm_words.specs.Slots.{gave_from}
use Rattle.gm_words.specs.declared.kind.Kind.TheVariants as kinds
use Rattle.pkt_pool.specs.declared.packet.Packet.{Packet}
use Rattle.gm_model.specs.ObjState.{ObjState, Blank, object_of, slots_of}
use Rattle.gm_model.specs.Sys.{Sys, object_at, peer_in}
use Rattle.gm_model.specs.View.{packets_in, part_packets, all_packets, program_state}
use Rattle.gm_laws.specs.Bounds.{IsWithin}
use Rattle.gm_laws.specs.Face.{Face, FaceOk}
use Rattle.gm_laws.specs.Faces.{face_of, IsOk}
use Rattle.gm_laws.specs.Program.{core, bad}
use Rattle.gm_laws.specs.Words.{weigh}
use Rattle.gm_laws.proofs.EachKind.{face_packets}
use Rattle.gm_system.specs.Machine.{HasSoundParts, most_of}
use Rattle.gm_system.specs.Net.{Net, Clear, IsWired}
use Rattle.gm_system.specs.System.{IsSound, IsStored, IsRouted, IsWiredAlike, faces}
use Rattle.gm_system.proofs.Stores.{stored_view, stored_state}
use Rattle.gm_system.proofs.Thoughts.{state_with}

-- of two parts
pub record IsPartAlike (rs : List Route) (ram : ℕ) (o p : ObjState) : Type 0 where
  pub face : face_of p ≡ (let f : Face = face_of o in record f { due = (face_of p).due; memory = (face_of p).memory })
  pub ok : IsOk rs ram o → IsOk rs ram p
  pub within : IsWithin o → IsWithin p
  pub object : object_of p ≡ object_of o
  pub slots : slots_of p ≡ slots_of o

-- of two machines: the parts, with which of their events are pending, and where memory is
pub record IsAlike (ram : ℕ) (s t : Sys) : Type 0 where
  pub wiring : IsWiredAlike s t
  pub count : length t.objects ≡ length s.objects
  pub parts : (k : ℕ) → IsPartAlike s.routes ram (object_at s k) (object_at t k)
  pub due : (k n : ℕ) → (faces t k).due n ≡ is_pending t.pending k n
  pub order : IsInServiceOrder t.pending
  pub once : HoldsSlotsOnce t.pending
  pub next : t.next ≡ s.next
  pub counts : t.counts ≡ s.counts
  pub numbers : t.tick ≡ s.tick

face_ok : (f : Face) (d : ℕ → Bool) (m : Option (List ℕ)) → FaceOk f → (let g : Face = record f { due = d; memory = m } in FaceOk g)
face_ok f d m h = record { bits = h.bits; within = h.within; offers_one = h.offers_one; lists = h.lists; holds = h.holds; portless = h.portless }

same_packets : (os ps : List ObjState) (d : ObjState) → length ps ≡ length os → ((k : ℕ) → packets_in (get_or ps k d) ≡ packets_in (get_or os k d)) → part_packets ps ≡ part_packets os
same_packets [] [] d l h = refl
same_packets [] (p ∷ ps) d l h = cc l
same_packets (o ∷ os) [] d l h = cc l
same_packets (o ∷ os) (p ∷ ps) d l h = ap (λ xs. xs ++ part_packets ps) (h 0) ∙ ap (λ xs. packets_in o ++ xs) (same_packets os ps d (omega (arith, l)) (λ k. h (suc k)))

same_most : (os ps : List ObjState) (d : ObjState) → length ps ≡ length os → ((k : ℕ) → (face_of (get_or ps k d)).ports ≡ (face_of (get_or os k d)).ports) → sum_by most_of ps ≡ sum_by most_of os
same_most [] [] d l h = refl
same_most [] (p ∷ ps) d l h = cc l
same_most (o ∷ os) [] d l h = cc l
same_most (o ∷ os) (p ∷ ps) d l h = omega (arith, sum_by-cons most_of o os, sum_by-cons most_of p ps, h 0, same_most os ps d (omega (arith, l)) (λ k. h (suc k)))

module _ (ram : ℕ) (s t : Sys) (h : IsSound ram s []) (a : IsAlike ram s t) (memory : List ℕ) (kept : (faces t h.program.kept.store).memory ≡ Some memory) (size : length memory ≡ ram)
    (others : (k : ℕ) → (k ≡ h.program.kept.store → ⊥) → (faces t k).memory ≡ None) where
  face : (k : ℕ) → faces t k ≡ (let f : Face = faces s k in record f { due = (faces t k).due; memory = (faces t k).memory })
  face k = (a.parts k).face

  packets : part_packets t.objects ≡ part_packets s.objects
  packets = same_packets s.objects t.objects (Blank kinds.AtomicCpu) a.count
      (λ k. sym (face_packets (object_at t k)) ∙ (ap (λ (f : Face). f.packets) (face k) ∙ face_packets (object_at s k)))

  ports_at : (k : ℕ) → (faces t k).ports ≡ (faces s k).ports
  ports_at k = ap (λ (f : Face). f.ports) (face k)

  asked_at : (k p : ℕ) → (faces t k).asked p ≡ (faces s k).asked p
  asked_at k p = ap (λ (f : Face). f.asked p) (face k)

  waits_at : (k p : ℕ) → (faces t k).waits p ≡ (faces s k).waits p
  waits_at k p = ap (λ (f : Face). f.waits p) (face k)

  listed_at : (k p : ℕ) → (faces t k).listed p ≡ (faces s k).listed p
  listed_at k p = ap (λ (f : Face). f.listed p) (face k)

  sends_at : (k p : ℕ) (x : Packet) → (faces t k).sends p x ≡ (faces s k).sends p x
  sends_at k p x = ap (λ (f : Face). f.sends p x) (face k)

  net : Net (peer_in s.wires) (faces t) [] Clear
  net = record {
    faces = λ k. subst FaceOk (sym (face k)) (face_ok (faces s k) (faces t k).due (faces t k).memory (h.net.net.faces k));
    asked = λ k p. asked_at k p ∙ h.net.net.asked k p;
    waits = λ k p. omega (arith, waits_at k p, h.net.net.waits k p, listed_at (peer_in s.wires k p).part (peer_in s.wires k p).port);
    carried = λ k p x i. absurd i;
    placed = λ k p lane x l e.
        ap (λ (f : Face). f.route x) (face (peer_in s.wires k p).part) ∙ h.net.net.placed k p lane x
        (omega (arith, l, ap (λ (f : Face). f.stands lane (peer_in s.wires k p).port) (face (peer_in s.wires k p).part))) (sym (ap (λ (f : Face). f.head p) (face k)) ∙ e);
    fed = λ q lane e. (let n = h.net.net.fed q lane (sym (ap (λ (f : Face). f.hungry lane) (face q)) ∙ e) in
        record {
          port = n.port;
          pkt = n.pkt;
          head = ap (λ (f : Face). f.head (peer_in s.wires q n.port).port) (face (peer_in s.wires q n.port).part) ∙ n.head;
          there = ap (λ (f : Face). f.route n.pkt) (face q) ∙ n.there;
          comes = n.comes;
        });
  }

  wired : IsWired (peer_in s.wires) (faces t)
  wired = record {
    both = h.net.wired.both;
    real = λ k p l. omega (arith, ports_at (peer_in s.wires k p).part, h.net.wired.real k p (omega (arith, l, ports_at k)));
    apart = λ k p x l e. h.net.wired.apart k p x (omega (arith, l, ports_at k)) (sym (sends_at k p x) ∙ e);
    fit = λ k p x l e. ap (λ (f : Face). f.admits (peer_in s.wires k p).port x) (face (peer_in s.wires k p).part) ∙ h.net.wired.fit k p x (omega (arith, l, ports_at k)) (sym (sends_at k p x) ∙ e);
    depth = h.net.wired.depth;
    falls = λ k p x l g e. h.net.wired.falls k p x (omega (arith, l, ports_at k)) (sym (ap (λ (f : Face). f.passes p) (face k)) ∙ g) (sym (sends_at k p x) ∙ e);
  }

  routed : IsRouted s.ways (faces t) h.net.wired.depth
  routed k p x g l =
      let e : End = peer_in s.ways k p in
      let m = h.net.routed k p x (sym (ap (λ (f : Face). f.instant) (face k)) ∙ g) l in
      record { deep = m.deep; there = omega (arith, m.there, ports_at e.part); fits = ap (λ (f : Face). f.admits e.port x) (face e.part) ∙ m.fits }

  -- the tables of the one are the other's
  tables : (w : IsWired (peer_in t.wires) (faces t)) × IsRouted t.ways (faces t) w.depth
  unfolding wired
  tables =
      subst (λ ways. (w : IsWired (peer_in t.wires) (faces t)) × IsRouted ways (faces t) w.depth) (sym a.wiring.ways)
      (subst (λ wires. (w : IsWired (peer_in wires) (faces t)) × IsRouted s.ways (faces t) w.depth) (sym a.wiring.wires) (wired, routed))

  all : all_packets t [] ≡ all_packets s []
  all = ap (λ xs. xs ++ []) packets

  -- the same part has RAM's bytes
  abbrev stored : IsStored ram t
  stored = record {
    store = h.program.kept.store;
    memory = memory;
    kept = kept;
    one_store = others;
    plain = λ k. ap (λ (f : Face). f.caches) (face k) ∙ h.program.kept.plain k;
  }

  -- it is sound too
  pub alike_sound : IsSound ram t []
  alike_sound = record {
    net = record {
      parts = λ k. subst (λ rs. IsOk rs ram (object_at t k)) (sym a.wiring.routes) ((a.parts k).ok (h.net.parts k));
      wired = tables.0;
      net = subst (λ w. Net (peer_in w) (faces t) [] Clear) (sym a.wiring.wires) net;
      due = a.due;
      sent = tt;
      routed = tables.1;
      placed = tt;
    };
    program = record {
      cpu = h.program.cpu;
      mind = h.program.mind;
      here = ap (λ (f : Face). f.mind) (face h.program.cpu) ∙ h.program.here;
      alone = λ k n. ap (λ (f : Face). f.mind) (face k) ∙ h.program.alone k n;
      kinds = λ k n c i. ap (λ (f : Face). f.instant) (face k) ∙ h.program.kinds k n (sym (ap (λ (f : Face). f.cpu) (face k)) ∙ c) (sym (ap (λ (f : Face). f.instant) (face h.program.cpu)) ∙ i);
      kept = stored;
      size = ap length (stored_view ram t stored) ∙ size;
      owes = ap (weigh core) all ∙ h.program.owes;
      fits = subst (λ rs. weigh (bad rs ram h.program.mind) (all_packets t []) ≡ 0) (sym a.wiring.routes) (ap (weigh (bad s.routes ram h.program.mind)) all ∙ h.program.fits);
      at_once = λ i. ap (weigh core) packets ∙ h.program.at_once (sym (ap (λ (f : Face). f.instant) (face h.program.cpu)) ∙ i);
      in_time = λ i. refl;
      mapped = λ x n l e. ap (λ rs. is_unmapped rs x) a.wiring.routes ∙ h.program.mapped x n l e;
      senders = refl;
    };
  }

  -- to the program nothing changed but memory
  pub alike_state : program_state t [] ≡ state_with s.routes h.program.mind (all_packets s []) memory
  unfolding alike_sound
  alike_state = stored_state ram t [] alike_sound.program ∙ (ap (λ rs. state_with rs h.program.mind (all_packets t []) memory) a.wiring.routes ∙ ap (λ xs. state_with s.routes h.program.mind xs memory) all)

  pub alike_packets : (f : Packet → ℕ) → weigh f (all_packets t []) ≡ weigh f (all_packets s [])
  alike_packets f = ap (weigh f) all

-- and its parts have their numbers, handles and limits
pub alike_parts : (ram : ℕ) (s t : Sys) (table : List Slot) → IsAlike ram s t → HasSoundParts s table → HasSoundParts t table
alike_parts ram s t table a h = record {
  numbered = λ k l. (a.parts k).object ∙ h.numbered k (omega (arith, l, a.count));
  slots = λ k l. subst (λ (xs : List ℕ). IsTrue (gave_from table k 0 xs)) (sym (a.parts k).slots) (h.slots k (omega (arith, l, a.count)));
  within = λ k. (a.parts k).within (h.within k);
  room = omega (arith, h.room, same_most s.objects t.objects (Blank kinds.AtomicCpu) a.count (λ k. ap (λ (f : Face). f.ports) (a.parts k).face));
  order = a.order;
  once = a.once;
}
