-- Each item that is delivered, and each event's wake, keeps the invariant and is replayed.
use Rattle.std.proofs.Common.{◌≡◌, ℕ, ◌<◌, ◌≤◌, ◌==◌, if◌then◌else◌, Bool, true, false, List, [], ◌∷◌, ◌++◌, refl, sym, ap, subst, arith, inr, length, ne_eqb}
use Rattle.std.proofs.lemmas.List.{append_assoc}
use Rattle.gc_base.specs.declared.ids.SlotNo.{SlotNo}
use Rattle.ev_queue.specs.PendingList.{is_pending}
use Rattle.gm_model.specs.Deliver.{Item, Sent, Done, told_wake, deliver_wake, deliver_offer}
use Rattle.gm_words.specs.HartLine.{is_line}
use Rattle.pkt_pool.specs.Packet.{is_response}
use Rattle.gm_model.specs.Sys.{Sys, object_at, step_at, woken, peer_in}
use Rattle.gm_words.specs.Platform.{End}
use Rattle.gm_words.specs.declared.act.Act.TheVariants as acts
use Rattle.gm_words.specs.declared.entry.Entry.{Entry}
use Rattle.pkt_pool.specs.declared.packet.Packet.{Packet}
use Rattle.gm_words.specs.declared.wake.Wake.{Wake}
use Rattle.gm_words.specs.declared.wake.Wake.TheVariants as wakes
use Rattle.gm_laws.specs.Words.{only, weigh, IsBlind, offered_by, called_by, offer_out}
use Rattle.gm_laws.specs.Face.{Face}
use Rattle.gm_laws.specs.Faces.{IsOk}
use Rattle.gm_system.specs.Net.{Clear, Calling, Net, IsWired}
use Rattle.gm_laws.specs.Program.{core}
use Rattle.gm_system.specs.MemoryLaws.{MemoryLaws}
use Rattle.gm_system.specs.MemoryView.{MemoryView}
use Rattle.gm_system.specs.System.{IsNet, IsProgram, IsSoundOver, IsRouted, faces, others_packets, IsById, Handled}
use Rattle.gm_laws.proofs.Counts.{only_self, only_zero}
use Rattle.gm_system.proofs.Debts.{at_peer, at_back, pays_retry, pays_none}
use Rattle.gm_laws.specs.Laws.{WakesHold}
use Rattle.gm_model.specs.EventMoves.{offer_moves}
use Rattle.gm_laws.proofs.Weights.{weigh-append}
use Rattle.gm_system.proofs.Systems.{part_there, due_there}
use Rattle.gm_system.proofs.Wakes.{Comes, Woke, wake_keeps}
use Rattle.gm_system.proofs.Offers.{before_wake, offer_keeps}

-- a packet's number doesn't say where it goes
pub blind_id : (h : Packet → ℕ) → IsById h → IsBlind h
blind_id h e x stack depth = e (record x { stack = stack; depth = depth }) x refl

-- a call leaves the list
pub pop_call : (peer : ℕ → ℕ → End) (f : ℕ → Face) (wired : IsWired peer f) (rest : List Item) (i p : ℕ) → Net peer f (Sent i (acts.CallRetry (record { 0 = p })) ∷ rest) Clear
    → Net peer f rest (Calling (peer i p).part (peer i p).port)
pop_call peer f wired rest i p net = record {
  faces = net.faces;
  asked = λ k r. omega (arith, net.asked k r, only_zero i k);
  waits = λ k r. omega (arith, net.waits k r, at_back peer f wired i p k r);
  carried = λ k r y h. net.carried k r y (inr h);
  placed = net.placed;
  fed = λ q lane h. let n = net.fed q lane h in
      record { port = n.port; pkt = n.pkt; head = n.head; there = n.there; comes = omega (arith, n.comes, only_zero i (peer q n.port).part, at_peer peer f wired i p q n.port) };
}

-- an item that is about no port leaves it
pub pop_none : (peer : ℕ → ℕ → End) (f : ℕ → Face) (it : Item) (rest : List Item) → ((k p : ℕ) → (offered_by k p (it ∷ rest) ≡ offered_by k p rest) × (called_by k p (it ∷ rest) ≡ called_by k p rest))
    → Net peer f (it ∷ rest) Clear → Net peer f rest Clear
pop_none peer f it rest same net = record {
  faces = net.faces;
  asked = λ k r. omega (arith, net.asked k r, (same k r).0);
  waits = λ k r. omega (arith, net.waits k r, (same (peer k r).part (peer k r).port).1);
  carried = λ k r y h. net.carried k r y (inr h);
  placed = net.placed;
  fed = λ q lane h. let n = net.fed q lane h in
      record { port = n.port; pkt = n.pkt; head = n.head; there = n.there; comes = omega (arith, n.comes, (same (peer q n.port).part (peer q n.port).port).0, (same q n.port).1) };
}

module _ (laws : WakesHold) (y : MemoryView) (memory : MemoryLaws y) (ram : ℕ) where
  -- of a wake alone
  by_woke : (s : Sys) (before rest : List Item) (es : List Entry) (i : ℕ) (w : Wake) → Woke y ram s before rest i w
      → Handled y ram (record { sys = s; items = before; entries = es }) (deliver_wake (record { sys = s; items = rest; entries = es }) i w) (step_at s i w).moves
  by_woke s before rest es i w k = record {
    sound = record { net = k.net; program = k.step.program };
    wiring = record { wires = refl; ways = refl; routes = refl };
    replayed = record { noted = (step_at s i w).entries; entries = refl; replays = k.step.replays };
    conserved = record {
      same = λ h e. omega (arith, k.same h (blind_id h e) e, weigh-append h (step_at s i w).moves.answered (step_at s i w).moves.absorbed);
    };
  }

  pub offer_handled : (s : Sys) (rest : List Item) (es : List Entry) (i p : ℕ) (x : Packet) → IsSoundOver y ram s (Sent i (offer_out p x) ∷ rest)
      → Handled y ram (record { sys = s; items = Sent i (offer_out p x) ∷ rest; entries = es }) (deliver_offer (record { sys = s; items = rest; entries = es }) i p x (peer_in s.wires i p)) (offer_moves s i p x (peer_in s.wires i p))
  offer_handled s rest es i p x h =
      let k = offer_keeps laws y memory ram s rest i p x h.net h.program in
      let q : End = peer_in s.wires i p in
      let w : Wake = wakes.Offer (record { 0 = q.port }) x in
      let e1 : List Entry = (step_at s q.part w).entries in
      record {
        sound = record { net = k.net; program = k.step.program };
        wiring = record { wires = refl; ways = refl; routes = refl };
        replayed = record { noted = e1 ++ (step_at (woken s q.part w) i (told_wake (step_at s q.part w).answer p)).entries; entries = append_assoc es e1 _; replays = k.step.replays };
        conserved = record { same = λ f e. k.same f (blind_id f e) e };
      }

  pub call_handled : (s : Sys) (rest : List Item) (es : List Entry) (i p : ℕ) → IsSoundOver y ram s (Sent i (acts.CallRetry (record { 0 = p })) ∷ rest)
      → (let q = peer_in s.wires i p in
      Handled y ram (record { sys = s; items = Sent i (acts.CallRetry (record { 0 = p })) ∷ rest; entries = es }) (deliver_wake (record { sys = s; items = rest; entries = es }) q.part (wakes.Retry (record { 0 = q.port }))) (step_at s q.part (wakes.Retry (record { 0 = q.port }))).moves)
  call_handled s rest es i p h =
      let q : End = peer_in s.wires i p in
      let w : Wake = wakes.Retry (record { 0 = q.port }) in
      let it : Item = Sent i (acts.CallRetry (record { 0 = p })) in
      let back : peer_in s.wires q.part q.port ≡ record { part = i; port = p } = h.net.wired.both i p in
      let calls = ap (λ (t : End). called_by t.part t.port (Sent i (acts.CallRetry (record { 0 = p })) ∷ rest)) back in
      let one : 1 ≤ (faces s q.part).waits q.port = omega (arith, h.net.net.waits q.part q.port, calls, only_self i (only p p 1), only_self p 1) in
      let here = part_there s q.part q.port ((h.net.net.faces q.part).within q.port (omega (arith, one))) in
      let first : IsNet ram s rest (Calling q.part q.port) = record {
        parts = h.net.parts;
        wired = h.net.wired;
        net = pop_call (peer_in s.wires) (faces s) h.net.wired rest i p h.net.net;
        due = h.net.due;
        sent = h.net.sent.1;
        routed = h.net.routed;
        placed = h.net.placed.1;
      } in
      by_woke s (it ∷ rest) rest es q.part w
      (wake_keeps laws y memory ram s (it ∷ rest) rest q.part w (Calling q.part q.port) (before_wake ram s rest (Calling q.part q.port) q.part w first (λ b n. refl) (λ n e. cc)) here
      (pays_retry (peer_in s.wires) (faces s) h.net.wired q.part q.port (step_at s q.part w).answer) h.program (comes i p q.port h.program.cpu)) where
        comes : (i p port c : ℕ) → (let q = peer_in s.wires i p in Comes s (Sent i (acts.CallRetry (record { 0 = p })) ∷ rest) rest c q.part (wakes.Retry (record { 0 = port })))
        comes i p port c = record {
          popped = λ f a. omega arith;
          stays = λ f k. refl;
          others = less (i == c);
          done = λ n a. omega arith;
          is_done = λ x l e. cc;
          lines = λ b l e. cc;
          lone = refl;
        } where
          less : (b : Bool) → weigh core (others_packets c rest) ≤ weigh core ((if b then [] else []) ++ others_packets c rest)
          less true = omega arith
          less false = omega arith

  pub done_handled : (s : Sys) (rest : List Item) (es : List Entry) (i latency : ℕ) (x : Packet) → i < length s.objects → IsSoundOver y ram s (Done i x latency ∷ rest)
      → Handled y ram (record { sys = s; items = Done i x latency ∷ rest; entries = es }) (deliver_wake (record { sys = s; items = rest; entries = es }) i (wakes.AtomicDone x latency)) (step_at s i (wakes.AtomicDone x latency)).moves
  done_handled s rest es i latency x here h =
      let w : Wake = wakes.AtomicDone x latency in
      let it : Item = Done i x latency in
      let first : IsNet ram s rest Clear = record {
        parts = h.net.parts;
        wired = h.net.wired;
        net = pop_none (peer_in s.wires) (faces s) (Done i x latency) rest (λ k p. (refl, refl)) h.net.net;
        due = h.net.due;
        sent = h.net.sent.1;
        routed = h.net.routed;
        placed = h.net.placed.1;
      } in
      by_woke s (it ∷ rest) rest es i w
      (wake_keeps laws y memory ram s (it ∷ rest) rest i w Clear (before_wake ram s rest Clear i w first (λ b n. refl) (λ n e. cc)) here
      (pays_none (peer_in s.wires) (faces s) h.net.wired i w (step_at s i w).answer (λ r. (refl, refl, refl, refl))) h.program
      (record {
        popped = λ f a. omega arith;
        stays = λ f k. refl;
        others = less (i == h.program.cpu);
        done = λ n a. more (i == h.program.cpu) (ne_eqb i h.program.cpu n);
        is_done = λ y l e. (let o : x ≡ y = cc e in (subst (λ z. is_response z.cmd ≡ true) o h.net.sent.0, sym (ap core o)));
        lines = λ b l e. cc;
        lone = refl;
      })) where
        less : (b : Bool) → weigh core (others_packets h.program.cpu rest) ≤ weigh core ((if b then [] else x ∷ []) ++ others_packets h.program.cpu rest)
        less true = omega arith
        less false = omega arith

        more : (b : Bool) → b ≡ false → core x ≤ weigh core ((if b then [] else x ∷ []) ++ others_packets h.program.cpu rest)
        more true e = cc
        more false e = omega arith

  -- the CPU that lines go to is the one with the hart
  pub line_handled : (s : Sys) (rest : List Item) (es : List Entry) (i b : ℕ) (l : Bool) (k : ℕ) → k < length s.objects → IsSoundOver y ram s (Sent i (acts.SetLine b l) ∷ rest)
      → Handled y ram (record { sys = s; items = Sent i (acts.SetLine b l) ∷ rest; entries = es }) (deliver_wake (record { sys = s; items = rest; entries = es }) k (wakes.Line b l)) (step_at s k (wakes.Line b l)).moves
  line_handled s rest es i b l k here h =
      let w : Wake = wakes.Line b l in
      let it : Item = Sent i (acts.SetLine b l) in
      let first : IsNet ram s rest Clear = record {
        parts = h.net.parts;
        wired = h.net.wired;
        net = pop_none (peer_in s.wires) (faces s) (Sent i (acts.SetLine b l)) rest (λ j p. (omega (arith, only_zero i j), omega (arith, only_zero i j))) h.net.net;
        due = h.net.due;
        sent = h.net.sent.1;
        routed = h.net.routed;
        placed = h.net.placed.1;
      } in
      by_woke s (it ∷ rest) rest es k w
      (wake_keeps laws y memory ram s (it ∷ rest) rest k w Clear (before_wake ram s rest Clear k w first (λ b n. refl) (λ n e. cc)) here
      (pays_none (peer_in s.wires) (faces s) h.net.wired k w (step_at s k w).answer (λ r. (refl, refl, refl, refl))) h.program
      (record {
        popped = λ f a. omega arith;
        stays = λ f g. refl;
        others = less (i == h.program.cpu);
        done = λ n a. omega arith;
        is_done = λ y t e. cc;
        lines = λ c t e. (let o : b ≡ c = cc e in subst (λ z. is_line z ≡ true) o h.net.sent.0);
        lone = refl;
      })) where
        less : (c : Bool) → weigh core (others_packets h.program.cpu rest) ≤ weigh core ((if c then [] else []) ++ others_packets h.program.cpu rest)
        less true = omega arith
        less false = omega arith

  -- an event that was taken out: its slot was due, and isn't pending any more
  pub event_handled : (s : Sys) (es : List Entry) (i : ℕ) (slot : SlotNo) → IsProgram y ram s [] → ((k : ℕ) → IsOk s.routes ram (object_at s k)) → (wired : IsWired (peer_in s.wires) (faces s)) → Net (peer_in s.wires) (faces s) [] Clear → IsRouted s.ways (faces s) wired.depth
      → (faces s i).due slot.0 ≡ true → ((n : ℕ) → (if n == slot.0 then false else (faces s i).due n) ≡ is_pending s.pending i n)
      → ((k n : ℕ) → (k ≡ i → ⊥) → (faces s k).due n ≡ is_pending s.pending k n)
      → Handled y ram (record { sys = s; items = []; entries = es }) (deliver_wake (record { sys = s; items = []; entries = es }) i (wakes.Event slot)) (step_at s i (wakes.Event slot)).moves
  event_handled s es i slot v parts wired net routed due mine others =
      let w : Wake = wakes.Event slot in
      by_woke s [] [] es i w
      (wake_keeps laws y memory ram s [] [] i w Clear
      (record { parts = parts; wired = wired; net = net; due = mine; others = others; fired = λ n e. (let o : slot ≡ record { 0 = n } = cc e in subst (λ (z : SlotNo). (faces s i).due z.0 ≡ true) o due); sent = tt; routed = routed; placed = tt })
      (due_there s i slot.0 due)
      (pays_none (peer_in s.wires) (faces s) wired i w (step_at s i w).answer (λ r. (refl, refl, refl, refl))) v
      (record {
        popped = λ f a. omega arith;
        stays = λ f g. refl;
        others = omega arith;
        done = λ n a. omega arith;
        is_done = λ y t e. cc;
        lines = λ c t e. cc;
        lone = refl;
      }))
