-- An offer is delivered: the peer's wake, and then the sender's, which does nothing for the program.
use Rattle.std.proofs.Common.{◌≡◌, ℕ, ◌+◌, ◌<◌, ◌≤◌, Bool, true, false, List, [], ◌∷◌, ◌++◌, refl, sym, ◌∙◌, ap, subst, arith, ◌==◌, if◌then◌else◌, Some, None, ◌⊎◌, inl, inr, length, length-set, set}
use Rattle.std.proofs.lemmas.Bool.{cases_eq}
use Rattle.std.proofs.lemmas.List.{append-nil}
use Rattle.gm_model.specs.Deliver.{Item, Sent, sent_by, told_wake}
use Rattle.gm_model.specs.ObjState.{Blank}
use Rattle.gm_model.specs.Stepped.{Stepped}
use Rattle.gm_words.specs.Moves.{Moves, joined}
use Rattle.gm_model.specs.Sys.{Sys, object_at, step_at, woken, peer_in}
use Rattle.gm_words.specs.Platform.{End}
use Rattle.gm_model.specs.View.{all_packets, part_packets, item_packets}
use Rattle.gm_words.specs.declared.act.Act.{Act}
use Rattle.gm_words.specs.declared.answer.Answer.{Answer}
use Rattle.gm_words.specs.declared.answer.Answer.TheVariants as answers
use Rattle.gm_words.specs.declared.entry.Entry.{Entry}
use Rattle.gm_words.specs.declared.kind.Kind.TheVariants as kinds
use Rattle.pkt_pool.specs.declared.packet.Packet.{Packet}
use Rattle.gm_words.specs.declared.wake.Wake.{Wake}
use Rattle.gm_words.specs.declared.wake.Wake.TheVariants as wakes
use Rattle.gm_laws.specs.Words.{only, weigh, IsBlind, requests_of, responses_of, told, where_taken, offer_out}
use Rattle.gm_laws.specs.Face.{Face, came_in, went_out, head_weight, passed_packets, due_before}
use Rattle.gm_laws.specs.Faces.{face_of, Keeps, SaysNothing}
use Rattle.gm_system.specs.Net.{Debt, Clear, Offering, Net, Pays, left_by}
use Rattle.gm_laws.specs.Program.{core, bad, MayThink, Mindless, Thinks}
use Rattle.gm_system.specs.MemoryLaws.{IsElse, IsStepOf, MemoryLaws}
use Rattle.gm_system.specs.MemoryView.{MemoryView, MemoryStep, MemoryRests, Shown}
use Rattle.gm_system.specs.System.{IsNet, IsProgram, faces, others_packets, IsById}
use Rattle.gm_laws.proofs.Counts.{only_self, only_zero}
use Rattle.gm_laws.proofs.Weights.{weigh-append, core_blind}
use Rattle.gm_system.proofs.Debts.{pays_offer, pays_told}
use Rattle.gm_system.proofs.Packets.{parts-set, part_le, two_parts, items-weigh, sent-weigh, others-append, others-sent, others-own, blank_packets}
use Rattle.gm_system.proofs.Programs.{Shift, Step, program_step}
use Rattle.gm_laws.specs.Laws.{WakesHold}
use Rattle.gm_system.proofs.Systems.{IsBefore, net_part, may, keeps, at_same, at_other, net_kept, part_there}
use Rattle.gm_system.proofs.Wakes.{responses_core}

-- the offer leaves the list
pop_offer : (peer : ℕ → ℕ → End) (f : ℕ → Face) (rest : List Item) (i p : ℕ) (x : Packet) → Net peer f (Sent i (offer_out p x) ∷ rest) Clear → Net peer f rest (Offering i p)
pop_offer peer f rest i p x net = record {
  faces = net.faces;
  asked = λ k r. omega (arith, net.asked k r);
  waits = λ k r. omega (arith, net.waits k r, only_zero i (peer k r).part);
  carried = λ k r y h. net.carried k r y (inr h);
  placed = net.placed;
  fed = λ q lane h. let n = net.fed q lane h in
      record { port = n.port; pkt = n.pkt; head = n.head; there = n.there; comes = omega (arith, n.comes, only_zero i q) };
}

-- before a wake that is no event
pub before_wake : (ram : ℕ) (s : Sys) (items : List Item) (d : Debt) (i : ℕ) (w : Wake) → IsNet ram s items d
    → ((b : Bool) (n : ℕ) → due_before w b n ≡ b) → ((n : ℕ) → w ≡ wakes.Event (record { 0 = n }) → ⊥) → IsBefore ram s items d i w
before_wake ram s items d i w h calm mute = record {
  parts = h.parts;
  wired = h.wired;
  net = h.net;
  due = λ n. calm ((faces s i).due n) n ∙ h.due i n;
  others = λ k n m. h.due k n;
  fired = λ n e. absurd (mute n e);
  sent = h.sent;
  routed = h.routed;
  placed = h.placed;
}

told_calm : (a : Answer) (p : ℕ) (b : Bool) (n : ℕ) → due_before (told_wake a p) b n ≡ b
told_calm answers.Taken p b n = refl
told_calm answers.Refused p b n = refl
told_calm answers.Nothing p b n = refl

told_no_event : (a : Answer) (p n : ℕ) → told_wake a p ≡ wakes.Event (record { 0 = n }) → ⊥
told_no_event answers.Taken p n e = cc
told_no_event answers.Refused p n e = cc
told_no_event answers.Nothing p n e = cc

told_one : (a : Answer) (p : ℕ) → told (told_wake a p) p ≡ 1
told_one answers.Taken p = only_self p 1
told_one answers.Refused p = only_self p 1
told_one answers.Nothing p = only_self p 1

told_in : (f : Packet → ℕ) (a b : Answer) (p : ℕ) → came_in f (told_wake a p) b ≡ 0
told_in f answers.Taken b p = refl
told_in f answers.Refused b p = refl
told_in f answers.Nothing b p = refl

told_out : (f : Packet → ℕ) (a : Answer) (k : Face) (p : ℕ) (x : Packet) → k.head p ≡ Some x → went_out f k (told_wake a p) ≡ where_taken a (f x)
told_out f answers.Taken k p x e = ap (head_weight f) e
told_out f answers.Refused k p x e = refl
told_out f answers.Nothing k p x e = ap (head_weight f) e

taken_le : (a : Answer) (n : ℕ) → where_taken a n ≤ n
taken_le answers.Taken n = omega arith
taken_le answers.Refused n = omega arith
taken_le answers.Nothing n = omega arith

-- what an offer leaves
pub record Offered (y : MemoryView) (ram : ℕ) (s t : Sys) (items later : List Item) (es : List Entry) (m : Moves) : Type 0 where
  pub net : IsNet ram t later Clear
  pub step : Step y ram s t items later es
  pub same : (h : Packet → ℕ) → IsBlind h → IsById h → weigh h (all_packets t later) + (weigh h m.answered + weigh h m.absorbed) ≡ weigh h (all_packets s items) + weigh h m.made

module _ (laws : WakesHold) (y : MemoryView) (memory : MemoryLaws y) (ram : ℕ) (s : Sys) (rest : List Item) (i p : ℕ) (x : Packet) (h : IsNet ram s (Sent i (offer_out p x) ∷ rest) Clear)
    (v : IsProgram y ram s (Sent i (offer_out p x) ∷ rest)) where
  abbrev pub q : End
  q = peer_in s.wires i p

  abbrev pub w : Wake
  w = wakes.Offer (record { 0 = (peer_in s.wires i p).port }) x

  pub asks : 1 ≤ (faces s i).asked p
  asks = omega (arith, h.net.asked i p, only_self i (only p p 1), only_self p 1)

  head : (faces s i).head p ≡ Some x
  head = h.net.carried i p x (inl refl)

  pub here : i < length s.objects
  here = part_there s i p ((h.net.faces i).within p (omega (arith, asks)))

  real : (peer_in s.wires i p).port < (faces s (peer_in s.wires i p).part).ports
  real = h.wired.real i p ((h.net.faces i).within p (omega (arith, asks)))

  pub there : (peer_in s.wires i p).part < length s.objects
  there = part_there s (peer_in s.wires i p).part (peer_in s.wires i p).port real

  sends : (faces s i).sends p x ≡ true
  sends =
      let one = (h.net.faces i).offers_one p (omega (arith, asks)) in
      let same : one.0 ≡ x = cc (one.1, head) in
      subst (λ y. (faces s i).sends p y ≡ true) same one.2

  apart : (peer_in s.wires i p).part ≡ i → ⊥
  apart = h.wired.apart i p x ((h.net.faces i).within p (omega (arith, asks))) sends

  -- the first wake
  abbrev pub r : Stepped
  r = step_at s (peer_in s.wires i p).part (wakes.Offer (record { 0 = (peer_in s.wires i p).port }) x)

  pub first : IsBefore ram s rest (Offering i p) (peer_in s.wires i p).part w
  first = before_wake ram s rest (Offering i p) (peer_in s.wires i p).part w
      (record { parts = h.parts; wired = h.wired; net = pop_offer (peer_in s.wires) (faces s) rest i p x h.net; due = h.due; sent = h.sent.1; routed = h.routed; placed = h.placed.1 })
      (λ b n. refl) (λ n e. cc)

  pub pays : Pays (peer_in s.wires) (faces s) (peer_in s.wires i p).part w r.answer (Offering i p) (left_by r.answer i p)
  pays = pays_offer (peer_in s.wires) (faces s) h.wired i p x r.answer head

  pub k : Keeps s.routes ram (faces s (peer_in s.wires i p).part) w r
  k = keeps laws ram s rest (peer_in s.wires i p).part w (Offering i p) (left_by r.answer i p) first there pays

  abbrev pub s1 : Sys
  s1 = woken s (peer_in s.wires i p).part w

  abbrev pub items1 : List Item
  items1 = rest ++ sent_by (peer_in s.wires i p).part r.acts

  net1 : IsNet ram s1 items1 (left_by r.answer i p)
  net1 = net_kept ram s rest (peer_in s.wires i p).part w r (Offering i p) (left_by r.answer i p) first there (net_part s.routes ram (faces s (peer_in s.wires i p).part) w r k) pays

  other1 : (j : ℕ) → (j ≡ (peer_in s.wires i p).part → ⊥) → object_at s1 j ≡ object_at s j
  other1 = at_other ram s rest (peer_in s.wires i p).part w r (Offering i p) (left_by r.answer i p) first there (net_part s.routes ram (faces s (peer_in s.wires i p).part) w r k) pays

  same1 : object_at s1 (peer_in s.wires i p).part ≡ r.state
  same1 = at_same ram s rest (peer_in s.wires i p).part w r (Offering i p) (left_by r.answer i p) first there (net_part s.routes ram (faces s (peer_in s.wires i p).part) w r k) pays

  -- the second
  abbrev pub w2 : Wake
  w2 = told_wake r.answer p

  abbrev pub r2 : Stepped
  r2 = step_at s1 i w2

  pub here1 : i < length s1.objects
  here1 = omega (arith, here, length-set s.objects (peer_in s.wires i p).part r.state)

  pub second : IsBefore ram s1 items1 (left_by r.answer i p) i w2
  second = before_wake ram s1 items1 (left_by r.answer i p) i w2 net1 (told_calm r.answer p) (told_no_event r.answer p)

  pub pays2 : Pays (peer_in s1.wires) (faces s1) i w2 r2.answer (left_by r.answer i p) Clear
  pays2 = pays_told (peer_in s1.wires) (faces s1) net1.wired i p r.answer r2.answer

  pub k2 : Keeps s1.routes ram (faces s1 i) w2 r2
  k2 = keeps laws ram s1 items1 i w2 (left_by r.answer i p) Clear second here1 pays2

  quiet2 : SaysNothing (faces s1 i) r2
  quiet2 = k2.quiet p (omega (arith, told_one r.answer p))

  abbrev pub s2 : Sys
  s2 = woken s1 i w2

  abbrev pub items2 : List Item
  items2 = items1 ++ sent_by i r2.acts

  net2 : IsNet ram s2 items2 Clear
  net2 = net_kept ram s1 items1 i w2 r2 (left_by r.answer i p) Clear second here1 (net_part s1.routes ram (faces s1 i) w2 r2 k2) pays2

  other2 : (j : ℕ) → (j ≡ i → ⊥) → object_at s2 j ≡ object_at s1 j
  other2 = at_other ram s1 items1 i w2 r2 (left_by r.answer i p) Clear second here1 (net_part s1.routes ram (faces s1 i) w2 r2 k2) pays2

  same2 : object_at s2 i ≡ r2.state
  same2 = at_same ram s1 items1 i w2 r2 (left_by r.answer i p) Clear second here1 (net_part s1.routes ram (faces s1 i) w2 r2 k2) pays2

  at_peer2 : object_at s2 (peer_in s.wires i p).part ≡ r.state
  at_peer2 = other2 (peer_in s.wires i p).part apart ∙ same1

  sender1 : object_at s1 i ≡ object_at s i
  sender1 = other1 i (λ e. apart (sym e))

  head1 : (faces s1 i).head p ≡ Some x
  head1 = ap (λ o. (face_of o).head p) sender1 ∙ head

  -- the packets of both
  out : (f : Packet → ℕ) → IsBlind f → weigh f (faces s1 i).packets ≡ weigh f k2.conserves.kept + where_taken r.answer (f x)
  out f b =
      omega (
        arith,
        k2.conserves.before f b,
        told_in f r.answer r2.answer p,
        told_out f r.answer (faces s1 i) p x head1,
        ap (λ (m : Moves). weigh f m.answered) quiet2.moves,
        ap (λ (m : Moves). weigh f m.absorbed) quiet2.moves,
        ap (λ (m : Moves). weigh f (requests_of m.served)) quiet2.moves,
      )

  left : (f : Packet → ℕ) → IsBlind f → weigh f (face_of r2.state).packets ≡ weigh f k2.conserves.kept
  left f b =
      omega (arith, k2.conserves.after f b, ap (weigh f) quiet2.passed, ap (λ (m : Moves). weigh f m.made) quiet2.moves, ap (λ (m : Moves). weigh f (responses_of m.served)) quiet2.moves)

  parts1 : (f : Packet → ℕ) → weigh f (part_packets s1.objects) + weigh f (faces s (peer_in s.wires i p).part).packets ≡ weigh f (part_packets s.objects) + weigh f (face_of r.state).packets
  parts1 f = parts-set f s.objects (peer_in s.wires i p).part r.state (Blank kinds.AtomicCpu) there

  parts2 : (f : Packet → ℕ) → weigh f (part_packets s2.objects) + weigh f (faces s1 i).packets ≡ weigh f (part_packets s1.objects) + weigh f (face_of r2.state).packets
  parts2 f = parts-set f s1.objects i r2.state (Blank kinds.AtomicCpu) here1

  there2 : (peer_in s.wires i p).part < length s2.objects
  there2 = omega (arith, there, length-set s.objects (peer_in s.wires i p).part r.state, length-set s1.objects i r2.state)

  others2 : (f : Packet → ℕ) → weigh f (part_packets (set s2.objects (peer_in s.wires i p).part (Blank kinds.AtomicCpu))) + weigh f (face_of r.state).packets ≡ weigh f (part_packets s2.objects)
  others2 f = omega (arith, parts-set f s2.objects (peer_in s.wires i p).part (Blank kinds.AtomicCpu) (Blank kinds.AtomicCpu) there2, ap (weigh f) blank_packets, ap (λ o. weigh f (face_of o).packets) at_peer2)

  all_now : (f : Packet → ℕ) → weigh f (all_packets s (Sent i (offer_out p x) ∷ rest)) ≡ weigh f (part_packets s.objects) + weigh f (item_packets rest)
  all_now f = weigh-append f (part_packets s.objects) (item_packets rest)

  items_later : (f : Packet → ℕ) → weigh f (item_packets items2) ≡ weigh f (item_packets rest) + weigh f (passed_packets r.acts)
  items_later f =
      omega (arith, items-weigh f items1 (sent_by i r2.acts), sent-weigh f i r2.acts, ap (weigh f) quiet2.passed, items-weigh f rest (sent_by (peer_in s.wires i p).part r.acts), sent-weigh f (peer_in s.wires i p).part r.acts)

  all_later : (f : Packet → ℕ) → weigh f (all_packets s2 items2) ≡ weigh f (part_packets s2.objects) + weigh f (item_packets rest) + weigh f (passed_packets r.acts)
  all_later f = omega (arith, weigh-append f (part_packets s2.objects) (item_packets items2), items_later f)

  shift : Shift (all_packets s (Sent i (offer_out p x) ∷ rest)) (all_packets s2 items2) r.moves
  shift = record {
    stay = k.conserves.kept ++ (part_packets (set s2.objects (peer_in s.wires i p).part (Blank kinds.AtomicCpu)) ++ item_packets rest);
    before = λ f b. omega (arith, all_now f, parts1 f, parts2 f, others2 f, out f b, left f b, k.conserves.before f b, weigh-append f k.conserves.kept (part_packets (set s2.objects (peer_in s.wires i p).part (Blank kinds.AtomicCpu)) ++ item_packets rest), weigh-append f (part_packets (set s2.objects (peer_in s.wires i p).part (Blank kinds.AtomicCpu))) (item_packets rest));
    after = λ f b. omega (arith, all_later f, others2 f, k.conserves.after f b, weigh-append f k.conserves.kept (part_packets (set s2.objects (peer_in s.wires i p).part (Blank kinds.AtomicCpu)) ++ item_packets rest), weigh-append f (part_packets (set s2.objects (peer_in s.wires i p).part (Blank kinds.AtomicCpu))) (item_packets rest));
  }

  -- the packet is among those of its sender
  held : (f : Packet → ℕ) → f x ≤ weigh f (faces s i).packets
  held f = (h.net.faces i).holds p x (omega (arith, asks)) head f

  may_think : MayThink s.routes ram v.mind (faces s (peer_in s.wires i p).part) w
  may_think = record {
    held = omega (arith, v.fits, all_now (bad s.routes ram v.mind), part_le (bad s.routes ram v.mind) s.objects (peer_in s.wires i p).part (Blank kinds.AtomicCpu) there);
    shows = omega (arith, v.fits, all_now (bad s.routes ram v.mind), part_le (bad s.routes ram v.mind) s.objects i (Blank kinds.AtomicCpu) here, held (bad s.routes ram v.mind));
    owned = λ e. omega (arith, v.owes, all_now core, two_parts core s.objects (peer_in s.wires i p).part i (Blank kinds.AtomicCpu) there here apart, held core);
    foreign = λ e u. foreign e u (faces s v.cpu).instant refl;
    done = λ e y l o. cc;
    timed = λ e u y l o. cc;
    response = λ y l o. cc;
    lines = λ b l o. cc;
  } where
    foreign : (faces s (peer_in s.wires i p).part).mind ≡ None → (faces s (peer_in s.wires i p).part).cpu ≡ true → (b : Bool) → (faces s v.cpu).instant ≡ b → core x ≡ 0
    foreign e u true t = omega (arith, v.at_once t, part_le core s.objects i (Blank kinds.AtomicCpu) here, held core)
    foreign e u false t =
        let n : (peer_in s.wires i p).part ≡ v.cpu → ⊥ = (λ c. let z : Some v.mind ≡ None = sym v.here ∙ (ap (λ j. (faces s j).mind) (sym c) ∙ e) in cc) in
        absurd (omega (arith, real, (h.net.faces (peer_in s.wires i p).part).portless (v.kinds (peer_in s.wires i p).part n u t)))

  same_else : IsElse s s2 (peer_in s.wires i p).part (face_of r.state)
  same_else = record {
    routes = refl;
    mind = ap (λ o. (face_of o).mind) at_peer2;
    memory = ap (λ o. (face_of o).memory) at_peer2;
    minds = λ j n. minds j n (cases_eq j i);
    memories = λ j n. memories j n (cases_eq j i);
    cpus = λ j. by_cpu j (cases_eq j i) (cases_eq j (peer_in s.wires i p).part);
    instants = λ j. by_instant j (cases_eq j i) (cases_eq j (peer_in s.wires i p).part);
    caches = λ j. by_caches j (cases_eq j i) (cases_eq j (peer_in s.wires i p).part);
  } where
    minds : (j : ℕ) → (j ≡ (peer_in s.wires i p).part → ⊥) → (j ≡ i) ⊎ (j ≡ i → ⊥) → (faces s2 j).mind ≡ (faces s j).mind
    minds j n (inl e) = subst (λ t. (faces s2 t).mind ≡ (faces s t).mind) (sym e) (ap (λ o. (face_of o).mind) same2 ∙ (quiet2.mind ∙ ap (λ o. (face_of o).mind) sender1))
    minds j n (inr m) = ap (λ o. (face_of o).mind) (other2 j m ∙ other1 j n)

    memories : (j : ℕ) → (j ≡ (peer_in s.wires i p).part → ⊥) → (j ≡ i) ⊎ (j ≡ i → ⊥) → (faces s2 j).memory ≡ (faces s j).memory
    memories j n (inl e) = subst (λ t. (faces s2 t).memory ≡ (faces s t).memory) (sym e) (ap (λ o. (face_of o).memory) same2 ∙ (quiet2.memory ∙ ap (λ o. (face_of o).memory) sender1))
    memories j n (inr m) = ap (λ o. (face_of o).memory) (other2 j m ∙ other1 j n)

    by_cpu : (j : ℕ) → (j ≡ i) ⊎ (j ≡ i → ⊥) → (j ≡ (peer_in s.wires i p).part) ⊎ (j ≡ (peer_in s.wires i p).part → ⊥) → (faces s2 j).cpu ≡ (faces s j).cpu
    by_cpu j (inl e) b = subst (λ t. (faces s2 t).cpu ≡ (faces s t).cpu) (sym e) (ap (λ o. (face_of o).cpu) same2 ∙ (k2.same.cpu ∙ ap (λ o. (face_of o).cpu) sender1))
    by_cpu j (inr m) (inl e) = subst (λ t. (faces s2 t).cpu ≡ (faces s t).cpu) (sym e) (ap (λ o. (face_of o).cpu) at_peer2 ∙ k.same.cpu)
    by_cpu j (inr m) (inr n) = ap (λ o. (face_of o).cpu) (other2 j m ∙ other1 j n)

    by_instant : (j : ℕ) → (j ≡ i) ⊎ (j ≡ i → ⊥) → (j ≡ (peer_in s.wires i p).part) ⊎ (j ≡ (peer_in s.wires i p).part → ⊥) → (faces s2 j).instant ≡ (faces s j).instant
    by_instant j (inl e) b = subst (λ t. (faces s2 t).instant ≡ (faces s t).instant) (sym e) (ap (λ o. (face_of o).instant) same2 ∙ (k2.same.instant ∙ ap (λ o. (face_of o).instant) sender1))
    by_instant j (inr m) (inl e) = subst (λ t. (faces s2 t).instant ≡ (faces s t).instant) (sym e) (ap (λ o. (face_of o).instant) at_peer2 ∙ k.same.instant)
    by_instant j (inr m) (inr n) = ap (λ o. (face_of o).instant) (other2 j m ∙ other1 j n)

    by_caches : (j : ℕ) → (j ≡ i) ⊎ (j ≡ i → ⊥) → (j ≡ (peer_in s.wires i p).part) ⊎ (j ≡ (peer_in s.wires i p).part → ⊥) → (faces s2 j).caches ≡ (faces s j).caches
    by_caches j (inl e) b = subst (λ t. (faces s2 t).caches ≡ (faces s t).caches) (sym e) (ap (λ o. (face_of o).caches) same2 ∙ (k2.same.caches ∙ ap (λ o. (face_of o).caches) sender1))
    by_caches j (inr m) (inl e) = subst (λ t. (faces s2 t).caches ≡ (faces s t).caches) (sym e) (ap (λ o. (face_of o).caches) at_peer2 ∙ k.same.caches)
    by_caches j (inr m) (inr n) = ap (λ o. (face_of o).caches) (other2 j m ∙ other1 j n)

  -- what both wakes mean to memory
  is_step : IsStepOf y ram v.mind s s2 (peer_in s.wires i p).part w
  is_step = record {
    kept = v.kept;
    size = v.size;
    parts = h.parts;
    happens = Shown i p x refl refl refl;
    same = same_else;
    wake = may laws ram s rest (peer_in s.wires i p).part w (Offering i p) (left_by r.answer i p) first there pays;
    think = may_think;
  }

  recalled : (faces s (peer_in s.wires i p).part).mind ≡ None → MemoryStep y s.routes ram s s2 r.moves.served r.entries
  recalled e = memory.serves ram v.mind s s2 (peer_in s.wires i p).part w is_step (k.mindless v.mind e may_think)

  rests : (faces s (peer_in s.wires i p).part).mind ≡ Some v.mind → MemoryRests y ram s s2
  rests e = memory.rests ram v.mind s s2 (peer_in s.wires i p).part w is_step (k.thinks v.mind e may_think)

  quiet : ((peer_in s.wires i p).part ≡ v.cpu → ⊥) → Mindless s.routes ram (faces s (peer_in s.wires i p).part) (face_of r.state) r.acts r.entries r.moves
  quiet n = k.mindless v.mind (v.alone (peer_in s.wires i p).part n) may_think

  active : (peer_in s.wires i p).part ≡ v.cpu → Thinks ram v.mind (faces s (peer_in s.wires i p).part) (face_of r.state) r.acts r.entries r.moves
  active e = k.thinks v.mind (ap (λ j. (faces s j).mind) e ∙ v.here) may_think

  at_once : (faces s v.cpu).instant ≡ true → weigh core (part_packets s2.objects) ≡ 0
  at_once u = by (cases_eq (peer_in s.wires i p).part v.cpu) where
    by : ((peer_in s.wires i p).part ≡ v.cpu) ⊎ ((peer_in s.wires i p).part ≡ v.cpu → ⊥) → weigh core (part_packets s2.objects) ≡ 0
    by (inl e) = absurd (omega (arith, real, (h.net.faces (peer_in s.wires i p).part).portless (ap (λ j. (faces s j).instant) e ∙ u)))
    by (inr n) =
        let m = quiet n in
        let sv = responses_core s.routes (y.view s) (y.view s2) r.moves.served r.entries (recalled (v.alone (peer_in s.wires i p).part n)).serves in
        omega (
          arith,
          v.at_once u,
          parts1 core,
          parts2 core,
          out core core_blind,
          left core core_blind,
          part_le core s.objects (peer_in s.wires i p).part (Blank kinds.AtomicCpu) there,
          part_le core s.objects i (Blank kinds.AtomicCpu) here,
          held core,
          k.conserves.before core core_blind,
          k.conserves.after core core_blind,
          m.made,
          sv,
          taken_le r.answer (core x),
          ap (λ o. weigh core (face_of o).packets) sender1,
        )

  in_time : (faces s v.cpu).instant ≡ false → weigh core (item_packets items2) ≡ 0
  in_time u = by (cases_eq (peer_in s.wires i p).part v.cpu) where
    by : ((peer_in s.wires i p).part ≡ v.cpu) ⊎ ((peer_in s.wires i p).part ≡ v.cpu → ⊥) → weigh core (item_packets items2) ≡ 0
    by (inl e) = omega (arith, items_later core, (active e).passed (ap (λ j. (faces s j).instant) e ∙ u), v.in_time u)
    by (inr n) = omega (arith, items_later core, (quiet n).passed, v.in_time u)

  own_none : (i : ℕ) (c : ℕ) (list : List Act) → passed_packets list ≡ [] → weigh core (others_packets c (sent_by i list)) ≡ 0
  own_none i c list e = omega (arith, others-sent core c i list, ap (weigh core) e)

  none_else : (b : Bool) → weigh core (others_packets v.cpu rest) ≤ weigh core ((if b then [] else []) ++ others_packets v.cpu rest)
  none_else true = omega arith
  none_else false = omega arith

  senders : weigh core (others_packets v.cpu items2) ≡ 0
  senders = by (cases_eq (peer_in s.wires i p).part v.cpu) where
    by : ((peer_in s.wires i p).part ≡ v.cpu) ⊎ ((peer_in s.wires i p).part ≡ v.cpu → ⊥) → weigh core (others_packets v.cpu items2) ≡ 0
    by (inl e) = omega (
      arith,
      others-append core v.cpu items1 (sent_by i r2.acts),
      own_none i v.cpu r2.acts quiet2.passed,
      others-append core v.cpu rest (sent_by (peer_in s.wires i p).part r.acts),
      v.senders,
      none_else (i == v.cpu),
      subst (λ j. weigh core (others_packets v.cpu (sent_by j r.acts)) ≡ 0) (sym e) (others-own core v.cpu r.acts),
    )
    by (inr n) = omega (
      arith,
      others-append core v.cpu items1 (sent_by i r2.acts),
      own_none i v.cpu r2.acts quiet2.passed,
      others-append core v.cpu rest (sent_by (peer_in s.wires i p).part r.acts),
      v.senders,
      none_else (i == v.cpu),
      others-sent core v.cpu (peer_in s.wires i p).part r.acts,
      (quiet n).passed,
    )

  pub offer_keeps : Offered y ram s s2 (Sent i (offer_out p x) ∷ rest) items2 (r.entries ++ r2.entries) (joined r.moves r2.moves)
  offer_keeps = record {
    net = net2;
    step = subst (λ (es : List Entry). Step y ram s s2 (Sent i (offer_out p x) ∷ rest) items2 es) (sym (append-nil r.entries) ∙ ap (λ (es : List Entry). r.entries ++ es) (sym quiet2.entries))
        (program_step y ram s s2 (Sent i (offer_out p x) ∷ rest) items2 (peer_in s.wires i p).part w (face_of r.state) r.acts r.entries r.moves v same_else shift may_think
        (λ e. k.mindless v.mind e may_think) (λ e. k.thinks v.mind e may_think) recalled rests at_once in_time senders);
    same = λ f b u. omega (
      arith,
      shift.before f b,
      shift.after f b,
      k.conserves.numbers f u,
      weigh-append f r.moves.made r2.moves.made,
      weigh-append f r.moves.answered r2.moves.answered,
      weigh-append f r.moves.absorbed r2.moves.absorbed,
      ap (λ (m : Moves). weigh f m.made) quiet2.moves,
      ap (λ (m : Moves). weigh f m.answered) quiet2.moves,
      ap (λ (m : Moves). weigh f m.absorbed) quiet2.moves,
    );
  }
