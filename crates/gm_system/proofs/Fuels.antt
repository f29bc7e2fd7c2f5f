-- Each item that is delivered leaves less to do: an event comes to an end.
use Rattle.std.proofs.Common.{◌≡◌, ℕ, zero, suc, ◌+◌, ◌*◌, ◌<◌, ◌≤◌, Bool, List, [], ◌∷◌, ◌++◌, refl, ap, arith, ◌⊎◌, inl, inr, length}
use Rattle.std.proofs.lemmas.Bool.{cases_eq}
use Rattle.std.proofs.lemmas.List.Sums.{sum_by-set}
use Rattle.gc_base.specs.declared.ids.PortNo.{PortNo}
use Rattle.gm_model.specs.Deliver.{Item, Sent, Done, Delivery, sent_by, deliver_offer, told_wake}
use Rattle.gm_model.specs.ObjState.{ObjState, Blank}
use Rattle.gm_model.specs.Stepped.{Stepped}
use Rattle.gm_model.specs.Sys.{Sys, step_at, woken, peer_in}
use Rattle.gm_words.specs.Platform.{End}
use Rattle.gm_words.specs.declared.act.Act.{Act}
use Rattle.gm_words.specs.declared.act.Act.TheVariants as acts
use Rattle.gm_words.specs.declared.answer.Answer.{Answer}
use Rattle.gm_words.specs.declared.answer.Answer.TheVariants as answers
use Rattle.gm_words.specs.declared.kind.Kind.TheVariants as kinds
use Rattle.pkt_pool.specs.declared.packet.Packet.{Packet}
use Rattle.gm_words.specs.declared.wake.Wake.{Wake}
use Rattle.gm_words.specs.declared.wake.Wake.TheVariants as wakes
use Rattle.gm_laws.specs.Words.{only, offers, retry, told, taken, refused, offer_out, called_by}
use Rattle.gm_laws.specs.Face.{Face, FaceOk, Law, MayWake}
use Rattle.gm_laws.specs.Faces.{face_of}
use Rattle.gm_laws.specs.Fuel.{weight, weight_of, spend, starts, took, is_taken, busy, busy_below}
use Rattle.gm_system.specs.Net.{Debt, Clear, Calling, Pays}
use Rattle.gm_system.specs.MemoryLaws.{MemoryLaws}
use Rattle.gm_system.specs.MemoryView.{MemoryView}
use Rattle.gm_system.specs.System.{IsNet, IsSoundOver, faces, fuel_of}
use Rattle.gm_laws.proofs.Counts.{only_self, only_same, only_zero}
use Rattle.gm_system.proofs.Debts.{pays_retry, pays_none}
use Rattle.gm_laws.proofs.EachKind.{wakes_hold}
use Rattle.gm_system.proofs.Handles.{pop_call, pop_none}
use Rattle.gm_system.proofs.Offers.{before_wake, k, first, second, pays, pays2, there, here1}
use Rattle.gm_system.proofs.Systems.{IsBefore, put, may, keeps, part_there}

told_parts : (w : Wake) (p : ℕ) → told w p ≡ taken w p + refused w p
told_parts (wakes.Event s) p = omega arith
told_parts (wakes.Offer q x) p = omega arith
told_parts (wakes.Taken q) p = omega arith
told_parts (wakes.Refused q) p = omega arith
told_parts (wakes.Retry q) p = omega arith
told_parts (wakes.Line b l) p = omega arith
told_parts (wakes.AtomicDone x l) p = omega arith

abbrev taken_below : Wake → ℕ → ℕ
taken_below w zero = 0
taken_below w (suc n) = taken w n + taken_below w n

one_below : (q : PortNo) (n : ℕ) → q.0 < n → 1 ≤ taken_below (wakes.Taken q) n
one_below q zero h = absurd (omega (arith, h))
one_below q (suc n) h = by (cases_eq q.0 n) (one_below q n) where
  by : (q.0 ≡ n) ⊎ (q.0 ≡ n → ⊥) → (q.0 < n → 1 ≤ taken_below (wakes.Taken q) n) → 1 ≤ only q.0 n 1 + taken_below (wakes.Taken q) n
  by (inl e) more = omega (arith, only_same q.0 n 1 e)
  by (inr e) more = omega (arith, more (omega (arith, h, e)))

taken_once : (w : Wake) (n : ℕ) → ((q : PortNo) → w ≡ wakes.Taken q → q.0 < n) → is_taken w ≤ taken_below w n
taken_once (wakes.Event s) n h = omega arith
taken_once (wakes.Offer q x) n h = omega arith
taken_once (wakes.Taken q) n h = one_below q n (h q refl)
taken_once (wakes.Refused q) n h = omega arith
taken_once (wakes.Retry q) n h = omega arith
taken_once (wakes.Line b l) n h = omega arith
taken_once (wakes.AtomicDone x l) n h = omega arith

module _ (f g : Face) (w : Wake) (answer : Answer) (list : List Act) (most : ℕ) (ok : FaceOk f) (law : Law f w g answer list) (few : (p : ℕ) → offers p list ≤ retry w p + starts w) (light : weight list + g.toil ≤ f.toil + most)
    (calm : starts w ≡ 0) (may : MayWake f w) where
  port_falls : (p : ℕ) → g.asked p + g.waits p + taken w p ≤ f.asked p + f.waits p
  port_falls p = omega (arith, law.asked p, law.waits p, few p, told_parts w p, calm)

  below_falls : (n : ℕ) → busy_below g n + taken_below w n ≤ busy_below f n
  unfolding busy_below
  below_falls zero = omega arith
  below_falls (suc n) = omega (arith, port_falls n, below_falls n)

  taken_there : (q : PortNo) → w ≡ wakes.Taken q → q.0 < f.ports
  taken_there q e = ok.within q.0 (omega (arith, may.told q.0, ap (λ v. told v q.0) e, only_self q.0 1))

  busy_falls : busy g + weight list + 4 * is_taken w ≤ busy f + most
  unfolding busy
  busy_falls = omega (arith, below_falls f.ports, ap (busy_below g) law.ports, taken_once w f.ports taken_there, light)

pub weight-append : (xs ys : List Item) → weight_of (xs ++ ys) ≡ weight_of xs + weight_of ys
weight-append [] ys = omega arith
weight-append (Sent i a ∷ xs) ys = omega (arith, weight-append xs ys)
weight-append (Done i x l ∷ xs) ys = omega (arith, weight-append xs ys)

pub weight-sent : (i : ℕ) (list : List Act) → weight_of (sent_by i list) ≡ weight list
weight-sent i [] = refl
weight-sent i (a ∷ rest) = omega (arith, weight-sent i rest)

pub put_falls : (s : Sys) (rest : List Item) (i : ℕ) (w : Wake) (r : Stepped) (most : ℕ) → i < length s.objects → FaceOk (faces s i) → Law (faces s i) w (face_of r.state) r.answer r.acts
    → ((p : ℕ) → offers p r.acts ≤ retry w p + starts w) → weight r.acts + (face_of r.state).toil ≤ (faces s i).toil + most
    → starts w ≡ 0 → MayWake (faces s i) w → fuel_of (put s i r) (rest ++ sent_by i r.acts) + 4 * is_taken w ≤ fuel_of s rest + most
put_falls s rest i w r most here ok law few light calm may =
    omega (arith, busy_falls (faces s i) (face_of r.state) w r.answer r.acts most ok law few light calm may, sum_by-set (λ (o : ObjState). busy (face_of o)) s.objects i r.state (Blank kinds.AtomicCpu) here, weight-append rest (sent_by i r.acts), weight-sent i r.acts)

module _ (y : MemoryView) (memory : MemoryLaws y) (ram : ℕ) where
  wake_falls : (s : Sys) (rest : List Item) (i : ℕ) (w : Wake) (d e : Debt) (b : IsBefore ram s rest d i w) (here : i < length s.objects) (p : Pays (peer_in s.wires) (faces s) i w (step_at s i w).answer d e)
      → starts w ≡ 0 → fuel_of (woken s i w) (rest ++ sent_by i (step_at s i w).acts) + 4 * is_taken w ≤ fuel_of s rest + spend w (step_at s i w).answer
  wake_falls s rest i w d e b here p calm =
      let k = keeps wakes_hold ram s rest i w d e b here p in
      put_falls s rest i w (step_at s i w) (spend w (step_at s i w).answer) here (b.net.faces i) k.law k.spends.few k.spends.light calm (may wakes_hold ram s rest i w d e b here p)

  pub done_falls : (s : Sys) (rest : List Item) (i latency : ℕ) (x : Packet) → IsSoundOver y ram s (Done i x latency ∷ rest)
      → (let w = wakes.AtomicDone x latency in fuel_of (woken s i w) (rest ++ sent_by i (step_at s i w).acts) < fuel_of s (Done i x latency ∷ rest))
  done_falls s rest i latency x h =
      let w : Wake = wakes.AtomicDone x latency in
      let now : IsNet ram s rest Clear = record {
        parts = h.net.parts;
        wired = h.net.wired;
        net = pop_none (peer_in s.wires) (faces s) (Done i x latency) rest (λ k p. (refl, refl)) h.net.net;
        due = h.net.due;
        sent = h.net.sent.1;
        routed = h.net.routed;
        placed = h.net.placed.1;
      } in
      let m = wake_falls s rest i w Clear Clear (before_wake ram s rest Clear i w now (λ b n. refl) (λ n e. cc)) h.net.placed.0 (pays_none (peer_in s.wires) (faces s) h.net.wired i w (step_at s i w).answer (λ r. (refl, refl, refl, refl))) refl in
      omega (arith, m)

  pub line_falls : (s : Sys) (rest : List Item) (i b : ℕ) (l : Bool) (k : ℕ) → k < length s.objects → IsSoundOver y ram s (Sent i (acts.SetLine b l) ∷ rest)
      → (let w = wakes.Line b l in fuel_of (woken s k w) (rest ++ sent_by k (step_at s k w).acts) < fuel_of s (Sent i (acts.SetLine b l) ∷ rest))
  line_falls s rest i b l k here h =
      let w : Wake = wakes.Line b l in
      let now : IsNet ram s rest Clear = record {
        parts = h.net.parts;
        wired = h.net.wired;
        net = pop_none (peer_in s.wires) (faces s) (Sent i (acts.SetLine b l)) rest (λ j p. (omega (arith, only_zero i j), omega (arith, only_zero i j))) h.net.net;
        due = h.net.due;
        sent = h.net.sent.1;
        routed = h.net.routed;
        placed = h.net.placed.1;
      } in
      let m = wake_falls s rest k w Clear Clear (before_wake ram s rest Clear k w now (λ b n. refl) (λ n e. cc)) here (pays_none (peer_in s.wires) (faces s) h.net.wired k w (step_at s k w).answer (λ r. (refl, refl, refl, refl))) refl in
      omega (arith, m)

  pub call_falls : (s : Sys) (rest : List Item) (i p : ℕ) → IsSoundOver y ram s (Sent i (acts.CallRetry (record { 0 = p })) ∷ rest)
      → (let q = peer_in s.wires i p in let w = wakes.Retry (record { 0 = q.port }) in fuel_of (woken s q.part w) (rest ++ sent_by q.part (step_at s q.part w).acts) < fuel_of s (Sent i (acts.CallRetry (record { 0 = p })) ∷ rest))
  call_falls s rest i p h =
      let q : End = peer_in s.wires i p in
      let w : Wake = wakes.Retry (record { 0 = q.port }) in
      let back : peer_in s.wires q.part q.port ≡ record { part = i; port = p } = h.net.wired.both i p in
      let calls = ap (λ (t : End). called_by t.part t.port (Sent i (acts.CallRetry (record { 0 = p })) ∷ rest)) back in
      let one : 1 ≤ (faces s q.part).waits q.port = omega (arith, h.net.net.waits q.part q.port, calls, only_self i (only p p 1), only_self p 1) in
      let here = part_there s q.part q.port ((h.net.net.faces q.part).within q.port (omega (arith, one))) in
      let now : IsNet ram s rest (Calling q.part q.port) = record {
        parts = h.net.parts;
        wired = h.net.wired;
        net = pop_call (peer_in s.wires) (faces s) h.net.wired rest i p h.net.net;
        due = h.net.due;
        sent = h.net.sent.1;
        routed = h.net.routed;
        placed = h.net.placed.1;
      } in
      let m = wake_falls s rest q.part w (Calling q.part q.port) Clear (before_wake ram s rest (Calling q.part q.port) q.part w now (λ b n. refl) (λ n e. cc)) here (pays_retry (peer_in s.wires) (faces s) h.net.wired q.part q.port (step_at s q.part w).answer) refl in
      omega (arith, m)

  told_spends : (a c : Answer) (p : ℕ) → 2 * took a + spend (told_wake a p) c ≤ 4 * is_taken (told_wake a p)
  told_spends answers.Taken c p = omega arith
  told_spends answers.Refused c p = omega arith
  told_spends answers.Nothing c p = omega arith

  told_calm : (a : Answer) (p : ℕ) → starts (told_wake a p) ≡ 0
  told_calm answers.Taken p = refl
  told_calm answers.Refused p = refl
  told_calm answers.Nothing p = refl

  pub offer_falls : (s : Sys) (rest : List Item) (i p : ℕ) (x : Packet) → IsSoundOver y ram s (Sent i (offer_out p x) ∷ rest)
      → (let d : Delivery = deliver_offer (record { sys = s; items = rest; entries = [] }) i p x (peer_in s.wires i p) in fuel_of d.sys d.items < fuel_of s (Sent i (offer_out p x) ∷ rest))
  offer_falls s rest i p x h =
      let q : End = peer_in s.wires i p in
      let w : Wake = wakes.Offer (record { 0 = q.port }) x in
      let r : Stepped = step_at s q.part w in
      let s1 : Sys = woken s q.part w in
      let items1 : List Item = rest ++ sent_by q.part r.acts in
      let b1 = first wakes_hold y memory ram s rest i p x h.net h.program in
      let p1 = pays wakes_hold y memory ram s rest i p x h.net h.program in
      let t1 = there wakes_hold y memory ram s rest i p x h.net h.program in
      let b2 = second wakes_hold y memory ram s rest i p x h.net h.program in
      let p2 = pays2 wakes_hold y memory ram s rest i p x h.net h.program in
      let t2 = here1 wakes_hold y memory ram s rest i p x h.net h.program in
      let m1 = wake_falls s rest q.part w _ _ b1 t1 p1 refl in
      let m2 = wake_falls s1 items1 i (told_wake r.answer p) _ _ b2 t2 p2 (told_calm r.answer p) in
      omega (arith, m1, m2, told_spends r.answer (step_at s1 i (told_wake r.answer p)).answer p)
