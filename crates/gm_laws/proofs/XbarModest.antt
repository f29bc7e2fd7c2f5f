-- A crossbar's rule is modest, by its cases.
use Rattle.std.proofs.Common.{◌≡◌, ℕ, zero, suc, ◌+◌, ◌<◌, ◌≤◌, ◌==◌, if◌then◌else◌, Bool, true, false, List, [], ◌∷◌, ◌++◌, length, length-set, set, All, Option, Some, None, slice_get, nat_lt, refl, sym, ap, subst, arith, ◌∙◌, ◌⊎◌, inl, inr, lt-ltb}
use Rattle.std.proofs.lemmas.Bool.{cases_lt, and_parts}
use Rattle.std.proofs.lemmas.List.{get_or_past}
use Rattle.std.proofs.lemmas.List.Elements.{All-nil, All-cons, All-head, All-tail, All-append}
use Rattle.gc_base.specs.declared.limits.TheConstants.{LATENCY_MAX}
use Rattle.gm_words.specs.Allowed.{MayPass, MayCome}
use Rattle.gm_words.specs.Changes.{Change}
use Rattle.gm_words.specs.Entries.{console_of}
use Rattle.gm_words.specs.Flow.{OutState, Quiet, Due, Asked, Waits, Queued, Lane, quiet_flow, empty_lane}
use Rattle.gm_words.specs.Moves.{Moves, AreDrawn, no_moves}
use Rattle.pkt_pool.specs.Packet.{is_response, is_write_back, fault_response, popped, top_port}
use Rattle.gm_words.specs.PortUses.{is_total, port_from, source_port, xbar_classes, slot_of_port, class_of_port, port_of_slot, side_slot, is_side_slot, request_class}
use Rattle.gm_words.specs.declared.act.Act.{Act}
use Rattle.gm_words.specs.declared.answer.Answer.{Answer}
use Rattle.gm_words.specs.declared.answer.Answer.TheVariants as answers
use Rattle.gm_words.specs.declared.entry.Entry.{Entry}
use Rattle.pkt_pool.specs.declared.packet.Packet.{Packet}
use Rattle.gm_words.specs.declared.wake.Wake.{Wake}
use Rattle.gm_words.specs.declared.wake.Wake.TheVariants as wakes
use Rattle.gm_model.specs.Flows.{Moved, LaneMoved, still, put_in, ask_in, hold_in, again_in, gone_in, next_in, moved, opened, taken_in, has_room, answer_of, refusal_of}
use Rattle.gm_model.specs.ObjState.{Xbar, XbarState, SideLayer}
use Rattle.gm_model.specs.ObjectStep.{object_step, atomic_step}
use Rattle.gm_model.specs.Stepped.{Stepped, stays}
use Rattle.gm_model.specs.View.{queued_packets, lane_packets}
use Rattle.gm_model.specs.Xbar.{lane_at, port_or_side, layer_for, layer_of, turned, turned_by, xbar_outlet, side_outlet, xbar_with, side_with, xbar_offer, side_opened, side_goes, side_waits, side_event_at, side_event_by, side_event, is_next, side_enters, one_less_ahead, xbar_taken, xbar_event, xbar_atomic_at}
use Rattle.gm_laws.specs.Bounds.{IsWithin, IsModest, IsModestPass, AreOwnChanges, AreTimely, AreFit, latest, part_speech, speech}
use Rattle.gm_laws.specs.Faces.{face_of}
use Rattle.gm_laws.proofs.Answering.{fault_size}
use Rattle.gm_laws.proofs.Bytes.{same_is, same_number}
use Rattle.gm_laws.proofs.FlowModest.{IsMovedModest, IsLaneModest, own-append, timely-append, fit-append, speech-append, still_moved, put_modest, ask_modest, hold_modest, again_modest, gone_modest, next_modest, moved_modest, open_modest, taken_modest}
use Rattle.gm_laws.proofs.PortLemmas.{not_both, slot_class, side_class, source_class, source_below, port_below, total_takes, total_some}
use Rattle.gm_laws.proofs.StillModest.{stays_modest, drops_modest}
use Rattle.gm_laws.proofs.Ticks.{soon}
use Rattle.gm_laws.proofs.Xbars.{less_lane}

-- Packets that are held.

front_fit : (xs ys : List Packet) → All MayPass (xs ++ ys) → All MayPass xs
front_fit [] ys h = All-nil MayPass
front_fit (x ∷ xs) ys h = All-cons MayPass x xs (All-head MayPass x (xs ++ ys) h) (front_fit xs ys (All-tail MayPass x (xs ++ ys) h))

rest_fit : (xs ys : List Packet) → All MayPass (xs ++ ys) → All MayPass ys
rest_fit [] ys h = h
rest_fit (x ∷ xs) ys h = rest_fit xs ys (All-tail MayPass x (xs ++ ys) h)

lane_fit : (lanes : List Lane) (p : ℕ) → All MayPass (lane_packets lanes) → All MayPass (queued_packets (lane_at lanes p).flow.items)
lane_fit [] p h = All-nil MayPass
lane_fit (l ∷ ls) zero h = front_fit (queued_packets l.flow.items) (lane_packets ls) h
lane_fit (l ∷ ls) (suc p) h = lane_fit ls p (rest_fit (queued_packets l.flow.items) (lane_packets ls) h)

lanes_fit-set : (lanes : List Lane) (p : ℕ) (l : Lane) → All MayPass (lane_packets lanes) → All MayPass (queued_packets l.flow.items)
    → All MayPass (lane_packets (set lanes p l))
lanes_fit-set [] p l h k = h
lanes_fit-set (a ∷ ls) zero l h k = All-append MayPass (queued_packets l.flow.items) (lane_packets ls) k
    (rest_fit (queued_packets a.flow.items) (lane_packets ls) h)
lanes_fit-set (a ∷ ls) (suc p) l h k =
    All-append MayPass (queued_packets a.flow.items) (lane_packets (set ls p l)) (front_fit (queued_packets a.flow.items) (lane_packets ls) h)
    (lanes_fit-set ls p l (rest_fit (queued_packets a.flow.items) (lane_packets ls) h) k)

turned_fit : (q : ℕ) (x : Packet) → MayPass x → MayPass (turned q x)
turned_fit q x h = by (is_response x.cmd) where
  by : (b : Bool) → MayPass (turned_by q x b)
  by true = h
  by false = h

fault_fit : (x : Packet) → MayPass x → MayPass (fault_response x x.cmd)
fault_fit x h = subst (λ n. n ≤ 64) (sym (fault_size x x.cmd)) h

-- Slots.

-- a packet's layer has a slot, with its class
layer_class : (s : XbarState) (x : Packet) → (layer_of s x == length s.ports) ≡ false
    → slice_get (xbar_classes s.ports) (slot_of_port s.ports (layer_of s x)) ≡ Some (class_of_port s.ports (layer_of s x))
unfolding layer_of layer_for
layer_class s x h = by (is_response x.cmd) h where
  last : (o : Option ℕ) → port_from 0 s.ports x.addr ≡ o → (port_or_side (length s.ports) o == length s.ports) ≡ false
      → slice_get (xbar_classes s.ports) (slot_of_port s.ports (port_or_side (length s.ports) o))
      ≡ Some (class_of_port s.ports (port_or_side (length s.ports) o))
  last None e z = absurd (not_both (length s.ports == length s.ports) z (same_number (length s.ports)))
  last (Some p) e z =
      let b : p < length s.ports = (port_below s.ports x.addr p e).0 in
      let at : port_or_side (length s.ports) (Some p) ≡ p = ap (λ t. if t then p else length s.ports) (lt-ltb p (length s.ports) b) in
      subst (λ n. slice_get (xbar_classes s.ports) (slot_of_port s.ports n) ≡ Some (class_of_port s.ports n)) (sym at) (slot_class s.ports p b)

  by : (b : Bool) → (layer_for s.ports x b == length s.ports) ≡ false
      → slice_get (xbar_classes s.ports) (slot_of_port s.ports (layer_for s.ports x b)) ≡ Some (class_of_port s.ports (layer_for s.ports x b))
  by true z = source_class s.ports (top_port x)
  by false z = last (port_from 0 s.ports x.addr) refl z

-- and so has the layer of no port, where a packet goes there
layer_free : (s : XbarState) (x : Packet) → (layer_of s x == length s.ports) ≡ true → slice_get (xbar_classes s.ports) (side_slot s.ports) ≡ Some request_class
unfolding layer_of layer_for
layer_free s x h = by_total (is_total s.ports) refl where
  last : is_total s.ports ≡ true → (o : Option ℕ) → port_from 0 s.ports x.addr ≡ o → (port_or_side (length s.ports) o == length s.ports) ≡ true → ⊥
  last t None e z = total_takes 0 s.ports x.addr t e
  last t (Some p) e z =
      let b : p < length s.ports = (port_below s.ports x.addr p e).0 in
      let at : port_or_side (length s.ports) (Some p) ≡ p = ap (λ c. if c then p else length s.ports) (lt-ltb p (length s.ports) b) in
      omega (arith, b, at, same_is (port_or_side (length s.ports) (Some p)) (length s.ports) z)

  by : is_total s.ports ≡ true → (b : Bool) → (layer_for s.ports x b == length s.ports) ≡ true → ⊥
  by t true z = omega (arith, source_below s.ports (top_port x) (total_some s.ports t), same_is (source_port s.ports (top_port x)) (length s.ports) z)
  by t false z = last t (port_from 0 s.ports x.addr) refl z

  by_total : (t : Bool) → is_total s.ports ≡ t → slice_get (xbar_classes s.ports) (side_slot s.ports) ≡ Some request_class
  by_total true t = absurd (by t (is_response x.cmd) h)
  by_total false t = side_class s.ports t

module _ (s : XbarState) (next : ℕ) (w : Wake) (now : ℕ) (small : s.latency ≤ LATENCY_MAX) (long : length s.lanes ≡ length s.ports)
    (held : All MayPass (lane_packets (s.side.lane ∷ s.lanes))) where
  side_fit : All MayPass (queued_packets s.side.lane.flow.items)
  side_fit = front_fit (queued_packets s.side.lane.flow.items) (lane_packets s.lanes) held

  lanes_fit : All MayPass (lane_packets s.lanes)
  lanes_fit = rest_fit (queued_packets s.side.lane.flow.items) (lane_packets s.lanes) held

  at_fit : (p : ℕ) → All MayPass (queued_packets (lane_at s.lanes p).flow.items)
  at_fit p = lane_fit s.lanes p lanes_fit

  in_time : now + s.latency ≤ latest now
  in_time = soon now (now + s.latency) (omega (arith, small))

  -- the layers after a step
  layers_modest : (lanes : List Lane) (k : SideLayer) (answer : Answer) (es : List Entry) (v : Moves) (acts : List Act) (cs : List Change)
      → length lanes ≡ length s.lanes → All MayPass (queued_packets k.lane.flow.items) → All MayPass (lane_packets lanes)
      → AreOwnChanges (xbar_classes s.ports) cs → AreTimely now cs → AreFit acts → speech acts ≡ 0 → length es ≤ 2 → console_of es ≡ [] → v.made ≡ []
      → (let r : Stepped = record {
        state = Xbar (record s { lanes = lanes; side = k });
        next = next;
        changes = cs;
        acts = acts;
        entries = es;
        answer = answer;
        moves = v;
      } in IsModest (Xbar s) next w now r)
  unfolding IsWithin part_speech face_of
  layers_modest lanes k answer es v acts cs same beside fit own timely sent silent few mute made = record {
    object = refl;
    slots = refl;
    ports = same;
    within = (small, same ∙ long, All-append MayPass (queued_packets k.lane.flow.items) (lane_packets lanes) beside fit);
    own = own;
    timely = timely;
    fit = sent;
    entries = few;
    drawn = subst (λ xs. AreDrawn next xs next) (sym made) refl;
    few = omega arith;
    spoken = omega (arith, silent, ap length mute);
  }

  -- a step of the lane p
  lane_modest : (p : ℕ) (k : SideLayer) (answer : Answer) (es : List Entry) (m : LaneMoved) → All MayPass (queued_packets k.lane.flow.items)
      → IsLaneModest (xbar_classes s.ports) now m → length es ≤ 2 → console_of es ≡ []
      → IsModest (Xbar s) next w now (xbar_with (record s { side = k }) next p answer es no_moves m)
  lane_modest p k answer es m beside h few mute =
      layers_modest (set s.lanes p m.lane) k answer es no_moves m.acts m.changes (length-set s.lanes p m.lane) beside
      (lanes_fit-set s.lanes p m.lane lanes_fit h.held) h.own h.timely h.fit h.silent few mute refl

  -- a step of the layer of no port
  beside_modest : (answer : Answer) (es : List Entry) (v : Moves) (m : LaneMoved) → IsLaneModest (xbar_classes s.ports) now m → length es ≤ 2
      → console_of es ≡ [] → v.made ≡ []
      → IsModest (Xbar s) next w now (side_with s next answer es v m)
  beside_modest answer es v m h few mute made =
      layers_modest s.lanes (record { lane = m.lane; ahead = s.side.ahead }) answer es v m.acts m.changes refl h.held lanes_fit h.own h.timely h.fit
      h.silent few mute made

  opens_modest : (ws : List ℕ) → IsLaneModest (xbar_classes s.ports) now (side_opened ws)
  opens_modest ws = open_modest (xbar_classes s.ports) now true (still quiet_flow) ws (still_moved (xbar_classes s.ports) now quiet_flow (All-nil MayPass))

  few_refusals : (room : Bool) → (length (refusal_of s.common.object room) ≤ 2) × (console_of (refusal_of s.common.object room) ≡ [])
  few_refusals true = (omega arith, refl)
  few_refusals false = (omega arith, refl)

  offer_modest : (q : ℕ) (x : Packet) → MayPass x → (b : Bool) → (layer_of s x == length s.ports) ≡ b
      → IsModest (Xbar s) next w now (xbar_offer s next (layer_of s x) q x now b)
  offer_modest q x h false e =
      let to : ℕ = layer_of s x in
      let room : Bool = has_room 1 (lane_at s.lanes to) in
      lane_modest to s.side (answer_of room) (refusal_of s.common.object room)
      (taken_in (xbar_outlet s to) (lane_at s.lanes to) q (turned q x) (now + s.latency) room) side_fit
      (taken_modest (xbar_classes s.ports) now (xbar_outlet s to) (lane_at s.lanes to) q (turned q x) (now + s.latency) room (layer_class s x e)
      (omega arith) in_time (turned_fit q x h) (at_fit to))
      (few_refusals room).0 (few_refusals room).1
  offer_modest q x h true e =
      let room : Bool = has_room 1 s.side.lane in
      beside_modest (answer_of room) (refusal_of s.common.object room) no_moves (taken_in (side_outlet s) s.side.lane q (turned q x) (now + s.latency) room)
      (taken_modest (xbar_classes s.ports) now (side_outlet s) s.side.lane q (turned q x) (now + s.latency) room (layer_free s x e) (omega arith) in_time
      (turned_fit q x h) side_fit)
      (few_refusals room).0 (few_refusals room).1 refl

  goes_modest : (p : ℕ) (x : Packet) → MayPass x → slice_get (xbar_classes s.ports) (slot_of_port s.ports p) ≡ Some (class_of_port s.ports p)
      → IsModest (Xbar s) next w now (side_goes s next p x (fault_response x x.cmd) now)
  goes_modest p x h class =
      let l : Lane = lane_at s.lanes p in
      let o : LaneMoved = side_opened s.side.lane.waiting in
      let y : Packet = popped (fault_response x x.cmd) in
      let m = put_in (xbar_outlet s p) y (now + s.latency) l.flow.items l.flow.out in
      let b : Lane = record { flow = m.flow; waiting = l.waiting } in
      let a = opens_modest s.side.lane.waiting in
      let c = put_modest (xbar_classes s.ports) now (xbar_outlet s p) y (now + s.latency) l.flow.items l.flow.out class (omega arith) in_time
      (fault_fit x h) (at_fit p) in
      layers_modest (set s.lanes p b) (record { lane = o.lane; ahead = s.side.ahead }) answers.Nothing []
      (record no_moves { served = record { request = x; response = fault_response x x.cmd } ∷ [] }) (o.acts ++ m.acts) (o.changes ++ m.changes)
      (length-set s.lanes p b) a.held (lanes_fit-set s.lanes p b lanes_fit c.held) (own-append (xbar_classes s.ports) o.changes m.changes a.own c.own)
      (timely-append now o.changes m.changes a.timely c.timely)
      (fit-append o.acts m.acts a.fit c.fit) (omega (arith, speech-append o.acts m.acts, a.silent, c.silent)) (omega arith) refl refl

  waits_modest : (p : ℕ) (x : Packet) (xs : List Queued) → MayPass x → All MayPass (queued_packets xs)
      → IsModest (Xbar s) next w now (side_waits s next p x (fault_response x x.cmd) xs)
  waits_modest p x xs h rest =
      let y : Packet = fault_response x x.cmd in
      let k : SideLayer = record {
        lane = record {
          flow = record { items = record { packet = y; ready = 0 } ∷ xs; out = Waits };
          waiting = s.side.lane.waiting;
        };
        ahead = length (lane_at s.lanes p).waiting;
      } in
      layers_modest s.lanes k answers.Nothing [] (record no_moves { served = record { request = x; response = y } ∷ [] }) [] [] refl
      (All-cons MayPass y (queued_packets xs) (fault_fit x h) rest) lanes_fit tt tt tt refl (omega arith) refl refl

  stands_modest : IsModest (Xbar s) next w now (stays (Xbar s) next)
  unfolding IsWithin
  stands_modest = stays_modest (Xbar s) next w now (small, long, held)

  side_modest : (items : List Queued) (out : OutState) → All MayPass (queued_packets items) → IsModest (Xbar s) next w now (side_event s next now items out)
  side_modest [] out h = stands_modest
  side_modest (x ∷ xs) Quiet h = stands_modest
  side_modest (x ∷ xs) Asked h = stands_modest
  side_modest (x ∷ xs) Waits h = stands_modest
  side_modest (x ∷ xs) Due h = by_write (is_write_back x.packet.cmd) where
    p : ℕ
    p = source_port s.ports (top_port x.packet)

    first : MayPass x.packet
    first = All-head MayPass x.packet (queued_packets xs) h

    by_room : (room : Bool) → IsModest (Xbar s) next w now (side_event_at s next p x.packet (fault_response x.packet x.packet.cmd) xs now room)
    by_room true = goes_modest p x.packet first (source_class s.ports (top_port x.packet))
    by_room false = waits_modest p x.packet xs first (All-tail MayPass x.packet (queued_packets xs) h)

    by_write : (b : Bool) → IsModest (Xbar s) next w now (side_event_by s next p x.packet xs now b)
    by_write true = beside_modest answers.Nothing [] (record no_moves { absorbed = x.packet ∷ [] }) (side_opened s.side.lane.waiting)
        (opens_modest s.side.lane.waiting) (omega arith) refl refl
    by_write false = by_room (has_room 1 (lane_at s.lanes p))

  enters_modest : (p : ℕ) (items : List Queued) (out : OutState) → All MayPass (queued_packets items) → is_next s.ports p s.side.ahead items out ≡ true
      → IsModest (Xbar s) next w now (side_enters s next p now items)
  enters_modest p [] out h e = cc
  enters_modest p (x ∷ xs) Quiet h e = cc
  enters_modest p (x ∷ xs) Due h e = cc
  enters_modest p (x ∷ xs) Asked h e = cc
  enters_modest p (x ∷ xs) Waits h e =
      let is : source_port s.ports (top_port x.packet) ≡ p =
      same_is (source_port s.ports (top_port x.packet)) p (and_parts (source_port s.ports (top_port x.packet) == p) (s.side.ahead == 0) e).0 in
      let y : Packet = popped x.packet in
      let o : LaneMoved = side_opened s.side.lane.waiting in
      let m = next_in (xbar_outlet s p) y (now + s.latency) in
      let b : Lane = record { flow = m.flow; waiting = (lane_at s.lanes p).waiting } in
      let a = opens_modest s.side.lane.waiting in
      let c = next_modest (xbar_classes s.ports) now (xbar_outlet s p) y (now + s.latency)
      (subst (λ n. slice_get (xbar_classes s.ports) (slot_of_port s.ports n) ≡ Some (class_of_port s.ports n)) is
      (source_class s.ports (top_port x.packet))) (omega arith) in_time (All-head MayPass x.packet (queued_packets xs) h) in
      layers_modest (set s.lanes p b) (record { lane = o.lane; ahead = s.side.ahead }) answers.Nothing [] no_moves o.acts (m.changes ++ o.changes)
      (length-set s.lanes p b) a.held (lanes_fit-set s.lanes p b lanes_fit c.held) (own-append (xbar_classes s.ports) m.changes o.changes c.own a.own)
      (timely-append now m.changes o.changes c.timely a.timely)
      a.fit a.silent (omega arith) refl refl

  -- at a port that isn't there nothing is gone
  leaves_modest : (p : ℕ) → IsMovedModest (xbar_classes s.ports) now (gone_in (xbar_outlet s p) (now + s.latency) (lane_at s.lanes p).flow.items)
  leaves_modest p = by (cases_lt p (length s.ports)) where
    by : (p < length s.ports) ⊎ (length s.ports ≤ p) → IsMovedModest (xbar_classes s.ports) now
        (gone_in (xbar_outlet s p) (now + s.latency) (lane_at s.lanes p).flow.items)
    by (inl b) = gone_modest (xbar_classes s.ports) now (xbar_outlet s p) (now + s.latency) (lane_at s.lanes p).flow.items (slot_class s.ports p b)
        (omega arith) in_time (at_fit p)
    by (inr b) =
        subst (λ (l : Lane). IsMovedModest (xbar_classes s.ports) now (gone_in (xbar_outlet s p) (now + s.latency) l.flow.items))
        (sym (get_or_past s.lanes p empty_lane (omega (arith, b, long))))
        (still_moved (xbar_classes s.ports) now quiet_flow (All-nil MayPass))

  gone_layer : (p : ℕ) (b : Bool) → is_next s.ports p s.side.ahead s.side.lane.flow.items s.side.lane.flow.out ≡ b
      → IsModest (Xbar s) next w now (xbar_taken s next p now b)
  gone_layer p true e = enters_modest p s.side.lane.flow.items s.side.lane.flow.out side_fit e
  gone_layer p false e =
      let m = gone_in (xbar_outlet s p) (now + s.latency) (lane_at s.lanes p).flow.items in
      lane_modest p (one_less_ahead s.ports p s.side) answers.Nothing [] (opened 1 m (lane_at s.lanes p).waiting)
      (subst (λ (l : Lane). All MayPass (queued_packets l.flow.items)) (sym (less_lane s.ports p s.side)) side_fit)
      (open_modest (xbar_classes s.ports) now (nat_lt (length m.flow.items) 1) m (lane_at s.lanes p).waiting (leaves_modest p)) (omega arith) refl

  -- a step of one layer's flow alone
  flow_modest : (p : ℕ) (m : Moved) → IsMovedModest (xbar_classes s.ports) now m
      → IsModest (Xbar s) next w now (xbar_with s next p answers.Nothing [] no_moves (moved (lane_at s.lanes p) m))
  flow_modest p m h = lane_modest p s.side answers.Nothing [] (moved (lane_at s.lanes p) m) side_fit
      (moved_modest (xbar_classes s.ports) now (lane_at s.lanes p) m h) (omega arith) refl

pub xbar_modest : (s : XbarState) (next : ℕ) (w : Wake) (now : ℕ) → IsWithin (Xbar s) → MayCome w
    → IsModest (Xbar s) next w now (object_step (Xbar s) next w now)
unfolding object_step IsWithin
xbar_modest s next (wakes.Event slot) now h m = by (is_side_slot s.ports slot.0) where
  by : (b : Bool) → IsModest (Xbar s) next (wakes.Event slot) now
      (if b then side_event s next now s.side.lane.flow.items s.side.lane.flow.out else xbar_event s next (port_of_slot s.ports slot.0))
  by true = side_modest s next (wakes.Event slot) now h.0 h.1 h.2 s.side.lane.flow.items s.side.lane.flow.out
      (side_fit s next (wakes.Event slot) now h.0 h.1 h.2)
  by false =
      let p : ℕ = port_of_slot s.ports slot.0 in
      let l : Lane = lane_at s.lanes p in
      flow_modest s next (wakes.Event slot) now h.0 h.1 h.2 p (ask_in p l.flow.items l.flow.out)
      (ask_modest (xbar_classes s.ports) now p l.flow.items l.flow.out (at_fit s next (wakes.Event slot) now h.0 h.1 h.2 p))
xbar_modest s next (wakes.Offer port x) now h m = offer_modest s next (wakes.Offer port x) now h.0 h.1 h.2 port.0 x m (layer_of s x == length s.ports) refl
xbar_modest s next (wakes.Taken port) now h m =
    gone_layer s next (wakes.Taken port) now h.0 h.1 h.2 port.0 (is_next s.ports port.0 s.side.ahead s.side.lane.flow.items s.side.lane.flow.out) refl
xbar_modest s next (wakes.Refused port) now h m =
    let l : Lane = lane_at s.lanes port.0 in
    flow_modest s next (wakes.Refused port) now h.0 h.1 h.2 port.0 (hold_in l.flow.items l.flow.out)
    (hold_modest (xbar_classes s.ports) now l.flow.items l.flow.out (at_fit s next (wakes.Refused port) now h.0 h.1 h.2 port.0))
xbar_modest s next (wakes.Retry port) now h m =
    let l : Lane = lane_at s.lanes port.0 in
    flow_modest s next (wakes.Retry port) now h.0 h.1 h.2 port.0 (again_in port.0 l.flow.items l.flow.out)
    (again_modest (xbar_classes s.ports) now port.0 l.flow.items l.flow.out (at_fit s next (wakes.Retry port) now h.0 h.1 h.2 port.0))
xbar_modest s next (wakes.Line bit level) now h m = stays_modest (Xbar s) next (wakes.Line bit level) now h
xbar_modest s next (wakes.AtomicDone x latency) now h m = drops_modest (Xbar s) next (wakes.AtomicDone x latency) now x h

pub xbar_modest_pass : (s : XbarState) (x : Packet) (now : ℕ) → IsWithin (Xbar s) → IsModestPass (Xbar s) x now (atomic_step (Xbar s) x now)
unfolding atomic_step IsWithin part_speech face_of
xbar_modest_pass s x now h = by (layer_for s.ports x false == length s.ports) where
  by : (b : Bool) → IsModestPass (Xbar s) x now (xbar_atomic_at s x (layer_for s.ports x false) b)
  by true = record {
    object = refl;
    slots = refl;
    ports = refl;
    within = h;
    own = tt;
    timely = tt;
    fit = tt;
    size = fault_size x x.cmd;
    soon = h.0;
    entries = omega arith;
    spoken = omega arith;
  }
  by false = record {
    object = refl;
    slots = refl;
    ports = refl;
    within = h;
    own = tt;
    timely = tt;
    fit = tt;
    size = refl;
    soon = h.0;
    entries = omega arith;
    spoken = omega arith;
  }
