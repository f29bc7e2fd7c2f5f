-- The laws of a crossbar.
use Rattle.std.proofs.Common.{◌≡◌, ℕ, zero, suc, ◌+◌, ◌-◌, ◌<◌, ◌≤◌, ◌==◌, if◌then◌else◌, cond, ◌&&◌, not, nat_lt, Bool, true, false, List, [], ◌∷◌, ◌++◌, replicate, refl, sym, ◌∙◌, ap, subst, arith, Option, Some, None, ◌⊎◌, inl, inr, length, length-set, set, ltb-true, lt-ltb, le-ltb, ne_eqb}
use Rattle.std.proofs.lemmas.Bool.{cases_eq, cases_lt, and_parts, and_from}
use Rattle.std.proofs.lemmas.List.{get_or-set_same, get_or-set_other, get_or_past}
use Rattle.gc_base.specs.declared.ids.SlotNo.{SlotNo}
use Rattle.gm_words.specs.Changes.{Change, Schedule, due_after}
use Rattle.gm_words.specs.Flow.{OutState, Quiet, Due, Asked, Waits, Queued, Flow, Lane, empty_lane, quiet_flow}
use Rattle.gm_words.specs.Moves.{Moves, no_moves}
use Rattle.pkt_pool.specs.Packet.{is_response, is_write_back, fault_response, popped, top_port}
use Rattle.gm_words.specs.PortUses.{takes, is_source, is_destination, is_total, sides, use_at, port_from, source_port, slot_of_port, port_of_slot, side_slot, is_side_slot, request_class}
use Rattle.gm_words.specs.Routes.{Route, is_unmapped}
use Rattle.gm_words.specs.declared.act.Act.{Act}
use Rattle.gm_words.specs.declared.answer.Answer.{Answer}
use Rattle.gm_words.specs.declared.answer.Answer.TheVariants as answers
use Rattle.pkt_pool.specs.declared.cmd.Cmd.{Cmd}
use Rattle.pkt_pool.specs.declared.cmd.Cmd.TheVariants as cmds
use Rattle.gm_words.specs.declared.entry.Entry.{Entry}
use Rattle.gm_words.specs.declared.entry.Entry.TheVariants as entries
use Rattle.pkt_pool.specs.declared.packet.Packet.{Packet}
use Rattle.gm_words.specs.declared.port_use.PortUse.{PortUse}
use Rattle.gm_words.specs.declared.port_use.PortUse.TheVariants as uses
use Rattle.gm_words.specs.declared.wake.Wake.{Wake}
use Rattle.gm_words.specs.declared.wake.Wake.TheVariants as wakes
use Rattle.gm_model.specs.Flows.{Outlet, Moved, LaneMoved, asked_bit, waits_bit, is_due_out, head_of, put_in, ask_in, hold_in, again_in, gone_in, next_in, moved, opened, taken_in, has_room, is_some_port, call_at, answer_of, refusal_of, joined_once}
use Rattle.gm_model.specs.ObjState.{Xbar, XbarState, SideLayer}
use Rattle.gm_model.specs.Stepped.{Stepped, Passed}
use Rattle.gm_model.specs.View.{Mind, queued_packets, lane_packets}
use Rattle.gm_model.specs.Xbar.{lane_at, port_or_side, layer_for, layer_of, turned, turned_by, xbar_outlet, side_outlet, xbar_with, side_with, xbar_offer, side_opened, side_goes, side_waits, side_drops, side_event_at, side_event_by, side_event, is_next, side_enters, one_less_ahead, xbar_taken, xbar_event, xbar_step, xbar_atomic, xbar_atomic_at}
use Rattle.gm_laws.specs.Words.{only, weigh, IsBlind, IsIn, told, refused, retry, shown, offers, calls, offer_out}
use Rattle.gm_laws.specs.Face.{Face, FaceOk, Law, MayWake, Conserves, came_in, went_out, head_weight, passed_packets, due_before}
use Rattle.gm_laws.specs.Fuel.{weight, spend, starts}
use Rattle.gm_laws.specs.Laws.{WayKeeps}
use Rattle.gm_laws.specs.Program.{core, bad, MayThink, Serves, none, aside, serves, IsService, nobody_read, nobody_written, unchanged}
use Rattle.gm_laws.specs.Faces.{face_of, IsOk, Keeps, xbar_face, xbar_rest, xbar_sends, goes_out, port_due, layer_due, XbarOk, SideOk, AllMeet, AllActsOk, IsFlow, is_hungry, lanes_face, with_side, stood}
use Rattle.gm_laws.proofs.Counts.{only_self, only_le, rejected_le}
use Rattle.gm_laws.proofs.Bytes.{same_is, same_number}
use Rattle.gm_laws.proofs.Weights.{no_write_back, weigh-append}
use Rattle.gm_laws.proofs.Flows.{FlowLaw, IsCalm, ask_law, hold_law, again_law, gone_law, next_law, ask_calm, hold_calm, again_calm, gone_silent, put_silent, no_pass, put_weigh, gone_weigh, head_held}
use Rattle.gm_laws.proofs.Lanes.{LaneLaw, IsAt, IsPortSame, AreSent, lanes_law, lanes_keep, lanes_ok, each, stays_law, moved_law, opened_law, offer_law, event_at, taken_at, refused_at, retry_at, offer_at_port, stood-append, joins_last, opened_items, opened_passed}
use Rattle.gm_laws.proofs.PortLemmas.{not_both, slot_below, side_is, port_not_side, port_back, slot_back, port_below, total_takes, source_there}
use Rattle.gm_laws.proofs.Sides.{SideMoved, sided_law, side_offer, side_same}

-- a lane that is busy is there
bit_there : (bit : OutState → ℕ) → bit Quiet ≡ 0 → (lanes : List Lane) (p : ℕ) → 1 ≤ bit (lane_at lanes p).flow.out → p < length lanes
bit_there bit z lanes p h = by (cases_lt p (length lanes)) where
  by : (p < length lanes) ⊎ (length lanes ≤ p) → p < length lanes
  by (inl b) = b
  by (inr b) = absurd (omega (arith, z, h, ap (λ (l : Lane). bit l.flow.out) (get_or_past lanes p empty_lane b)))

due_there : (lanes : List Lane) (p : ℕ) → is_due_out (lane_at lanes p).flow.out ≡ true → p < length lanes
due_there lanes p h = by (cases_lt p (length lanes)) where
  by : (p < length lanes) ⊎ (length lanes ≤ p) → p < length lanes
  by (inl b) = b
  by (inr b) = absurd (let z : false ≡ true = sym (ap (λ (l : Lane). is_due_out l.flow.out) (get_or_past lanes p empty_lane b)) ∙ h in cc)

-- the event of the lane p is pending
abbrev is_due_at : List Lane → ℕ → Bool
is_due_at lanes p = is_due_out (lane_at lanes p).flow.out

-- the weight of lanes
lanes-set : (f : Packet → ℕ) (lanes : List Lane) (p : ℕ) (l : Lane) → p < length lanes
    → weigh f (lane_packets (set lanes p l)) + weigh f (queued_packets (lane_at lanes p).flow.items)
    ≡ weigh f (lane_packets lanes) + weigh f (queued_packets l.flow.items)
lanes-set f [] p l h = absurd (omega arith)
lanes-set f (k ∷ ks) zero l h = omega (
  arith,
  weigh-append f (queued_packets k.flow.items) (lane_packets ks),
  weigh-append f (queued_packets l.flow.items) (lane_packets ks),
)
lanes-set f (k ∷ ks) (suc p) l h = omega (
  arith,
  weigh-append f (queued_packets k.flow.items) (lane_packets ks),
  weigh-append f (queued_packets k.flow.items) (lane_packets (set ks p l)),
  lanes-set f ks p l (omega (arith, h)),
)

lane_le : (f : Packet → ℕ) (lanes : List Lane) (p : ℕ) (x : Packet) → head_of (lane_at lanes p).flow.items ≡ Some x → f x ≤ weigh f (lane_packets lanes)
lane_le f [] p x e = absurd (let z : ◌≡◌ {A = Option Packet} None (Some x) = e in cc)
lane_le f (k ∷ ks) zero x e = omega (arith, weigh-append f (queued_packets k.flow.items) (lane_packets ks), head_held k.flow.items x f e)
lane_le f (k ∷ ks) (suc p) x e = omega (arith, weigh-append f (queued_packets k.flow.items) (lane_packets ks), lane_le f ks p x e)

head_meets : (t : Packet → Bool) (items : List Queued) (x : Packet) → AllMeet t items → head_of items ≡ Some x → t x ≡ true
head_meets t [] x h e = cc
head_meets t (y ∷ ys) x h e = (let k : y.packet ≡ x = cc e in subst (λ z. t z ≡ true) k h.0)

held : (f : Packet → ℕ) (s : XbarState)
    → weigh f (lane_packets (s.side.lane ∷ s.lanes)) ≡ weigh f (queued_packets s.side.lane.flow.items) + weigh f (lane_packets s.lanes)
held f s = weigh-append f (queued_packets s.side.lane.flow.items) (lane_packets s.lanes)

-- a flow of one place
none_or_one : (items : List Queued) → length items ≤ 1 → nat_lt (length items) 1 ≡ true → items ≡ []
none_or_one [] h e = refl
none_or_one (x ∷ xs) h e = absurd (not_both (nat_lt (length (x ∷ xs)) 1) (le-ltb (length (x ∷ xs)) 1 (omega arith)) e)

one_full : (o : Outlet) (x : Packet) (ready : ℕ) (items : List Queued) (out : OutState) (b : Bool)
    → (nat_lt (length (put_in o x ready items out).flow.items) 1 && b) ≡ false
one_full o x ready [] out b = refl
one_full o x ready (z ∷ zs) out b =
    ap (λ t. t && b) (le-ltb (length ((z ∷ zs) ++ record { packet = x; ready = ready } ∷ [])) 1 (omega arith))

-- a response goes out where requests come in, and a request where its address does
source_sends : (u : PortUse) (x : Packet) → is_source u ≡ true → is_response x.cmd ≡ true → goes_out u x ≡ true
source_sends uses.Source x e r = r
source_sends (uses.Destination first last) x e r = cc
source_sends uses.Unused x e r = cc

takes_sends : (u : PortUse) (x : Packet) → takes u x.addr ≡ true → is_response x.cmd ≡ false → goes_out u x ≡ true
takes_sends uses.Source x e r = cc
takes_sends (uses.Destination first last) x e r = and_from (not (is_response x.cmd)) (takes (uses.Destination first last) x.addr) (ap not r) e
takes_sends uses.Unused x e r = cc

-- a request goes out at a destination alone
request_passes : (u : PortUse) (x : Packet) → is_response x.cmd ≡ false → goes_out u x ≡ true → is_destination u ≡ true
request_passes uses.Source x r e = absurd (not_both (is_response x.cmd) r e)
request_passes (uses.Destination first last) x r e = refl
request_passes uses.Unused x r e = cc

-- the count of those before it is all that changes of the layer of no port
pub less_lane : (ports : List PortUse) (p : ℕ) (l : SideLayer) → (one_less_ahead ports p l).lane ≡ l.lane
less_lane ports p l = by l.lane.flow.items l.lane.flow.out where
  by : (items : List Queued) (out : OutState) → (let k : SideLayer = record {
    lane = record {
      flow = record { items = items; out = out };
      waiting = l.lane.waiting;
    };
    ahead = l.ahead;
  } in (one_less_ahead ports p k).lane ≡ k.lane)
  by (x ∷ xs) Waits = waits (source_port ports (top_port x.packet) == p) where
    waits : (b : Bool) → (let k : SideLayer = record {
      lane = record { flow = record { items = x ∷ xs; out = Waits }; waiting = l.lane.waiting };
      ahead = l.ahead;
    } in (if b then record k { ahead = k.ahead - 1 } else k).lane ≡ k.lane)
    waits true = refl
    waits false = refl
  by (x ∷ xs) Quiet = refl
  by (x ∷ xs) Due = refl
  by (x ∷ xs) Asked = refl
  by [] out = refl

-- what a crossbar does to a packet isn't seen by a blind weight
turned_weigh : (f : Packet → ℕ) → IsBlind f → (q : ℕ) (x : Packet) → f (turned q x) ≡ f x
turned_weigh f e q x = by (is_response x.cmd) where
  by : (b : Bool) → f (turned_by q x b) ≡ f x
  by true = e x x.stack _
  by false = e x _ _

turned_sends : (u : PortUse) (q : ℕ) (x : Packet) → goes_out u x ≡ true → goes_out u (turned q x) ≡ true
turned_sends u q x h = by u (is_response x.cmd) h where
  by : (v : PortUse) (b : Bool) → goes_out v x ≡ true → goes_out v (turned_by q x b) ≡ true
  by uses.Source true k = k
  by uses.Source false k = k
  by (uses.Destination first last) true k = k
  by (uses.Destination first last) false k = k
  by uses.Unused b k = k

turned_addr : (q : ℕ) (x : Packet) → (turned q x).addr ≡ x.addr
turned_addr q x = by (is_response x.cmd) where
  by : (b : Bool) → (turned_by q x b).addr ≡ x.addr
  by true = refl
  by false = refl

-- one place at most
one_weigh : (f : Packet → ℕ) (items : List Queued) → length items ≤ 1 → weigh f (queued_packets items) ≡ head_weight f (head_of items)
one_weigh f [] h = refl
one_weigh f (x ∷ []) h = omega arith
one_weigh f (x ∷ y ∷ ys) h = absurd (omega (arith, h))

gone_short : (o : Outlet) (at : ℕ) (items : List Queued) → length items ≤ 1 → length (gone_in o at items).flow.items ≤ 1
gone_short o at [] h = omega arith
gone_short o at (x ∷ []) h = omega arith
gone_short o at (x ∷ y ∷ ys) h = absurd (omega (arith, h))

gone_all : (t : Packet → Bool) (o : Outlet) (at : ℕ) (items : List Queued) → AllMeet t items → AllMeet t (gone_in o at items).flow.items
gone_all t o at [] h = tt
gone_all t o at (x ∷ []) h = tt
gone_all t o at (x ∷ y ∷ ys) h = h.1

-- a refusal by fault
pub fault_service : (rs : List Route) (x : Packet) (c : Cmd) (b : List ℕ) → x.cmd ≡ c → is_unmapped rs x.addr ≡ true
    → IsService rs x (fault_response x c) b [] b
fault_service rs x cmds.Read b e u = nobody_read b (replicate x.size 0) e refl u
fault_service rs x cmds.Write b e u = nobody_written b e refl u
fault_service rs x cmds.WriteBack b e u = unchanged b refl
fault_service rs x cmds.ReadResp b e u = unchanged b refl
fault_service rs x cmds.WriteResp b e u = unchanged b refl

pub fault_id : (x : Packet) (c : Cmd) → (fault_response x c).id ≡ x.id
fault_id x cmds.Read = refl
fault_id x cmds.Write = refl
fault_id x cmds.WriteBack = refl
fault_id x cmds.ReadResp = refl
fault_id x cmds.WriteResp = refl

pub fault_answers : (x : Packet) (c : Cmd) → x.cmd ≡ c → is_write_back c ≡ false → is_response (fault_response x c).cmd ≡ true
fault_answers x cmds.Read e w = refl
fault_answers x cmds.Write e w = refl
fault_answers x cmds.WriteBack e w = cc
fault_answers x cmds.ReadResp e w = ap is_response e
fault_answers x cmds.WriteResp e w = ap is_response e

pub written_back : (c : Cmd) → is_write_back c ≡ true → c ≡ cmds.WriteBack
written_back cmds.WriteBack h = refl
written_back cmds.Read h = cc
written_back cmds.Write h = cc
written_back cmds.ReadResp h = cc
written_back cmds.WriteResp h = cc

-- the layer of no port is empty then, and calls who waits
opens_flow : (ws : List ℕ) → (side_opened ws).lane.flow ≡ quiet_flow
opens_flow [] = refl
opens_flow (q ∷ qs) = refl

opens_changes : (ws : List ℕ) → (side_opened ws).changes ≡ []
opens_changes [] = refl
opens_changes (q ∷ qs) = refl

opens_nil : (ws : List ℕ) → (side_opened ws).acts ++ [] ≡ (side_opened ws).acts
opens_nil [] = refl
opens_nil (q ∷ qs) = refl

opens_facts : (ws : List ℕ) (tail : List Act) → tail ≡ [] → (let l = (side_opened ws).acts ++ tail in
    (passed_packets l ≡ []) × AllActsOk l × (weight l ≤ 2) × ((p : ℕ) → offers p l ≡ 0))
opens_facts [] tail e = (ap passed_packets e, subst AllActsOk (sym e) tt, omega (arith, ap weight e), λ p. ap (offers p) e)
opens_facts (q ∷ qs) tail e = (ap passed_packets e, (tt, subst AllActsOk (sym e) tt), omega (arith, ap weight e), λ p. omega (arith, ap (offers p) e))

opens_side : (f : Flow) (ws : List ℕ) → SideMoved (record { flow = f; waiting = ws }) (side_opened ws).lane (side_opened ws).acts
opens_side f [] = record { listed = λ q. omega arith; silent = λ q. refl; offerless = λ q x h. h; hungry = λ h. absurd (cc h) }
opens_side f (r ∷ rs) = record {
  listed = λ q. omega arith;
  silent = λ q. refl;
  offerless = λ q x h. no_offer q x h;
  hungry = λ h. inr (r, omega (arith, only_self r 1), omega (arith, only_self r 1));
} where
  no_offer : (q : ℕ) (x : Packet) → IsIn (offer_out q x) (call_at r ∷ []) → ⊥
  no_offer q x (inl e) = cc e
  no_offer q x (inr h) = h

-- a packet comes into an empty flow, whatever the wake is about
entered_law : (o : Outlet) (w : Wake) (y : Packet) (at : ℕ) (out : OutState) → IsFlow [] out → told w o.port ≡ 0 → refused w o.port ≡ 0 → retry w o.port ≡ 0
    → (let m : Moved = put_in o y at [] out in FlowLaw o (record { items = []; out = out }) w m.flow m.acts m.changes)
entered_law o w y at Quiet v told_none refused_none retry_none = record {
  ok = tt;
  asked = omega (arith, told_none);
  waits = omega (arith, retry_none, refused_none);
  due = sym (ap (λ b. cond b true (due_before w false o.slot)) (same_number o.slot));
  carries = λ z h. absurd h;
  keeps = λ h. absurd (omega arith);
  again = omega (arith, retry_none);
  elsewhere = λ r n. refl;
  other_due = λ n x h. ap (λ b. cond b true x) (ne_eqb n o.slot (λ e. h (sym e)));
  mine = λ r z h. absurd h;
}
entered_law o w y at Due v told_none refused_none retry_none = absurd v
entered_law o w y at Asked v told_none refused_none retry_none = absurd v
entered_law o w y at Waits v told_none refused_none retry_none = absurd v

-- what a step of the layers owes beside the law of the lane p
record Beside (rs : List Route) (s : XbarState) (p : ℕ) (w : Wake) (answer : Answer) (k : SideLayer) (es : List Entry) (v : Moves) (more : List Act)
    (m : LaneMoved) (cs : List Change) : Type 0 where
  one : length m.lane.flow.items ≤ 1
  sends : AllMeet (λ x. xbar_sends s p x) m.lane.flow.items
  side_ok : SideOk rs k.lane.flow.items k.lane.flow.out
  sideless : is_total s.ports ≡ true → k.lane.flow.items ≡ []
  side_due : (n : ℕ) → is_side_slot s.ports n ≡ true → is_due_out k.lane.flow.out ≡ due_before w (is_due_out s.side.lane.flow.out) n
  changed : (d : Bool) (n : ℕ) → due_after cs d n ≡ due_after m.changes d n
  others : (n : ℕ) → (slot_of_port s.ports p ≡ n → ⊥) → is_side_slot s.ports n ≡ false → (d : Bool) → due_before w d n ≡ d
  passed : passed_packets (more ++ m.acts) ≡ []
  acts : AllActsOk (more ++ m.acts)
  conserves : Conserves (xbar_face s) w (xbar_face (record s { lanes = set s.lanes p m.lane; side = k })) answer (more ++ m.acts) v
  few : (q : ℕ) → offers q (more ++ m.acts) ≤ retry w q + starts w
  light : weight (more ++ m.acts) ≤ spend w answer
  quiet : (q : ℕ) → 1 ≤ told w q → (es ≡ []) × (v ≡ no_moves)
  made : v.made ≡ []
  answered : v.answered ≡ []
  absorbed : v.absorbed ≡ []

module _ (rs : List Route) (ram : ℕ) (s : XbarState) (ok : XbarOk rs s) where
  sent_of : (t : XbarState) → t.ports ≡ s.ports → ((p : ℕ) → AllMeet (λ x. xbar_sends s p x) (lane_at t.lanes p).flow.items) → AreSent (xbar_rest t) t.lanes
  sent_of t same meets = record {
    sends = λ p x h e. subst (λ us. goes_out (use_at us p) x ≡ true) (sym same)
        (head_meets (λ y. xbar_sends s p y) (lane_at t.lanes p).flow.items x (meets p) e);
    holds = λ p x e h. omega (arith, held h t, lane_le h t.lanes p x e);
    timed = refl;
  }

  -- a lane has a port
  inside : (p : ℕ) → p < length s.lanes → p < length s.ports
  inside p h = omega (arith, h, ok.long)

  -- the layer of no port has its event at no other's slot
  apart : (p n : ℕ) → p < length s.lanes → is_side_slot s.ports n ≡ true → slot_of_port s.ports p ≡ n → ⊥
  apart p n here e z = not_both (is_side_slot s.ports n) (subst (λ j. is_side_slot s.ports j ≡ false) z (port_not_side s.ports p (inside p here))) e

  -- the pending events, where the lane p moves
  lane_due : (p : ℕ) (b : Lane) (k : SideLayer) (w : Wake) (acts : List Act) (cs : List Change) → p < length s.lanes
      → FlowLaw (xbar_outlet s p) (lane_at s.lanes p).flow w b.flow acts cs
      → ((n : ℕ) → is_side_slot s.ports n ≡ true → is_due_out k.lane.flow.out ≡ due_before w (is_due_out s.side.lane.flow.out) n)
      → ((n : ℕ) → (slot_of_port s.ports p ≡ n → ⊥) → is_side_slot s.ports n ≡ false → (d : Bool) → due_before w d n ≡ d) → (n : ℕ)
      → layer_due (record s { lanes = set s.lanes p b; side = k }) n ≡ due_after cs (due_before w (layer_due s n) n) n
  lane_due p b k w acts cs here law side_due others n = by (is_side_slot s.ports n) refl where
    later : XbarState
    later = record s { lanes = set s.lanes p b; side = k }

    count : ℕ
    count = length s.ports + sides s.ports

    at : ℕ
    at = port_of_slot s.ports n

    by_port : is_side_slot s.ports n ≡ false → n < count → (at ≡ p) ⊎ (at ≡ p → ⊥)
        → is_due_at (set s.lanes p b) at ≡ due_after cs (due_before w (is_due_at s.lanes at) n) n
    by_port far within (inl e) =
        let slot : slot_of_port s.ports p ≡ n = ap (slot_of_port s.ports) (sym e) ∙ slot_back s.ports n within far in
        let mine : is_due_out b.flow.out ≡ due_after cs (due_before w (is_due_at s.lanes p) n) n =
        subst (λ j. is_due_out b.flow.out ≡ due_after cs (due_before w (is_due_at s.lanes p) j) j) slot law.due in
        let there : is_due_at (set s.lanes p b) p ≡ due_after cs (due_before w (is_due_at s.lanes p) n) n =
        ap (λ (l : Lane). is_due_out l.flow.out) (get_or-set_same s.lanes p b empty_lane here) ∙ mine in
        subst (λ j. is_due_at (set s.lanes p b) j ≡ due_after cs (due_before w (is_due_at s.lanes j) n) n) (sym e) there
    by_port far within (inr e) =
        let off : slot_of_port s.ports p ≡ n → ⊥ = (λ z. e (ap (port_of_slot s.ports) (sym z) ∙ port_back s.ports p (inside p here))) in
        ap (λ (l : Lane). is_due_out l.flow.out) (get_or-set_other s.lanes p at b empty_lane e)
        ∙ sym (ap (λ d. due_after cs d n) (others n off far (is_due_at s.lanes at)) ∙ law.other_due n (is_due_at s.lanes at) off)

    by_slot : is_side_slot s.ports n ≡ false → (c : Bool) → nat_lt n count ≡ c
        → (c && is_due_at (set s.lanes p b) at) ≡ due_after cs (due_before w (c && is_due_at s.lanes at) n) n
    by_slot far true e = by_port far (ltb-true n count e) (cases_eq at p)
    by_slot far false e =
        let below : slot_of_port s.ports p < count = slot_below s.ports p (inside p here) in
        let off : slot_of_port s.ports p ≡ n → ⊥ = (λ z. not_both (nat_lt n count) e (lt-ltb n count (subst (λ j. j < count) z below))) in
        sym (ap (λ d. due_after cs d n) (others n off far false) ∙ law.other_due n false off)

    by : (z : Bool) → is_side_slot s.ports n ≡ z
        → (if z then is_due_out k.lane.flow.out else port_due later n)
        ≡ due_after cs (due_before w (if z then is_due_out s.side.lane.flow.out else port_due s n) n) n
    by true e = side_due n e ∙ sym (law.other_due n (due_before w (is_due_out s.side.lane.flow.out) n) (apart p n here e))
    by false e = by_slot e (nat_lt n count) refl

  by_layers : (p : ℕ) (w : Wake) (next : ℕ) (answer : Answer) (k : SideLayer) (es : List Entry) (v : Moves) (more : List Act)
      (m : LaneMoved) (cs : List Change) → p < length s.lanes → IsAt w p
      → ((q : ℕ) (x : Packet) → w ≡ wakes.Offer (record { 0 = q }) x → layer_of s x ≡ p)
      → LaneLaw (is_hungry 1) (xbar_outlet s p) (lane_at s.lanes p) w m.lane answer m.acts m.changes
      → SideMoved s.side.lane k.lane more → Beside rs s p w answer k es v more m cs
      → ((n : Mind) → MayThink rs ram n (xbar_face s) w → (b : List ℕ) → Serves rs b v.served es b)
      → (let r : Stepped = record {
        state = Xbar (record s { lanes = set s.lanes p m.lane; side = k });
        next = next;
        changes = cs;
        acts = more ++ m.acts;
        entries = es;
        answer = answer;
        moves = v;
      } in Keeps rs ram (xbar_face s) w r)
  unfolding face_of IsOk layer_of
  by_layers p w next answer k es v more m cs here at routes law side b notes =
      let t : XbarState = record s { lanes = set s.lanes p m.lane; side = k } in
      let o : Outlet = xbar_outlet s p in
      let same : length (set s.lanes p m.lane) ≡ length s.lanes = length-set s.lanes p m.lane in
      let layers : (x : Packet) → layer_of t x ≡ layer_of s x = (λ x. refl) in
      let meets : (q : ℕ) → AllMeet (λ x. xbar_sends s q x) (lane_at (set s.lanes p m.lane) q).flow.items =
      each (is_hungry 1) s.lanes o m.lane w answer m.acts m.changes here ok.lanes law (λ q a c. AllMeet (λ x. xbar_sends s q x) c.flow.items) b.sends
      (λ q n. ok.sends q) in
      let lanes = lanes_law (is_hungry 1) s.lanes o m.lane w answer m.acts m.changes here ok.lanes law (xbar_rest s) (xbar_rest t) (λ x. layer_of s x)
      (λ x. layer_of t x) at routes layers (λ q x. refl) (λ q x. refl) (λ q. refl) (sent_of t refl meets) in
      let both = sided_law (length s.lanes) (lanes_face (xbar_rest s) (is_hungry 1) s.lanes (λ x. layer_of s x))
      (lanes_face (xbar_rest t) (is_hungry 1) (set s.lanes p m.lane) (λ x. layer_of t x))
      s.side.lane k.lane (λ x. layer_of s x) (λ x. layer_of t x) w answer m.acts more lanes side layers
      (λ q x e. (refl, λ z. omega (arith, here, z, routes q x e))) in
      record {
        ok = record {
          sources = ok.sources;
          long = omega (arith, same, ok.long);
          lanes = lanes_keep (is_hungry 1) s.lanes o m.lane w answer m.acts m.changes here ok.lanes law;
          one = each (is_hungry 1) s.lanes o m.lane w answer m.acts m.changes here ok.lanes law (λ q a c. length c.flow.items ≤ 1) b.one (λ q n. ok.one q);
          sends = meets;
          side = b.side_ok;
          sideless = b.sideless;
          nobody = ok.nobody;
        };
        law = subst (λ n. Law (xbar_face s) w (with_side n (lanes_face (xbar_rest t) (is_hungry 1) (set s.lanes p m.lane) (λ x. layer_of t x)) k.lane
            (λ x. layer_of t x)) answer (more ++ m.acts)) (sym same) both;
        due = λ n. lane_due p m.lane k w m.acts m.changes here law.flow b.side_due b.others n ∙ sym (b.changed (due_before w (layer_due s n) n) n);
        conserves = b.conserves;
        spends = record { few = b.few; light = omega (arith, b.light) };
        same = record { cpu = refl; instant = refl; caches = refl; empty = λ e. absurd (cc e) };
        quiet = λ q h. (let z = b.quiet q h in record { entries = z.0; moves = z.1; passed = b.passed; mind = refl; memory = refl });
        acts = b.acts;
        hops = no_pass (xbar_face s) (more ++ m.acts) b.passed;
        mindless = λ n e may. record {
          mind = refl;
          made = ap (weigh core) b.made;
          fits = λ j. ap (weigh (bad rs ram j)) b.made;
          answered = omega (arith, ap (weigh core) b.answered, ap (weigh core) b.absorbed);
          passed = ap (weigh core) b.passed;
          recalls = λ plain. record {
            serves = λ j l c. notes n may j;
            stays = λ h. refl;
            remains = λ h. refl;
          };
        };
        thinks = λ n e may. absurd (cc e);
      }

  pub layer_facts : (x : Packet) → (layer_of s x == length s.ports) ≡ false → (layer_of s x < length s.lanes) × (xbar_sends s (layer_of s x) x ≡ true)
  unfolding layer_of layer_for
  layer_facts x h = by (is_response x.cmd) refl h where
    last : (o : Option ℕ) → port_from 0 s.ports x.addr ≡ o → (port_or_side (length s.ports) o == length s.ports) ≡ false
        → (port_or_side (length s.ports) o < length s.ports) × (takes (use_at s.ports (port_or_side (length s.ports) o)) x.addr ≡ true)
    last None e z = absurd (not_both (length s.ports == length s.ports) z (same_number (length s.ports)))
    last (Some p) e z =
        let b = port_below s.ports x.addr p e in
        let at : port_or_side (length s.ports) (Some p) ≡ p = ap (λ t. if t then p else length s.ports) (lt-ltb p (length s.ports) b.0) in
        (subst (λ n. n < length s.ports) (sym at) b.0, subst (λ n. takes (use_at s.ports n) x.addr ≡ true) (sym at) b.1)

    by : (b : Bool) → is_response x.cmd ≡ b → (layer_for s.ports x b == length s.ports) ≡ false
        → (layer_for s.ports x b < length s.lanes) × (goes_out (use_at s.ports (layer_for s.ports x b)) x ≡ true)
    by true e z =
        let p : ℕ = source_port s.ports (top_port x) in
        (omega (arith, source_there s.ports p (ok.sources (top_port x)), ok.long), source_sends (use_at s.ports p) x (ok.sources (top_port x)) e)
    by false e z =
        let p : ℕ = port_or_side (length s.ports) (port_from 0 s.ports x.addr) in
        let l = last (port_from 0 s.ports x.addr) refl z in
        (omega (arith, l.0, ok.long), takes_sends (use_at s.ports p) x l.1 e)

  -- what goes to the layer of no port has no range, and not all addresses have a port
  pub layer_side : (x : Packet) → (layer_of s x == length s.ports) ≡ true → (is_unmapped rs x.addr ≡ true) × (is_total s.ports ≡ false)
  unfolding layer_of layer_for
  layer_side x h = by (is_response x.cmd) h where
    free : port_from 0 s.ports x.addr ≡ None → (t : Bool) → is_total s.ports ≡ t → t ≡ false
    free e true f = absurd (total_takes 0 s.ports x.addr f e)
    free e false f = refl

    last : (o : Option ℕ) → port_from 0 s.ports x.addr ≡ o → (port_or_side (length s.ports) o == length s.ports) ≡ true
        → (is_unmapped rs x.addr ≡ true) × (is_total s.ports ≡ false)
    last None e z = (ok.nobody x.addr e, free e (is_total s.ports) refl)
    last (Some p) e z =
        let b = port_below s.ports x.addr p e in
        let at : port_or_side (length s.ports) (Some p) ≡ p = ap (λ t. if t then p else length s.ports) (lt-ltb p (length s.ports) b.0) in
        absurd (omega (arith, b.0, at, same_is (port_or_side (length s.ports) (Some p)) (length s.ports) z))

    by : (b : Bool) → (layer_for s.ports x b == length s.ports) ≡ true → (is_unmapped rs x.addr ≡ true) × (is_total s.ports ≡ false)
    by true z =
        let p : ℕ = source_port s.ports (top_port x) in
        absurd (omega (arith, source_there s.ports p (ok.sources (top_port x)), same_is p (length s.ports) z))
    by false z = last (port_from 0 s.ports x.addr) refl z

  quiet_notes : (w : Wake) (n : Mind) → MayThink rs ram n (xbar_face s) w → (b : List ℕ) → Serves rs b [] [] b
  quiet_notes w n may b = none b

  refused_notes : (w : Wake) (room : Bool) (n : Mind) → MayThink rs ram n (xbar_face s) w → (b : List ℕ) → Serves rs b [] (refusal_of s.common.object room) b
  refused_notes w true n may b = none b
  refused_notes w false n may b = aside b b [] (entries.Refused (record { 0 = s.common.object })) [] refl (none b)

  -- a step of one layer that keeps its packets
  by_calm : (p : ℕ) (w : Wake) (next : ℕ) (m : Moved) → p < length s.lanes → IsAt w p
      → FlowLaw (xbar_outlet s p) (lane_at s.lanes p).flow w m.flow m.acts m.changes → IsCalm (lane_at s.lanes p).flow.items m
      → ((q : ℕ) → shown w q ≡ 0) → ((n : ℕ) → (slot_of_port s.ports p ≡ n → ⊥) → (d : Bool) → due_before w d n ≡ d)
      → ((f : Packet → ℕ) (a : Answer) → came_in f w a ≡ 0) → ((f : Packet → ℕ) (g : Face) → went_out f g w ≡ 0)
      → ((q : ℕ) → offers q m.acts ≤ retry w q + starts w) → weight m.acts ≤ spend w answers.Nothing
      → Keeps rs ram (xbar_face s) w (xbar_with s next p answers.Nothing [] no_moves (moved (lane_at s.lanes p) m))
  by_calm p w next m here at law calm quiet others come out few light =
      by_layers p w next answers.Nothing s.side [] no_moves [] (moved (lane_at s.lanes p) m) m.changes here at
      (λ q x e. absurd (omega (arith, ap (λ v. shown v q) e, only_self q 1, quiet q)))
      (moved_law 1 (xbar_outlet s p) (lane_at s.lanes p) w m law calm quiet) (side_same s.side.lane)
      (record {
        one = subst (λ (xs : List Queued). length xs ≤ 1) (sym calm.same) (ok.one p);
        sends = subst (λ xs. AllMeet (λ x. xbar_sends s p x) xs) (sym calm.same) (ok.sends p);
        side_ok = ok.side;
        sideless = ok.sideless;
        side_due = λ n e. sym (others n (apart p n here e) (is_due_out s.side.lane.flow.out));
        changed = λ d n. refl;
        others = λ n h k d. others n h d;
        passed = calm.passed;
        acts = calm.acts;
        conserves = record {
          kept = lane_packets (s.side.lane ∷ s.lanes);
          before = λ f e. omega (arith, come f answers.Nothing, out f (xbar_face s));
          after = λ f e. omega (
            arith,
            held f s,
            weigh-append f (queued_packets s.side.lane.flow.items)
                (lane_packets (set s.lanes p (moved (lane_at s.lanes p) m).lane)),
            lanes-set f s.lanes p (moved (lane_at s.lanes p) m).lane here,
            ap (λ xs. weigh f (queued_packets xs)) calm.same,
            ap (weigh f) calm.passed,
          );
          numbers = λ f e. refl;
        };
        few = few;
        light = light;
        quiet = λ q h. (refl, refl);
        made = refl;
        answered = refl;
        absorbed = refl;
      })
      (quiet_notes w)

  -- its packet is offered
  xbar_asks : (p next : ℕ) → p < length s.lanes → is_due_out (lane_at s.lanes p).flow.out ≡ true
      → Keeps rs ram (xbar_face s) (wakes.Event (record { 0 = slot_of_port s.ports p })) (xbar_event s next p)
  xbar_asks p next here due =
      let f : Flow = (lane_at s.lanes p).flow in
      by_calm p (wakes.Event (record { 0 = slot_of_port s.ports p })) next (ask_in p f.items f.out) here (event_at (slot_of_port s.ports p) p)
      (ask_law (xbar_outlet s p) f.items f.out (ok.lanes p) due) (ask_calm p f.items f.out)
      (λ q. refl) (λ n h d. ap (λ b. cond b false d) (ne_eqb n (slot_of_port s.ports p) (λ e. h (sym e))))
      (λ g a. refl) (λ g k. refl) (λ q. few q f.items f.out) (light f.items f.out) where
        few : (q : ℕ) (items : List Queued) (out : OutState) → offers q (ask_in p items out).acts ≤ 0 + 1
        few q [] out = omega arith
        few q (z ∷ zs) Quiet = omega arith
        few q (z ∷ zs) Due = omega (arith, only_le p q 1)
        few q (z ∷ zs) Asked = omega arith
        few q (z ∷ zs) Waits = omega arith

        light : (items : List Queued) (out : OutState) → weight (ask_in p items out).acts ≤ 8
        light [] out = omega arith
        light (z ∷ zs) Quiet = omega arith
        light (z ∷ zs) Due = omega arith
        light (z ∷ zs) Asked = omega arith
        light (z ∷ zs) Waits = omega arith

  xbar_refused : (p next now : ℕ) → MayWake (xbar_face s) (wakes.Refused (record { 0 = p }))
      → Keeps rs ram (xbar_face s) (wakes.Refused (record { 0 = p })) (xbar_step s next (wakes.Refused (record { 0 = p })) now)
  xbar_refused p next now may =
      let f : Flow = (lane_at s.lanes p).flow in
      let one : 1 ≤ asked_bit f.out = omega (arith, may.told p, only_self p 1) in
      by_calm p (wakes.Refused (record { 0 = p })) next (hold_in f.items f.out) (bit_there asked_bit refl s.lanes p one) (refused_at p)
      (hold_law (xbar_outlet s p) f.items f.out (ok.lanes p) one) (hold_calm f.items f.out)
      (λ q. refl) (λ n h d. refl) (λ g a. refl) (λ g k. refl) (λ q. omega (arith, silent q f.items f.out)) (omega (arith, light f.items f.out)) where
        silent : (q : ℕ) (items : List Queued) (out : OutState) → offers q (hold_in items out).acts ≡ 0
        silent q items Quiet = refl
        silent q items Due = refl
        silent q items Asked = refl
        silent q items Waits = refl

        light : (items : List Queued) (out : OutState) → weight (hold_in items out).acts ≡ 0
        light items Quiet = refl
        light items Due = refl
        light items Asked = refl
        light items Waits = refl

  xbar_retry : (p next now : ℕ) → MayWake (xbar_face s) (wakes.Retry (record { 0 = p }))
      → Keeps rs ram (xbar_face s) (wakes.Retry (record { 0 = p })) (xbar_step s next (wakes.Retry (record { 0 = p })) now)
  xbar_retry p next now may =
      let f : Flow = (lane_at s.lanes p).flow in
      let one : 1 ≤ waits_bit f.out = omega (arith, may.retry p, only_self p 1) in
      by_calm p (wakes.Retry (record { 0 = p })) next (again_in p f.items f.out) (bit_there waits_bit refl s.lanes p one) (retry_at p)
      (again_law (xbar_outlet s p) f.items f.out (ok.lanes p) one) (again_calm p f.items f.out)
      (λ q. refl) (λ n h d. refl) (λ g a. refl) (λ g k. refl) (λ q. few q f.items f.out) (light f.items f.out) where
        few : (q : ℕ) (items : List Queued) (out : OutState) → offers q (again_in p items out).acts ≤ only p q 1 + 0
        few q [] out = omega arith
        few q (x ∷ xs) Quiet = omega arith
        few q (x ∷ xs) Due = omega arith
        few q (x ∷ xs) Asked = omega arith
        few q (x ∷ xs) Waits = omega arith

        light : (items : List Queued) (out : OutState) → weight (again_in p items out).acts ≤ 1
        light [] out = omega arith
        light (x ∷ xs) Quiet = omega arith
        light (x ∷ xs) Due = omega arith
        light (x ∷ xs) Asked = omega arith
        light (x ∷ xs) Waits = omega arith

  -- its packet was taken, and whoever is first is called
  xbar_gone : (p next now : ℕ) (k : SideLayer) → k.lane ≡ s.side.lane → 1 ≤ asked_bit (lane_at s.lanes p).flow.out
      → Keeps rs ram (xbar_face s) (wakes.Taken (record { 0 = p }))
      (xbar_with (record s { side = k }) next p answers.Nothing [] no_moves
      (opened 1 (gone_in (xbar_outlet s p) (now + s.latency) (lane_at s.lanes p).flow.items) (lane_at s.lanes p).waiting))
  xbar_gone p next now k same one =
      let l : Lane = lane_at s.lanes p in
      let here : p < length s.lanes = bit_there asked_bit refl s.lanes p one in
      let m : Moved = gone_in (xbar_outlet s p) (now + s.latency) l.flow.items in
      let room : Bool = nat_lt (length m.flow.items) 1 in
      let b : LaneMoved = opened 1 m l.waiting in
      let silent = gone_silent (xbar_outlet s p) (now + s.latency) l.flow.items in
      let acts = opened_passed m room l.waiting silent in
      let items : b.lane.flow.items ≡ m.flow.items = opened_items m room l.waiting in
      by_layers p (wakes.Taken (record { 0 = p })) next answers.Nothing k [] no_moves [] b b.changes here (taken_at p) (λ q x e. absurd (cc e))
      (opened_law 1 (xbar_outlet s p) l.flow (wakes.Taken (record { 0 = p })) m l.waiting
      (gone_law (xbar_outlet s p) (now + s.latency) l.flow.items l.flow.out (ok.lanes p) one) silent (λ q. refl))
      (subst (λ a. SideMoved s.side.lane a []) (sym same) (side_same s.side.lane))
      (record {
        one = subst (λ (xs : List Queued). length xs ≤ 1) (sym items) (gone_short (xbar_outlet s p) (now + s.latency) l.flow.items (ok.one p));
        sends = subst (λ xs. AllMeet (λ x. xbar_sends s p x) xs) (sym items)
            (gone_all (λ x. xbar_sends s p x) (xbar_outlet s p) (now + s.latency) l.flow.items (ok.sends p));
        side_ok = subst (λ (a : Lane). SideOk rs a.flow.items a.flow.out) (sym same) ok.side;
        sideless = λ t. ap (λ (a : Lane). a.flow.items) same ∙ ok.sideless t;
        side_due = λ n e. ap (λ (a : Lane). is_due_out a.flow.out) same;
        changed = λ d n. refl;
        others = λ n h e d. refl;
        passed = acts.0;
        acts = acts.1;
        conserves = record {
          kept = lane_packets (s.side.lane ∷ set s.lanes p b.lane);
          before = λ f e. omega (
            arith,
            held f s,
            weigh-append f (queued_packets s.side.lane.flow.items) (lane_packets (set s.lanes p b.lane)),
            lanes-set f s.lanes p b.lane here,
            ap (λ xs. weigh f (queued_packets xs)) items,
            gone_weigh f (xbar_outlet s p) (now + s.latency) l.flow.items,
          );
          after = λ f e. omega (arith, ap (weigh f) acts.0, ap (λ (a : Lane). weigh f (lane_packets (a ∷ set s.lanes p b.lane))) same);
          numbers = λ f e. refl;
        };
        few = λ q. omega (arith, acts.3 q);
        light = acts.2;
        quiet = λ q h. (refl, refl);
        made = refl;
        answered = refl;
        absorbed = refl;
      })
      (quiet_notes (wakes.Taken (record { 0 = p })))

  -- an offer to a layer with a port
  xbar_offered : (p q next now : ℕ) (x : Packet) → layer_of s x ≡ p → p < length s.lanes → xbar_sends s p x ≡ true → (room : Bool)
      → has_room 1 (lane_at s.lanes p) ≡ room
      → (let m : LaneMoved = taken_in (xbar_outlet s p) (lane_at s.lanes p) q (turned q x) (now + s.latency) room in
      LaneLaw (is_hungry 1) (xbar_outlet s p) (lane_at s.lanes p) (wakes.Offer (record { 0 = q }) x) m.lane (answer_of room) m.acts m.changes)
      → Keeps rs ram (xbar_face s) (wakes.Offer (record { 0 = q }) x)
      (xbar_with s next p (answer_of room) (refusal_of s.common.object room) no_moves
      (taken_in (xbar_outlet s p) (lane_at s.lanes p) q (turned q x) (now + s.latency) room))
  xbar_offered p q next now x to here fits true free law =
      let l : Lane = lane_at s.lanes p in
      let o : Outlet = xbar_outlet s p in
      let y : Packet = turned q x in
      let m : Moved = put_in o (turned q x) (now + s.latency) l.flow.items l.flow.out in
      let empty : l.flow.items ≡ [] = none_or_one l.flow.items (ok.one p) free in
      let silent = put_silent o (turned q x) (now + s.latency) l.flow.items l.flow.out in
      by_layers p (wakes.Offer (record { 0 = q }) x) next answers.Taken s.side [] no_moves [] (moved l m) m.changes here (offer_at_port p q x)
      (λ r z e. (let k : x ≡ z = cc e in ap (layer_of s) (sym k) ∙ to))
      law (side_same s.side.lane)
      (record {
        one = subst (λ xs. length (put_in o (turned q x) (now + s.latency) xs l.flow.out).flow.items ≤ 1) (sym empty) (omega arith);
        sends = subst (λ xs. AllMeet (λ z. xbar_sends s p z) (put_in o (turned q x) (now + s.latency) xs l.flow.out).flow.items) (sym empty)
            (turned_sends (use_at s.ports p) q x fits, tt);
        side_ok = ok.side;
        sideless = ok.sideless;
        side_due = λ n e. refl;
        changed = λ d n. refl;
        others = λ n h k d. refl;
        passed = ap passed_packets silent;
        acts = subst AllActsOk (sym silent) tt;
        conserves = record {
          kept = turned q x ∷ lane_packets (s.side.lane ∷ s.lanes);
          before = λ f e. omega (arith, turned_weigh f e q x);
          after = λ f e. omega (
            arith,
            held f s,
            weigh-append f (queued_packets s.side.lane.flow.items) (lane_packets (set s.lanes p (moved l m).lane)),
            lanes-set f s.lanes p (moved l m).lane here,
            put_weigh f o (turned q x) (now + s.latency) l.flow.items l.flow.out,
            ap (λ a. weigh f (passed_packets a)) silent,
          );
          numbers = λ f e. refl;
        };
        few = λ r. omega (arith, ap (offers r) silent);
        light = omega (arith, ap weight silent);
        quiet = λ r h. absurd (omega (arith, h));
        made = refl;
        answered = refl;
        absorbed = refl;
      })
      (quiet_notes (wakes.Offer (record { 0 = q }) x))
  xbar_offered p q next now x to here fits false free law =
      let l : Lane = lane_at s.lanes p in
      let o : Outlet = xbar_outlet s p in
      let m : LaneMoved = taken_in o l q (turned q x) (now + s.latency) false in
      by_layers p (wakes.Offer (record { 0 = q }) x) next answers.Refused s.side (entries.Refused (record { 0 = s.common.object }) ∷ []) no_moves [] m []
      here (offer_at_port p q x) (λ r z e. (let k : x ≡ z = cc e in ap (layer_of s) (sym k) ∙ to))
      law (side_same s.side.lane)
      (record {
        one = ok.one p;
        sends = ok.sends p;
        side_ok = ok.side;
        sideless = ok.sideless;
        side_due = λ n e. refl;
        changed = λ d n. refl;
        others = λ n h k d. refl;
        passed = refl;
        acts = tt;
        conserves = record {
          kept = lane_packets (s.side.lane ∷ s.lanes);
          before = λ f e. omega arith;
          after = λ f e. omega (
            arith,
            held f s,
            weigh-append f (queued_packets s.side.lane.flow.items) (lane_packets (set s.lanes p m.lane)),
            lanes-set f s.lanes p m.lane here,
          );
          numbers = λ f e. refl;
        };
        few = λ r. omega arith;
        light = omega arith;
        quiet = λ r h. absurd (omega (arith, h));
        made = refl;
        answered = refl;
        absorbed = refl;
      })
      (refused_notes (wakes.Offer (record { 0 = q }) x) false)

  -- the base of the face, without the layer of no port
  abbrev base : XbarState → Face
  base t = lanes_face (xbar_rest t) (is_hungry 1) s.lanes (λ x. layer_of s x)

  base_ok : (k : SideLayer) → FaceOk (base (record s { side = k }))
  base_ok k = lanes_ok (xbar_rest (record s { side = k })) (is_hungry 1) s.lanes (λ x. layer_of s x) ok.lanes (sent_of (record s { side = k }) refl ok.sends)

  base_same : (k : SideLayer) → IsPortSame (base s) (base (record s { side = k }))
  base_same k = record {
    ports = refl;
    asked = λ p. refl;
    waits = λ p. refl;
    head = λ p. refl;
    listed = λ p. refl;
    stands = λ l p. refl;
    hungry = λ l. refl;
    route = λ x. refl;
    sends = λ p x. refl;
    admits = λ p x. refl;
    passes = λ p. refl;
  }

  pub side_law : (k : SideLayer) (more : List Act) (w : Wake) (answer : Answer) → more ++ [] ≡ more
      → ((p : ℕ) → (told w p ≡ 0) × (refused w p ≡ 0) × (retry w p ≡ 0) × (shown w p ≡ 0)) → SideMoved s.side.lane k.lane more
      → Law (xbar_face s) w (xbar_face (record s { side = k })) answer more
  unfolding layer_of
  side_law k more w answer nil mute side =
      subst (λ l. Law (xbar_face s) w (xbar_face (record s { side = k })) answer l) nil
      (sided_law (length s.lanes) (base s) (base (record s { side = k })) s.side.lane k.lane (λ x. layer_of s x) (λ x. layer_of s x) w answer [] more
      (stays_law (base s) (base (record s { side = k })) w answer (base_ok k) (base_same k)
      (λ p. ((mute p).0, (mute p).1, (mute p).2, omega (arith, rejected_le w answer p, (mute p).3)))
      (λ q x e. absurd (omega (arith, ap (λ u. shown u q) e, only_self q 1, (mute q).3))))
      side (λ x. refl) (λ q x e. absurd (omega (arith, ap (λ u. shown u q) e, only_self q 1, (mute q).3))))

  -- only the layer of no port moves
  by_side : (w : Wake) (next : ℕ) (answer : Answer) (k : SideLayer) (es : List Entry) (v : Moves) (list : List Act) (cs : List Change)
      → Law (xbar_face s) w (xbar_face (record s { side = k })) answer list
      → SideOk rs k.lane.flow.items k.lane.flow.out → (is_total s.ports ≡ true → k.lane.flow.items ≡ [])
      → ((n : ℕ) → layer_due (record s { side = k }) n ≡ due_after cs (due_before w (layer_due s n) n) n)
      → Conserves (xbar_face s) w (xbar_face (record s { side = k })) answer list v → passed_packets list ≡ [] → AllActsOk list
      → ((q : ℕ) → offers q list ≤ retry w q + starts w) → weight list ≤ spend w answer → ((q : ℕ) → told w q ≡ 0) → v.made ≡ []
      → ((n : Mind) → MayThink rs ram n (xbar_face s) w → weigh core v.answered + weigh core v.absorbed ≡ 0)
      → ((n : Mind) → MayThink rs ram n (xbar_face s) w → (b : List ℕ) → Serves rs b v.served es b)
      → (let r : Stepped = record {
        state = Xbar (record s { side = k });
        next = next;
        changes = cs;
        acts = list;
        entries = es;
        answer = answer;
        moves = v;
      } in Keeps rs ram (xbar_face s) w r)
  unfolding face_of IsOk
  by_side w next answer k es v list cs law side_ok sideless due conserves passed sent few light mute made gone notes =
      record {
        ok = record {
          sources = ok.sources;
          long = ok.long;
          lanes = ok.lanes;
          one = ok.one;
          sends = ok.sends;
          side = side_ok;
          sideless = sideless;
          nobody = ok.nobody;
        };
        law = law;
        due = due;
        conserves = conserves;
        spends = record { few = few; light = omega (arith, light) };
        same = record { cpu = refl; instant = refl; caches = refl; empty = λ e. absurd (cc e) };
        quiet = λ q h. absurd (omega (arith, h, mute q));
        acts = sent;
        hops = no_pass (xbar_face s) list passed;
        mindless = λ n e may. record {
          mind = refl;
          made = ap (weigh core) made;
          fits = λ j. ap (weigh (bad rs ram j)) made;
          answered = gone n may;
          passed = ap (weigh core) passed;
          recalls = λ plain. record {
            serves = λ j l c. notes n may j;
            stays = λ h. refl;
            remains = λ h. refl;
          };
        };
        thinks = λ n e may. absurd (cc e);
      }

  side_short : (items : List Queued) (out : OutState) → SideOk rs items out → length items ≤ 1
  side_short [] out h = omega arith
  side_short (x ∷ []) out h = omega arith
  side_short (x ∷ y ∷ ys) out h = absurd h

  side_quiet : (items : List Queued) (out : OutState) → items ≡ [] → SideOk rs items out → out ≡ Quiet
  side_quiet [] out e h = h
  side_quiet (x ∷ xs) out e h = cc

  base_calm : (base s).hungry (length s.lanes) ≡ false
  base_calm = ap (is_hungry 1) (get_or_past s.lanes (length s.lanes) empty_lane (omega arith))

  -- the slot of the layer of no port, where it has one
  side_test : is_total s.ports ≡ false → (n : ℕ) → is_side_slot s.ports n ≡ (n == side_slot s.ports)
  side_test free n = ap (λ t. not t && (n == side_slot s.ports)) free

  -- an offer to the layer of no port
  side_taken : (q next now : ℕ) (x : Packet) → (layer_of s x == length s.ports) ≡ true → s.side.lane.flow.items ≡ []
      → Keeps rs ram (xbar_face s) (wakes.Offer (record { 0 = q }) x)
      (side_with s next answers.Taken [] no_moves (taken_in (side_outlet s) (record {
        flow = record { items = []; out = Quiet };
        waiting = s.side.lane.waiting;
      }) q (turned q x) (now + s.latency) true))
  unfolding layer_of
  side_taken q next now x to empty =
      let y : Queued = record { packet = turned q x; ready = now + s.latency } in
      let k : SideLayer = record { lane = record { flow = record { items = y ∷ []; out = Due }; waiting = s.side.lane.waiting }; ahead = s.side.ahead } in
      let goes = layer_side x to in
      by_side (wakes.Offer (record { 0 = q }) x) next answers.Taken k [] no_moves [] (Schedule (side_slot s.ports) request_class (now + s.latency) ∷ [])
      (side_offer (length s.lanes) (base s) (base (record s { side = k })) s.side.lane k.lane (λ z. layer_of s z) (λ z. layer_of s z) q x answers.Taken
      (base_ok k) (base_same k) base_calm (λ z. refl) (same_is (layer_of s x) (length s.ports) to ∙ sym ok.long) (λ p. omega arith) refl)
      (ap (λ a. is_unmapped rs a) (turned_addr q x) ∙ goes.0) (λ t. absurd (not_both (is_total s.ports) goes.1 t))
      (λ n. due n (n == side_slot s.ports) (is_side_slot s.ports n) (side_test goes.1 n))
      (record {
        kept = turned q x ∷ lane_packets (s.side.lane ∷ s.lanes);
        before = λ f e. omega (arith, turned_weigh f e q x);
        after = λ f e. omega (arith, held f s, ap (λ xs. weigh f (queued_packets xs)) empty);
        numbers = λ f e. refl;
      }) refl tt (λ r. omega arith) (omega arith) (λ r. refl) refl (λ n may. refl) (quiet_notes (wakes.Offer (record { 0 = q }) x)) where
        due : (n : ℕ) (z b : Bool) → b ≡ z
            → (if b then true else port_due s n)
            ≡ (if z then true else (if b then is_due_out s.side.lane.flow.out else port_due s n))
        due n true true e = refl
        due n false false e = refl
        due n true false e = absurd (cc e)
        due n false true e = absurd (cc e)

  side_denied : (q next now : ℕ) (x : Packet) → (layer_of s x == length s.ports) ≡ true → has_room 1 s.side.lane ≡ false → stood q s.side.lane.waiting ≡ 0
      → Keeps rs ram (xbar_face s) (wakes.Offer (record { 0 = q }) x)
      (side_with s next answers.Refused (entries.Refused (record { 0 = s.common.object }) ∷ []) no_moves
      (taken_in (side_outlet s) s.side.lane q (turned q x) (now + s.latency) false))
  unfolding layer_of
  side_denied q next now x to full fresh =
      let k : SideLayer = record { lane = record { flow = s.side.lane.flow; waiting = joined_once q s.side.lane.waiting }; ahead = s.side.ahead } in
      by_side (wakes.Offer (record { 0 = q }) x) next answers.Refused k (entries.Refused (record { 0 = s.common.object }) ∷ []) no_moves [] []
      (side_offer (length s.lanes) (base s) (base (record s { side = k })) s.side.lane k.lane (λ z. layer_of s z) (λ z. layer_of s z) q x answers.Refused
      (base_ok k) (base_same k) base_calm (λ z. refl) (same_is (layer_of s x) (length s.ports) to ∙ sym ok.long)
      (λ p. omega (arith, stood-append p s.side.lane.waiting (q ∷ []), ap (stood p) (joins_last q s.side.lane.waiting fresh)))
      (ap (λ b. b && is_some_port (joined_once q s.side.lane.waiting)) full))
      ok.side ok.sideless (λ n. refl)
      (record { kept = lane_packets (s.side.lane ∷ s.lanes); before = λ f e. omega arith; after = λ f e. omega arith; numbers = λ f e. refl })
      refl tt (λ r. omega arith) (omega arith) (λ r. refl) refl (λ n may. refl) (refused_notes (wakes.Offer (record { 0 = q }) x) false)

  side_offered : (q next now : ℕ) (x : Packet) → (layer_of s x == length s.ports) ≡ true → stood q s.side.lane.waiting ≡ 0 → (room : Bool)
      → has_room 1 s.side.lane ≡ room
      → Keeps rs ram (xbar_face s) (wakes.Offer (record { 0 = q }) x)
      (side_with s next (answer_of room) (refusal_of s.common.object room) no_moves
      (taken_in (side_outlet s) s.side.lane q (turned q x) (now + s.latency) room))
  side_offered q next now x to fresh false full = side_denied q next now x to full fresh
  side_offered q next now x to fresh true free =
      let e : s.side.lane.flow.items ≡ [] = none_or_one s.side.lane.flow.items (side_short s.side.lane.flow.items s.side.lane.flow.out ok.side) free in
      let f : s.side.lane.flow.out ≡ Quiet = side_quiet s.side.lane.flow.items s.side.lane.flow.out e ok.side in
      subst (λ xs. Keeps rs ram (xbar_face s) (wakes.Offer (record { 0 = q }) x)
      (side_with s next answers.Taken [] no_moves (taken_in (side_outlet s) (record {
        flow = record { items = xs; out = s.side.lane.flow.out };
        waiting = s.side.lane.waiting;
      }) q (turned q x) (now + s.latency) true))) (sym e)
      (subst (λ o. Keeps rs ram (xbar_face s) (wakes.Offer (record { 0 = q }) x)
      (side_with s next answers.Taken [] no_moves (taken_in (side_outlet s)
      (record { flow = record { items = []; out = o }; waiting = s.side.lane.waiting }) q (turned q x) (now + s.latency) true))) (sym f)
      (side_taken q next now x to e))

  mute_at : (slot : SlotNo) (p : ℕ) → (told (wakes.Event slot) p ≡ 0) × (refused (wakes.Event slot) p ≡ 0) × (retry (wakes.Event slot) p ≡ 0)
      × (shown (wakes.Event slot) p ≡ 0)
  mute_at slot p = (refl, refl, refl, refl)

  -- the event of that layer is over, and it has no other
  side_over : is_total s.ports ≡ false → (k : SideLayer) (cs : List Change) → cs ≡ [] → is_due_out k.lane.flow.out ≡ false → (n : ℕ)
      → layer_due (record s { side = k }) n ≡ due_after cs (due_before (wakes.Event (record { 0 = side_slot s.ports })) (layer_due s n) n) n
  side_over free k cs nothing off n =
      by (n == side_slot s.ports) (is_side_slot s.ports n) (side_test free n)
      ∙ sym (ap (λ c. due_after c (due_before (wakes.Event (record { 0 = side_slot s.ports })) (layer_due s n) n) n) nothing) where
        by : (z b : Bool) → b ≡ z
            → (if b then is_due_out k.lane.flow.out else port_due s n)
            ≡ (if z then false else (if b then is_due_out s.side.lane.flow.out else port_due s n))
        by true true e = off
        by false false e = refl
        by true false e = absurd (cc e)
        by false true e = absurd (cc e)

  -- a write-back ends there
  side_dropped : is_total s.ports ≡ false → (next : ℕ) (x : Queued) → s.side.lane.flow.items ≡ x ∷ [] → is_write_back x.packet.cmd ≡ true
      → Keeps rs ram (xbar_face s) (wakes.Event (record { 0 = side_slot s.ports })) (side_drops s next x.packet)
  side_dropped free next x e wb =
      let ws : List ℕ = s.side.lane.waiting in
      let k : SideLayer = record { lane = (side_opened ws).lane; ahead = s.side.ahead } in
      let facts = opens_facts ws [] refl in
      let nil = opens_nil ws in
      by_side (wakes.Event (record { 0 = side_slot s.ports })) next answers.Nothing k [] (record no_moves { absorbed = x.packet ∷ [] })
      (side_opened ws).acts (side_opened ws).changes
      (side_law k (side_opened ws).acts (wakes.Event (record { 0 = side_slot s.ports })) answers.Nothing nil (mute_at (record { 0 = side_slot s.ports }))
      (opens_side s.side.lane.flow ws))
      (subst (λ (f : Flow). SideOk rs f.items f.out) (sym (opens_flow ws)) refl) (λ t. ap (λ (f : Flow). f.items) (opens_flow ws))
      (side_over free k (side_opened ws).changes (opens_changes ws) (ap (λ (f : Flow). is_due_out f.out) (opens_flow ws)))
      (record {
        kept = lane_packets s.lanes;
        before = λ f b. omega (arith, held f s, ap (λ xs. weigh f (queued_packets xs)) e);
        after = λ f b. omega (
          arith,
          weigh-append f (queued_packets (side_opened ws).lane.flow.items) (lane_packets s.lanes),
          ap (λ (g : Flow). weigh f (queued_packets g.items)) (opens_flow ws),
          ap (λ l. weigh f (passed_packets l)) (sym nil),
          ap (weigh f) facts.0,
        );
        numbers = λ f b. refl;
      }) (subst (λ l. passed_packets l ≡ []) nil facts.0) (subst AllActsOk nil facts.1)
      (λ q. subst (λ l. offers q l ≤ 0 + 1) nil (omega (arith, facts.3 q))) (subst (λ l. weight l ≤ 8) nil (omega (arith, facts.2))) (λ q. refl) refl
      (λ n may. absurd (no_write_back rs ram n x.packet (omega (
        arith,
        may.held,
        weigh-append (bad rs ram n) (queued_packets s.side.lane.flow.items) (lane_packets s.lanes),
        ap (λ ys. weigh (bad rs ram n) (queued_packets ys)) e,
      )) (written_back x.packet.cmd wb)))
      (λ n may b. none b)

  -- a response waits for its layer
  side_stands : is_total s.ports ≡ false → (p next : ℕ) (x : Queued) → s.side.lane.flow.items ≡ x ∷ [] → is_write_back x.packet.cmd ≡ false
      → is_unmapped rs x.packet.addr ≡ true
      → Keeps rs ram (xbar_face s) (wakes.Event (record { 0 = side_slot s.ports })) (side_waits s next p x.packet (fault_response x.packet x.packet.cmd) [])
  side_stands free p next x e wb u =
      let y : Packet = fault_response x.packet x.packet.cmd in
      let k : SideLayer = record {
        lane = record {
          flow = record { items = record { packet = y; ready = 0 } ∷ []; out = Waits };
          waiting = s.side.lane.waiting;
        };
        ahead = length (lane_at s.lanes p).waiting;
      } in
      by_side (wakes.Event (record { 0 = side_slot s.ports })) next answers.Nothing k []
      (record no_moves { served = record { request = x.packet; response = y } ∷ [] }) [] []
      (side_law k [] (wakes.Event (record { 0 = side_slot s.ports })) answers.Nothing refl (mute_at (record { 0 = side_slot s.ports }))
      (record { listed = λ q. omega arith; silent = λ q. refl; offerless = λ q z h. h; hungry = λ h. absurd (cc h) }))
      (fault_answers x.packet x.packet.cmd refl wb) (λ t. absurd (not_both (is_total s.ports) free t)) (side_over free k [] refl refl)
      (record {
        kept = lane_packets s.lanes;
        before = λ f b. omega (arith, held f s, ap (λ xs. weigh f (queued_packets xs)) e);
        after = λ f b. omega arith;
        numbers = λ f b. omega (arith, b y x.packet (fault_id x.packet x.packet.cmd));
      }) refl tt (λ q. omega arith) (omega arith) (λ q. refl) refl (λ n may. refl)
      (λ n may b. serves b b b (record { request = x.packet; response = y }) [] [] [] (fault_service rs x.packet x.packet.cmd b refl u) (none b))

  -- the refused request of no range goes back at an idle layer
  side_leaves : is_total s.ports ≡ false → (p next now : ℕ) (x : Queued) → s.side.lane.flow.items ≡ x ∷ [] → is_write_back x.packet.cmd ≡ false
      → is_unmapped rs x.packet.addr ≡ true → p < length s.lanes → is_source (use_at s.ports p) ≡ true → (lane_at s.lanes p).flow.items ≡ []
      → Keeps rs ram (xbar_face s) (wakes.Event (record { 0 = side_slot s.ports })) (side_goes s next p x.packet (fault_response x.packet x.packet.cmd) now)
  side_leaves free p next now x e wb u here source empty =
      let w : Wake = wakes.Event (record { 0 = side_slot s.ports }) in
      let y : Packet = fault_response x.packet x.packet.cmd in
      let l : Lane = lane_at s.lanes p in
      let o : Outlet = xbar_outlet s p in
      let ws : List ℕ = s.side.lane.waiting in
      let m : Moved = put_in o (popped y) (now + s.latency) l.flow.items l.flow.out in
      let b : Lane = record { flow = m.flow; waiting = l.waiting } in
      let silent = put_silent o (popped y) (now + s.latency) l.flow.items l.flow.out in
      let facts = opens_facts ws m.acts silent in
      let law : FlowLaw o l.flow (wakes.Event (record { 0 = side_slot s.ports })) m.flow m.acts m.changes =
      subst (λ xs. let j : Moved = put_in o (popped y) (now + s.latency) xs l.flow.out in
      FlowLaw o (record { items = xs; out = l.flow.out }) (wakes.Event (record { 0 = side_slot s.ports })) j.flow j.acts j.changes) (sym empty)
      (entered_law o (wakes.Event (record { 0 = side_slot s.ports })) (popped y) (now + s.latency) l.flow.out
      (subst (λ xs. IsFlow xs l.flow.out) empty (ok.lanes p)) refl refl refl) in
      by_layers p (wakes.Event (record { 0 = side_slot s.ports })) next answers.Nothing (record { lane = (side_opened ws).lane; ahead = s.side.ahead }) []
      (record no_moves { served = record { request = x.packet; response = y } ∷ [] })
      (side_opened ws).acts (record { lane = b; acts = m.acts; changes = m.changes }) ((side_opened ws).changes ++ m.changes) here
      (event_at (side_slot s.ports) p) (λ q z c. absurd (cc c))
      (record {
        flow = law;
        listed = λ q. omega (arith, ap (calls q) silent);
        feeds = λ q z c. absurd (cc c);
        hungry = λ h. absurd (not_both _ (one_full o (popped y) (now + s.latency) l.flow.items l.flow.out (is_some_port l.waiting)) h);
      })
      (opens_side s.side.lane.flow ws)
      (record {
        one = subst (λ xs. length (put_in o (popped y) (now + s.latency) xs l.flow.out).flow.items ≤ 1) (sym empty) (omega arith);
        sends = subst (λ xs. AllMeet (λ z. xbar_sends s p z) (put_in o (popped y) (now + s.latency) xs l.flow.out).flow.items) (sym empty)
            (source_sends (use_at s.ports p) (popped y) source (fault_answers x.packet x.packet.cmd refl wb), tt);
        side_ok = subst (λ (f : Flow). SideOk rs f.items f.out) (sym (opens_flow ws)) refl;
        sideless = λ t. ap (λ (f : Flow). f.items) (opens_flow ws);
        side_due = λ n h. ap (λ (f : Flow). is_due_out f.out) (opens_flow ws)
            ∙ sym (ap (λ r. cond r false (is_due_out s.side.lane.flow.out)) (sym (side_test free n) ∙ h));
        changed = λ d n. ap (λ c. due_after (c ++ m.changes) d n) (opens_changes ws);
        others = λ n h k d. ap (λ r. cond r false d) (sym (side_test free n) ∙ k);
        passed = facts.0;
        acts = facts.1;
        conserves = record {
          kept = lane_packets s.lanes;
          before = λ f c. omega (arith, held f s, ap (λ xs. weigh f (queued_packets xs)) e);
          after = λ f c. omega (
            arith,
            weigh-append f (queued_packets (side_opened ws).lane.flow.items) (lane_packets (set s.lanes p b)),
            ap (λ (g : Flow). weigh f (queued_packets g.items)) (opens_flow ws),
            lanes-set f s.lanes p b here,
            put_weigh f o (popped y) (now + s.latency) l.flow.items l.flow.out,
            (let k : f (popped y) ≡ f y = c y y.stack _ in k),
            ap (weigh f) facts.0,
          );
          numbers = λ f c. omega (arith, c y x.packet (fault_id x.packet x.packet.cmd));
        };
        few = λ q. omega (arith, facts.3 q);
        light = omega (arith, facts.2);
        quiet = λ q h. absurd (omega (arith, h));
        made = refl;
        answered = refl;
        absorbed = refl;
      })
      (λ n may c. serves c c c (record { request = x.packet; response = y }) [] [] [] (fault_service rs x.packet x.packet.cmd c refl u) (none c))

  -- it comes into the layer whose packet was taken
  side_comes : (p next now : ℕ) (x : Queued) → s.side.lane.flow.items ≡ x ∷ [] → s.side.lane.flow.out ≡ Waits → is_response x.packet.cmd ≡ true
      → is_source (use_at s.ports p) ≡ true → 1 ≤ asked_bit (lane_at s.lanes p).flow.out
      → Keeps rs ram (xbar_face s) (wakes.Taken (record { 0 = p })) (side_enters s next p now (x ∷ []))
  side_comes p next now x e off resp source one =
      let here : p < length s.lanes = bit_there asked_bit refl s.lanes p one in
      let l : Lane = lane_at s.lanes p in
      let o : Outlet = xbar_outlet s p in
      let ws : List ℕ = s.side.lane.waiting in
      let y : Packet = popped x.packet in
      let m : Moved = next_in o y (now + s.latency) in
      let b : Lane = record { flow = m.flow; waiting = l.waiting } in
      let facts = opens_facts ws [] refl in
      subst (λ a. (let r : Stepped = record {
        state = Xbar (record s {
          lanes = set s.lanes p b;
          side = record { lane = (side_opened ws).lane; ahead = s.side.ahead };
        });
        next = next;
        changes = m.changes ++ (side_opened ws).changes;
        acts = a;
        entries = [];
        answer = answers.Nothing;
        moves = no_moves;
      } in
      Keeps rs ram (xbar_face s) (wakes.Taken (record { 0 = p })) r)) (opens_nil ws)
      (by_layers p (wakes.Taken (record { 0 = p })) next answers.Nothing (record { lane = (side_opened ws).lane; ahead = s.side.ahead }) [] no_moves
      (side_opened ws).acts (record { lane = b; acts = []; changes = m.changes }) (m.changes ++ (side_opened ws).changes) here (taken_at p)
      (λ q z c. absurd (cc c))
      (record {
        flow = next_law o y (now + s.latency) l.flow.items l.flow.out one;
        listed = λ q. omega arith;
        feeds = λ q z c. absurd (cc c);
        hungry = λ h. absurd (cc h);
      })
      (opens_side s.side.lane.flow ws)
      (record {
        one = omega arith;
        sends = (source_sends (use_at s.ports p) y source resp, tt);
        side_ok = subst (λ (f : Flow). SideOk rs f.items f.out) (sym (opens_flow ws)) refl;
        sideless = λ t. ap (λ (f : Flow). f.items) (opens_flow ws);
        side_due = λ n h. ap (λ (f : Flow). is_due_out f.out) (opens_flow ws) ∙ sym (ap is_due_out off);
        changed = λ d n. ap (λ c. due_after (m.changes ++ c) d n) (opens_changes ws);
        others = λ n h k d. refl;
        passed = facts.0;
        acts = facts.1;
        conserves = record {
          kept = lane_packets ((side_opened ws).lane ∷ set s.lanes p b);
          before = λ f c. omega (
            arith,
            held f s,
            ap (λ xs. weigh f (queued_packets xs)) e,
            weigh-append f (queued_packets (side_opened ws).lane.flow.items) (lane_packets (set s.lanes p b)),
            ap (λ (g : Flow). weigh f (queued_packets g.items)) (opens_flow ws),
            lanes-set f s.lanes p b here,
            (let k : f y ≡ f x.packet = c x.packet x.packet.stack _ in k),
            one_weigh f l.flow.items (ok.one p),
          );
          after = λ f c. omega (arith, ap (weigh f) facts.0);
          numbers = λ f c. refl;
        };
        few = λ q. omega (arith, facts.3 q);
        light = omega (arith, facts.2);
        quiet = λ q h. (refl, refl);
        made = refl;
        answered = refl;
        absorbed = refl;
      })
      (quiet_notes (wakes.Taken (record { 0 = p }))))

  -- the event of that layer
  side_fires : is_total s.ports ≡ false → (next now : ℕ) (items : List Queued) (out : OutState) → s.side.lane.flow.items ≡ items → SideOk rs items out
      → is_due_out out ≡ true
      → Keeps rs ram (xbar_face s) (wakes.Event (record { 0 = side_slot s.ports })) (side_event s next now items out)
  side_fires free next now [] out e h due = absurd (let z : false ≡ true = sym (ap is_due_out h) ∙ due in cc)
  side_fires free next now (x ∷ []) Quiet e h due = cc
  side_fires free next now (x ∷ []) Asked e h due = cc
  side_fires free next now (x ∷ []) Waits e h due = cc
  side_fires free next now (x ∷ y ∷ ys) out e h due = absurd h
  side_fires free next now (x ∷ []) Due e u due = by_write (is_write_back x.packet.cmd) refl where
    p : ℕ
    p = source_port s.ports (top_port x.packet)

    by_room : is_write_back x.packet.cmd ≡ false → (room : Bool) → has_room 1 (lane_at s.lanes p) ≡ room
        → Keeps rs ram (xbar_face s) (wakes.Event (record { 0 = side_slot s.ports }))
        (side_event_at s next p x.packet (fault_response x.packet x.packet.cmd) [] now room)
    by_room wb true idle =
        side_leaves free p next now x e wb u (omega (arith, source_there s.ports p (ok.sources (top_port x.packet)), ok.long)) (ok.sources (top_port x.packet))
        (none_or_one (lane_at s.lanes p).flow.items (ok.one p) idle)
    by_room wb false full = side_stands free p next x e wb u

    by_write : (wb : Bool) → is_write_back x.packet.cmd ≡ wb
        → Keeps rs ram (xbar_face s) (wakes.Event (record { 0 = side_slot s.ports })) (side_event_by s next p x.packet [] now wb)
    by_write true wb = side_dropped free next x e wb
    by_write false wb = by_room wb (has_room 1 (lane_at s.lanes p)) refl

  taken_first : (p next now : ℕ) (items : List Queued) (out : OutState) → s.side.lane.flow.items ≡ items → s.side.lane.flow.out ≡ out → SideOk rs items out
      → 1 ≤ asked_bit (lane_at s.lanes p).flow.out
      → is_next s.ports p s.side.ahead items out ≡ true → Keeps rs ram (xbar_face s) (wakes.Taken (record { 0 = p }))
      (side_enters s next p now s.side.lane.flow.items)
  taken_first p next now [] out e f h one z = cc
  taken_first p next now (x ∷ xs) Quiet e f h one z = cc
  taken_first p next now (x ∷ xs) Due e f h one z = cc
  taken_first p next now (x ∷ xs) Asked e f h one z = cc
  taken_first p next now (x ∷ y ∷ ys) Waits e f h one z = absurd h
  taken_first p next now (x ∷ []) Waits e f h one z =
      let is : source_port s.ports (top_port x.packet) ≡ p =
      same_is (source_port s.ports (top_port x.packet)) p (and_parts (source_port s.ports (top_port x.packet) == p) (s.side.ahead == 0) z).0 in
      subst (λ xs. Keeps rs ram (xbar_face s) (wakes.Taken (record { 0 = p })) (side_enters s next p now xs)) (sym e)
      (side_comes p next now x e f h (subst (λ n. is_source (use_at s.ports n) ≡ true) is (ok.sources (top_port x.packet))) one)

  mute_line : (b : ℕ) (l : Bool) (p : ℕ) → (told (wakes.Line b l) p ≡ 0) × (refused (wakes.Line b l) p ≡ 0) × (retry (wakes.Line b l) p ≡ 0)
      × (shown (wakes.Line b l) p ≡ 0)
  mute_line b l p = (refl, refl, refl, refl)

  mute_done : (x : Packet) (l : ℕ) (p : ℕ) → (told (wakes.AtomicDone x l) p ≡ 0) × (refused (wakes.AtomicDone x l) p ≡ 0)
      × (retry (wakes.AtomicDone x l) p ≡ 0) × (shown (wakes.AtomicDone x l) p ≡ 0)
  mute_done x l p = (refl, refl, refl, refl)

  -- who is shown a packet waits for no layer
  waits_not : (q : ℕ) → (xbar_face s).listed q ≡ 0 → ((p : ℕ) → stood q (lane_at s.lanes p).waiting ≡ 0) × (stood q s.side.lane.waiting ≡ 0)
  waits_not q h = (λ p. omega (arith, h, (base_ok s.side).lists p q), omega (arith, h))

  pub xbar_law : (next now : ℕ) (w : Wake) → MayWake (xbar_face s) w → Keeps rs ram (xbar_face s) w (xbar_step s next w now)
  xbar_law next now (wakes.Event slot) may = by (is_side_slot s.ports slot.0) refl (may.fired slot.0 refl) where
    at : (m n : ℕ) → m ≡ n → (let k : SlotNo = record { 0 = m } in let l : SlotNo = record { 0 = n } in k ≡ l)
    at m n e = ap (λ j. let k : SlotNo = record { 0 = j } in k) e

    by : (z : Bool) → is_side_slot s.ports slot.0 ≡ z
        → (if z then is_due_out s.side.lane.flow.out else port_due s slot.0) ≡ true
        → Keeps rs ram (xbar_face s) (wakes.Event slot) (if z then side_event s next now s.side.lane.flow.items s.side.lane.flow.out else xbar_event s next
        (port_of_slot s.ports slot.0))
    by true z due =
        let side = side_is s.ports slot.0 z in
        subst (λ (k : SlotNo). Keeps rs ram (xbar_face s) (wakes.Event k) (side_event s next now s.side.lane.flow.items s.side.lane.flow.out))
        (sym (at slot.0 (side_slot s.ports) side.1))
        (side_fires side.0 next now s.side.lane.flow.items s.side.lane.flow.out refl ok.side due)
    by false z due =
        let p : ℕ = port_of_slot s.ports slot.0 in
        let parts = and_parts (nat_lt slot.0 (length s.ports + sides s.ports)) (is_due_out (lane_at s.lanes p).flow.out) due in
        let back : slot_of_port s.ports p ≡ slot.0 = slot_back s.ports slot.0 (ltb-true slot.0 (length s.ports + sides s.ports) parts.0) z in
        subst (λ (k : SlotNo). Keeps rs ram (xbar_face s) (wakes.Event k) (xbar_event s next p)) (at (slot_of_port s.ports p) slot.0 back)
        (xbar_asks p next (due_there s.lanes p parts.1) parts.1)
  xbar_law next now (wakes.Offer port x) may = by (layer_of s x == length s.ports) refl
      (waits_not port.0 (may.fresh port.0 (omega (arith, only_self port.0 1)))) where
        by : (z : Bool) → (layer_of s x == length s.ports) ≡ z → ((p : ℕ) → stood port.0 (lane_at s.lanes p).waiting ≡ 0) × (stood port.0 s.side.lane.waiting ≡ 0)
            → Keeps rs ram (xbar_face s) (wakes.Offer port x) (xbar_offer s next (layer_of s x) port.0 x now z)
        by true z fresh = side_offered port.0 next now x z fresh.1 (has_room 1 s.side.lane) refl
        by false z fresh =
            let f = layer_facts x z in
            let p : ℕ = layer_of s x in
            let l : Lane = lane_at s.lanes p in
            xbar_offered p port.0 next now x refl f.0 f.1 (has_room 1 l) refl
            (offer_law 1 (xbar_outlet s p) port.0 l x (turned port.0 x) (now + s.latency) (ok.lanes p)
            (one_full (xbar_outlet s p) (turned port.0 x) (now + s.latency) l.flow.items l.flow.out (is_some_port l.waiting)) (fresh.0 p))
  xbar_law next now (wakes.Taken port) may = by (is_next s.ports port.0 s.side.ahead s.side.lane.flow.items s.side.lane.flow.out) refl
      (omega (arith, may.told port.0, only_self port.0 1)) where
        by : (z : Bool) → is_next s.ports port.0 s.side.ahead s.side.lane.flow.items s.side.lane.flow.out ≡ z → 1 ≤ asked_bit (lane_at s.lanes port.0).flow.out
            → Keeps rs ram (xbar_face s) (wakes.Taken port) (xbar_taken s next port.0 now z)
        by true z one = taken_first port.0 next now s.side.lane.flow.items s.side.lane.flow.out refl refl ok.side one z
        by false z one = xbar_gone port.0 next now (one_less_ahead s.ports port.0 s.side) (less_lane s.ports port.0 s.side) one
  xbar_law next now (wakes.Refused port) may = xbar_refused port.0 next now may
  xbar_law next now (wakes.Retry port) may = xbar_retry port.0 next now may
  xbar_law next now (wakes.Line b l) may =
      by_side (wakes.Line b l) next answers.Nothing s.side [] no_moves [] []
      (side_law s.side [] (wakes.Line b l) answers.Nothing refl (mute_line b l) (side_same s.side.lane)) ok.side ok.sideless (λ n. refl)
      (record { kept = lane_packets (s.side.lane ∷ s.lanes); before = λ f e. omega arith; after = λ f e. omega arith; numbers = λ f e. refl })
      refl tt (λ q. omega arith) (omega arith) (λ q. refl) refl (λ n may. refl) (quiet_notes (wakes.Line b l))
  xbar_law next now (wakes.AtomicDone x l) may =
      by_side (wakes.AtomicDone x l) next answers.Nothing s.side [] (record no_moves { answered = x ∷ [] }) [] []
      (side_law s.side [] (wakes.AtomicDone x l) answers.Nothing refl (mute_done x l) (side_same s.side.lane)) ok.side ok.sideless (λ n. refl)
      (record { kept = lane_packets (s.side.lane ∷ s.lanes); before = λ f e. omega arith; after = λ f e. omega arith; numbers = λ f e. refl })
      refl tt (λ q. omega arith) (omega arith) (λ q. refl) refl (λ n m. omega (arith, m.done refl x l refl)) (quiet_notes (wakes.AtomicDone x l))

  -- a packet that is passed at once goes on where its address does, or is refused by fault
  pub xbar_passes : (x : Packet) → is_response x.cmd ≡ false → is_write_back x.cmd ≡ false
      → WayKeeps rs ram (xbar_face s) (Xbar s) x (xbar_atomic s x) (xbar_atomic s x).way
  unfolding face_of IsOk layer_of layer_for
  xbar_passes x request plain = by (layer_for s.ports x false == length s.ports) refl where
    same : layer_of s x ≡ layer_for s.ports x false
    same = ap (layer_for s.ports x) request

    by : (z : Bool) → (layer_for s.ports x false == length s.ports) ≡ z
        → (let v : Passed = xbar_atomic_at s x (layer_for s.ports x false) z in WayKeeps rs ram (xbar_face s) (Xbar s) x v v.way)
    by true z =
        let goes = layer_side x (ap (λ n. n == length s.ports) same ∙ z) in
        record {
          ok = ok;
          law = side_law s.side [] (wakes.AtomicDone x 0) answers.Nothing refl (mute_done x 0) (side_same s.side.lane);
          due = λ n. refl;
          acts = tt;
          passed = refl;
          few = λ p. refl;
          light = omega arith;
          held = refl;
          cpu = refl;
          instant = refl;
          caches = refl;
          mindless = (refl, refl);
          response = fault_answers x x.cmd refl plain;
          id = fault_id x x.cmd;
          recalls = λ e. record {
            serves = λ m l h. serves m m m (record { request = x; response = fault_response x x.cmd }) [] [] [] (fault_service rs x x.cmd m refl goes.0) (none m);
            stays = λ h. refl;
            remains = λ h. refl;
          };
        }
    by false z =
        let f = layer_facts x (ap (λ n. n == length s.ports) same ∙ z) in
        let sent : xbar_sends s (layer_for s.ports x false) x ≡ true = subst (λ n. xbar_sends s n x ≡ true) same f.1 in
        record {
          state = refl;
          changes = refl;
          acts = refl;
          entries = refl;
          packet = refl;
          passes = request_passes (use_at s.ports (layer_for s.ports x false)) x request sent;
          sends = sent;
          there = subst (λ n. n < length s.lanes) same f.0;
        }
