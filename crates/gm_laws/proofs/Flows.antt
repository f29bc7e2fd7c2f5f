-- Each step of a flow keeps its law.
use Rattle.std.proofs.Common.{◌≡◌, ℕ, ◌+◌, ◌≤◌, Bool, true, false, List, [], ◌∷◌, ◌++◌, refl, sym, ap, arith, Option, Some, inl, inr, ne_eqb}
use Rattle.gc_base.specs.declared.ids.PortNo.{PortNo}
use Rattle.gm_model.specs.Flows.{Outlet, Moved, asked_bit, waits_bit, is_due_out, head_of, put_in, ask_in, hold_in, again_in, gone_in, next_in, offer_at}
use Rattle.gm_words.specs.Flow.{OutState, Quiet, Due, Asked, Waits, Queued, Flow}
use Rattle.gm_words.specs.Changes.{Change, Schedule, due_after}
use Rattle.gm_model.specs.View.{queued_packets}
use Rattle.gm_words.specs.declared.act.Act.{Act}
use Rattle.gm_words.specs.declared.act.Act.TheVariants as acts
use Rattle.pkt_pool.specs.declared.packet.Packet.{Packet}
use Rattle.gm_words.specs.declared.wake.Wake.{Wake}
use Rattle.gm_words.specs.declared.wake.Wake.TheVariants as wakes
use Rattle.gm_laws.specs.Words.{offers, calls, IsIn, told, taken, refused, retry, offer_out, weigh}
use Rattle.gm_laws.specs.Face.{Face, due_before, passed_packets, head_weight}
use Rattle.gm_laws.specs.Faces.{IsFlow, AllActsOk, AllPassOk}
use Rattle.gm_laws.proofs.Bytes.{same_number}
use Rattle.gm_laws.proofs.Counts.{only_self, only_other}

-- the law of one step of the flow that goes out at o
pub record FlowLaw (o : Outlet) (a : Flow) (w : Wake) (b : Flow) (acts : List Act) (changes : List Change) : Type 0 where
  pub ok : IsFlow b.items b.out
  pub asked : asked_bit b.out + told w o.port ≡ asked_bit a.out + offers o.port acts
  pub waits : waits_bit b.out + retry w o.port ≡ waits_bit a.out + refused w o.port
  pub due : is_due_out b.out ≡ due_after changes (due_before w (is_due_out a.out) o.slot) o.slot
  pub carries : (x : Packet) → IsIn (offer_out o.port x) acts → head_of b.items ≡ Some x
  pub keeps : 1 ≤ asked_bit a.out + waits_bit a.out → taken w o.port ≡ 0 → head_of b.items ≡ head_of a.items
  pub again : retry w o.port ≤ offers o.port acts
  pub elsewhere : (q : ℕ) → (o.port ≡ q → ⊥) → offers q acts ≡ 0
  pub other_due : (n : ℕ) (x : Bool) → (o.slot ≡ n → ⊥) → due_after changes x n ≡ x
  pub mine : (q : ℕ) (x : Packet) → IsIn (offer_out q x) acts → o.port ≡ q

-- a wake that says nothing to the own ports and events: an offer, a line
pub record IsMute (w : Wake) : Type 0 where
  pub told_none : (p : ℕ) → told w p ≡ 0
  pub refused_none : (p : ℕ) → refused w p ≡ 0
  pub retry_none : (p : ℕ) → retry w p ≡ 0
  pub calm : (b : Bool) (n : ℕ) → due_before w b n ≡ b

pub mute_offer : (q : ℕ) (x : Packet) → IsMute (wakes.Offer (record { 0 = q }) x)
mute_offer q x = record { told_none = λ p. refl; refused_none = λ p. refl; retry_none = λ p. refl; calm = λ b n. refl }

pub mute_line : (b : ℕ) (l : Bool) → IsMute (wakes.Line b l)
mute_line b l = record { told_none = λ p. refl; refused_none = λ p. refl; retry_none = λ p. refl; calm = λ b n. refl }

set_due : (o : Outlet) (at : ℕ) (x : Bool) → true ≡ due_after (Schedule o.slot o.class at ∷ []) x o.slot
set_due o at x = rw (same_number o.slot) refl

not_due : (o : Outlet) (at n : ℕ) (x : Bool) → (o.slot ≡ n → ⊥) → due_after (Schedule o.slot o.class at ∷ []) x n ≡ x
not_due o at n x h = rw (ne_eqb n o.slot (λ e. h (sym e))) refl

own_event : (o : Outlet) (x : Bool) → false ≡ due_before (wakes.Event (record { 0 = o.slot })) x o.slot
own_event o x = rw (same_number o.slot) refl

one_in : (p q : ℕ) (x y : Packet) → IsIn (offer_out q y) (offer_at p x ∷ []) → (p ≡ q) × (◌≡◌ {A = Option Packet} (Some x) (Some y))
one_in p q x y (inr h) = absurd h
one_in p q x y (inl e) = (let n : ◌≡◌ {A = PortNo} (record { 0 = p }) (record { 0 = q }) = cc e in ap (λ (t : PortNo). t.0) n, let s : x ≡ y = cc e in ap Some s)

-- such a wake that leaves the flow as it is
pub still_law : (o : Outlet) (a : Flow) (w : Wake) → IsFlow a.items a.out → IsMute w → FlowLaw o a w a [] []
still_law o a w v mute = record {
  ok = v;
  asked = omega (arith, mute.told_none o.port);
  waits = omega (arith, mute.retry_none o.port, mute.refused_none o.port);
  due = sym (mute.calm (is_due_out a.out) o.slot);
  carries = λ z h. absurd h;
  keeps = λ h t. refl;
  again = omega (arith, mute.retry_none o.port);
  elsewhere = λ r n. refl;
  other_due = λ n x h. refl;
  mine = λ r z h. absurd h;
}

-- which packets there are doesn't matter, where there is one
pub still_flow : (x y : Queued) (xs ys : List Queued) (out : OutState) → IsFlow (x ∷ xs) out → IsFlow (y ∷ ys) out
still_flow x y xs ys Quiet v = v
still_flow x y xs ys Due v = v
still_flow x y xs ys Asked v = v
still_flow x y xs ys Waits v = v

-- a packet more
pub put_law : (o : Outlet) (w : Wake) (y : Packet) (ready : ℕ) (items : List Queued) (out : OutState) → IsFlow items out → IsMute w
    → (let m : Moved = put_in o y ready items out in FlowLaw o (record { items = items; out = out }) w m.flow m.acts m.changes)
put_law o w y ready [] Quiet v mute = record {
  ok = tt;
  asked = omega (arith, mute.told_none o.port);
  waits = omega (arith, mute.retry_none o.port, mute.refused_none o.port);
  due = set_due o ready (due_before w false o.slot);
  carries = λ z h. absurd h;
  keeps = λ h. absurd (omega arith);
  again = omega (arith, mute.retry_none o.port);
  elsewhere = λ r n. refl;
  other_due = λ n x h. not_due o ready n x h;
  mine = λ r z h. absurd h;
}
put_law o w y ready [] Due v mute = absurd v
put_law o w y ready [] Asked v mute = absurd v
put_law o w y ready [] Waits v mute = absurd v
put_law o w y ready (z ∷ zs) out v mute = record {
  ok = still_flow z z zs (zs ++ record { packet = y; ready = ready } ∷ []) out v;
  asked = omega (arith, mute.told_none o.port);
  waits = omega (arith, mute.retry_none o.port, mute.refused_none o.port);
  due = sym (mute.calm (is_due_out out) o.slot);
  carries = λ z h. absurd h;
  keeps = λ h t. refl;
  again = omega (arith, mute.retry_none o.port);
  elsewhere = λ r n. refl;
  other_due = λ n x h. refl;
  mine = λ r z h. absurd h;
}

pub ask_law : (o : Outlet) (items : List Queued) (out : OutState) → IsFlow items out → is_due_out out ≡ true
    → (let m : Moved = ask_in o.port items out in FlowLaw o (record { items = items; out = out }) (wakes.Event (record { 0 = o.slot })) m.flow m.acts m.changes)
ask_law o items Quiet v h = cc
ask_law o items Asked v h = cc
ask_law o items Waits v h = cc
ask_law o [] Due v h = absurd v
ask_law o (x ∷ xs) Due v h = record {
  ok = tt;
  asked = omega (arith, only_self o.port 1);
  waits = refl;
  due = own_event o true;
  carries = λ y b. (one_in o.port o.port x.packet y b).1;
  keeps = λ k. absurd (omega arith);
  again = omega arith;
  elsewhere = λ r n. omega (arith, only_other o.port r 1 n);
  other_due = λ n x h. refl;
  mine = λ r y b. (one_in o.port r x.packet y b).0;
}

pub hold_law : (o : Outlet) (items : List Queued) (out : OutState) → IsFlow items out → 1 ≤ asked_bit out
    → (let m : Moved = hold_in items out in FlowLaw o (record { items = items; out = out }) (wakes.Refused (record { 0 = o.port })) m.flow m.acts m.changes)
hold_law o items Quiet v h = absurd (omega arith)
hold_law o items Due v h = absurd (omega arith)
hold_law o items Waits v h = absurd (omega arith)
hold_law o [] Asked v h = absurd v
hold_law o (x ∷ xs) Asked v h = record {
  ok = tt;
  asked = omega (arith, only_self o.port 1);
  waits = omega (arith, only_self o.port 1);
  due = refl;
  carries = λ y b. absurd b;
  keeps = λ k t. refl;
  again = omega arith;
  elsewhere = λ r n. refl;
  other_due = λ n x h. refl;
  mine = λ r y b. absurd b;
}

pub again_law : (o : Outlet) (items : List Queued) (out : OutState) → IsFlow items out → 1 ≤ waits_bit out
    → (let m : Moved = again_in o.port items out in FlowLaw o (record { items = items; out = out }) (wakes.Retry (record { 0 = o.port })) m.flow m.acts m.changes)
again_law o items Quiet v h = absurd (omega arith)
again_law o items Due v h = absurd (omega arith)
again_law o items Asked v h = absurd (omega arith)
again_law o [] Waits v h = absurd v
again_law o (x ∷ xs) Waits v h = record {
  ok = tt;
  asked = omega (arith, only_self o.port 1);
  waits = omega (arith, only_self o.port 1);
  due = refl;
  carries = λ y b. (one_in o.port o.port x.packet y b).1;
  keeps = λ k t. refl;
  again = omega arith;
  elsewhere = λ r n. omega (arith, only_other o.port r 1 n);
  other_due = λ n x h. refl;
  mine = λ r y b. (one_in o.port r x.packet y b).0;
}

pub gone_law : (o : Outlet) (at : ℕ) (items : List Queued) (out : OutState) → IsFlow items out → 1 ≤ asked_bit out
    → (let m : Moved = gone_in o at items in FlowLaw o (record { items = items; out = out }) (wakes.Taken (record { 0 = o.port })) m.flow m.acts m.changes)
gone_law o at items Quiet v h = absurd (omega arith)
gone_law o at items Due v h = absurd (omega arith)
gone_law o at items Waits v h = absurd (omega arith)
gone_law o at [] Asked v h = absurd v
gone_law o at (x ∷ []) Asked v h = record {
  ok = tt;
  asked = omega (arith, only_self o.port 1);
  waits = refl;
  due = refl;
  carries = λ y b. absurd b;
  keeps = λ k t. absurd (omega (arith, only_self o.port 1));
  again = omega arith;
  elsewhere = λ r n. refl;
  other_due = λ n x h. refl;
  mine = λ r y b. absurd b;
}
gone_law o at (x ∷ y ∷ ys) Asked v h = record {
  ok = tt;
  asked = omega (arith, only_self o.port 1);
  waits = refl;
  due = set_due o at false;
  carries = λ z b. absurd b;
  keeps = λ k t. absurd (omega (arith, only_self o.port 1));
  again = omega arith;
  elsewhere = λ r n. refl;
  other_due = λ n x h. not_due o at n x h;
  mine = λ r z b. absurd b;
}

-- the head goes, and another packet comes in at once
pub next_law : (o : Outlet) (y : Packet) (at : ℕ) (items : List Queued) (out : OutState) → 1 ≤ asked_bit out
    → (let m : Moved = next_in o y at in FlowLaw o (record { items = items; out = out }) (wakes.Taken (record { 0 = o.port })) m.flow m.acts m.changes)
next_law o y at items Quiet h = absurd (omega arith)
next_law o y at items Due h = absurd (omega arith)
next_law o y at items Waits h = absurd (omega arith)
next_law o y at items Asked h = record {
  ok = tt;
  asked = omega (arith, only_self o.port 1);
  waits = refl;
  due = set_due o at false;
  carries = λ z b. absurd b;
  keeps = λ k t. absurd (omega (arith, only_self o.port 1));
  again = omega arith;
  elsewhere = λ r n. refl;
  other_due = λ n x h. not_due o at n x h;
  mine = λ r z b. absurd b;
}

-- at the event of its slot the head is gone
pub drop_law : (o : Outlet) (at : ℕ) (items : List Queued) (out : OutState) → IsFlow items out → is_due_out out ≡ true
    → (let m : Moved = gone_in o at items in FlowLaw o (record { items = items; out = out }) (wakes.Event (record { 0 = o.slot })) m.flow m.acts m.changes)
drop_law o at items Quiet v h = cc
drop_law o at items Asked v h = cc
drop_law o at items Waits v h = cc
drop_law o at [] Due v h = absurd v
drop_law o at (x ∷ []) Due v h = record {
  ok = tt;
  asked = refl;
  waits = refl;
  due = own_event o true;
  carries = λ y b. absurd b;
  keeps = λ k. absurd (omega arith);
  again = omega arith;
  elsewhere = λ r n. refl;
  other_due = λ n x h. refl;
  mine = λ r y b. absurd b;
}
drop_law o at (x ∷ y ∷ ys) Due v h = record {
  ok = tt;
  asked = refl;
  waits = refl;
  due = set_due o at _;
  carries = λ z b. absurd b;
  keeps = λ k. absurd (omega arith);
  again = omega arith;
  elsewhere = λ r n. refl;
  other_due = λ n x h. not_due o at n x h;
  mine = λ r z b. absurd b;
}

due_alone : (out : OutState) → is_due_out out ≡ true → asked_bit out + waits_bit out ≡ 0
due_alone Quiet h = refl
due_alone Due h = refl
due_alone Asked h = cc
due_alone Waits h = cc

-- at the event of its slot the head may change
pub other_head : (o : Outlet) (a b : List Queued) (out : OutState) (w : Wake) (g : Flow) (acts : List Act) (changes : List Change) → is_due_out out ≡ true
    → FlowLaw o (record { items = a; out = out }) w g acts changes → FlowLaw o (record { items = b; out = out }) w g acts changes
other_head o a b out w g acts changes h law = record {
  ok = law.ok;
  asked = law.asked;
  waits = law.waits;
  due = law.due;
  carries = law.carries;
  keeps = λ k t. absurd (omega (arith, due_alone out h));
  again = law.again;
  elsewhere = law.elsewhere;
  other_due = law.other_due;
  mine = law.mine;
}

-- a step that calls nobody, passes nothing, and keeps the packets
pub record IsCalm (items : List Queued) (m : Moved) : Type 0 where
  pub calls_none : (q : ℕ) → calls q m.acts ≡ 0
  pub same : m.flow.items ≡ items
  pub passed : passed_packets m.acts ≡ []
  pub acts : AllActsOk m.acts

pub ask_calm : (p : ℕ) (items : List Queued) (out : OutState) → IsCalm items (ask_in p items out)
ask_calm p [] out = record { calls_none = λ q. refl; same = refl; passed = refl; acts = tt }
ask_calm p (x ∷ xs) Quiet = record { calls_none = λ q. refl; same = refl; passed = refl; acts = tt }
ask_calm p (x ∷ xs) Due = record { calls_none = λ q. refl; same = refl; passed = refl; acts = (tt, tt) }
ask_calm p (x ∷ xs) Asked = record { calls_none = λ q. refl; same = refl; passed = refl; acts = tt }
ask_calm p (x ∷ xs) Waits = record { calls_none = λ q. refl; same = refl; passed = refl; acts = tt }

pub hold_calm : (items : List Queued) (out : OutState) → IsCalm items (hold_in items out)
hold_calm items Quiet = record { calls_none = λ q. refl; same = refl; passed = refl; acts = tt }
hold_calm items Due = record { calls_none = λ q. refl; same = refl; passed = refl; acts = tt }
hold_calm items Asked = record { calls_none = λ q. refl; same = refl; passed = refl; acts = tt }
hold_calm items Waits = record { calls_none = λ q. refl; same = refl; passed = refl; acts = tt }

pub again_calm : (p : ℕ) (items : List Queued) (out : OutState) → IsCalm items (again_in p items out)
again_calm p [] out = record { calls_none = λ q. refl; same = refl; passed = refl; acts = tt }
again_calm p (x ∷ xs) Quiet = record { calls_none = λ q. refl; same = refl; passed = refl; acts = tt }
again_calm p (x ∷ xs) Due = record { calls_none = λ q. refl; same = refl; passed = refl; acts = tt }
again_calm p (x ∷ xs) Asked = record { calls_none = λ q. refl; same = refl; passed = refl; acts = tt }
again_calm p (x ∷ xs) Waits = record { calls_none = λ q. refl; same = refl; passed = refl; acts = (tt, tt) }

pub gone_silent : (o : Outlet) (at : ℕ) (items : List Queued) → (gone_in o at items).acts ≡ []
gone_silent o at [] = refl
gone_silent o at (x ∷ []) = refl
gone_silent o at (x ∷ y ∷ ys) = refl

pub put_silent : (o : Outlet) (y : Packet) (at : ℕ) (items : List Queued) (out : OutState) → (put_in o y at items out).acts ≡ []
put_silent o y at [] out = refl
put_silent o y at (x ∷ xs) out = refl

-- acts that pass nothing
pub no_pass : (f : Face) (list : List Act) → passed_packets list ≡ [] → AllPassOk f list
no_pass f [] e = tt
no_pass f (acts.Offer p x ∷ rest) e = (tt, no_pass f rest e)
no_pass f (acts.CallRetry p ∷ rest) e = (tt, no_pass f rest e)
no_pass f (acts.SetLine b l ∷ rest) e = (tt, no_pass f rest e)
no_pass f (acts.Atomic p x ∷ rest) e = cc

-- the weight of what is queued
pub put_weigh : (f : Packet → ℕ) (o : Outlet) (y : Packet) (at : ℕ) (items : List Queued) (out : OutState)
    → weigh f (queued_packets (put_in o y at items out).flow.items) ≡ weigh f (queued_packets items) + f y
put_weigh f o y at [] out = omega arith
put_weigh f o y at (z ∷ zs) out = more (z ∷ zs) where
  more : (ys : List Queued) → weigh f (queued_packets (ys ++ record { packet = y; ready = at } ∷ [])) ≡ weigh f (queued_packets ys) + f y
  more [] = omega arith
  more (x ∷ xs) = omega (arith, more xs)

pub gone_weigh : (f : Packet → ℕ) (o : Outlet) (at : ℕ) (items : List Queued)
    → weigh f (queued_packets (gone_in o at items).flow.items) + head_weight f (head_of items) ≡ weigh f (queued_packets items)
gone_weigh f o at [] = refl
gone_weigh f o at (x ∷ []) = omega arith
gone_weigh f o at (x ∷ y ∷ ys) = omega arith

pub head_held : (items : List Queued) (x : Packet) (f : Packet → ℕ) → head_of items ≡ Some x → f x ≤ weigh f (queued_packets items)
head_held [] x f e = cc
head_held (y ∷ ys) x f e = let s : y.packet ≡ x = cc e in omega (arith, ap f s)
