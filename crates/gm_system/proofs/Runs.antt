-- Runs: each event stays sound, is replayed and conserves packets, and so does any list of picks.
use Rattle.std.specs.Prelude.{IsFalse, slice_get}
use Rattle.std.proofs.lemmas.Grind.{common_steps}
use Rattle.std.proofs.lemmas.Bool.Decides.{nat_tests}
use Rattle.std.proofs.Common.{◌≡◌, ℕ, zero, suc, ◌+◌, ◌≤◌, List, [], ◌∷◌, ◌++◌, refl, sym, ◌∙◌, ap, subst, arith, Option, Some, None, ◌⊎◌, inl, inr}
use Rattle.ev_queue.specs.declared.due.Due.{Due}
use Rattle.ev_queue.specs.declared.slot.Slot.{Slot}
use Rattle.ev_queue.specs.PendingList.{IsInServiceOrder, NoneBefore, is_before, first}
use Rattle.gm_words.specs.Moves.{Moves, no_moves, joined, AreDrawn}
use Rattle.gm_words.specs.Replay.{replay}
use Rattle.gm_words.specs.Routes.{Route}
use Rattle.gm_words.specs.declared.entry.Entry.{Entry}
use Rattle.pkt_pool.specs.declared.packet.Packet.{Packet}
use Rattle.gm_words.specs.declared.wake.Wake.TheVariants as wakes
use Rattle.gm_model.specs.Deliver.{Item, Delivery, deliver, deliver_first, items_max}
use Rattle.gm_model.specs.EventMoves.{first_moves, deliver_moves, event_moves, fire_event_moves, fire_moves}
use Rattle.gm_model.specs.Fire.{without_nth, taken_out, event_begun, event_delivered, counted, fire_event, fire, fire_due, fire_first, timed_run}
use Rattle.gm_model.specs.Sys.{Sys, step_at}
use Rattle.gm_model.specs.View.{program_state, all_packets}
use Rattle.std.proofs.Math.Nat.{max-le}
use Rattle.gc_base.specs.declared.limits.TheConstants.{LAST}
use Rattle.gm_laws.specs.Bounds.{latest, longest_wait}
use Rattle.gm_laws.specs.Words.{weigh}
use Rattle.gm_laws.proofs.Bytes.{no_entry, replay-append}
use Rattle.gm_laws.proofs.Weights.{weigh-append}
use Rattle.gm_system.specs.Machine.{IsSteady, IsDeliverySound, AreItemsFit, AreBetween, IsTimely}
use Rattle.gm_system.specs.Runs.{Replays, IsRunReplayed}
use Rattle.gm_system.specs.System.{IsSound, IsById, IsWiredAlike, Handled, ram_memory}
use Rattle.gm_system.proofs.Bounded.{wake_bounded, handle_bounded}
use Rattle.gm_system.proofs.Deliveries.{alike}
use Rattle.gm_system.proofs.Events.{event_keeps}
use Rattle.gm_system.proofs.EventEnds.{here}
use Rattle.gm_system.proofs.Stores.{ram_laws}
use Rattle.gm_system.proofs.Machines.{false_is, parts-taken_out, begun_sound, first_sound, fired_sound, all_delivered}

-- one after another
pub replays_then : (s t u : Sys) (a b : List Entry) → IsWiredAlike s t → Replays s a t → Replays t b u → Replays s (a ++ b) u
replays_then s t u a b w h k =
    replay-append s.routes (program_state s []) (program_state t []) a b h
    ∙ (ap (λ (rs : List Route). replay rs (program_state t []) b) (sym w.routes) ∙ k)

pub nothing_replays : (s : Sys) → Replays s [] s
nothing_replays s = no_entry s.routes (program_state s []) (program_state s []) refl

pub drawn-append : (a b c : ℕ) (xs ys : List Packet) → AreDrawn a xs b → AreDrawn b ys c → AreDrawn a (xs ++ ys) c
drawn-append a b c [] ys h k = subst (λ n. AreDrawn n ys c) h k
drawn-append a b c (x ∷ xs) ys h k = (h.0, drawn-append (a + 1) b c xs ys h.1 k)

-- the numbers that a delivery draws are in order
first_drawn : (d : Delivery) (table : List Slot) → IsDeliverySound d table → AreDrawn d.sys.next (first_moves d.sys d.items).made (deliver_first d d.items).sys.next
first_drawn d table h = by d.items refl where
  by : (items : List Item) → d.items ≡ items → AreDrawn d.sys.next (first_moves d.sys items).made (deliver_first d items).sys.next
  by [] e = refl
  by (it ∷ rest) e = (handle_bounded h.ram table d.sys rest d.entries it (subst (IsSound h.ram d.sys) e h.sound) h.parts (subst AreItemsFit e h.fit)).drawn

deliver_drawn : (n : ℕ) (d : Delivery) (table : List Slot) → IsDeliverySound d table → AreDrawn d.sys.next (deliver_moves n d).made (deliver n d).sys.next
unfolding deliver deliver_moves
deliver_drawn zero d table h = refl
deliver_drawn (suc n) d table h =
    drawn-append d.sys.next (deliver_first d d.items).sys.next (deliver n (deliver_first d d.items)).sys.next (first_moves d.sys d.items).made (deliver_moves n (deliver_first d d.items)).made
    (first_drawn d table h) (deliver_drawn n (deliver_first d d.items) table (first_sound d table h))

-- and it stays at its tick
first_tick : (d : Delivery) (table : List Slot) → IsDeliverySound d table → (deliver_first d d.items).sys.tick ≡ d.sys.tick
first_tick d table h = by d.items refl where
  by : (items : List Item) → d.items ≡ items → (deliver_first d items).sys.tick ≡ d.sys.tick
  by [] e = refl
  by (it ∷ rest) e = (handle_bounded h.ram table d.sys rest d.entries it (subst (IsSound h.ram d.sys) e h.sound) h.parts (subst AreItemsFit e h.fit)).tick

pub deliver_tick : (n : ℕ) (d : Delivery) (table : List Slot) → IsDeliverySound d table → (deliver n d).sys.tick ≡ d.sys.tick
unfolding deliver
deliver_tick zero d table h = refl
deliver_tick (suc n) d table h = deliver_tick n (deliver_first d d.items) table (first_sound d table h) ∙ first_tick d table h

-- and what is scheduled comes in time
first_between : (d : Delivery) (table : List Slot) (low high : ℕ) → IsDeliverySound d table → low ≤ d.sys.tick → latest d.sys.tick ≤ high → AreBetween low high d.sys.pending → AreBetween low high (deliver_first d d.items).sys.pending
first_between d table low high h l m t = by d.items refl where
  by : (items : List Item) → d.items ≡ items → AreBetween low high (deliver_first d items).sys.pending
  by [] e = t
  by (it ∷ rest) e = (handle_bounded h.ram table d.sys rest d.entries it (subst (IsSound h.ram d.sys) e h.sound) h.parts (subst AreItemsFit e h.fit)).timely low high l m t

pub deliver_between : (n : ℕ) (d : Delivery) (table : List Slot) (low high : ℕ) → IsDeliverySound d table → low ≤ d.sys.tick → latest d.sys.tick ≤ high → AreBetween low high d.sys.pending → AreBetween low high (deliver n d).sys.pending
unfolding deliver
deliver_between zero d table low high h l m t = t
deliver_between (suc n) d table low high h l m t =
    let same = first_tick d table h in
    deliver_between n (deliver_first d d.items) table low high (first_sound d table h) (omega (arith, l, same)) (omega (arith, m, ap latest same)) (first_between d table low high h l m t)

-- an event
pub record IsEventOf (s t : Sys) (es : List Entry) (m : Moves) (table : List Slot) : Type 0 where
  pub steady : IsSteady t table
  pub wiring : IsWiredAlike s t
  pub replays : Replays s es t
  pub conserved : (h : Packet → ℕ) → IsById h → weigh h (all_packets t []) + (weigh h m.answered + weigh h m.absorbed) ≡ weigh h (all_packets s []) + weigh h m.made
  pub drawn : AreDrawn s.next m.made t.next

pub nothing_of : (s : Sys) (table : List Slot) → IsSteady s table → IsEventOf s s [] no_moves table
nothing_of s table h = record { steady = h; wiring = record { wires = refl; ways = refl; routes = refl }; replays = nothing_replays s; conserved = λ f e. omega arith; drawn = refl }

pub event_then : (s t u : Sys) (a b : List Entry) (m n : Moves) (table : List Slot) → IsEventOf s t a m table → IsEventOf t u b n table → IsEventOf s u (a ++ b) (joined m n) table
event_then s t u a b m n table h k = record {
  steady = k.steady;
  wiring = alike s t u h.wiring k.wiring;
  replays = replays_then s t u a b h.wiring h.replays k.replays;
  conserved = λ f e. omega (arith, h.conserved f e, k.conserved f e, weigh-append f m.made n.made, weigh-append f m.answered n.answered, weigh-append f m.absorbed n.absorbed);
  drawn = drawn-append s.next t.next u.next m.made n.made h.drawn k.drawn;
}

module _ (s : Sys) (table : List Slot) (n t : ℕ) (e : Due) (h : IsSteady s table) (there : slice_get s.pending n ≡ Some e) where
  abbrev done : Delivery
  done = event_delivered (taken_out s n t) e

  b : IsDeliverySound (event_begun (taken_out s n t) e) table
  b = begun_sound s table n t e h there

  k : (let d : Delivery = record { sys = taken_out s n t; items = []; entries = [] } in Handled ram_memory h.ram d (event_delivered (taken_out s n t) e) (event_moves (taken_out s n t) e))
  k = event_keeps ram_memory ram_laws h.ram s n t e h.sound h.parts.once there

  over : (event_delivered (taken_out s n t) e).items ≡ []
  over = all_delivered (event_begun (taken_out s n t) e) table b

  pub event_of : IsEventOf s (counted (event_delivered (taken_out s n t) e)).sys (event_delivered (taken_out s n t) e).entries (event_moves (taken_out s n t) e) table
  event_of = record {
    steady = fired_sound s table n t (Some e) h there;
    wiring = record { wires = k.wiring.wires; ways = k.wiring.ways; routes = k.wiring.routes };
    replays = ap (λ es. replay s.routes (program_state s []) es) k.replayed.entries ∙ (k.replayed.replays ∙ ap (λ is. Some (program_state (event_delivered (taken_out s n t) e).sys is)) over);
    conserved = λ f i. omega (arith, k.conserved.same f i, ap (λ is. weigh f (all_packets (event_delivered (taken_out s n t) e).sys is)) over);
    drawn = drawn-append s.next (event_begun (taken_out s n t) e).sys.next (event_delivered (taken_out s n t) e).sys.next (step_at (taken_out s n t) e.owner.0 (wakes.Event e.slot)).moves.made (deliver_moves items_max (event_begun (taken_out s n t) e)).made
        (wake_bounded (record { sys = taken_out s n t; items = []; entries = [] }) table e.owner.0 (wakes.Event e.slot) (here ram_memory ram_laws h.ram s n t e h.sound h.parts.once there 120 h.parts.room) tt (parts-taken_out s table n t h.parts) tt).drawn
        (deliver_drawn items_max (event_begun (taken_out s n t) e) table b);
  }

fired_of : (s : Sys) (table : List Slot) (n t : ℕ) (o : Option Due) → IsSteady s table → slice_get s.pending n ≡ o → IsEventOf s (fire_event s n t o).sys (fire_event s n t o).entries (fire_event_moves s n t o) table
fired_of s table n t None h g = nothing_of s table h
fired_of s table n t (Some e) h g = event_of s table n t e h g

pub fire_of : (s : Sys) (table : List Slot) (n t : ℕ) → IsSteady s table → IsEventOf s (fire s n t).sys (fire s n t).entries (fire_moves s n t) table
unfolding fire
fire_of s table n t h = fired_of s table n t (slice_get s.pending n) h refl

-- a run in service order
due_of : (s : Sys) (table : List Slot) (o : Option Due) → IsSteady s table → IsSteady (fire_due s o).sys table × IsRunReplayed s (fire_due s o)
due_of s table None h = (h, record { wiring = record { wires = refl; ways = refl; routes = refl }; replays = nothing_replays s })
due_of s table (Some d) h = (let e = fire_of s table 0 d.tick h in (e.steady, record { wiring = e.wiring; replays = e.replays }))

pub first_of : (s : Sys) (table : List Slot) → IsSteady s table → IsSteady (fire_first s).sys table × IsRunReplayed s (fire_first s)
first_of s table h = due_of s table (first s.pending) h

pub timed_of : (s : Sys) (table : List Slot) (n : ℕ) → IsSteady s table → IsSteady (timed_run s n).sys table × IsRunReplayed s (timed_run s n)
unfolding timed_run
timed_of s table zero h = (h, record { wiring = record { wires = refl; ways = refl; routes = refl }; replays = nothing_replays s })
timed_of s table (suc n) h =
    let r = timed_of s table n h in
    let e = first_of (timed_run s n).sys table r.0 in (
      e.0,
      record {
        wiring = alike s (timed_run s n).sys (fire_first (timed_run s n).sys).sys r.1.wiring e.1.wiring;
        replays = replays_then s (timed_run s n).sys (fire_first (timed_run s n).sys).sys (timed_run s n).entries (fire_first (timed_run s n).sys).entries r.1.wiring r.1.replays e.1.replays;
      },
    )

-- the machine stands at the event's tick, if there is one
fired_tick : (s : Sys) (table : List Slot) (n t : ℕ) (o : Option Due) → IsSteady s table → slice_get s.pending n ≡ o → ((fire_event s n t o).sys.tick ≡ t) ⊎ ((fire_event s n t o).sys.tick ≡ s.tick)
fired_tick s table n t None h g = inr refl
fired_tick s table n t (Some e) h g =
    let w = wake_bounded (record { sys = taken_out s n t; items = []; entries = [] }) table e.owner.0 (wakes.Event e.slot) (here ram_memory ram_laws h.ram s n t e h.sound h.parts.once g 120 h.parts.room) tt (parts-taken_out s table n t h.parts) tt in
    inl (deliver_tick items_max (event_begun (taken_out s n t) e) table (begun_sound s table n t e h g) ∙ w.tick)

pub fire_tick : (s : Sys) (table : List Slot) (n t most : ℕ) → IsSteady s table → s.tick ≤ most → t ≤ most → (fire s n t).sys.tick ≤ most
unfolding fire
fire_tick s table n t most h a b = by (fired_tick s table n t (slice_get s.pending n) h refl) where
  by : ((fire_event s n t (slice_get s.pending n)).sys.tick ≡ t) ⊎ ((fire_event s n t (slice_get s.pending n)).sys.tick ≡ s.tick) → (fire_event s n t (slice_get s.pending n)).sys.tick ≤ most
  by (inl e) = omega (arith, e, b)
  by (inr e) = omega (arith, e, a)

-- events that none is served before come no earlier
later : (e : Due) (es : List Due) (low high : ℕ) → NoneBefore e es → AreBetween low high es → AreBetween e.tick high es
later e [] low high h t = tt
later e (f ∷ fs) low high h t = (not_earlier h.0, t.1, later e fs low high h.1 t.2) where
  not_earlier : IsFalse (is_before f e) → e.tick ≤ f.tick
  not_earlier k = grind (arith, common_steps, nat_tests, false_is (is_before f e) k)

-- what a run schedules comes by the greatest tick
in_reach : (now : ℕ) → now ≤ 4611686018427387904 → latest now ≤ 4611703610613432320
in_reach now h =
    let soon : now + longest_wait ≤ 4611703610613432320 = omega (arith, h) in
    let last : LAST ≤ 4611703610613432320 = omega arith in
    max-le soon last

-- where the first event is one that a run serves, what is pending stays in time
pub fire_timely : (s : Sys) (table : List Slot) (d : Due) → IsSteady s table → IsTimely s → first s.pending ≡ Some d → d.tick ≤ 4611686018427387904 → IsTimely (fire_first s).sys
unfolding fire
fire_timely s table d h t f l = by s.pending refl f where
  timely : (e : Due) → slice_get s.pending 0 ≡ Some e → AreBetween e.tick 4611703610613432320 (without_nth s.pending 0) → e.tick ≤ 4611686018427387904 → IsTimely (fire_event s 0 e.tick (Some e)).sys
  timely e g a m =
      let b = begun_sound s table 0 e.tick e h g in
      let w = wake_bounded (record { sys = taken_out s 0 e.tick; items = []; entries = [] }) table e.owner.0 (wakes.Event e.slot) (here ram_memory ram_laws h.ram s 0 e.tick e h.sound h.parts.once g 120 h.parts.room) tt (parts-taken_out s table 0 e.tick h.parts) tt in
      let one = w.timely e.tick 4611703610613432320 (omega arith) (in_reach e.tick m) a in
      let all = deliver_between items_max (event_begun (taken_out s 0 e.tick) e) table e.tick 4611703610613432320 b (omega (arith, w.tick)) (omega (arith, ap latest w.tick, in_reach e.tick m)) one in
      subst (λ n. AreBetween n 4611703610613432320 (event_delivered (taken_out s 0 e.tick) e).sys.pending) (sym (deliver_tick items_max (event_begun (taken_out s 0 e.tick) e) table b ∙ w.tick)) all

  fired_timely : (x : Due) → slice_get s.pending 0 ≡ Some x → IsTimely (fire_event s 0 x.tick (Some x)).sys → IsTimely (fire s 0 x.tick).sys
  fired_timely x g k = subst (λ o. IsTimely (fire_event s 0 x.tick o).sys) (sym g) k

  by : (es : List Due) → s.pending ≡ es → first es ≡ Some d → IsTimely (fire_first s).sys
  by [] e f = cc f
  by (x ∷ xs) e f =
      let order : IsInServiceOrder (x ∷ xs) = subst IsInServiceOrder e h.parts.order in
      let now : AreBetween s.tick 4611703610613432320 (x ∷ xs) = subst (AreBetween s.tick 4611703610613432320) e t in
      let same : x ≡ d = cc f in
      let g : slice_get s.pending 0 ≡ Some x = ap (λ es. slice_get es 0) e in
      let m : x.tick ≤ 4611686018427387904 = omega (arith, l, ap (λ (q : Due). q.tick) same) in
      let done = timely x g (subst (λ es. AreBetween x.tick 4611703610613432320 (without_nth es 0)) (sym e) (later x xs s.tick 4611703610613432320 order.0 now.2)) m in
      subst (λ es. IsTimely (fire_due s (first es)).sys) (sym e) (fired_timely x g done)
