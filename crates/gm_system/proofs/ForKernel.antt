-- What the machine's code needs of the theorems: the one module of this crate that proofs above it cite. No kind is named here.
use Rattle.std.proofs.Common.{◌≡◌, ℕ, zero, suc, ◌+◌, ◌-◌, ◌*◌, ◌<◌, ◌≤◌, IsTrue, Bool, IfSome, List, [], ◌∷◌, ◌++◌, refl, sym, ◌∙◌, ap, subst, arith, Option, Some, None, ◌⊎◌, inl, inr, length, sum_by, slice_get, option_map}
use Rattle.std.proofs.lemmas.Bool.{cases_eq}
use Rattle.std.proofs.lemmas.List.Sums.{sum_by-cons}
use Rattle.gc_base.specs.declared.ids.PortNo.{PortNo}
use Rattle.ev_queue.specs.declared.due.Due.{Due}
use Rattle.ev_queue.specs.declared.slot.Slot.{Slot}
use Rattle.gm_words.specs.Allowed.{MayPass, MayCome}
use Rattle.gm_words.specs.Entries.{console_of}
use Rattle.gm_words.specs.HartLine.{is_line}
use Rattle.gm_words.specs.Platform.{End, platform}
use Rattle.gm_words.specs.Slots.{gave_from, given_table}
use Rattle.gm_words.specs.declared.act.Act.TheVariants as acts
use Rattle.gm_words.specs.declared.entry.Entry.{Entry}
use Rattle.pkt_pool.specs.declared.packet.Packet.{Packet}
use Rattle.gm_words.specs.declared.wake.Wake.TheVariants as wakes
use Rattle.gm_words.specs.declared.way.Way.TheVariants as ways
use Rattle.gm_model.specs.Command.{arch_of, own_bytes, with_own_bytes}
use Rattle.gm_model.specs.Memory.{with_bytes_at}
use Rattle.gm_model.specs.Start.{start_state, with_raw, resumed_state}
use Rattle.gm_laws.specs.Face.{Face}
use Rattle.cfg_tree.specs.Valid.{IsValidConfig}
use Rattle.cfg_tree.specs.declared.config.Config.{Config}
use Rattle.gm_model.specs.Deliver.{Item, Sent, Done, Delivery, deliver_wake, deliver_passed, deliver_first, deliver_atomic, deliver, done_at, pass_way, passes_max, told_wake, way_latency}
use Rattle.gm_model.specs.Fire.{taken_out, event_begun, fire, timed_run}
use Rattle.gm_model.specs.ObjState.{ObjState, object_of, slots_of}
use Rattle.gm_model.specs.Sys.{Sys, object_at, peer_in, step_at, pass_at, woken, active_cpu}
use Rattle.gm_model.specs.Picks.{Input, picked}
use Rattle.gm_model.specs.View.{Mind, mind_of, own_ram, program_state}
use Rattle.gm_laws.proofs.Commands.{commands_hold}
use Rattle.gm_laws.proofs.EachKind.{passes_hold, face_mind, hart_shown}
use Rattle.gm_laws.proofs.Modest.{rules_are_modest}
use Rattle.gm_laws.specs.Laws.{GoesOn}
use Rattle.gm_system.specs.Machine.{HasSoundParts, AreItemsFit, IsSteady, IsMachineSound, IsDeliverySound, most_of}
use Rattle.gm_system.specs.Runs.{Replays, IsRunReplayed}
use Rattle.gm_system.specs.System.{IsSound, IsWiredAlike, faces, ram_memory}
use Rattle.gm_system.specs.Ways.{HasWay, GoesFrom}
use Rattle.gm_system.proofs.Atomics.{stays_same, way_there}
use Rattle.gm_laws.proofs.PortsHad.{port_had}
use Rattle.gm_model.specs.Ports.{HasPort, ComesWithin}
use Rattle.gm_words.specs.declared.answer.Answer.{Answer}
use Rattle.gm_words.specs.declared.answer.Answer.TheVariants as answers
use Rattle.gm_system.proofs.Bounded.{asked_port, offered_port, called_port, ports_stay, wake_bounded, told_may, sender_there, offered_there, called_there, console-append}
use Rattle.gm_system.proofs.Commands.{own_is, put_size as sized, put_steady, resumed_steady, input_steady, input_state, trace_steady}
use Rattle.gm_system.proofs.EventEnds.{here}
use Rattle.gm_system.proofs.Items.{active_below}
use Rattle.gm_system.proofs.Machines.{begun_sound, first_sound, all_delivered, parts-taken_out, fire_sound, fire_bytes}
use Rattle.gm_system.proofs.Deliveries.{alike}
use Rattle.gm_system.proofs.Runs.{deliver_tick, fire_tick, timed_of, nothing_replays, replays_then}
use Rattle.gm_system.proofs.Started.{start_sound, restart_sound}
use Rattle.gm_system.proofs.Stores.{ram_laws}

-- Parts.

-- there are few parts
many : (os : List ObjState) → 4 * length os ≤ sum_by most_of os
many [] = omega arith
many (o ∷ os) = omega (arith, many os, sum_by-cons most_of o os)

pub parts_few : (s : Sys) (table : List Slot) → HasSoundParts s table → length s.objects ≤ 256
parts_few s table h = omega (arith, many s.objects, h.room)

-- each has its handles
pub part_handles : (s : Sys) (table : List Slot) (i : ℕ) → HasSoundParts s table → i < length s.objects → IsTrue (gave_from table (object_of (object_at s i)) 0 (slots_of (object_at s i)))
part_handles s table i h l = subst (λ k. IsTrue (gave_from table k 0 (slots_of (object_at s i)))) (sym (h.numbered i l)) (h.slots i l)

-- In the middle of an event.

-- what never changes while an item is delivered
module _ (d : Delivery) (table : List Slot) (h : IsDeliverySound d table) where
  pub first_tick : (deliver_first d d.items).sys.tick ≡ d.sys.tick
  unfolding deliver
  first_tick = deliver_tick 1 d table h

-- a packet that comes first may be passed
module _ (d : Delivery) (table : List Slot) (h : IsDeliverySound d table) (it : Item) (rest : List Item) (e : d.items ≡ it ∷ rest) where
  pub first_fits : AreItemsFit (it ∷ rest)
  first_fits = subst AreItemsFit e h.fit

  pub first_stands : IsSound h.ram d.sys (it ∷ rest)
  first_stands = subst (IsSound h.ram d.sys) e h.sound

-- a part takes no longer than it may
pub pass_soon : (s : Sys) (table : List Slot) (k : ℕ) (x : Packet) → HasSoundParts s table → way_latency (pass_at s k x).way ≤ 1000000
pass_soon s table k x h = (rules_are_modest.pass (object_at s k) x s.tick (h.within k)).soon

-- Packets that are passed at once.

-- a packet that comes first has a way to a part that serves it, within the parts that it may pass
module _ (d : Delivery) (table : List Slot) (i p : ℕ) (x : Packet) (rest : List Item) (h : IsDeliverySound d table) (e : d.items ≡ Sent i (acts.Atomic (record { 0 = p }) x) ∷ rest) where
  pub pass_fits : MayPass x
  pass_fits = (first_fits d table h (Sent i (acts.Atomic (record { 0 = p }) x)) rest e).0

  pub has_way : HasWay passes_max d.sys (peer_in d.sys.ways i p).part x
  has_way = way_there passes_hold ram_memory ram_laws h.ram d.sys rest i p x (first_stands d table h (Sent i (acts.Atomic (record { 0 = p }) x)) rest e)

-- on the way: the part is there, and may be passed one part more
pub way_part : (n k : ℕ) (s : Sys) (x : Packet) → HasWay n s k x → k < length s.objects
unfolding HasWay
way_part zero k s x h = absurd h
way_part (suc n) k s x h = h.0

pub way_left : (n k : ℕ) (s : Sys) (x : Packet) → HasWay n s k x → 1 ≤ n
unfolding HasWay
way_left zero k s x h = absurd h
way_left (suc n) k s x h = omega arith

-- the packet goes on as it is, from a machine as it is, to a part from which it has a way
pub way_next : (n k l : ℕ) (port : PortNo) (s : Sys) (x : Packet) → HasWay (suc n) s k x → (pass_at s k x).way ≡ ways.Pass port l
    → GoesOn (faces s k) (object_at s k) x (pass_at s k x) port.0 × HasWay n s (peer_in s.wires k port.0).part x
unfolding HasWay
way_next n k l port s x h e = subst (GoesFrom (λ j. HasWay n s j x) s k x) e h.1

pub way_same : (d : Delivery) (k port : ℕ) (x : Packet) → GoesOn (faces d.sys k) (object_at d.sys k) x (pass_at d.sys k x) port → deliver_passed d k x ≡ d
way_same d k port x g = stays_same d k port x g

pub way_response : (s : Sys) (table : List Slot) (k : ℕ) (x : Packet) → HasSoundParts s table → MayPass x → MayPass (pass_at s k x).packet
way_response s table k x h l = omega (arith, l, (rules_are_modest.pass (object_at s k) x s.tick (h.within k)).size)

-- the delivery of a packet is that of its way: it goes on, or it is done
pub way_goes : (n k before l i : ℕ) (port : PortNo) (d : Delivery) (x : Packet) → HasWay (suc n) d.sys k x → (pass_at d.sys k x).way ≡ ways.Pass port l
    → deliver_atomic (suc n) d i k x before ≡ deliver_atomic n d i (peer_in d.sys.wires k port.0).part x (before + l)
unfolding deliver_atomic
way_goes n k before l i port d x h e =
    let g = (way_next n k l port d.sys x h e).0 in
    ap (λ w. pass_way (λ p t. deliver_atomic n (deliver_passed d k x) i (peer_in d.sys.wires k p).part (pass_at d.sys k x).packet t) (deliver_passed d k x) i (pass_at d.sys k x).packet before w) e
    ∙ (ap (λ (u : Delivery). deliver_atomic n u i (peer_in d.sys.wires k port.0).part (pass_at d.sys k x).packet (before + l)) (stays_same d k port.0 x g)
    ∙ ap (λ (z : Packet). deliver_atomic n d i (peer_in d.sys.wires k port.0).part z (before + l)) g.packet)

pub way_over : (n k before l i : ℕ) (d : Delivery) (x : Packet) → (pass_at d.sys k x).way ≡ ways.Done l
    → deliver_atomic (suc n) d i k x before ≡ done_at (deliver_passed d k x) i (pass_at d.sys k x).packet (before + l)
unfolding deliver_atomic
way_over n k before l i d x e =
    ap (λ w. pass_way (λ p t. deliver_atomic n (deliver_passed d k x) i (peer_in d.sys.wires k p).part (pass_at d.sys k x).packet t) (deliver_passed d k x) i (pass_at d.sys k x).packet before w) e

-- Lines, and responses to packets that were passed at once.

-- the sender of a response is there
pub done_there : (d : Delivery) (table : List Slot) (i latency : ℕ) (x : Packet) (rest : List Item) → IsDeliverySound d table → d.items ≡ Done i x latency ∷ rest → i < length d.sys.objects
done_there d table i latency x rest h e = (first_stands d table h (Done i x latency) rest e).net.placed.0

-- the line is one of the hart's, and the active CPU is there
pub line_fits : (d : Delivery) (table : List Slot) (i b : ℕ) (level : _) (rest : List Item) → IsDeliverySound d table → d.items ≡ Sent i (acts.SetLine b level) ∷ rest → IsTrue (is_line b)
line_fits d table i b level rest h e = (first_stands d table h (Sent i (acts.SetLine b level)) rest e).net.sent.0

pub active_there : (os : List ObjState) (k : ℕ) → active_cpu os ≡ Some k → k < length os
active_there os k e = omega (arith, active_below 0 k os e)

-- a packet may be shown to the peer, and what the peer answers may be told
pub record IsOffered (d : Delivery) (table : List Slot) (i p : ℕ) (x : Packet) (e : End) : Type 0 where
  pub sender : i < length d.sys.objects
  pub peer : e.part < length d.sys.objects
  pub parts : HasSoundParts (deliver_wake d e.part (wakes.Offer (record { 0 = e.port }) x)).sys table
  pub entries : length (deliver_wake d e.part (wakes.Offer (record { 0 = e.port }) x)).entries ≤ length d.entries + 2
  pub numbers : (deliver_wake d e.part (wakes.Offer (record { 0 = e.port }) x)).sys.next ≤ d.sys.next + 1
  pub objects : length (deliver_wake d e.part (wakes.Offer (record { 0 = e.port }) x)).sys.objects ≡ length d.sys.objects
  pub told : MayCome (told_wake (step_at d.sys e.part (wakes.Offer (record { 0 = e.port }) x)).answer p)
  pub shown_port : HasPort (object_at d.sys e.part) e.port
  pub told_port : ComesWithin (object_at (deliver_wake d e.part (wakes.Offer (record { 0 = e.port }) x)).sys i)
      (told_wake (step_at d.sys e.part (wakes.Offer (record { 0 = e.port }) x)).answer p)

-- An event, a line and a response come by no port, whatever the part: there `tt` says that they come within it.

-- what is told comes by the port that offered
told_within : (o : ObjState) (a : Answer) (p : ℕ) → HasPort o p → ComesWithin o (told_wake a p)
told_within o answers.Taken p h = h
told_within o answers.Refused p h = h
told_within o answers.Nothing p h = h

pub offer_stands : (d : Delivery) (table : List Slot) (i p : ℕ) (x : Packet) (rest : List Item) → IsDeliverySound d table → d.items ≡ Sent i (acts.Offer (record { 0 = p }) x) ∷ rest
    → IsOffered (record d { items = rest }) table i p x (peer_in d.sys.wires i p)
offer_stands d table i p x rest h e =
    let q : End = peer_in d.sys.wires i p in
    let sound = first_stands d table h (Sent i (acts.Offer (record { 0 = p }) x)) rest e in
    let fit = first_fits d table h (Sent i (acts.Offer (record { 0 = p }) x)) rest e in
    let there = offered_there h.ram d.sys rest i p x sound in
    let b = wake_bounded (record d { items = rest }) table q.part (wakes.Offer (record { 0 = q.port }) x) there fit.0 h.parts fit.1 in
    record {
      sender = sender_there h.ram d.sys rest i p x sound;
      peer = there;
      parts = b.parts;
      entries = b.entries;
      numbers = b.numbers;
      objects = b.objects;
      told = told_may (step_at d.sys q.part (wakes.Offer (record { 0 = q.port }) x)).answer p;
      shown_port = port_had (object_at d.sys q.part) q.port (h.parts.within q.part) (offered_port h.ram d.sys rest i p x sound);
      told_port = told_within (object_at (woken d.sys q.part (wakes.Offer (record { 0 = q.port }) x)) i) (step_at d.sys q.part (wakes.Offer (record { 0 = q.port }) x)).answer p
          (port_had (object_at (woken d.sys q.part (wakes.Offer (record { 0 = q.port }) x)) i) p (b.parts.within i)
          (omega (arith, asked_port h.ram d.sys rest i p x sound, ports_stay d.sys table q.part i (wakes.Offer (record { 0 = q.port }) x) there fit.0 h.parts)));
    }

pub call_there : (d : Delivery) (table : List Slot) (i p : ℕ) (rest : List Item) → IsDeliverySound d table → d.items ≡ Sent i (acts.CallRetry (record { 0 = p })) ∷ rest
    → (peer_in d.sys.wires i p).part < length d.sys.objects
call_there d table i p rest h e = called_there h.ram d.sys rest i p (first_stands d table h (Sent i (acts.CallRetry (record { 0 = p }))) rest e)

-- and it has the port
pub call_port : (d : Delivery) (table : List Slot) (i p : ℕ) (rest : List Item) → IsDeliverySound d table → d.items ≡ Sent i (acts.CallRetry (record { 0 = p })) ∷ rest
    → HasPort (object_at d.sys (peer_in d.sys.wires i p).part) (peer_in d.sys.wires i p).port
call_port d table i p rest h e =
    let q : End = peer_in d.sys.wires i p in
    port_had (object_at d.sys q.part) q.port (h.parts.within q.part) (called_port h.ram d.sys rest i p (first_stands d table h (Sent i (acts.CallRetry (record { 0 = p }))) rest e))

pub first_stays : (d : Delivery) (table : List Slot) → IsDeliverySound d table → IsDeliverySound (deliver_first d d.items) table
first_stays d table h = first_sound d table h

-- and all items come to an end
pub all_done : (d : Delivery) (table : List Slot) → IsDeliverySound d table → (deliver 256 d).items ≡ []
all_done d table h = all_delivered d table h

-- Between two events.

-- the owner of a pending event is there
pub owner_there : (s : Sys) (table : List Slot) (n t : ℕ) (e : Due) → IsSteady s table → slice_get s.pending n ≡ Some e → e.owner.0 < length s.objects
owner_there s table n t e h g = here ram_memory ram_laws h.ram s n t e h.sound h.parts.once g 120 h.parts.room

pub begun : (s : Sys) (table : List Slot) (n t : ℕ) (e : Due) → IsSteady s table → slice_get s.pending n ≡ Some e → IsDeliverySound (event_begun (taken_out s n t) e) table
begun s table n t e h g = begun_sound s table n t e h g

pub taken_parts : (s : Sys) (table : List Slot) (n t : ℕ) → HasSoundParts s table → HasSoundParts (taken_out s n t) table
taken_parts s table n t h = parts-taken_out s table n t h

pub small_event : (s : Sys) (table : List Slot) (n t : ℕ) → IsSteady s table → length (console_of (fire s n t).entries) ≤ 1
small_event s table n t h = fire_bytes s table n t h

pub served_sound : (s : Sys) (table : List Slot) (n t : ℕ) → IsMachineSound s table → t ≤ 4611703610613432320 → IsMachineSound (fire s n t).sys table
served_sound s table n t h l = record { steady = fire_sound s table n t h.steady; tick = fire_tick s table n t 4611703610613432320 h.steady h.tick l }

pub run_replayed : (s : Sys) (table : List Slot) (n : ℕ) → IsSteady s table → IsRunReplayed s (timed_run s n)
run_replayed s table n h = (timed_of s table n h).1

-- a run in service order, no run, and one run after another
pub run_steady : (s : Sys) (table : List Slot) (n : ℕ) → IsSteady s table → IsSteady (timed_run s n).sys table
run_steady s table n h = (timed_of s table n h).0

pub no_run : (s : Sys) → Replays s [] s
no_run s = nothing_replays s

pub run_then : (s t u : Sys) (a b : List Entry) → IsWiredAlike s t → Replays s a t → Replays t b u → Replays s (a ++ b) u
run_then s t u a b w h k = replays_then s t u a b w h k

pub wired_then : (s t u : Sys) → IsWiredAlike s t → IsWiredAlike t u → IsWiredAlike s u
wired_then s t u h k = alike s t u h k

-- Commands.

-- a machine that was built, with these bytes in RAM and this entry, or with others
pub built_sound : (c : Config) (entry : ℕ) (ram : List ℕ) → IsValidConfig c → length ram ≤ c.system_ram → IsMachineSound (start_state c entry ram) (given_table 0 (platform c))
built_sound c entry ram v l = start_sound c entry ram v l

pub rebuilt_sound : (c : Config) (e f : ℕ) (a b : List ℕ) (table : List Slot) → IsValidConfig c → length b ≤ c.system_ram
    → IsMachineSound (start_state c e a) table → IsMachineSound (start_state c f b) table
rebuilt_sound c e f a b table v l h = restart_sound c e f a b table v l h

-- bytes are put into RAM, and parts go on
pub put_sound : (s : Sys) (table : List Slot) (address : ℕ) (bytes : List ℕ) → IsMachineSound s table → address - 0x80000000 + length bytes ≤ length (own_ram s.objects)
    → IsMachineSound (with_raw address bytes s) table
put_sound s table address bytes h l = record { steady = put_steady s table address bytes h.steady l; tick = h.tick }

pub resumed_sound : (s : Sys) (table : List Slot) → IsMachineSound s table → IsMachineSound (resumed_state s) table
resumed_sound s table h = record { steady = resumed_steady s table h.steady; tick = h.tick }

-- a byte of input comes, and events are traced, or not: the program's state stays
pub fed_sound : (s : Sys) (table : List Slot) (b : ℕ) → IsMachineSound s table → IsMachineSound (picked s (Input b)).sys table
fed_sound s table b h = record { steady = input_steady s table b h.steady; tick = h.tick }

pub fed_steady : (s : Sys) (table : List Slot) (b : ℕ) → IsSteady s table → IsSteady (picked s (Input b)).sys table
fed_steady s table b h = input_steady s table b h

pub fed_state : (s : Sys) (table : List Slot) (b : ℕ) → IsSteady s table → program_state (picked s (Input b)).sys [] ≡ program_state s []
fed_state s table b h = input_state s table b h

pub traced_steady : (s : Sys) (table : List Slot) (on : Bool) → IsSteady s table → IsSteady (record s { trace = on }) table
traced_steady s table on h = trace_steady s table on h

pub traced_sound : (s : Sys) (table : List Slot) (on : Bool) → IsMachineSound s table → IsMachineSound (record s { trace = on }) table
traced_sound s table on h = record { steady = trace_steady s table on h.steady; tick = h.tick }

-- What is shown.

-- bytes that are put into a part are put into those that it keeps
pub put_kept : (o : ObjState) (at : ℕ) (bytes : List ℕ) → own_bytes (with_own_bytes at bytes o) ≡ option_map (λ m. with_bytes_at m at bytes) (own_bytes o)
put_kept o at bytes =
    sym (commands_hold.kept (with_own_bytes at bytes o)) ∙ (ap (λ (f : Face). f.memory) (commands_hold.put o at bytes) ∙ ap (λ q. option_map (λ m. with_bytes_at m at bytes) q) (commands_hold.kept o))

pub put_size : (m : List ℕ) (at : ℕ) (bytes : List ℕ) → at + length bytes ≤ length m → length (with_bytes_at m at bytes) ≡ length m
put_size m at bytes l = sized m at bytes l

-- each part that keeps bytes keeps as many as RAM has
pub bytes_size : (s : Sys) (table : List Slot) (k : ℕ) → IsSteady s table → IfSome (own_bytes (object_at s k)) (λ m. length m ≡ length (own_ram s.objects))
bytes_size s table k h = by (own_bytes (object_at s k)) refl (cases_eq k h.sound.program.kept.store) where
  by : (o : Option (List ℕ)) → own_bytes (object_at s k) ≡ o → (k ≡ h.sound.program.kept.store) ⊎ (k ≡ h.sound.program.kept.store → ⊥) → IfSome o (λ m. length m ≡ length (own_ram s.objects))
  by None e c = tt
  by (Some m) e (inl c) =
      let same : Some m ≡ Some h.sound.program.kept.memory = sym e ∙ (sym (commands_hold.kept (object_at s k)) ∙ (ap (λ j. (faces s j).memory) c ∙ h.sound.program.kept.kept)) in
      let is : m ≡ h.sound.program.kept.memory = cc same in
      omega (arith, ap length is, ap length (own_is h.ram s h.sound))
  by (Some m) e (inr c) = absurd (let z : None ≡ Some m = sym (h.sound.program.kept.one_store k c) ∙ (commands_hold.kept (object_at s k) ∙ e) in cc)

-- the hart that a part shows is the one that it has
pub shown_hart : (o : ObjState) → option_map (λ (m : Mind). m.arch) (mind_of o) ≡ arch_of o
shown_hart o = hart_shown o

-- some part has it
pub hart_there : (s : Sys) (table : List Slot) → IsSteady s table → (k : ℕ) × (m : Mind) × (mind_of (object_at s k) ≡ Some m)
hart_there s table h = (h.sound.program.cpu, h.sound.program.mind, sym (face_mind (object_at s h.sound.program.cpu)) ∙ h.sound.program.here)

-- what two stretches of entries bring to the console
pub console_more : (xs ys : List Entry) → console_of (xs ++ ys) ≡ console_of xs ++ console_of ys
console_more xs ys = console-append xs ys
