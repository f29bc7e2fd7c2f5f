-- What is left to do bounds what an event may still note and draw, and the parts keep their numbers, handles and limits.
use Rattle.std.proofs.Common.{◌≡◌, ℕ, ◌+◌, ◌*◌, ◌<◌, ◌≤◌, cond, Bool, true, false, IsTrue, List, [], ◌∷◌, ◌++◌, refl, sym, ◌∙◌, ap, subst, arith, Option, Some, None, ◌⊎◌, inl, inr, length, length-set, sum_by}
use Rattle.std.proofs.lemmas.Bool.{cases_eq}
use Rattle.std.proofs.lemmas.List.{append_assoc, get_or-set_same, get_or-set_other, length-append}
use Rattle.std.proofs.lemmas.List.Sums.{sum_by-set}
use Rattle.gc_base.specs.declared.limits.TheConstants.{LATENCY_MAX}
use Rattle.ev_queue.specs.declared.due.Due.{Due}
use Rattle.ev_queue.specs.declared.slot.Slot.{Slot}
use Rattle.ev_queue.specs.PendingList.{IsInServiceOrder, HoldsSlotsOnce, is_of, is_before, scheduled, without, rescheduled, event}
use Rattle.ev_queue.proofs.OrderLemmas.{scheduled_order, without_order, without_gone}
use Rattle.ev_queue.proofs.RoomLemmas.{scheduled_once, without_once}
use Rattle.gm_words.specs.Allowed.{MayCome}
use Rattle.gm_words.specs.Changes.{Change, Schedule, Remove, changed, changed_by}
use Rattle.gm_words.specs.Entries.{console_of, console_bytes}
use Rattle.gm_words.specs.HartLine.{is_line}
use Rattle.gm_words.specs.Moves.{Moves, no_moves, joined, AreDrawn}
use Rattle.gm_words.specs.Platform.{End}
use Rattle.gm_words.specs.Slots.{gave_from}
use Rattle.gm_words.specs.declared.act.Act.{Act}
use Rattle.gm_words.specs.declared.act.Act.TheVariants as acts
use Rattle.gm_words.specs.declared.answer.Answer.{Answer}
use Rattle.gm_words.specs.declared.answer.Answer.TheVariants as answers
use Rattle.gm_words.specs.declared.entry.Entry.{Entry}
use Rattle.gm_words.specs.declared.kind.Kind.TheVariants as kinds
use Rattle.pkt_pool.specs.declared.packet.Packet.{Packet}
use Rattle.gm_words.specs.declared.wake.Wake.{Wake}
use Rattle.gm_words.specs.declared.wake.Wake.TheVariants as wakes
use Rattle.gm_model.specs.Deliver.{Item, Sent, Done, Delivery, sent_by, deliver_wake, deliver_line, deliver_passed, done_at, handle, told_wake, passes_max}
use Rattle.gm_model.specs.EventMoves.{item_moves, line_moves, atomic_moves}
use Rattle.gm_model.specs.ObjState.{ObjState, Blank, object_of, slots_of}
use Rattle.gm_model.specs.Sys.{Sys, object_at, with_object, step_at, woken, pass_at, peer_in, active_cpu}
use Rattle.gm_laws.specs.Bounds.{IsWithin, AreTimely, latest, AreFit, speech, part_speech, packet_speech, wake_speech}
use Rattle.gm_laws.specs.Faces.{face_of}
use Rattle.gm_laws.specs.Words.{only, called_by}
use Rattle.gm_laws.proofs.Counts.{only_self}
use Rattle.gm_laws.proofs.EachKind.{passes_hold}
use Rattle.gm_laws.proofs.Modest.{rules_are_modest}
use Rattle.gm_system.specs.Machine.{HasSoundParts, AreItemsFit, items_speech, speech_left, most_of, AreBetween}
use Rattle.gm_system.specs.System.{IsSound, faces, ram_memory}
use Rattle.gm_system.proofs.Atomics.{atomic_served}
use Rattle.gm_system.proofs.Items.{active_below}
use Rattle.gm_system.proofs.Stores.{ram_laws}
use Rattle.gm_system.proofs.Systems.{part_there}

-- the queue after changes

once_by : (i : ℕ) (es : List Due) (c : Change) → HoldsSlotsOnce es → HoldsSlotsOnce (changed_by i es c)
once_by i es (Schedule slot class at) h = scheduled_once (without es i slot) (event at class i slot) (without_gone es i slot) (without_once es i slot h)
once_by i es (Remove slot) h = without_once es i slot h

order_by : (i : ℕ) (es : List Due) (c : Change) → IsInServiceOrder es → IsInServiceOrder (changed_by i es c)
order_by i es (Schedule slot class at) h = scheduled_order (without es i slot) (event at class i slot) (without_order es i slot h)
order_by i es (Remove slot) h = without_order es i slot h

pub changed_once : (i : ℕ) (es : List Due) (cs : List Change) → HoldsSlotsOnce es → HoldsSlotsOnce (changed i es cs)
changed_once i es [] h = h
changed_once i es (c ∷ cs) h = changed_once i (changed_by i es c) cs (once_by i es c h)

pub changed_order : (i : ℕ) (es : List Due) (cs : List Change) → IsInServiceOrder es → IsInServiceOrder (changed i es cs)
changed_order i es [] h = h
changed_order i es (c ∷ cs) h = changed_order i (changed_by i es c) cs (order_by i es c h)

between_without : (low high : ℕ) (es : List Due) (i slot : ℕ) → AreBetween low high es → AreBetween low high (without es i slot)
between_without low high [] i slot h = tt
between_without low high (e ∷ es) i slot h = by (is_of e i slot) (between_without low high es i slot h.2) where
  by : (b : Bool) → AreBetween low high (without es i slot) → AreBetween low high (cond b (without es i slot) (e ∷ without es i slot))
  by true k = k
  by false k = (h.0, h.1, k)

between_scheduled : (low high : ℕ) (es : List Due) (d : Due) → low ≤ d.tick → d.tick ≤ high → AreBetween low high es → AreBetween low high (scheduled es d)
between_scheduled low high [] d l m h = (l, m, tt)
between_scheduled low high (e ∷ es) d l m h = by (is_before d e) (between_scheduled low high es d l m h.2) where
  by : (b : Bool) → AreBetween low high (scheduled es d) → AreBetween low high (cond b (d ∷ e ∷ es) (e ∷ scheduled es d))
  by true k = (l, m, h)
  by false k = (h.0, h.1, k)

pub changed_between : (low high now i : ℕ) (es : List Due) (cs : List Change) → low ≤ now → latest now ≤ high → AreTimely now cs → AreBetween low high es → AreBetween low high (changed i es cs)
changed_between low high now i es [] l m t h = h
changed_between low high now i es (Schedule slot class at ∷ cs) l m t h =
    changed_between low high now i (rescheduled es (event at class i slot)) cs l m t.2
    (between_scheduled low high (without es i slot) (event at class i slot) (omega (arith, l, t.0)) (omega (arith, m, t.1)) (between_without low high es i slot h))
changed_between low high now i es (Remove slot ∷ cs) l m t h = changed_between low high now i (without es i slot) cs l m t (between_without low high es i slot h)

-- items and entries

fit-append : (xs ys : List Item) → AreItemsFit xs → AreItemsFit ys → AreItemsFit (xs ++ ys)
fit-append [] ys h k = k
fit-append (Sent i a ∷ xs) ys h k = (h.0, fit-append xs ys h.1 k)
fit-append (Done i x l ∷ xs) ys h k = (h.0, h.1, fit-append xs ys h.2 k)

fit-sent : (i : ℕ) (list : List Act) → AreFit list → AreItemsFit (sent_by i list)
fit-sent i [] h = tt
fit-sent i (a ∷ rest) h = (h.0, fit-sent i rest h.1)

speech-append : (xs ys : List Item) → items_speech (xs ++ ys) ≡ items_speech xs + items_speech ys
speech-append [] ys = omega arith
speech-append (Sent i a ∷ xs) ys = omega (arith, speech-append xs ys)
speech-append (Done i x l ∷ xs) ys = speech-append xs ys

speech-sent : (i : ℕ) (list : List Act) → items_speech (sent_by i list) ≡ speech list
speech-sent i [] = refl
speech-sent i (a ∷ rest) = omega (arith, speech-sent i rest)

pub console-append : (xs ys : List Entry) → console_of (xs ++ ys) ≡ console_of xs ++ console_of ys
console-append [] ys = refl
console-append (e ∷ xs) ys = ap (λ bs. console_bytes e ++ bs) (console-append xs ys) ∙ sym (append_assoc (console_bytes e) (console_of xs) (console_of ys))

said : (xs ys : List Entry) → length (console_of (xs ++ ys)) ≡ length (console_of xs) + length (console_of ys)
said xs ys = ap length (console-append xs ys) ∙ length-append (console_of xs) (console_of ys)

drawn-none : (n : ℕ) → AreDrawn n [] n
drawn-none n = refl

drawn-append : (a b c : ℕ) (xs ys : List Packet) → AreDrawn a xs b → AreDrawn b ys c → AreDrawn a (xs ++ ys) c
drawn-append a b c [] ys h k = subst (λ n. AreDrawn n ys c) h k
drawn-append a b c (x ∷ xs) ys h k = (h.0, drawn-append (a + 1) b c xs ys h.1 k)

-- what a step of a delivery leaves, at most so many entries and packet numbers later
pub record IsBounded (d e : Delivery) (table : List Slot) (noted few said_more : ℕ) (m : Moves) : Type 0 where
  pub parts : HasSoundParts e.sys table
  pub fit : AreItemsFit e.items
  pub entries : length e.entries ≤ length d.entries + noted
  pub numbers : e.sys.next ≤ d.sys.next + few
  pub drawn : AreDrawn d.sys.next m.made e.sys.next
  pub spoken : length (console_of e.entries) + speech_left e.sys e.items ≤ length (console_of d.entries) + speech_left d.sys d.items + said_more
  pub counts : e.sys.counts ≡ d.sys.counts
  pub tick : e.sys.tick ≡ d.sys.tick
  pub objects : length e.sys.objects ≡ length d.sys.objects
  pub timely : (low high : ℕ) → low ≤ d.sys.tick → latest d.sys.tick ≤ high → AreBetween low high d.sys.pending → AreBetween low high e.sys.pending

pub bounded_then : (d e f : Delivery) (table : List Slot) (a b p q u v : ℕ) (m n : Moves) → IsBounded d e table a p u m → IsBounded e f table b q v n → IsBounded d f table (a + b) (p + q) (u + v) (joined m n)
bounded_then d e f table a b p q u v m n h k = record {
  parts = k.parts;
  fit = k.fit;
  entries = omega (arith, h.entries, k.entries);
  numbers = omega (arith, h.numbers, k.numbers);
  drawn = drawn-append d.sys.next e.sys.next f.sys.next m.made n.made h.drawn k.drawn;
  spoken = omega (arith, h.spoken, k.spoken);
  counts = k.counts ∙ h.counts;
  tick = k.tick ∙ h.tick;
  objects = k.objects ∙ h.objects;
  timely = λ low high l m t. k.timely low high (omega (arith, l, h.tick)) (omega (arith, m, ap latest h.tick)) (h.timely low high l m t);
}

-- a part in another state, that is the same part
module _ (s : Sys) (table : List Slot) (i next : ℕ) (o : ObjState) (cs : List Change) (here : i < length s.objects) (h : HasSoundParts s table) (object : object_of o ≡ object_of (object_at s i))
    (slots : slots_of o ≡ slots_of (object_at s i)) (ports : (face_of o).ports ≡ (face_of (object_at s i)).ports) (within : IsWithin o) where
  abbrev after : Sys
  after = record (with_object s i o cs) { next = next }

  same : object_at (record (with_object s i o cs) { next = next }) i ≡ o
  same = get_or-set_same s.objects i o (Blank kinds.AtomicCpu) here

  other : (k : ℕ) → (k ≡ i → ⊥) → object_at (record (with_object s i o cs) { next = next }) k ≡ object_at s k
  other k n = get_or-set_other s.objects i k o (Blank kinds.AtomicCpu) n

  pub parts_put : HasSoundParts (record (with_object s i o cs) { next = next }) table
  parts_put = record {
    numbered = λ k l. number k (omega (arith, l, length-set s.objects i o)) (cases_eq k i);
    slots = λ k l. slot k (omega (arith, l, length-set s.objects i o)) (cases_eq k i);
    within = λ k. limits k (cases_eq k i);
    room = omega (arith, h.room, sum_by-set most_of s.objects i o (Blank kinds.AtomicCpu) here, ports);
    order = changed_order i s.pending cs h.order;
    once = changed_once i s.pending cs h.once;
  } where
    number : (k : ℕ) → k < length s.objects → (k ≡ i) ⊎ (k ≡ i → ⊥) → object_of (object_at (record (with_object s i o cs) { next = next }) k) ≡ k
    number k l (inl e) = subst (λ j. object_of (object_at (record (with_object s i o cs) { next = next }) j) ≡ j) (sym e) (ap object_of same ∙ (object ∙ h.numbered i here))
    number k l (inr n) = ap object_of (other k n) ∙ h.numbered k l

    slot : (k : ℕ) → k < length s.objects → (k ≡ i) ⊎ (k ≡ i → ⊥) → IsTrue (gave_from table k 0 (slots_of (object_at (record (with_object s i o cs) { next = next }) k)))
    slot k l (inl e) = subst (λ j. IsTrue (gave_from table j 0 (slots_of (object_at (record (with_object s i o cs) { next = next }) j)))) (sym e)
        (subst (λ (xs : List ℕ). IsTrue (gave_from table i 0 xs)) (sym (ap slots_of same ∙ slots)) (h.slots i here))
    slot k l (inr n) = subst (λ (xs : List ℕ). IsTrue (gave_from table k 0 xs)) (sym (ap slots_of (other k n))) (h.slots k l)

    limits : (k : ℕ) → (k ≡ i) ⊎ (k ≡ i → ⊥) → IsWithin (object_at (record (with_object s i o cs) { next = next }) k)
    limits k (inl e) = subst (λ j. IsWithin (object_at (record (with_object s i o cs) { next = next }) j)) (sym e) (subst IsWithin (sym same) within)
    limits k (inr n) = subst IsWithin (sym (other k n)) (h.within k)

-- a wake
pub wake_bounded : (d : Delivery) (table : List Slot) (i : ℕ) (w : Wake) → i < length d.sys.objects → MayCome w → HasSoundParts d.sys table → AreItemsFit d.items
    → IsBounded d (deliver_wake d i w) table 2 1 (wake_speech w) (step_at d.sys i w).moves
wake_bounded d table i w here may h fit =
    let m = rules_are_modest.wake (object_at d.sys i) d.sys.next w d.sys.tick (h.within i) may in
    let r = step_at d.sys i w in
    record {
      parts = parts_put d.sys table i r.next r.state r.changes here h m.object m.slots m.ports m.within;
      fit = fit-append d.items (sent_by i r.acts) fit (fit-sent i r.acts m.fit);
      entries = omega (arith, m.entries, length-append d.entries r.entries);
      numbers = m.few;
      drawn = m.drawn;
      spoken = omega (arith, said d.entries r.entries, sum_by-set part_speech d.sys.objects i r.state (Blank kinds.AtomicCpu) here, m.spoken, speech-append d.items (sent_by i r.acts), speech-sent i r.acts);
      counts = refl;
      tick = refl;
      objects = length-set d.sys.objects i r.state;
      timely = λ low high l k t. changed_between low high d.sys.tick i d.sys.pending r.changes l k m.timely t;
    }

-- no call
still_bounded : (d : Delivery) (table : List Slot) → HasSoundParts d.sys table → AreItemsFit d.items → IsBounded d d table 0 0 0 no_moves
still_bounded d table h fit = record {
  parts = h;
  fit = fit;
  entries = omega arith;
  numbers = omega arith;
  drawn = refl;
  spoken = omega arith;
  counts = refl;
  tick = refl;
  objects = refl;
  timely = λ low high l k t. t;
}

-- a bound is one where more is allowed, and from a delivery with more to say
weaker : (d d' e : Delivery) (table : List Slot) (a b p q u v : ℕ) (m n : Moves) → d'.sys ≡ d.sys → d'.entries ≡ d.entries → items_speech d.items + u ≤ items_speech d'.items + v → a ≤ b → p ≤ q → n.made ≡ m.made → IsBounded d e table a p u m → IsBounded d' e table b q v n
weaker d d' e table a b p q u v m n s es l ab pq mn h = record {
  parts = h.parts;
  fit = h.fit;
  entries = omega (arith, h.entries, ab, ap length es);
  numbers = omega (arith, h.numbers, pq, ap (λ t. t.next) s);
  drawn = subst (λ (xs : List Packet). AreDrawn d'.sys.next xs e.sys.next) (sym mn) (subst (λ k. AreDrawn k m.made e.sys.next) (sym (ap (λ t. t.next) s)) h.drawn);
  spoken = omega (arith, h.spoken, l, ap (λ t. sum_by part_speech t.objects) s, ap (λ xs. length (console_of xs)) es);
  counts = h.counts ∙ sym (ap (λ t. t.counts) s);
  tick = h.tick ∙ sym (ap (λ t. t.tick) s);
  objects = h.objects ∙ sym (ap (λ t. length t.objects) s);
  timely = λ low high i k t. h.timely low high (omega (arith, i, ap (λ x. x.tick) s)) (omega (arith, k, ap (λ x. latest x.tick) s)) (subst (AreBetween low high) (ap (λ x. x.pending) s) t);
}

-- a packet that is passed at once, to the last part of its way
module _ (s : Sys) (rest : List Item) (es : List Entry) (table : List Slot) (i : ℕ) (x : Packet) (h : HasSoundParts s table) (fit : AreItemsFit rest) (size : x.size ≤ 64) where
  pass_bounded : (k took : ℕ) → k < length s.objects → took ≤ passes_max * LATENCY_MAX
      → IsBounded (record { sys = s; items = rest; entries = es }) (done_at (deliver_passed (record { sys = s; items = rest; entries = es }) k x) i (pass_at s k x).packet took) table 2 1 (packet_speech x)
      (record no_moves { served = record { request = x; response = (pass_at s k x).packet } ∷ [] })
  pass_bounded k took here short =
      let m = rules_are_modest.pass (object_at s k) x s.tick (h.within k) in
      let v = pass_at s k x in
      record {
        parts = parts_put s table k s.next v.state v.changes here h m.object m.slots m.ports m.within;
        fit = fit-append (rest ++ sent_by k v.acts) (Done i v.packet took ∷ []) (fit-append rest (sent_by k v.acts) fit (fit-sent k v.acts m.fit)) (omega (arith, m.size, size), omega (arith, short), tt);
        entries = omega (arith, m.entries, length-append es v.entries);
        numbers = omega arith;
        drawn = refl;
        spoken = omega (arith, said es v.entries, sum_by-set part_speech s.objects k v.state (Blank kinds.AtomicCpu) here, m.spoken, speech-append (rest ++ sent_by k v.acts) (Done i v.packet took ∷ []), speech-append rest (sent_by k v.acts), speech-sent k v.acts);
        counts = refl;
        tick = refl;
        objects = length-set s.objects k v.state;
        timely = λ low high l n t. changed_between low high s.tick k s.pending v.changes l n m.timely t;
      }

pub told_may : (a : Answer) (p : ℕ) → MayCome (told_wake a p)
told_may answers.Taken p = tt
told_may answers.Refused p = tt
told_may answers.Nothing p = tt

told_quiet : (a : Answer) (p : ℕ) → wake_speech (told_wake a p) ≡ 0
told_quiet answers.Taken p = refl
told_quiet answers.Refused p = refl
told_quiet answers.Nothing p = refl

is_true : (b : Bool) → b ≡ true → IsTrue b
is_true b e = e

-- the parts of an offer, and of a call, are there
module _ (ram : ℕ) where
  pub sender_there : (s : Sys) (rest : List Item) (i p : ℕ) (x : Packet) → IsSound ram s (Sent i (acts.Offer (record { 0 = p }) x) ∷ rest) → i < length s.objects
  sender_there s rest i p x h = part_there s i p ((h.net.net.faces i).within p (omega (arith, h.net.net.asked i p, only_self i (only p p 1), only_self p 1)))

  pub offered_there : (s : Sys) (rest : List Item) (i p : ℕ) (x : Packet) → IsSound ram s (Sent i (acts.Offer (record { 0 = p }) x) ∷ rest) → (peer_in s.wires i p).part < length s.objects
  offered_there s rest i p x h = part_there s (peer_in s.wires i p).part (peer_in s.wires i p).port (h.net.wired.real i p ((h.net.net.faces i).within p (omega (arith, h.net.net.asked i p, only_self i (only p p 1), only_self p 1))))

  pub called_there : (s : Sys) (rest : List Item) (i p : ℕ) → IsSound ram s (Sent i (acts.CallRetry (record { 0 = p })) ∷ rest) → (peer_in s.wires i p).part < length s.objects
  called_there s rest i p h =
      let q : End = peer_in s.wires i p in
      let back : peer_in s.wires q.part q.port ≡ record { part = i; port = p } = h.net.wired.both i p in
      let calls = ap (λ (t : End). called_by t.part t.port (Sent i (acts.CallRetry (record { 0 = p })) ∷ rest)) back in
      part_there s q.part q.port ((h.net.net.faces q.part).within q.port (omega (arith, h.net.net.waits q.part q.port, calls, only_self i (only p p 1), only_self p 1)))

  -- and have the ports
  pub asked_port : (s : Sys) (rest : List Item) (i p : ℕ) (x : Packet) → IsSound ram s (Sent i (acts.Offer (record { 0 = p }) x) ∷ rest) → p < (faces s i).ports
  asked_port s rest i p x h = (h.net.net.faces i).within p (omega (arith, h.net.net.asked i p, only_self i (only p p 1), only_self p 1))

  pub offered_port : (s : Sys) (rest : List Item) (i p : ℕ) (x : Packet) → IsSound ram s (Sent i (acts.Offer (record { 0 = p }) x) ∷ rest)
      → (peer_in s.wires i p).port < (faces s (peer_in s.wires i p).part).ports
  offered_port s rest i p x h = h.net.wired.real i p (asked_port s rest i p x h)

  pub called_port : (s : Sys) (rest : List Item) (i p : ℕ) → IsSound ram s (Sent i (acts.CallRetry (record { 0 = p })) ∷ rest)
      → (peer_in s.wires i p).port < (faces s (peer_in s.wires i p).part).ports
  called_port s rest i p h =
      let q : End = peer_in s.wires i p in
      let back : peer_in s.wires q.part q.port ≡ record { part = i; port = p } = h.net.wired.both i p in
      let calls = ap (λ (t : End). called_by t.part t.port (Sent i (acts.CallRetry (record { 0 = p })) ∷ rest)) back in
      (h.net.net.faces q.part).within q.port (omega (arith, h.net.net.waits q.part q.port, calls, only_self i (only p p 1), only_self p 1))

-- a part's ports stay, whichever part is woken
pub ports_stay : (s : Sys) (table : List Slot) (k i : ℕ) (w : Wake) → k < length s.objects → MayCome w → HasSoundParts s table → (faces (woken s k w) i).ports ≡ (faces s i).ports
ports_stay s table k i w here may h = by (cases_eq i k) where
  by : (i ≡ k) ⊎ (i ≡ k → ⊥) → (faces (woken s k w) i).ports ≡ (faces s i).ports
  by (inl e) =
      let P : ℕ → Type 0 = λ j. (faces (woken s k w) j).ports ≡ (faces s j).ports in
      subst P (sym e) (ap (λ o. (face_of o).ports) (get_or-set_same s.objects k (step_at s k w).state (Blank kinds.AtomicCpu) here)
      ∙ (rules_are_modest.wake (object_at s k) s.next w s.tick (h.within k) may).ports)
  by (inr n) = ap (λ o. (face_of o).ports) (get_or-set_other s.objects k i (step_at s k w).state (Blank kinds.AtomicCpu) n)

-- each item
module _ (ram : ℕ) (table : List Slot) where
  line_bounded : (s : Sys) (rest : List Item) (es : List Entry) (i b : ℕ) (l : Bool) (o : Option ℕ) → active_cpu s.objects ≡ o → is_line b ≡ true → HasSoundParts s table → AreItemsFit rest
      → IsBounded (record { sys = s; items = Sent i (acts.SetLine b l) ∷ rest; entries = es }) (deliver_line (record { sys = s; items = rest; entries = es }) (wakes.Line b l) o) table 4 2 0 (line_moves s (wakes.Line b l) o)
  line_bounded s rest es i b l None e line h fit =
      let d : Delivery = record { sys = s; items = rest; entries = es } in
      weaker d (record { sys = s; items = Sent i (acts.SetLine b l) ∷ rest; entries = es }) d table 0 4 0 2 0 0 no_moves no_moves refl refl (omega arith) (omega arith) (omega arith) refl (still_bounded d table h fit)
  line_bounded s rest es i b l (Some k) e line h fit =
      let d : Delivery = record { sys = s; items = rest; entries = es } in
      weaker d (record { sys = s; items = Sent i (acts.SetLine b l) ∷ rest; entries = es }) (deliver_wake d k (wakes.Line b l)) table 2 4 1 2 0 0 (step_at s k (wakes.Line b l)).moves (step_at s k (wakes.Line b l)).moves refl refl (omega arith) (omega arith) (omega arith) refl
      (wake_bounded d table k (wakes.Line b l) (omega (arith, active_below 0 k s.objects e)) (is_true (is_line b) line) h fit)

  pub handle_bounded : (s : Sys) (rest : List Item) (es : List Entry) (it : Item) → IsSound ram s (it ∷ rest) → HasSoundParts s table → AreItemsFit (it ∷ rest)
      → IsBounded (record { sys = s; items = it ∷ rest; entries = es }) (handle (record { sys = s; items = rest; entries = es }) it) table 4 2 0 (item_moves s it)
  handle_bounded s rest es (Sent i (acts.Offer p x)) sound h fit =
      let d : Delivery = record { sys = s; items = rest; entries = es } in
      let q : End = peer_in s.wires i p.0 in
      let w : Wake = wakes.Offer (record { 0 = q.port }) x in
      let a : Answer = (step_at s q.part w).answer in
      let one = wake_bounded d table q.part w (offered_there ram s rest i p.0 x sound) fit.0 h fit.1 in
      let two = wake_bounded (deliver_wake d q.part w) table i (told_wake a p.0) (omega (arith, one.objects, sender_there ram s rest i p.0 x sound)) (told_may a p.0) one.parts one.fit in
      let both = bounded_then d (deliver_wake d q.part w) (deliver_wake (deliver_wake d q.part w) i (told_wake a p.0)) table 2 2 1 1 0 (wake_speech (told_wake a p.0)) (step_at s q.part w).moves (step_at (woken s q.part w) i (told_wake a p.0)).moves one two in
      weaker d (record { sys = s; items = Sent i (acts.Offer p x) ∷ rest; entries = es }) (deliver_wake (deliver_wake d q.part w) i (told_wake a p.0)) table 4 4 2 2 (0 + wake_speech (told_wake a p.0)) 0
      (joined (step_at s q.part w).moves (step_at (woken s q.part w) i (told_wake a p.0)).moves) (joined (step_at s q.part w).moves (step_at (woken s q.part w) i (told_wake a p.0)).moves) refl refl (omega (arith, told_quiet a p.0)) (omega arith) (omega arith) refl both
  handle_bounded s rest es (Sent i (acts.CallRetry p)) sound h fit =
      let d : Delivery = record { sys = s; items = rest; entries = es } in
      let q : End = peer_in s.wires i p.0 in
      let w : Wake = wakes.Retry (record { 0 = q.port }) in
      weaker d (record { sys = s; items = Sent i (acts.CallRetry p) ∷ rest; entries = es }) (deliver_wake d q.part w) table 2 4 1 2 0 0 (step_at s q.part w).moves (step_at s q.part w).moves refl refl (omega arith) (omega arith) (omega arith) refl
      (wake_bounded d table q.part w (called_there ram s rest i p.0 sound) tt h fit.1)
  handle_bounded s rest es (Sent i (acts.SetLine b l)) sound h fit = line_bounded s rest es i b l (active_cpu s.objects) refl sound.net.sent.0 h fit.1
  handle_bounded s rest es (Sent i (acts.Atomic p x)) sound h fit =
      let d : Delivery = record { sys = s; items = rest; entries = es } in
      let k : ℕ = (peer_in s.ways i p.0).part in
      let v = atomic_served passes_hold ram_memory ram_laws ram s rest i p.0 x sound es in
      let served : Moves = record no_moves { served = record { request = x; response = (pass_at s v.place x).packet } ∷ [] } in
      let b = pass_bounded s rest es table i x h fit.1 fit.0 v.place v.took v.there (v.short (λ j. (rules_are_modest.pass (object_at s j) x s.tick (h.within j)).soon)) in
      subst (λ (e : Delivery). IsBounded (record { sys = s; items = Sent i (acts.Atomic p x) ∷ rest; entries = es }) e table 4 2 0 (atomic_moves passes_max s k x)) (sym v.ends)
      (weaker d (record { sys = s; items = Sent i (acts.Atomic p x) ∷ rest; entries = es }) (done_at (deliver_passed d v.place x) i (pass_at s v.place x).packet v.took) table 2 4 1 2 (packet_speech x) 0
      served (atomic_moves passes_max s k x) refl refl (omega arith) (omega arith) (omega arith) (ap (λ (m : Moves). m.made) v.moves) b)
  handle_bounded s rest es (Done i x l) sound h fit =
      let d : Delivery = record { sys = s; items = rest; entries = es } in
      weaker d (record { sys = s; items = Done i x l ∷ rest; entries = es }) (deliver_wake d i (wakes.AtomicDone x l)) table 2 4 1 2 0 0 (step_at s i (wakes.AtomicDone x l)).moves (step_at s i (wakes.AtomicDone x l)).moves refl refl (omega arith) (omega arith) (omega arith) refl
      (wake_bounded d table i (wakes.AtomicDone x l) sound.net.placed.0 (fit.0, fit.1) h fit.2)
