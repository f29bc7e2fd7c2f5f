-- Each step of a flow or a lane is modest: it changes the event of its outlet alone, and offers what it holds.
use Rattle.std.proofs.Common.{◌≡◌, ℕ, ◌+◌, ◌≤◌, Bool, true, false, List, [], ◌∷◌, ◌++◌, All, Some, slice_get, refl, arith}
use Rattle.std.proofs.lemmas.List.Elements.{All-nil, All-cons, All-head, All-tail}
use Rattle.gm_words.specs.Allowed.{MayPass}
use Rattle.gm_words.specs.Changes.{Change, Schedule, Remove}
use Rattle.gm_words.specs.Flow.{Queued, OutState, Quiet, Due, Asked, Waits, Flow, Lane}
use Rattle.gm_words.specs.declared.act.Act.{Act}
use Rattle.pkt_pool.specs.declared.packet.Packet.{Packet}
use Rattle.gm_model.specs.Flows.{Outlet, Moved, LaneMoved, put_in, ask_in, hold_in, again_in, gone_in, next_in, moved, open_in, taken_in}
use Rattle.gm_model.specs.View.{queued_packets}
use Rattle.gm_laws.specs.Bounds.{AreOwnChanges, AreTimely, AreFit, latest, speech}

-- what a step of a flow may do, of a part with these slots
pub record IsMovedModest (slots : List ℕ) (now : ℕ) (m : Moved) : Type 0 where
  pub own : AreOwnChanges slots m.changes
  pub timely : AreTimely now m.changes
  pub fit : AreFit m.acts
  pub silent : speech m.acts ≡ 0
  pub held : All MayPass (queued_packets m.flow.items)

-- and of a lane
pub record IsLaneModest (slots : List ℕ) (now : ℕ) (m : LaneMoved) : Type 0 where
  pub own : AreOwnChanges slots m.changes
  pub timely : AreTimely now m.changes
  pub fit : AreFit m.acts
  pub silent : speech m.acts ≡ 0
  pub held : All MayPass (queued_packets m.lane.flow.items)

pub own-append : (slots : List ℕ) (xs ys : List Change) → AreOwnChanges slots xs → AreOwnChanges slots ys → AreOwnChanges slots (xs ++ ys)
own-append slots [] ys h k = k
own-append slots (Schedule slot class at ∷ xs) ys h k = (h.0, own-append slots xs ys h.1 k)
own-append slots (Remove slot ∷ xs) ys h k = (h.0, own-append slots xs ys h.1 k)

pub timely-append : (now : ℕ) (xs ys : List Change) → AreTimely now xs → AreTimely now ys → AreTimely now (xs ++ ys)
timely-append now [] ys h k = k
timely-append now (Schedule slot class at ∷ xs) ys h k = (h.0, h.1, timely-append now xs ys h.2 k)
timely-append now (Remove slot ∷ xs) ys h k = timely-append now xs ys h k

pub fit-append : (xs ys : List Act) → AreFit xs → AreFit ys → AreFit (xs ++ ys)
fit-append [] ys h k = k
fit-append (x ∷ xs) ys h k = (h.0, fit-append xs ys h.1 k)

pub speech-append : (xs ys : List Act) → speech (xs ++ ys) ≡ speech xs + speech ys
speech-append [] ys = omega arith
speech-append (x ∷ xs) ys = omega (arith, speech-append xs ys)

module _ (slots : List ℕ) (now : ℕ) where
  pub still_moved : (f : Flow) → All MayPass (queued_packets f.items) → IsMovedModest slots now (record { flow = f; acts = []; changes = [] })
  still_moved f h = record { own = tt; timely = tt; fit = tt; silent = refl; held = h }

  queued-push : (x : Queued) (xs : List Queued) → All MayPass (queued_packets xs) → MayPass x.packet → All MayPass (queued_packets (xs ++ x ∷ []))
  queued-push x [] h p = All-cons MayPass x.packet [] p (All-nil MayPass)
  queued-push x (y ∷ ys) h p =
      All-cons MayPass y.packet (queued_packets (ys ++ x ∷ [])) (All-head MayPass y.packet (queued_packets ys) h)
      (queued-push x ys (All-tail MayPass y.packet (queued_packets ys) h) p)

  pub put_modest : (o : Outlet) (x : Packet) (ready : ℕ) (items : List Queued) (out : OutState) → slice_get slots o.slot ≡ Some o.class → now ≤ ready
      → ready ≤ latest now → MayPass x → All MayPass (queued_packets items)
      → IsMovedModest slots now (put_in o x ready items out)
  put_modest o x ready [] out s l m p h = record { own = (s, tt); timely = (l, m, tt); fit = tt; silent = refl; held = All-cons MayPass x [] p h }
  put_modest o x ready (y ∷ ys) out s l m p h =
      still_moved (record { items = (y ∷ ys) ++ record { packet = x; ready = ready } ∷ []; out = out })
      (queued-push (record { packet = x; ready = ready }) (y ∷ ys) h p)

  pub ask_modest : (p : ℕ) (items : List Queued) (out : OutState) → All MayPass (queued_packets items) → IsMovedModest slots now (ask_in p items out)
  ask_modest p [] out h = still_moved (record { items = []; out = out }) h
  ask_modest p (x ∷ xs) Due h = record { own = tt; timely = tt; fit = (All-head MayPass x.packet (queued_packets xs) h, tt); silent = refl; held = h }
  ask_modest p (x ∷ xs) Quiet h = still_moved (record { items = x ∷ xs; out = Quiet }) h
  ask_modest p (x ∷ xs) Asked h = still_moved (record { items = x ∷ xs; out = Asked }) h
  ask_modest p (x ∷ xs) Waits h = still_moved (record { items = x ∷ xs; out = Waits }) h

  pub hold_modest : (items : List Queued) (out : OutState) → All MayPass (queued_packets items) → IsMovedModest slots now (hold_in items out)
  hold_modest items Asked h = still_moved (record { items = items; out = Waits }) h
  hold_modest items Quiet h = still_moved (record { items = items; out = Quiet }) h
  hold_modest items Due h = still_moved (record { items = items; out = Due }) h
  hold_modest items Waits h = still_moved (record { items = items; out = Waits }) h

  pub again_modest : (p : ℕ) (items : List Queued) (out : OutState) → All MayPass (queued_packets items) → IsMovedModest slots now (again_in p items out)
  again_modest p [] out h = still_moved (record { items = []; out = out }) h
  again_modest p (x ∷ xs) Waits h = record { own = tt; timely = tt; fit = (All-head MayPass x.packet (queued_packets xs) h, tt); silent = refl; held = h }
  again_modest p (x ∷ xs) Quiet h = still_moved (record { items = x ∷ xs; out = Quiet }) h
  again_modest p (x ∷ xs) Due h = still_moved (record { items = x ∷ xs; out = Due }) h
  again_modest p (x ∷ xs) Asked h = still_moved (record { items = x ∷ xs; out = Asked }) h

  pub gone_modest : (o : Outlet) (at : ℕ) (items : List Queued) → slice_get slots o.slot ≡ Some o.class → now ≤ at → at ≤ latest now
      → All MayPass (queued_packets items) → IsMovedModest slots now (gone_in o at items)
  gone_modest o at [] s l m h = still_moved (record { items = []; out = Quiet }) h
  gone_modest o at (x ∷ []) s l m h = still_moved (record { items = []; out = Quiet }) (All-nil MayPass)
  gone_modest o at (x ∷ y ∷ ys) s l m h = record { own = (s, tt); timely = (l, m, tt); fit = tt; silent = refl; held = All-tail MayPass x.packet (queued_packets (y ∷ ys)) h }

  pub next_modest : (o : Outlet) (x : Packet) (at : ℕ) → slice_get slots o.slot ≡ Some o.class → now ≤ at → at ≤ latest now → MayPass x
      → IsMovedModest slots now (next_in o x at)
  next_modest o x at s l m p = record { own = (s, tt); timely = (l, m, tt); fit = tt; silent = refl; held = All-cons MayPass x [] p (All-nil MayPass) }

  pub moved_modest : (l : Lane) (m : Moved) → IsMovedModest slots now m → IsLaneModest slots now (moved l m)
  moved_modest l m h = record { own = h.own; timely = h.timely; fit = h.fit; silent = h.silent; held = h.held }

  pub open_modest : (room : Bool) (m : Moved) (waiting : List ℕ) → IsMovedModest slots now m → IsLaneModest slots now (open_in room m waiting)
  open_modest false m waiting h = record { own = h.own; timely = h.timely; fit = h.fit; silent = h.silent; held = h.held }
  open_modest true m [] h = record { own = h.own; timely = h.timely; fit = h.fit; silent = h.silent; held = h.held }
  open_modest true m (q ∷ qs) h = record { own = h.own; timely = h.timely; fit = (tt, h.fit); silent = omega (arith, h.silent); held = h.held }

  pub taken_modest : (o : Outlet) (l : Lane) (q : ℕ) (x : Packet) (ready : ℕ) (room : Bool) → slice_get slots o.slot ≡ Some o.class → now ≤ ready
      → ready ≤ latest now → MayPass x → All MayPass (queued_packets l.flow.items)
      → IsLaneModest slots now (taken_in o l q x ready room)
  taken_modest o l q x ready true s b m p h = moved_modest l (put_in o x ready l.flow.items l.flow.out) (put_modest o x ready l.flow.items l.flow.out s b m p h)
  taken_modest o l q x ready false s b m p h = record { own = tt; timely = tt; fit = tt; silent = refl; held = h }
