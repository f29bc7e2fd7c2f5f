-- What the steps of flows and lanes ask for, and what they leave.
use Rattle.std.proofs.Common.{◌≡◌, ℕ, refl, Bool, true, false, List, [], ◌∷◌}
use Rattle.gm_words.specs.Flow.{Flow, Queued, OutState, Quiet, Due, Asked, Waits}
use Rattle.pkt_pool.specs.declared.packet.Packet.{Packet}
use Rattle.obj_core.specs.Kept.{outlet_of}
use Rattle.gm_model.specs.Flows.{Outlet, Moved, still, put_in, ask_in, hold_in, again_in, gone_in, open_in}

pub put_acts : (o : Outlet) (x : Packet) (ready : ℕ) (items : List Queued) (out : OutState) → (put_in o x ready items out).acts ≡ []
put_acts o x ready [] out = refl
put_acts o x ready (y ∷ ys) out = refl

-- at which port it is offered doesn't matter yet
pub put_flow : (p slot class : ℕ) (x : Packet) (ready : ℕ) (items : List Queued) (out : OutState)
    → (put_in (record { port = p; slot = slot; class = class }) x ready items out).flow ≡ (put_in (outlet_of slot class) x ready items out).flow
put_flow p slot class x ready [] out = refl
put_flow p slot class x ready (y ∷ ys) out = refl

pub put_changes : (p slot class : ℕ) (x : Packet) (ready : ℕ) (items : List Queued) (out : OutState)
    → (put_in (record { port = p; slot = slot; class = class }) x ready items out).changes ≡ (put_in (outlet_of slot class) x ready items out).changes
put_changes p slot class x ready [] out = refl
put_changes p slot class x ready (y ∷ ys) out = refl

pub gone_acts : (o : Outlet) (at : ℕ) (items : List Queued) → (gone_in o at items).acts ≡ []
gone_acts o at [] = refl
gone_acts o at (x ∷ []) = refl
gone_acts o at (x ∷ y ∷ ys) = refl

pub ask_changes : (p : ℕ) (items : List Queued) (out : OutState) → (ask_in p items out).changes ≡ []
ask_changes p [] out = refl
ask_changes p (x ∷ xs) Quiet = refl
ask_changes p (x ∷ xs) Due = refl
ask_changes p (x ∷ xs) Asked = refl
ask_changes p (x ∷ xs) Waits = refl

pub hold_acts : (items : List Queued) (out : OutState) → (hold_in items out).acts ≡ []
hold_acts items Quiet = refl
hold_acts items Due = refl
hold_acts items Asked = refl
hold_acts items Waits = refl

pub hold_changes : (items : List Queued) (out : OutState) → (hold_in items out).changes ≡ []
hold_changes items Quiet = refl
hold_changes items Due = refl
hold_changes items Asked = refl
hold_changes items Waits = refl

pub again_changes : (p : ℕ) (items : List Queued) (out : OutState) → (again_in p items out).changes ≡ []
again_changes p [] out = refl
again_changes p (x ∷ xs) Quiet = refl
again_changes p (x ∷ xs) Due = refl
again_changes p (x ∷ xs) Asked = refl
again_changes p (x ∷ xs) Waits = refl

-- who waits is called behind a step that asks for nothing, as behind none

pub opened_flow : (room : Bool) (m : Moved) (waiting : List ℕ) → (open_in room m waiting).lane.flow ≡ m.flow
opened_flow false m waiting = refl
opened_flow true m [] = refl
opened_flow true m (q ∷ qs) = refl

pub opened_changes : (room : Bool) (m : Moved) (waiting : List ℕ) → (open_in room m waiting).changes ≡ m.changes
opened_changes false m waiting = refl
opened_changes true m [] = refl
opened_changes true m (q ∷ qs) = refl

pub opened_waiting : (room : Bool) (m : Moved) (f : Flow) (waiting : List ℕ) → (open_in room m waiting).lane.waiting ≡ (open_in room (still f) waiting).lane.waiting
opened_waiting false m f waiting = refl
opened_waiting true m f [] = refl
opened_waiting true m f (q ∷ qs) = refl

pub opened_acts : (room : Bool) (m : Moved) (f : Flow) (waiting : List ℕ) → m.acts ≡ [] → (open_in room m waiting).acts ≡ (open_in room (still f) waiting).acts
opened_acts false m f waiting e = e
opened_acts true m f [] e = e
opened_acts true m f (q ∷ qs) e = rw e refl
