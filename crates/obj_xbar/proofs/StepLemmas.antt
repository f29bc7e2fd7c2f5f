-- The steps of a crossbar, by what its layers hold.
use Rattle.std.proofs.Common.{◌≡◌, ℕ, zero, suc, ◌-◌, ◌≤◌, ◌==◌, ◌&&◌, refl, ◌∙◌, ap, arith, true, false, if◌then◌else◌, List, [], ◌∷◌, length, slice_set}
use Rattle.gm_words.specs.Flow.{Queued, OutState, Quiet, Due, Asked, Waits, Lane, quiet_flow, empty_lane}
use Rattle.gm_words.specs.declared.port_use.PortUse.{PortUse}
use Rattle.gm_model.specs.Flows.{Outlet, still, gone_in, opened, open_in}
use Rattle.gm_model.specs.ObjState.{Xbar, XbarState, SideLayer}
use Rattle.gm_model.specs.Stepped.{stays}
use Rattle.gm_model.specs.Xbar.{lane_at, is_next, one_less_ahead, xbar_event}
use Rattle.obj_xbar.specs.Side.{is_behind}

-- a layer holds one packet, so nothing comes after it
pub opened_one : (o : Outlet) (at : ℕ) (items : List Queued) (waiting : List ℕ) → length items ≤ 1
    → opened 1 (gone_in o at items) waiting ≡ open_in true (still quiet_flow) waiting
opened_one o at [] waiting l = refl
opened_one o at (x ∷ []) waiting l = refl
opened_one o at (x ∷ y ∷ ys) waiting l = absurd (omega (arith, l))

-- the layer of no port is next where it waits and none is before it
pub next_is : (us : List PortUse) (p ahead : ℕ) (items : List Queued) (out : OutState)
    → is_next us p ahead items out ≡ (is_behind us p items out && (ahead == 0))
next_is us p ahead [] out = refl
next_is us p ahead (x ∷ xs) Quiet = refl
next_is us p ahead (x ∷ xs) Due = refl
next_is us p ahead (x ∷ xs) Asked = refl
next_is us p ahead (x ∷ xs) Waits = refl

one_less : (us : List PortUse) (p ahead : ℕ) (items : List Queued) (out : OutState) (waiting : List ℕ)
    → (let l : SideLayer = record { lane = record { flow = record { items = items; out = out }; waiting = waiting }; ahead = ahead } in
    one_less_ahead us p l ≡ (if is_behind us p items out then record l { ahead = ahead - 1 } else l))
one_less us p ahead [] out waiting = refl
one_less us p ahead (x ∷ xs) Quiet waiting = refl
one_less us p ahead (x ∷ xs) Due waiting = refl
one_less us p ahead (x ∷ xs) Asked waiting = refl
one_less us p ahead (x ∷ xs) Waits waiting = refl

-- one that was before it is called
pub less_ahead : (us : List PortUse) (p : ℕ) (l : SideLayer) → is_behind us p l.lane.flow.items l.lane.flow.out ≡ true
    → one_less_ahead us p l ≡ record l { ahead = l.ahead - 1 }
less_ahead us p l e = one_less us p l.ahead l.lane.flow.items l.lane.flow.out l.lane.waiting ∙ rw e refl

pub same_ahead : (us : List PortUse) (p : ℕ) (l : SideLayer) → is_behind us p l.lane.flow.items l.lane.flow.out ≡ false → one_less_ahead us p l ≡ l
same_ahead us p l e = one_less us p l.ahead l.lane.flow.items l.lane.flow.out l.lane.waiting ∙ rw e refl

-- there is no layer behind the last
set_behind : (ls : List Lane) (p : ℕ) (x : Lane) → length ls ≤ p → slice_set ls p x ≡ ls
set_behind [] p x l = refl
set_behind (y ∷ ys) zero x l = absurd (omega (arith, l))
set_behind (y ∷ ys) (suc p) x l = ap (λ zs. y ∷ zs) (set_behind ys p x (omega (arith, l)))

at_behind : (ls : List Lane) (p : ℕ) → length ls ≤ p → lane_at ls p ≡ empty_lane
at_behind [] p l = refl
at_behind (y ∷ ys) zero l = absurd (omega (arith, l))
at_behind (y ∷ ys) (suc p) l = at_behind ys p (omega (arith, l))

pub nothing_there : (s : XbarState) (next p : ℕ) → length s.lanes ≤ p → xbar_event s next p ≡ stays (Xbar s) next
nothing_there s next p l = rw (at_behind s.lanes p l) (rw (set_behind s.lanes p empty_lane l) refl)

-- who is called, once the packet of a layer is gone
pub ruleset once_gone = (next_is, less_ahead, same_ahead, opened_one)
