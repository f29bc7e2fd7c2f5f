-- Machines that are drained.
use Rattle.std.proofs.Common.{◌≡◌, ℕ, zero, suc, ◌-◌, ◌&&◌, refl, sym, ap, ◌∙◌, subst, Bool, true, false, List, [], ◌∷◌, map, get_or}
use Rattle.cfg_tree.specs.declared.config.Config.{Config}
use Rattle.ev_queue.specs.declared.due.Due.{Due}
use Rattle.gm_model.specs.Command.{with_own_bytes, is_drained}
use Rattle.gm_model.specs.Drained.{is_settled, are_drained, are_device_events, is_device_event}
use Rattle.gm_model.specs.ObjState.{ObjState, Blank, AtomicCpu, TimingCpu, Xbar, Server, Device, Memory, Uart, Exit, Timer}
use Rattle.gm_model.specs.Start.{start_state, with_raw}
use Rattle.gm_model.specs.Sys.{Sys, object_at}
use Rattle.gm_model.specs.Xbar.{are_idle}
use Rattle.gm_words.specs.PortUses.{used}
use Rattle.gm_words.specs.declared.kind.Kind.TheVariants as kinds
use Rattle.rv_step.specs.FlatMem.{ram_base}
use Rattle.kernel.specs.Settled.{IsSettled}

-- a machine at its start is settled, in either mode
pub start_settled : (c : Config) (entry : ℕ) (ram : List ℕ) → IsSettled (start_state c entry ram)
unfolding are_idle used
start_settled c entry ram = by c.system_model where
  by : (b : Bool) → IsSettled (start_state (record c { system_model = b }) entry ram)
  by true = record { draining = refl; drained = refl }
  by false = record { draining = refl; drained = refl }

-- bytes that a part keeps say nothing of packets and events
module _ (at : ℕ) (bytes : List ℕ) where
  put_drained_parts : (os : List ObjState) → are_drained (map (λ o. with_own_bytes at bytes o) os) ≡ are_drained os
  put_drained_parts [] = refl
  put_drained_parts (Blank k ∷ os) = put_drained_parts os
  put_drained_parts (AtomicCpu s ∷ os) = ap (λ b. is_drained (AtomicCpu s) && b) (put_drained_parts os)
  put_drained_parts (TimingCpu s ∷ os) = ap (λ b. is_drained (TimingCpu s) && b) (put_drained_parts os)
  put_drained_parts (Xbar s ∷ os) = ap (λ b. is_drained (Xbar s) && b) (put_drained_parts os)
  put_drained_parts (Server s ∷ os) = ap (λ b. is_drained (Server s) && b) (put_drained_parts os)

  put_event : (o : ObjState) (slot : ℕ) → is_device_event (with_own_bytes at bytes o) slot ≡ is_device_event o slot
  put_event (Blank k) slot = refl
  put_event (AtomicCpu s) slot = refl
  put_event (TimingCpu s) slot = refl
  put_event (Xbar s) slot = refl
  put_event (Server s) slot = by_device s.device where
    by_device : (d : Device) → is_device_event (with_own_bytes at bytes (Server (record s { device = d }))) slot ≡ is_device_event (Server (record s { device = d })) slot
    by_device (Memory m) = refl
    by_device (Uart u) = refl
    by_device (Exit code) = refl
    by_device (Timer t) = refl

  put_at : (os : List ObjState) (i : ℕ) → get_or (map (λ o. with_own_bytes at bytes o) os) i (Blank kinds.AtomicCpu) ≡ with_own_bytes at bytes (get_or os i (Blank kinds.AtomicCpu))
  put_at [] i = refl
  put_at (o ∷ os) zero = refl
  put_at (o ∷ os) (suc i) = put_at os i

  put_events : (s : Sys) (es : List Due) → are_device_events (record s { objects = map (λ o. with_own_bytes at bytes o) s.objects }) es ≡ are_device_events s es
  put_events s [] = refl
  put_events s (e ∷ es) =
      let here : is_device_event (get_or (map (λ o. with_own_bytes at bytes o) s.objects) e.owner.0 (Blank kinds.AtomicCpu)) e.slot.0 ≡ is_device_event (object_at s e.owner.0) e.slot.0 =
      ap (λ o. is_device_event o e.slot.0) (put_at s.objects e.owner.0) ∙ put_event (object_at s e.owner.0) e.slot.0 in
      rw (here, put_events s es) refl

-- a drained machine stays so when bytes are put into RAM
pub put_drained : (s : Sys) (address : ℕ) (bytes : List ℕ) → is_settled s ≡ true → is_settled (with_raw address bytes s) ≡ true
put_drained s address bytes h = rw (put_drained_parts (address - ram_base) bytes s.objects, put_events (address - ram_base) bytes s s.pending) h

pub put_settled : (s s' : Sys) (address : ℕ) (bytes : List ℕ) → s' ≡ with_raw address bytes s → IsSettled s → IsSettled s'
put_settled s s' address bytes e h =
    let P : Sys → Type 0 = IsSettled in
    subst P (sym e) (record { draining = h.draining; drained = put_drained s address bytes h.drained })
