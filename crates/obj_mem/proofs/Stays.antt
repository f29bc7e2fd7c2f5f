-- Memory stays memory.
use Rattle.std.proofs.Common.{◌≡◌, ℕ, ◌==◌, ◌&&◌, refl, Bool, true, false, IsTrue, List, [], ◌∷◌, if◌then◌else◌}
use Rattle.rv_step.specs.FlatMem.{in_ram}
use Rattle.gm_words.specs.Flow.{Queued, OutState}
use Rattle.gm_words.specs.Platform.{serve_slot, own_slot}
use Rattle.gm_words.specs.declared.wake.Wake.{Wake}
use Rattle.gm_words.specs.declared.wake.Wake.TheVariants as wakes
use Rattle.pkt_pool.specs.Packet.{is_write_back}
use Rattle.pkt_pool.specs.declared.cmd.Cmd.{Cmd}
use Rattle.pkt_pool.specs.declared.cmd.Cmd.TheVariants as cmds
use Rattle.pkt_pool.specs.declared.packet.Packet.{Packet}
use Rattle.gm_model.specs.Memory.{serve_memory}
use Rattle.gm_model.specs.ObjState.{ObjState, Blank, AtomicCpu, TimingCpu, Xbar, Server, ServerState, Device, Memory, Uart, Exit, Timer}
use Rattle.gm_model.specs.ObjectStep.{object_step, atomic_step}
use Rattle.gm_model.specs.Serve.{Served}
use Rattle.gm_model.specs.Server.{serve, server_step, server_serves, server_served, server_event}
use Rattle.gm_model.specs.Stepped.{Stepped, stays}
use Rattle.obj_mem.specs.Part.{is_ram, is_memory}

ram_served : (m : List ℕ) (p : Packet) (c : Cmd) (b : Bool) → is_ram (serve_memory m p c b).device ≡ true
ram_served m p cmds.Read true = refl
ram_served m p cmds.Read false = refl
ram_served m p cmds.Write true = refl
ram_served m p cmds.Write false = refl
ram_served m p cmds.WriteBack true = refl
ram_served m p cmds.WriteBack false = refl
ram_served m p cmds.ReadResp b = refl
ram_served m p cmds.WriteResp b = refl

-- a device stays memory, or stays none

device_served : (d : Device) (p : Packet) (now : ℕ) → is_ram d ≡ true → is_ram (serve d p now).device ≡ true
device_served (Memory m) p now h = ram_served m p p.cmd (in_ram m p.addr p.size)
device_served (Uart u) p now h = absurd (cc)
device_served (Exit code) p now h = absurd (cc)
device_served (Timer t) p now h = absurd (cc)

numbered : (a b : Bool) → (a && b) ≡ true → a ≡ true
numbered true b h = refl
numbered false b h = h

kept : (a b : Bool) → (a && b) ≡ true → b ≡ true
kept true b h = h
kept false b h = absurd (cc)

both : (a b : Bool) → a ≡ true → b ≡ true → (a && b) ≡ true
both a b h i = rw h i

after_event : (s : ServerState) (n next : ℕ) (d : Device) → (s.common.object == n) ≡ true → is_ram d ≡ true → is_memory n (server_event s next d).state ≡ true
after_event s n next (Memory m) e h = both _ true e refl
after_event s n next (Uart u) e h = absurd (cc)
after_event s n next (Exit code) e h = absurd (cc)
after_event s n next (Timer t) e h = absurd (cc)

served_as : (s : ServerState) (n next now : ℕ) (x : Queued) (xs : List Queued) (out : OutState) (r : Served) (b : Bool)
    → (s.common.object == n) ≡ true → is_ram r.device ≡ true → is_memory n (server_served s next now x xs out r b).state ≡ true
served_as s n next now x xs out r true e h = both _ _ e h
served_as s n next now x xs out r false e h = both _ _ e h

serves : (s : ServerState) (n next now : ℕ) (items : List Queued) (out : OutState) → (s.common.object == n) ≡ true → is_ram s.device ≡ true
    → is_memory n (server_serves s next now items out).state ≡ true
serves s n next now [] out e h = both _ _ e h
serves s n next now (x ∷ xs) out e h =
    served_as s n next now x xs out (serve s.device x.packet now) (is_write_back x.packet.cmd) e (device_served s.device x.packet now h)

chosen : (n : ℕ) (b c : Bool) (x y z : Stepped) → is_memory n x.state ≡ true → is_memory n y.state ≡ true → is_memory n z.state ≡ true
    → is_memory n (if b then x else if c then y else z).state ≡ true
chosen n true c x y z h i j = h
chosen n false true x y z h i j = i
chosen n false false x y z h i j = j

steps : (s : ServerState) (n next : ℕ) (w : Wake) (now : ℕ) → is_memory n (Server s) ≡ true → is_memory n (server_step s next w now).state ≡ true
steps s n next (wakes.Event slot) now h =
    let e : (s.common.object == n) ≡ true = numbered _ _ h in
    let r : is_ram s.device ≡ true = kept _ _ h in
    chosen n (slot.0 == serve_slot) (slot.0 == own_slot)
    (server_serves s next now s.flow.items s.flow.out) (server_event s next s.device) (stays (Server s) next)
    (serves s n next now s.flow.items s.flow.out e r) (after_event s n next s.device e r) h
steps s n next (wakes.Offer port p) now h = h
steps s n next (wakes.Taken port) now h = h
steps s n next (wakes.Refused port) now h = h
steps s n next (wakes.Retry port) now h = h
steps s n next (wakes.Line bit level) now h = h
steps s n next (wakes.AtomicDone p latency) now h = h

-- it stays memory at each wake
pub memory_stays : (n : ℕ) (o : ObjState) (next : ℕ) (w : Wake) (now : ℕ) → IsTrue (is_memory n o) → IsTrue (is_memory n (object_step o next w now).state)
unfolding object_step
memory_stays n (Blank k) next w now h = absurd (cc)
memory_stays n (AtomicCpu s) next w now h = absurd (cc)
memory_stays n (TimingCpu s) next w now h = absurd (cc)
memory_stays n (Xbar s) next w now h = absurd (cc)
memory_stays n (Server s) next w now h = steps s n next w now h

-- and where a packet is passed to it
pub memory_stays_passed : (n : ℕ) (o : ObjState) (p : Packet) (now : ℕ) → IsTrue (is_memory n o) → IsTrue (is_memory n (atomic_step o p now).state)
unfolding atomic_step
memory_stays_passed n (Blank k) p now h = absurd (cc)
memory_stays_passed n (AtomicCpu s) p now h = absurd (cc)
memory_stays_passed n (TimingCpu s) p now h = absurd (cc)
memory_stays_passed n (Xbar s) p now h = absurd (cc)
memory_stays_passed n (Server s) p now h = both _ _ (numbered _ _ h) (device_served s.device p now (kept _ _ h))
