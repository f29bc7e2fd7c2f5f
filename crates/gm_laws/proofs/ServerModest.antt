-- A server's rule is modest, by its cases.
use Rattle.std.proofs.Common.{◌≡◌, ℕ, ◌+◌, ◌-◌, ◌≤◌, ◌==◌, cond, Bool, true, false, List, [], ◌∷◌, ◌++◌, drop, length, All, Option, Some, slice_get, refl, sym, ap, subst, arith, ◌∙◌}
use Rattle.std.proofs.lemmas.List.Elements.{All-cons, All-head, All-tail}
use Rattle.rv_step.specs.FlatMem.{in_ram}
use Rattle.rv_step.specs.Flat.{uart_base, in_uart, in_exit}
use Rattle.gc_base.specs.declared.limits.TheConstants.{LATENCY_MAX}
use Rattle.gm_words.specs.Allowed.{MayPass, MayCome}
use Rattle.gm_words.specs.Changes.{Change, Schedule}
use Rattle.gm_words.specs.Entries.{console_of}
use Rattle.gm_words.specs.Flow.{Queued}
use Rattle.gm_words.specs.Moves.{Moves, AreDrawn, no_moves}
use Rattle.pkt_pool.specs.Packet.{read_response, write_response, is_write_back}
use Rattle.gm_words.specs.Platform.{slot_classes, serve_slot, own_slot, device_class}
use Rattle.gm_words.specs.declared.act.Act.{Act}
use Rattle.gm_words.specs.declared.answer.Answer.{Answer}
use Rattle.gm_words.specs.declared.answer.Answer.TheVariants as answers
use Rattle.pkt_pool.specs.declared.cmd.Cmd.{Cmd}
use Rattle.pkt_pool.specs.declared.cmd.Cmd.TheVariants as cmds
use Rattle.gm_words.specs.declared.entry.Entry.{Entry}
use Rattle.pkt_pool.specs.declared.packet.Packet.{Packet}
use Rattle.gm_words.specs.declared.wake.Wake.{Wake}
use Rattle.gm_words.specs.declared.wake.Wake.TheVariants as wakes
use Rattle.gm_model.specs.ExitDevice.{serve_exit}
use Rattle.gm_model.specs.Flows.{LaneMoved, ask_in, hold_in, again_in, gone_in, moved, opened, has_room, taken_in, answer_of, refusal_of}
use Rattle.gm_model.specs.Memory.{serve_memory}
use Rattle.gm_model.specs.ObjState.{Server, ServerState, Device, Memory, Uart, Exit, Timer, UartState, device_kind, slots_of}
use Rattle.gm_model.specs.ObjectStep.{object_step, atomic_step}
use Rattle.gm_model.specs.Serve.{Served, served}
use Rattle.gm_model.specs.Server.{serve, device_after_event, event_acts, server_event, server_outlet, server_lane, server_with, server_serves, server_served, waiting_of}
use Rattle.gm_model.specs.Stepped.{stays}
use Rattle.gm_model.specs.Timer.{timer_register}
use Rattle.gm_model.specs.Uart.{serve_uart, uart_read, uart_write, first_byte, line_status}
use Rattle.gm_model.specs.View.{queued_packets}
use Rattle.gm_laws.specs.Bounds.{IsWithin, IsDeviceWithin, IsModest, IsModestPass, AreOwnChanges, AreTimely, packet_speech, part_speech, wake_speech}
use Rattle.gm_laws.specs.Faces.{face_of}
use Rattle.gm_laws.proofs.Answering.{ServesModestly, few_served, spoken_served, quiet_modest, served_modest, fault_size}
use Rattle.gm_laws.proofs.FlowModest.{IsLaneModest, own-append, timely-append, fit-append, speech-append, ask_modest, hold_modest, again_modest, gone_modest, moved_modest, open_modest, taken_modest}
use Rattle.gm_laws.proofs.Lines.{AllLevels, levels_fit, no_speech}
use Rattle.gm_laws.proofs.Serving.{event_levels}
use Rattle.gm_laws.proofs.StillModest.{stays_modest, drops_modest}
use Rattle.gm_laws.proofs.Ticks.{soon}
use Rattle.gm_laws.proofs.Timers.{timer_modest}

-- Devices.

memory_modest : (m : List ℕ) (p : Packet) (now : ℕ) (c : Cmd) (b : Bool) → ServesModestly (Memory m) p now (serve_memory m p c b)
memory_modest m p now cmds.Read true = served_modest (Memory m) _ p _ false now refl (λ h. h) refl
memory_modest m p now cmds.Read false = served_modest (Memory m) _ p _ true now refl (λ h. h) (fault_size p p.cmd)
memory_modest m p now cmds.Write true = served_modest (Memory m) (Memory _) p _ false now refl (λ h. tt) refl
memory_modest m p now cmds.Write false = served_modest (Memory m) _ p _ true now refl (λ h. h) (fault_size p p.cmd)
memory_modest m p now cmds.WriteBack true = quiet_modest (Memory m) (Memory _) p p now refl (λ h. tt) refl
memory_modest m p now cmds.WriteBack false = quiet_modest (Memory m) _ p p now refl (λ h. h) refl
memory_modest m p now cmds.ReadResp b = quiet_modest (Memory m) _ p p now refl (λ h. h) refl
memory_modest m p now cmds.WriteResp b = quiet_modest (Memory m) _ p p now refl (λ h. h) refl

exit_modest : (code : Option ℕ) (p : Packet) (now : ℕ) (c : Cmd) (b : Bool) → ServesModestly (Exit code) p now (serve_exit code p c b)
exit_modest code p now cmds.Write true = served_modest (Exit code) (Exit _) p _ true now refl (λ h. tt) refl
exit_modest code p now cmds.Write false = served_modest (Exit code) _ p _ true now refl (λ h. h) (fault_size p p.cmd)
exit_modest code p now cmds.Read b = served_modest (Exit code) _ p _ true now refl (λ h. h) (fault_size p p.cmd)
exit_modest code p now cmds.WriteBack b = quiet_modest (Exit code) _ p p now refl (λ h. h) refl
exit_modest code p now cmds.ReadResp b = quiet_modest (Exit code) _ p p now refl (λ h. h) refl
exit_modest code p now cmds.WriteResp b = quiet_modest (Exit code) _ p p now refl (λ h. h) refl

uart_read_modest : (u : UartState) (p : Packet) (now offset : ℕ) → ServesModestly (Uart u) p now (uart_read u p offset)
uart_read_modest u p now offset = by_offset (offset == 0) (offset == 5) where
  by_offset : (b c : Bool) → ServesModestly (Uart u) p now
      (cond b (served (Uart (record u { input = drop 1 u.input })) p (read_response p (first_byte u.input ∷ [])) true)
      (cond c (served (Uart u) p (read_response p (line_status u ∷ [])) true) (served (Uart u) p (read_response p (0 ∷ [])) true)))
  by_offset true c =
      served_modest (Uart u) (Uart (record u { input = drop 1 u.input })) p (read_response p (first_byte u.input ∷ [])) true now refl (λ h. h) refl
  by_offset false true = served_modest (Uart u) (Uart u) p (read_response p (line_status u ∷ [])) true now refl (λ h. h) refl
  by_offset false false = served_modest (Uart u) (Uart u) p (read_response p (0 ∷ [])) true now refl (λ h. h) refl

uart_write_modest : (u : UartState) (p : Packet) (now offset : ℕ) → ServesModestly (Uart u) p now (uart_write u p now offset)
uart_write_modest u p now offset = by_offset (offset == 0) where
  by_offset : (b : Bool) → ServesModestly (Uart u) p now
      (cond b (record (served (Uart (record u { busy = true })) p (write_response p) true) { changes = Schedule 1 30 (now + u.chartime) ∷ [] })
      (served (Uart u) p (write_response p) true))
  by_offset true = record {
    kind = refl;
    within = λ h. h;
    own = (refl, tt);
    timely = λ h. (omega arith, soon now (now + u.chartime) (omega (arith, h)), tt);
    size = refl;
    few = few_served p (write_response p) true;
    spoken = spoken_served p (write_response p) true;
    levels = tt;
  }
  by_offset false = served_modest (Uart u) (Uart u) p (write_response p) true now refl (λ h. h) refl

uart_modest : (u : UartState) (p : Packet) (now : ℕ) (c : Cmd) (b : Bool) → ServesModestly (Uart u) p now (serve_uart u p now c b)
uart_modest u p now cmds.Read true = uart_read_modest u p now (p.addr - uart_base)
uart_modest u p now cmds.Read false = served_modest (Uart u) _ p _ true now refl (λ h. h) (fault_size p p.cmd)
uart_modest u p now cmds.Write true = uart_write_modest u p now (p.addr - uart_base)
uart_modest u p now cmds.Write false = served_modest (Uart u) _ p _ true now refl (λ h. h) (fault_size p p.cmd)
uart_modest u p now cmds.WriteBack b = quiet_modest (Uart u) _ p p now refl (λ h. h) refl
uart_modest u p now cmds.ReadResp b = quiet_modest (Uart u) _ p p now refl (λ h. h) refl
uart_modest u p now cmds.WriteResp b = quiet_modest (Uart u) _ p p now refl (λ h. h) refl

serve_modest : (d : Device) (p : Packet) (now : ℕ) → ServesModestly d p now (serve d p now)
serve_modest (Memory m) p now = memory_modest m p now p.cmd (in_ram m p.addr p.size)
serve_modest (Uart u) p now = uart_modest u p now p.cmd (in_uart p.addr p.size)
serve_modest (Exit code) p now = exit_modest code p now p.cmd (in_exit p.addr p.size)
serve_modest (Timer t) p now = timer_modest t p now p.cmd (timer_register p.addr p.size)

same_kind : (d : Device) → device_kind (device_after_event d) ≡ device_kind d
same_kind (Memory m) = refl
same_kind (Uart u) = refl
same_kind (Exit code) = refl
same_kind (Timer t) = refl

still_within : (d : Device) → IsDeviceWithin d → IsDeviceWithin (device_after_event d)
still_within (Memory m) k = k
still_within (Uart u) k = k
still_within (Exit code) k = k
still_within (Timer t) k = k

-- a server's first slot is the one of its queue
serve_class : (d : Device) → slice_get (slot_classes (device_kind d)) serve_slot ≡ Some device_class
serve_class (Memory m) = refl
serve_class (Uart u) = refl
serve_class (Exit code) = refl
serve_class (Timer t) = refl

-- a packet brings a byte to the console at most
speech_one : (p : Packet) → packet_speech p ≤ 1
speech_one p = by (p.src == 1) where
  by : (b : Bool) → cond b 1 0 ≤ 1
  by true = omega arith
  by false = omega arith

-- Wakes.

module _ (s : ServerState) (next : ℕ) (w : Wake) (now : ℕ) (soon_served : s.latency ≤ LATENCY_MAX) (small : IsDeviceWithin s.device)
    (fit : All MayPass (queued_packets s.flow.items)) where
  -- a step of the queue, beside what the device does
  with_modest : (dev : Device) (answer : Answer) (es : List Entry) (v : Moves) (dcs : List Change) (ls : List Act) (m : LaneMoved)
      → IsLaneModest (slots_of (Server s)) now m → device_kind dev ≡ device_kind s.device → IsDeviceWithin dev
      → AreOwnChanges (slots_of (Server s)) dcs → AreTimely now dcs → AllLevels ls → length es ≤ 1 → length (console_of es) ≤ wake_speech w → v.made ≡ []
      → IsModest (Server s) next w now (server_with (record s { device = dev }) next answer es v (record m { changes = dcs ++ m.changes; acts = ls ++ m.acts }))
  unfolding IsWithin part_speech face_of
  with_modest dev answer es v dcs ls m lane kind limits own timely levels few spoken none = record {
    object = refl;
    slots = ap slot_classes kind;
    ports = refl;
    within = (soon_served, limits, lane.held);
    own = own-append (slots_of (Server s)) dcs m.changes own lane.own;
    timely = timely-append now dcs m.changes timely lane.timely;
    fit = fit-append ls m.acts (levels_fit ls levels) lane.fit;
    entries = omega (arith, few);
    drawn = subst (λ xs. AreDrawn next xs next) (sym none) refl;
    few = omega arith;
    spoken = omega (arith, spoken, speech-append ls m.acts, no_speech ls levels, lane.silent);
  }

  -- a step of the queue alone, with at most a refusal
  alone : (answer : Answer) (es : List Entry) (m : LaneMoved) → IsLaneModest (slots_of (Server s)) now m → length es ≤ 1 → console_of es ≡ []
      → IsModest (Server s) next w now (server_with s next answer es no_moves m)
  alone answer es m lane few quiet = with_modest s.device answer es no_moves [] [] m lane refl small tt tt tt few (omega (arith, ap length quiet)) refl

  offered : (x : Packet) (room : Bool) → MayPass x
      → IsModest (Server s) next w now (server_with s next (answer_of room) (refusal_of s.common.object room) no_moves (taken_in server_outlet (server_lane s) 0 x (now + s.latency) room))
  offered x room p = alone (answer_of room) (refusal_of s.common.object room) (taken_in server_outlet (server_lane s) 0 x (now + s.latency) room)
      (taken_modest (slots_of (Server s)) now server_outlet (server_lane s) 0 x (now + s.latency) room (serve_class s.device) (omega arith) (soon now (now + s.latency) (omega (arith, soon_served))) p fit) (few room) (quiet room) where
        few : (b : Bool) → length (refusal_of s.common.object b) ≤ 1
        few true = omega arith
        few false = omega arith

        quiet : (b : Bool) → console_of (refusal_of s.common.object b) ≡ []
        quiet true = refl
        quiet false = refl

  gone : (items : List Queued) → All MayPass (queued_packets items)
      → IsLaneModest (slots_of (Server s)) now (opened s.places (gone_in server_outlet (now + s.latency) items) (waiting_of s.waiter))
  gone items h = open_modest (slots_of (Server s)) now _ (gone_in server_outlet (now + s.latency) items) (waiting_of s.waiter)
      (gone_modest (slots_of (Server s)) now server_outlet (now + s.latency) items (serve_class s.device) (omega arith) (soon now (now + s.latency) (omega (arith, soon_served))) h)

  -- the first request is served
  serving : (x : Queued) (xs : List Queued) → All MayPass (queued_packets (x ∷ xs)) → (b : Bool) → 1 ≤ wake_speech w
      → IsModest (Server s) next w now (server_served s next now x xs s.flow.out (serve s.device x.packet now) b)
  serving x xs h true one =
      let r : Served = serve s.device x.packet now in
      let m = serve_modest s.device x.packet now in
      with_modest r.device answers.Nothing r.entries (record no_moves { absorbed = x.packet ∷ [] }) r.changes r.acts _ (gone (x ∷ xs) h) m.kind
      (m.within small) m.own (m.timely small) m.levels m.few
      (omega (arith, m.spoken, speech_one x.packet, one)) refl
  serving x xs h false one =
      let r : Served = serve s.device x.packet now in
      let m = serve_modest s.device x.packet now in
      let y : Queued = record { packet = r.response; ready = x.ready } in
      let held : All MayPass (queued_packets (y ∷ xs)) = All-cons MayPass r.response (queued_packets xs) (omega (arith, m.size, All-head MayPass x.packet (queued_packets xs) h)) (All-tail MayPass x.packet (queued_packets xs) h) in
      with_modest r.device answers.Nothing r.entries (record no_moves { served = record { request = x.packet; response = r.response } ∷ [] }) r.changes r.acts
      (moved (server_lane s) (ask_in 0 (y ∷ xs) s.flow.out))
      (moved_modest (slots_of (Server s)) now (server_lane s) (ask_in 0 (y ∷ xs) s.flow.out) (ask_modest (slots_of (Server s)) now 0 (y ∷ xs) s.flow.out held)) m.kind (m.within small) m.own (m.timely small) m.levels m.few
      (omega (arith, m.spoken, speech_one x.packet, one)) refl

  serves : (items : List Queued) → All MayPass (queued_packets items) → 1 ≤ wake_speech w
      → IsModest (Server s) next w now (server_serves s next now items s.flow.out)
  unfolding IsWithin
  serves [] h one = stays_modest (Server s) next w now (soon_served, small, fit)
  serves (x ∷ xs) h one = serving x xs h (is_write_back x.packet.cmd) one

  -- the event of the device's own slot
  own_event : (d : Device) → s.device ≡ d → IsModest (Server s) next w now (server_event s next d)
  unfolding IsWithin part_speech face_of
  own_event d e = record {
    object = refl;
    slots = ap slot_classes (same_kind d ∙ sym (ap device_kind e));
    ports = refl;
    within = (soon_served, still_within d (subst IsDeviceWithin e small), fit);
    own = tt;
    timely = tt;
    fit = levels_fit (event_acts d) (event_levels d);
    entries = omega arith;
    drawn = refl;
    few = omega arith;
    spoken = omega (arith, no_speech (event_acts d) (event_levels d));
  }

pub server_modest : (s : ServerState) (next : ℕ) (w : Wake) (now : ℕ) → IsWithin (Server s) → MayCome w
    → IsModest (Server s) next w now (object_step (Server s) next w now)
unfolding object_step IsWithin
server_modest s next (wakes.Event slot) now h m = by (slot.0 == serve_slot) (slot.0 == own_slot) where
  by : (b c : Bool) → IsModest (Server s) next (wakes.Event slot) now (cond b (server_serves s next now s.flow.items s.flow.out) (cond c (server_event s next s.device) (stays (Server s) next)))
  by true c = serves s next (wakes.Event slot) now h.0 h.1 h.2 s.flow.items h.2 (omega arith)
  by false true = own_event s next (wakes.Event slot) now h.0 h.1 h.2 s.device refl
  by false false = stays_modest (Server s) next (wakes.Event slot) now h
server_modest s next (wakes.Offer port p) now h m = offered s next (wakes.Offer port p) now h.0 h.1 h.2 p (has_room s.places (server_lane s)) m
server_modest s next (wakes.Taken port) now h m =
    alone s next (wakes.Taken port) now h.0 h.1 h.2 answers.Nothing [] _ (gone s next (wakes.Taken port) now h.0 h.1 h.2 s.flow.items h.2) (omega arith) refl
server_modest s next (wakes.Refused port) now h m =
    alone s next (wakes.Refused port) now h.0 h.1 h.2 answers.Nothing [] (moved (server_lane s) (hold_in s.flow.items s.flow.out))
    (moved_modest (slots_of (Server s)) now (server_lane s) (hold_in s.flow.items s.flow.out) (hold_modest (slots_of (Server s)) now s.flow.items s.flow.out h.2)) (omega arith) refl
server_modest s next (wakes.Retry port) now h m =
    alone s next (wakes.Retry port) now h.0 h.1 h.2 answers.Nothing [] (moved (server_lane s) (again_in 0 s.flow.items s.flow.out))
    (moved_modest (slots_of (Server s)) now (server_lane s) (again_in 0 s.flow.items s.flow.out) (again_modest (slots_of (Server s)) now 0 s.flow.items s.flow.out h.2)) (omega arith) refl
server_modest s next (wakes.Line bit level) now h m = stays_modest (Server s) next (wakes.Line bit level) now h
server_modest s next (wakes.AtomicDone p latency) now h m = drops_modest (Server s) next (wakes.AtomicDone p latency) now p h

-- Packets at once.

pub server_modest_pass : (s : ServerState) (x : Packet) (now : ℕ) → IsWithin (Server s) → IsModestPass (Server s) x now (atomic_step (Server s) x now)
unfolding atomic_step IsWithin part_speech face_of
server_modest_pass s x now h =
    let m = serve_modest s.device x now in
    record {
      object = refl;
      slots = ap slot_classes m.kind;
      ports = refl;
      within = (h.0, m.within h.1, h.2);
      own = m.own;
      timely = m.timely h.1;
      fit = levels_fit (serve s.device x now).acts m.levels;
      size = m.size;
      soon = h.0;
      entries = m.few;
      spoken = omega (arith, m.spoken, no_speech (serve s.device x now).acts m.levels);
    }
