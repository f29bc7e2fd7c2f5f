-- Any list of picks: the machine stays sound, what is noted is right, and no packet is lost.
use Rattle.std.proofs.Common.{◌≡◌, ℕ, ◌≤◌, ◌&&◌, nat_le, if◌then◌else◌, Bool, true, false, List, [], ◌∷◌, refl, sym, arith, map}
use Rattle.std.proofs.lemmas.Grind.{common_steps}
use Rattle.std.proofs.lemmas.Bool.Decides.{nat_tests}
use Rattle.ev_queue.specs.declared.slot.Slot.{Slot}
use Rattle.pkt_pool.specs.declared.packet.Packet.{Packet}
use Rattle.gm_model.specs.Command.{with_input}
use Rattle.gm_model.specs.Drained.{is_settled}
use Rattle.gm_model.specs.EventMoves.{fire_moves}
use Rattle.gm_model.specs.Fire.{fire}
use Rattle.gm_model.specs.Picks.{Pick, Fire, Drain, Resume, Input, Picked, unpicked, commanded_to, picked, then_picked, any_run}
use Rattle.gm_model.specs.Start.{drain_begun, resumed_state}
use Rattle.gm_model.specs.Sys.{Sys}
use Rattle.gm_model.specs.View.{program_state, all_packets}
use Rattle.gm_laws.specs.Words.{weigh}
use Rattle.gm_laws.proofs.Bytes.{no_entry}
use Rattle.gm_laws.proofs.Weights.{weigh-append}
use Rattle.gm_system.specs.Machine.{IsMachineSound}
use Rattle.gm_system.specs.Runs.{IsRunOf, RunsHold}
use Rattle.gm_system.specs.System.{IsWiredAlike}
use Rattle.gm_system.proofs.Commands.{drained_steady, resumed_steady, drained_state, resumed_program, input_steady, input_state, drained_packets, resumed_packets, input_packets}
use Rattle.gm_system.proofs.Deliveries.{alike}
use Rattle.gm_system.proofs.Numbers.{numbers_differ, start_numbered}
use Rattle.gm_system.proofs.Runs.{fire_of, replays_then, drawn-append, fire_tick, timed_of}

-- a command notes nothing, and moves no packet
command_run : (s t : Sys) (table : List Slot) → IsMachineSound t table → IsWiredAlike s t → program_state t [] ≡ program_state s [] → ((f : Packet → ℕ) → weigh f (all_packets t []) ≡ weigh f (all_packets s [])) → t.next ≡ s.next
    → IsRunOf s (commanded_to t) table
command_run s t table h w same packets next = record {
  sound = h;
  wiring = w;
  replays = no_entry s.routes (program_state s []) (program_state t []) (sym same);
  conserved = λ f e. omega (arith, packets f);
  drawn = next;
}

within : (a t : ℕ) → (nat_le a t && nat_le t 4611703610613432320) ≡ true → t ≤ 4611703610613432320
within a t e = grind (arith, common_steps, nat_tests, e)

pick_run : (s : Sys) (table : List Slot) (p : Pick) → IsMachineSound s table → IsRunOf s (picked s p) table
pick_run s table (Fire n t) h = by (nat_le s.tick t && nat_le t 4611703610613432320) refl where
  by : (b : Bool) → (nat_le s.tick t && nat_le t 4611703610613432320) ≡ b
      → IsRunOf s (if b then (record { sys = (fire s n t).sys; entries = (fire s n t).entries; moves = fire_moves s n t }) else unpicked s) table
  by true e =
      let f = fire_of s table n t h.steady in
      record {
        sound = record { steady = f.steady; tick = fire_tick s table n t 4611703610613432320 h.steady h.tick (within s.tick t e) };
        wiring = f.wiring;
        replays = f.replays;
        conserved = f.conserved;
        drawn = f.drawn;
      }
  by false e = command_run s s table h (record { wires = refl; ways = refl; routes = refl }) refl (λ f. refl) refl
pick_run s table Drain h =
    command_run s (drain_begun s) table (record { steady = drained_steady s table h.steady; tick = h.tick }) (record { wires = refl; ways = refl; routes = refl }) (drained_state s table h.steady) (drained_packets s table h.steady) refl
pick_run s table Resume h = by (s.draining && is_settled s) where
  by : (b : Bool) → IsRunOf s (if b then commanded_to (resumed_state s) else unpicked s) table
  by true = command_run s (resumed_state s) table (record { steady = resumed_steady s table h.steady; tick = h.tick }) (record { wires = refl; ways = refl; routes = refl }) (resumed_program s table h.steady) (resumed_packets s table h.steady) refl
  by false = command_run s s table h (record { wires = refl; ways = refl; routes = refl }) refl (λ f. refl) refl
pick_run s table (Input b) h =
    command_run s (record s { objects = map (with_input b) s.objects }) table (record { steady = input_steady s table b h.steady; tick = h.tick }) (record { wires = refl; ways = refl; routes = refl }) (input_state s table b h.steady) (input_packets s table b h.steady) refl

run_then : (s : Sys) (a b : Picked) (table : List Slot) → IsRunOf s a table → IsRunOf a.sys b table → IsRunOf s (then_picked a b) table
run_then s a b table h k = record {
  sound = k.sound;
  wiring = alike s a.sys b.sys h.wiring k.wiring;
  replays = replays_then s a.sys b.sys a.entries b.entries h.wiring h.replays k.replays;
  conserved = λ f e. omega (arith, h.conserved f e, k.conserved f e, weigh-append f a.moves.made b.moves.made, weigh-append f a.moves.answered b.moves.answered, weigh-append f a.moves.absorbed b.moves.absorbed);
  drawn = drawn-append s.next a.sys.next b.sys.next a.moves.made b.moves.made h.drawn k.drawn;
}

pub any_run_holds : (s : Sys) (table : List Slot) (ps : List Pick) → IsMachineSound s table → IsRunOf s (any_run s ps) table
unfolding any_run
any_run_holds s table [] h = command_run s s table h (record { wires = refl; ways = refl; routes = refl }) refl (λ f. refl) refl
any_run_holds s table (p ∷ ps) h =
    let one = pick_run s table p h in
    run_then s (picked s p) (any_run (picked s p).sys ps) table one (any_run_holds (picked s p).sys table ps one.sound)

pub runs_hold : RunsHold
runs_hold = record {
  picks = any_run_holds;
  numbered = start_numbered;
  differ = λ s table ps h before. numbers_differ s (any_run s ps) table (any_run_holds s table ps h) before;
  timed = timed_of;
}
