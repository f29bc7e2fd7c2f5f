-- What is so of runs: they stay sound, what they note is the instruction set's over flat memory, and no packet is lost or doubled.
-- Nothing here looks at the order of events. This project's own laws.
use Rattle.std.specs.Prelude.{◌≡◌, ℕ, ◌+◌, ◌≤◌, ◌==◌, if◌then◌else◌, List, [], Some}
use Rattle.cfg_tree.specs.declared.config.Config.{Config}
use Rattle.ev_queue.specs.declared.slot.Slot.{Slot}
use Rattle.gm_words.specs.Moves.{AreDrawn}
use Rattle.gm_words.specs.Replay.{replay}
use Rattle.gm_words.specs.declared.entry.Entry.{Entry}
use Rattle.pkt_pool.specs.declared.packet.Packet.{Packet}
use Rattle.gm_model.specs.Fire.{Ran, timed_run}
use Rattle.gm_model.specs.Picks.{Pick, Picked, any_run}
use Rattle.gm_model.specs.Start.{start_state}
use Rattle.gm_model.specs.Sys.{Sys}
use Rattle.gm_model.specs.View.{program_state, all_packets}
use Rattle.gm_laws.specs.Words.{weigh}
use Rattle.gm_system.specs.Machine.{IsSteady, IsMachineSound}
use Rattle.gm_system.specs.System.{IsById, IsWiredAlike}

-- what was noted on the way from one machine to another is right over the program's state, and leads from the one's to the other's
abbrev pub Replays : Sys → List Entry → Sys → Type 0
Replays s noted t = replay s.routes (program_state s []) noted ≡ Some (program_state t [])

-- what a run from s noted is right, and it is still the same machine
pub record IsRunReplayed (s : Sys) (r : Ran) : Type 0 where
  pub wiring : IsWiredAlike s r.sys
  pub replays : Replays s r.entries r.sys

-- and with the packets that came to be and to an end on its way: by each count of packet numbers, those that are under way and
-- those that came to an end are those that were under way and those that were made; and new numbers are drawn in order
pub record IsRunOf (s : Sys) (r : Picked) (table : List Slot) : Type 0 where
  pub sound : IsMachineSound r.sys table
  pub wiring : IsWiredAlike s r.sys
  pub replays : Replays s r.entries r.sys
  pub conserved : (h : Packet → ℕ) → IsById h
      → weigh h (all_packets r.sys []) + (weigh h r.moves.answered + weigh h r.moves.absorbed) ≡ weigh h (all_packets s []) + weigh h r.moves.made
  pub drawn : AreDrawn s.next r.moves.made r.sys.next

-- a packet counts where it has this number
abbrev pub has_number : ℕ → Packet → ℕ
has_number n x = if x.id.0 == n then 1 else 0

-- between two events no two packets that are under way have one number, and none has a number that is still to be drawn
pub record AreNumbered (s : Sys) : Type 0 where
  pub apart : (n : ℕ) → weigh (has_number n) (all_packets s []) ≤ 1
  pub below : (n : ℕ) → s.next ≤ n → weigh (has_number n) (all_packets s []) ≡ 0

-- runs over any picks, and runs in service order; and numbers of packets differ at a machine's start, and after any picks
pub record RunsHold : Type 0 where
  pub picks : (s : Sys) (table : List Slot) (ps : List Pick) → IsMachineSound s table → IsRunOf s (any_run s ps) table
  pub numbered : (c : Config) (entry : ℕ) (ram : List ℕ) → AreNumbered (start_state c entry ram)
  pub differ : (s : Sys) (table : List Slot) (ps : List Pick) → IsMachineSound s table → AreNumbered s → AreNumbered (any_run s ps).sys
  pub timed : (s : Sys) (table : List Slot) (n : ℕ) → IsSteady s table → IsSteady (timed_run s n).sys table × IsRunReplayed s (timed_run s n)
