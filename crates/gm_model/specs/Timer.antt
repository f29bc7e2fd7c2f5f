-- The timer: a line that software sets, and a clock with a line that rises as the clock comes to a number.
-- This project's own rules; its registers are those of the RISC-V privileged manual, "Machine Timer Registers", at SiFive's offsets.
use Rattle.std.specs.Prelude.{ℕ, ◌+◌, ◌*◌, ◌/◌, ◌%◌, ◌^◌, ◌-◌, ◌==◌, nat_le, ◌&&◌, Bool, true, false, not, if◌then◌else◌, List, [], ◌∷◌}
use Rattle.gc_base.specs.declared.limits.TheConstants.{LAST}
use Rattle.rv_step.specs.Bytes.{bytes_of}
use Rattle.gm_words.specs.Changes.{Change, Schedule, Remove}
use Rattle.pkt_pool.specs.Packet.{read_response, write_response}
use Rattle.gm_words.specs.Numbers.{carried_number}
use Rattle.gm_words.specs.Platform.{device_class, own_slot, timer_base, software_line, clock_line}
use Rattle.gm_words.specs.declared.act.Act.{Act}
use Rattle.gm_words.specs.declared.act.Act.TheVariants as acts
use Rattle.pkt_pool.specs.declared.cmd.Cmd.{Cmd}
use Rattle.pkt_pool.specs.declared.cmd.Cmd.TheVariants as cmds
use Rattle.pkt_pool.specs.declared.packet.Packet.{Packet}
use Rattle.gm_model.specs.ObjState.{Timer, TimerState}
use Rattle.gm_model.specs.Serve.{Served, served, ignored, refused}
use Rattle.gm_model.specs.Stepped.{line_change}

-- Start.

-- both lines are low, and the number is the greatest of 64 bits, to which no clock comes
abbrev pub timer_start : ℕ → TimerState
timer_start period = record { period = period; msip = false; compare = 2 ^ 64 - 1; level = false }

-- Registers.

-- the software line, msip; the number that is compared, mtimecmp; the clock, mtime; or none
pub data TimerRegister : Type 0 where
  Msip : TimerRegister
  Compare : TimerRegister
  Clock : TimerRegister
  Nowhere : TimerRegister

-- the register that so many bytes at an address are: four of msip, eight of the others
abbrev pub timer_register : ℕ → ℕ → TimerRegister
timer_register address size =
    if (address == timer_base) && (size == 4) then Msip
    else if (address == timer_base + 0x4000) && (size == 8) then Compare
    else if (address == timer_base + 0xbff8) && (size == 8) then Clock
    else Nowhere

-- The clock.

-- how many periods have passed at a tick
abbrev pub clock_at : TimerState → ℕ → ℕ
clock_at t now = now / t.period

-- the clock is compared with a number: its line is high where the clock is there or past it
abbrev pub compared : TimerState → ℕ → ℕ → TimerState
compared t n now = record t { compare = n; level = nat_le n (clock_at t now) }

-- the clock isn't at the number, and comes to it by the last tick: at that tick the timer's own event is pending
abbrev pub is_awaited : TimerState → Bool
is_awaited t = not t.level && nat_le (t.compare * t.period) LAST

-- the own event comes as the clock comes to the number, in place of one that was pending before
abbrev pub compare_changes : TimerState → Bool → List Change
compare_changes t true = Schedule own_slot device_class (t.compare * t.period) ∷ []
compare_changes t false = Remove own_slot ∷ []

-- Requests.

-- a read gives the register
abbrev pub timer_read : TimerState → Packet → ℕ → TimerRegister → Served
timer_read t p now Msip = served (Timer t) p (read_response p (bytes_of p.size (if t.msip then 1 else 0))) true
timer_read t p now Compare = served (Timer t) p (read_response p (bytes_of p.size t.compare)) true
timer_read t p now Clock = served (Timer t) p (read_response p (bytes_of p.size (clock_at t now))) true
timer_read t p now Nowhere = refused (Timer t) p true

-- a write to msip sets the software line to the lowest bit, and always tells its level
abbrev pub timer_signal : TimerState → Packet → Bool → Served
timer_signal t p level =
    record (served (Timer (record t { msip = level })) p (write_response p) true) {
      acts = acts.SetLine software_line level ∷ [];
    }

-- a write to mtimecmp compares the clock with another number, and tells the level of the clock's line where it changes
abbrev pub timer_compare : TimerState → Packet → TimerState → Served
timer_compare t p u =
    record (served (Timer u) p (write_response p) true) {
      changes = compare_changes u (is_awaited u);
      acts = line_change clock_line t.level u.level;
    }

-- the clock isn't written
abbrev pub timer_write : TimerState → Packet → ℕ → TimerRegister → Served
timer_write t p now Msip = timer_signal t p (carried_number p % 2 == 1)
timer_write t p now Compare = timer_compare t p (compared t (carried_number p) now)
timer_write t p now Clock = refused (Timer t) p true
timer_write t p now Nowhere = refused (Timer t) p true

-- a timer serves whole registers
abbrev pub serve_timer : TimerState → Packet → ℕ → Cmd → TimerRegister → Served
serve_timer t p now cmds.Read register = timer_read t p now register
serve_timer t p now cmds.Write register = timer_write t p now register
serve_timer t p now cmds.WriteBack register = ignored (Timer t) p
serve_timer t p now cmds.ReadResp register = ignored (Timer t) p
serve_timer t p now cmds.WriteResp register = ignored (Timer t) p

-- Own event.

-- the clock has come to the number, so its line is high
abbrev pub timer_come : TimerState → TimerState
timer_come t = record t { level = true }

-- and that is told where the line was low
abbrev pub come_acts : TimerState → List Act
come_acts t = line_change clock_line t.level true
