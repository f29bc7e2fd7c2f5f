-- Small runs, computed: a program of five words stores a byte to the UART and exits, in both modes; one of eleven words sleeps until the
-- timer wakes it; and, in the timing mode, one of one word loads from an address of no range, and one of fifteen words is interrupted while
-- a load is on its way. This project's own examples.
use Rattle.std.specs.Prelude.{◌≡◌, ℕ, zero, suc, true, false, List, [], ◌∷◌, ◌++◌, Option, Some, None}
use Rattle.ev_queue.specs.declared.due.Due.{Due}
use Rattle.ev_queue.specs.PendingList.{first}
use Rattle.rv_step.specs.Bytes.{bytes_of}
use Rattle.rv_step.specs.FlatMem.{ram_base}
use Rattle.gm_model.specs.Sys.{Sys}
use Rattle.gm_model.specs.Fire.{fire_first}
use Rattle.gm_model.specs.Run.{RunEnd, run_to, retired_in}
use Rattle.gm_words.specs.Entries.{console_of}
use Rattle.gm_model.specs.Start.{start_state, resumed_state, ram_with_front}
use Rattle.cfg_tree.specs.declared.config.Config.{Config}
use Rattle.gm_words.specs.declared.goal.Reason.{Reason}
use Rattle.gm_words.specs.declared.goal.Reason.TheVariants as reasons
use Rattle.gm_words.specs.declared.goal.Until.TheVariants as untils

-- a machine in atomic mode, with RAM of 64 bytes
abbrev pub small_config : Config
small_config = record {
  system_model = false;
  system_line = 16;
  system_ram = 64;
  system_budget = 1000000;
  cpu_period = 1000;
  corebus_latency = 100;
  caches = [];
  membus_latency = 100;
  mem_latency = 500;
  mem_queue = 1;
  uart_latency = 200;
  uart_chartime = 1000;
  timer_latency = 200;
  timer_period = 100;
  exit_latency = 50;
  dma = None;
}

-- lui x10, 0x10000; addi x5, x0, 1; sb x5, 0(x10); lui x11, 0x100; sw x0, 0(x11)
abbrev pub store_and_exit : List ℕ
store_and_exit =
    bytes_of 4 0x10000537 ++ bytes_of 4 0x00100293 ++ bytes_of 4 0x00550023 ++ bytes_of 4 0x001005b7 ++ bytes_of 4 0x0005a023

-- lui x10, 0x2004; addi x5, x0, 200; auipc x7, 0; sd x5, 40(x7); ld x5, 40(x7); sd x5, 0(x10); addi x6, x0, 128; csrrs x0, mie, x6; wfi;
-- lui x11, 0x100; sw x0, 0(x11)
abbrev pub sleep_and_exit : List ℕ
sleep_and_exit =
    bytes_of 4 0x02004537 ++ bytes_of 4 0x0c800293 ++ bytes_of 4 0x00000397 ++ bytes_of 4 0x0253b423 ++ bytes_of 4 0x0283b283 ++ bytes_of 4 0x00553023
    ++ bytes_of 4 0x08000313 ++ bytes_of 4 0x30432073 ++ bytes_of 4 0x10500073 ++ bytes_of 4 0x001005b7 ++ bytes_of 4 0x0005a023

-- auipc x7, 0; addi x7, x7, 56; csrrw x0, mtvec, x7; addi x6, x0, 128; csrrs x0, mie, x6; csrrsi x0, mstatus, 8; lui x10, 0x2004;
-- addi x5, x0, 145; lui x11, 0x100; sd x5, 0(x10); lui x12, 0x200c; ld x8, -8(x12); addi x8, x0, 0; sw x8, 0(x11);
-- and, where interrupts enter: sw x8, 0(x11)
abbrev pub read_clock_and_exit : List ℕ
read_clock_and_exit =
    bytes_of 4 0x00000397 ++ bytes_of 4 0x03838393 ++ bytes_of 4 0x30539073 ++ bytes_of 4 0x08000313 ++ bytes_of 4 0x30432073 ++ bytes_of 4 0x30046073
    ++ bytes_of 4 0x02004537 ++ bytes_of 4 0x09100293 ++ bytes_of 4 0x001005b7 ++ bytes_of 4 0x00553023 ++ bytes_of 4 0x0200c637 ++ bytes_of 4 0xff863403
    ++ bytes_of 4 0x00000413 ++ bytes_of 4 0x0085a023 ++ bytes_of 4 0x0085a023

-- lb x5, 0(x0)
abbrev pub load_of_nobody : List ℕ
load_of_nobody = bytes_of 4 0x00000283

-- the machine with a program, resumed; and the same in the timing mode
abbrev pub machine_with : List ℕ → Sys
machine_with program = resumed_state (start_state small_config ram_base (ram_with_front 64 program))

abbrev pub timed_machine_with : List ℕ → Sys
timed_machine_with program = resumed_state (start_state (record small_config { system_model = true }) ram_base (ram_with_front 64 program))

abbrev pub small_machine : Sys
small_machine = machine_with store_and_exit

-- how a run ended: why, at which tick, after how many instructions and events, and what the console got
pub record Report : Type 0 where
  pub reason : Reason
  pub tick : ℕ
  pub insts : ℕ
  pub events : ℕ
  pub console : List ℕ

abbrev pub report_of : RunEnd → Report
report_of r = record {
  reason = r.reason;
  tick = r.ran.sys.tick;
  insts = retired_in r.ran.entries;
  events = r.events;
  console = console_of r.ran.entries;
}

-- the tick and the owner of the next event
abbrev pub due_place : Option Due → ℕ × ℕ
due_place None = (0, 0)
due_place (Some d) = (d.tick, d.owner.0)

-- the ticks and owners of the next n events
abbrev pub events_served : ℕ → Sys → List (ℕ × ℕ)
events_served zero s = []
events_served (suc n) s = due_place (first s.pending) ∷ events_served n (fire_first s).sys

-- the program runs to its end, which a goal at an earlier tick and a budget of three events cut short
pub record RunsStoreAndExit : Type 0 where
  pub events : events_served 6 small_machine ≡ (1000, 0) ∷ (2700, 0) ∷ (4400, 0) ∷ (5400, 7) ∷ (6500, 0) ∷ (8200, 0) ∷ []
  pub to_the_end : report_of (run_to small_machine (record { until = untils.End; budget = 1000000 }))
      ≡ record { reason = reasons.Exit 0; tick = 8200; insts = 5; events = 6; console = 1 ∷ [] }
  pub to_a_tick : report_of (run_to small_machine (record { until = untils.Tick 999; budget = 1000000 }))
      ≡ record { reason = reasons.Tick; tick = 0; insts = 0; events = 0; console = [] }
  pub to_the_budget : report_of (run_to small_machine (record { until = untils.End; budget = 3 }))
      ≡ record { reason = reasons.Limit; tick = 4400; insts = 3; events = 3; console = 1 ∷ [] }

-- the number for the timer goes through memory; the hart sleeps from tick 16400 on; at tick 20000 the clock, with a period of 100 ticks,
-- comes to 200; and the hart goes on at the next multiple of its own period
pub record RunsAsTheTimerWakes : Type 0 where
  pub events : events_served 12 (machine_with sleep_and_exit)
      ≡ (1000, 0) ∷ (2700, 0) ∷ (4400, 0) ∷ (6100, 0) ∷ (8500, 0) ∷ (10900, 0) ∷ (13000, 0) ∷ (14700, 0) ∷ (16400, 0) ∷ (20000, 6) ∷ (21000, 0) ∷ (22700, 0) ∷ []
  pub to_the_end : report_of (run_to (machine_with sleep_and_exit) (record { until = untils.End; budget = 1000000 }))
      ≡ record { reason = reasons.Exit 0; tick = 22700; insts = 11; events = 12; console = [] }

-- in the timing mode the first program exits before its last word has retired, and the load of no range traps
pub record RunsInTime : Type 0 where
  pub to_the_end : report_of (run_to (timed_machine_with store_and_exit) (record { until = untils.End; budget = 1000000 }))
      ≡ record { reason = reasons.Exit 0; tick = 7250; insts = 4; events = 41; console = 1 ∷ [] }
  pub refused : report_of (run_to (timed_machine_with load_of_nobody) (record { until = untils.Tick 2999; budget = 1000000 }))
      ≡ record { reason = reasons.Tick; tick = 2400; insts = 0; events = 11; console = [] }

-- the load is offered at tick 14000, and at tick 14400 the timer serves it: its clock stands at 144. At tick 14500 the clock comes to 145 and
-- its line rises, while the response is on its way; the load retires at tick 14600, and only then, at tick 15000, is the interrupt entered.
-- So the number that was read is the exit number; else it would be 0
pub record RunsAsTheLineRises : Type 0 where
  pub as_it_rises : report_of (run_to (timed_machine_with read_clock_and_exit) (record { until = untils.Tick 14500; budget = 1000000 }))
      ≡ record { reason = reasons.Tick; tick = 14500; insts = 11; events = 84; console = [] }
  pub to_the_end : report_of (run_to (timed_machine_with read_clock_and_exit) (record { until = untils.End; budget = 1000000 }))
      ≡ record { reason = reasons.Exit 144; tick = 17250; insts = 12; events = 96; console = [] }
