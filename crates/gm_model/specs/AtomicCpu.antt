-- The atomic CPU: one instruction at each event, with its accesses passed at once.
-- This project's own rule; what an instruction does is the instruction set's.
use Rattle.std.specs.Prelude.{ℕ, ◌+◌, ◌==◌, ◌&&◌, Bool, true, false, not, if◌then◌else◌, [], ◌∷◌, take, Option, Some, None}
use Rattle.rv_step.specs.declared.arch.Arch.{Arch}
use Rattle.rv_step.specs.declared.demand.Demand.{Demand}
use Rattle.rv_step.specs.declared.demand.Demand.TheVariants as demand
use Rattle.rv_step.specs.Bytes.{number}
use Rattle.rv_step.specs.Demand.{need}
use Rattle.rv_step.specs.Retire.{finish}
use Rattle.rv_step.specs.Trap.{enter_trap, interrupt_cause, instruction_access, load_access, store_access}
use Rattle.gm_model.specs.Accesses.{fetch_request, load_request, store_request}
use Rattle.gm_words.specs.HartLine.{with_line, next_multiple}
use Rattle.gm_words.specs.Platform.{is_in_ram, fetch_port, data_port, cpu_slot, cpu_class}
use Rattle.gm_model.specs.ObjState.{ObjState, AtomicCpu, AtomicCpuState, common_start, CpuStage, Rest, AwaitFetch, AwaitData}
use Rattle.gm_words.specs.Changes.{Schedule, Remove}
use Rattle.gm_words.specs.Moves.{no_moves}
use Rattle.gm_words.specs.declared.params.Params.{Params}
use Rattle.gm_model.specs.Stepped.{Stepped, Commanded, answering, stays, drops}
use Rattle.gm_words.specs.declared.act.Act.TheVariants as acts
use Rattle.gm_words.specs.declared.answer.Answer.TheVariants as answers
use Rattle.gm_words.specs.declared.entry.Entry.{Entry}
use Rattle.gm_words.specs.declared.entry.Entry.TheVariants as entries
use Rattle.pkt_pool.specs.declared.packet.Packet.{Packet}
use Rattle.gm_words.specs.declared.wake.Wake.{Wake}
use Rattle.gm_words.specs.declared.wake.Wake.TheVariants as wakes

-- Start.

-- at its start it is inactive
abbrev pub atomic_cpu_start : Params → ℕ → ObjState
atomic_cpu_start p period =
    AtomicCpu (record { common = common_start p; period = period; arch = None; stage = Rest; due = false })

-- Wakes.

-- an instruction or a trap is over, and the next event comes at a tick
abbrev pub cpu_ends_awake : AtomicCpuState → Arch → ℕ → ℕ → Entry → Stepped
cpu_ends_awake s a next at e = record {
  state = AtomicCpu (record s { arch = Some a; stage = Rest; due = true });
  next = next;
  changes = Schedule cpu_slot cpu_class at ∷ [];
  acts = [];
  entries = e ∷ [];
  answer = answers.Nothing;
  moves = no_moves;
}

-- it is over, and the hart sleeps, so no event comes
abbrev pub cpu_ends_asleep : AtomicCpuState → Arch → ℕ → Entry → Stepped
cpu_ends_asleep s a next e = record {
  state = AtomicCpu (record s { arch = Some a; stage = Rest });
  next = next;
  changes = [];
  acts = [];
  entries = e ∷ entries.Slept ∷ [];
  answer = answers.Nothing;
  moves = no_moves;
}

-- it is over, and the hart's state is then a
abbrev pub cpu_ends : AtomicCpuState → Arch → ℕ → ℕ → Entry → Bool → Stepped
cpu_ends s a next at e false = cpu_ends_awake s a next at e
cpu_ends s a next at e true = cpu_ends_asleep s a next e

-- the word at pc retires, with the number that its load got
abbrev pub cpu_retires : AtomicCpuState → Arch → ℕ → ℕ → ℕ → ℕ → Stepped
cpu_retires s a next at w v = cpu_ends s (finish a w v) next at (entries.Retired a.pc w) (finish a w v).asleep

-- it traps
abbrev pub cpu_traps : AtomicCpuState → Arch → ℕ → ℕ → ℕ → ℕ → Stepped
cpu_traps s a next at cause tval =
    cpu_ends s (enter_trap a cause tval) next at (entries.Trapped cause tval) (enter_trap a cause tval).asleep

-- a new packet is passed from a port, and the CPU awaits the response
abbrev pub cpu_asks : AtomicCpuState → CpuStage → ℕ → ℕ → Packet → Stepped
cpu_asks s stage next port p = record {
  state = AtomicCpu (record s { stage = stage });
  next = next + 1;
  changes = [];
  acts = acts.Atomic (record { 0 = port }) p ∷ [];
  entries = [];
  answer = answers.Nothing;
  moves = record no_moves { made = p ∷ [] };
}

-- between two instructions: an interrupt is entered; or a fetch outside RAM traps; or the word at pc is fetched
abbrev pub cpu_begins : AtomicCpuState → Arch → ℕ → ℕ → Option ℕ → Bool → Stepped
cpu_begins s a next now (Some cause) in_ram = cpu_traps s a next (now + s.period) cause 0
cpu_begins s a next now None true = cpu_asks s AwaitFetch next fetch_port (fetch_request next a.pc)
cpu_begins s a next now None false = cpu_traps s a next (now + s.period) instruction_access a.pc

-- at its event: it begins an instruction, where it is active, at rest and awake
abbrev pub cpu_event : AtomicCpuState → ℕ → ℕ → Option Arch → CpuStage → Stepped
cpu_event s next now None stage = stays (AtomicCpu s) next
cpu_event s next now (Some a) Rest =
    if a.asleep then stays (AtomicCpu s) next
    else cpu_begins s a next now (interrupt_cause a) (is_in_ram s.common.ram a.pc 4)
cpu_event s next now (Some a) AwaitFetch = stays (AtomicCpu s) next
cpu_event s next now (Some a) (AwaitData w before) = stays (AtomicCpu s) next

-- the word w was fetched, which took a latency: what it asks for decides
abbrev pub cpu_fetched : AtomicCpuState → Arch → ℕ → ℕ → ℕ → ℕ → Demand → Stepped
cpu_fetched s a next now latency w demand.Nothing = cpu_retires s a next (now + s.period + latency) w 0
cpu_fetched s a next now latency w demand.Sleep = cpu_retires s a next (now + s.period + latency) w 0
cpu_fetched s a next now latency w (demand.Load address size) =
    cpu_asks s (AwaitData w latency) next data_port (load_request s.common.ram next address size)
cpu_fetched s a next now latency w (demand.Store address size v) =
    cpu_asks s (AwaitData w latency) next data_port (store_request s.common.ram next address size v)
cpu_fetched s a next now latency w (demand.Trap cause tval) = cpu_traps s a next (now + s.period + latency) cause tval

-- the data access of the word w was served: it retires, or traps where the access was refused
abbrev pub cpu_accessed : AtomicCpuState → Arch → ℕ → ℕ → Packet → ℕ → Demand → Bool → Stepped
cpu_accessed s a next at p w (demand.Load address size) false = cpu_retires s a next at w (number (take size p.bytes))
cpu_accessed s a next at p w (demand.Load address size) true = cpu_traps s a next at load_access address
cpu_accessed s a next at p w (demand.Store address size v) false = cpu_retires s a next at w 0
cpu_accessed s a next at p w (demand.Store address size v) true = cpu_traps s a next at store_access address
cpu_accessed s a next at p w demand.Nothing fault = stays (AtomicCpu s) next
cpu_accessed s a next at p w demand.Sleep fault = stays (AtomicCpu s) next
cpu_accessed s a next at p w (demand.Trap cause tval) fault = stays (AtomicCpu s) next

-- its packet was served, which took a latency
abbrev pub cpu_done : AtomicCpuState → ℕ → ℕ → Packet → ℕ → Option Arch → CpuStage → Stepped
cpu_done s next now p latency None stage = stays (AtomicCpu s) next
cpu_done s next now p latency (Some a) Rest = stays (AtomicCpu s) next
cpu_done s next now p latency (Some a) AwaitFetch =
    let w : ℕ = number (take 4 p.bytes) in cpu_fetched s a next now latency w (need a w)
cpu_done s next now p latency (Some a) (AwaitData w before) =
    cpu_accessed s a next (now + s.period + before + latency) p w (need a w) p.fault

-- an interrupt line has a new level; a hart that it wakes goes on at the next multiple of the period, unless it is draining
abbrev pub cpu_line : AtomicCpuState → Arch → ℕ → ℕ → ℕ → Bool → Bool → Stepped
cpu_line s a next now bit level true = record {
  state = AtomicCpu (record s { arch = Some (with_line a bit level); due = true });
  next = next;
  changes = Schedule cpu_slot cpu_class (next_multiple s.period now) ∷ [];
  acts = [];
  entries = entries.Line bit level ∷ [];
  answer = answers.Nothing;
  moves = no_moves;
}
cpu_line s a next now bit level false = record {
  state = AtomicCpu (record s { arch = Some (with_line a bit level) });
  next = next;
  changes = [];
  acts = [];
  entries = entries.Line bit level ∷ [];
  answer = answers.Nothing;
  moves = no_moves;
}

-- the hart is woken by the line, and goes on
abbrev pub goes_on : AtomicCpuState → Arch → ℕ → Bool → Bool
goes_on s a bit level = a.asleep && not (with_line a bit level).asleep && not s.common.draining

-- the line comes to the active CPU alone
abbrev pub cpu_lined : AtomicCpuState → ℕ → ℕ → ℕ → Bool → Option Arch → Stepped
cpu_lined s next now bit level None = stays (AtomicCpu s) next
cpu_lined s next now bit level (Some a) = cpu_line s a next now bit level (goes_on s a bit level)

-- the step rule; its event isn't pending any more once it is served
abbrev pub atomic_cpu_step : AtomicCpuState → ℕ → Wake → ℕ → Stepped
atomic_cpu_step s next (wakes.Event slot) now =
    if slot.0 == cpu_slot then cpu_event (record s { due = false }) next now s.arch s.stage
    else stays (AtomicCpu s) next
atomic_cpu_step s next (wakes.AtomicDone p latency) now = answering p (cpu_done s next now p latency s.arch s.stage)
atomic_cpu_step s next (wakes.Line bit level) now = cpu_lined s next now bit level s.arch
atomic_cpu_step s next (wakes.Offer port p) now = drops (AtomicCpu s) next p
atomic_cpu_step s next (wakes.Taken port) now = stays (AtomicCpu s) next
atomic_cpu_step s next (wakes.Refused port) now = stays (AtomicCpu s) next
atomic_cpu_step s next (wakes.Retry port) now = stays (AtomicCpu s) next

-- Drain and resume.

-- a CPU stands between two instructions
abbrev pub is_resting : CpuStage → Bool
is_resting Rest = true
is_resting AwaitFetch = false
is_resting (AwaitData w latency) = false

-- the hart is there, and asleep
abbrev pub is_asleep : Option Arch → Bool
is_asleep None = false
is_asleep (Some a) = a.asleep

-- the hart is there, and awake
abbrev pub is_awake : Option Arch → Bool
is_awake None = false
is_awake (Some a) = not a.asleep

-- a CPU that is asked to drain: between two instructions its event is removed
abbrev pub cpu_drained : AtomicCpuState → Bool → Commanded
cpu_drained s true = record { state = AtomicCpu (record s { common = record s.common { draining = true }; due = false }); changes = Remove cpu_slot ∷ [] }
cpu_drained s false = record { state = AtomicCpu (record s { common = record s.common { draining = true } }); changes = [] }

-- a CPU goes on: the active one at the next multiple of its period, unless it sleeps
abbrev pub cpu_resumed : AtomicCpuState → ℕ → Bool → Commanded
cpu_resumed s now true = record {
  state = AtomicCpu (record s { common = record s.common { draining = false }; due = true });
  changes = Schedule cpu_slot cpu_class (next_multiple s.period now) ∷ [];
}
cpu_resumed s now false = record { state = AtomicCpu (record s { common = record s.common { draining = false } }); changes = [] }

-- it stands between two instructions, and has no event
abbrev pub is_cpu_drained : AtomicCpuState → Bool
is_cpu_drained s = is_resting s.stage && not s.due
