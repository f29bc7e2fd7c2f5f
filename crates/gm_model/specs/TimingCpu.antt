-- The timing CPU: fetch and data access are offered, and their responses come as offers.
-- This project's own rule; what an instruction does is the instruction set's.
use Rattle.std.specs.Prelude.{ℕ, ◌+◌, ◌==◌, ◌&&◌, Bool, true, false, not, if◌then◌else◌, List, [], ◌∷◌, take, Option, Some, None}
use Rattle.rv_step.specs.declared.arch.Arch.{Arch}
use Rattle.rv_step.specs.declared.demand.Demand.{Demand}
use Rattle.rv_step.specs.declared.demand.Demand.TheVariants as demand
use Rattle.rv_step.specs.Bytes.{number}
use Rattle.rv_step.specs.Demand.{need}
use Rattle.rv_step.specs.Retire.{finish}
use Rattle.rv_step.specs.Trap.{enter_trap, interrupt_cause, instruction_access, load_access, store_access}
use Rattle.gm_model.specs.Accesses.{fetch_request, load_request, store_request}
use Rattle.gm_model.specs.Flows.{offer_at}
use Rattle.gm_words.specs.HartLine.{with_line, next_multiple}
use Rattle.gm_words.specs.Platform.{is_in_ram, fetch_port, data_port, fetch_source, data_source, cpu_slot, cpu_class}
use Rattle.gm_model.specs.ObjState.{ObjState, TimingCpu, TimingCpuState, common_start, TimingStage, Between, Fetch, Ready, Data, Asks, Held, Away}
use Rattle.gm_words.specs.Changes.{Change, Schedule, Remove}
use Rattle.gm_words.specs.Moves.{no_moves}
use Rattle.gm_words.specs.declared.params.Params.{Params}
use Rattle.gm_model.specs.Stepped.{Stepped, Commanded, answering, stays, drops}
use Rattle.gm_words.specs.declared.act.Act.{Act}
use Rattle.gm_words.specs.declared.answer.Answer.TheVariants as answers
use Rattle.gm_words.specs.declared.entry.Entry.{Entry}
use Rattle.gm_words.specs.declared.entry.Entry.TheVariants as entries
use Rattle.pkt_pool.specs.declared.packet.Packet.{Packet}
use Rattle.gm_words.specs.declared.wake.Wake.{Wake}
use Rattle.gm_words.specs.declared.wake.Wake.TheVariants as wakes

-- Start.

-- at its start it is inactive
abbrev pub timing_cpu_start : Params → ℕ → ObjState
timing_cpu_start p period =
    TimingCpu (record { common = common_start p; period = period; arch = None; stage = Between; due = false })

-- Wakes.

-- its event at the least multiple of the period above now
abbrev pub next_event : TimingCpuState → ℕ → Change
next_event s now = Schedule cpu_slot cpu_class (next_multiple s.period now)

-- the hart's state is a, the CPU is in a stage, and its next event comes, or doesn't
abbrev pub tcpu_in : TimingCpuState → Arch → TimingStage → ℕ → ℕ → List Entry → Bool → Stepped
tcpu_in s a stage next now es true = record {
  state = TimingCpu (record s { arch = Some a; stage = stage; due = true });
  next = next;
  changes = next_event s now ∷ [];
  acts = [];
  entries = es;
  answer = answers.Nothing;
  moves = no_moves;
}
tcpu_in s a stage next now es false = record {
  state = TimingCpu (record s { arch = Some a; stage = stage });
  next = next;
  changes = [];
  acts = [];
  entries = es;
  answer = answers.Nothing;
  moves = no_moves;
}

-- an instruction or a trap is over; a hart that is asleep then, or is to drain, has no event
abbrev pub tcpu_ends : TimingCpuState → Arch → ℕ → ℕ → Entry → Bool → Stepped
tcpu_ends s a next now e true = tcpu_in s a Between next now (e ∷ entries.Slept ∷ []) false
tcpu_ends s a next now e false = tcpu_in s a Between next now (e ∷ []) (not s.common.draining)

abbrev pub tcpu_retires : TimingCpuState → Arch → ℕ → ℕ → ℕ → ℕ → Stepped
tcpu_retires s a next now w v = tcpu_ends s (finish a w v) next now (entries.Retired a.pc w) (finish a w v).asleep

abbrev pub tcpu_traps : TimingCpuState → Arch → ℕ → ℕ → ℕ → ℕ → Stepped
tcpu_traps s a next now cause tval =
    tcpu_ends s (enter_trap a cause tval) next now (entries.Trapped cause tval) (enter_trap a cause tval).asleep

-- a new packet is offered at a port
abbrev pub tcpu_asks : TimingCpuState → TimingStage → ℕ → ℕ → Packet → Stepped
tcpu_asks s stage next port p = record {
  state = TimingCpu (record s { stage = stage });
  next = next + 1;
  changes = [];
  acts = offer_at port p ∷ [];
  entries = [];
  answer = answers.Nothing;
  moves = record no_moves { made = p ∷ [] };
}

-- between two instructions: an interrupt is entered; or a fetch outside RAM traps; or the word at pc is fetched
abbrev pub tcpu_begins : TimingCpuState → Arch → ℕ → ℕ → Option ℕ → Bool → Stepped
tcpu_begins s a next now (Some cause) in_ram = tcpu_traps s a next now cause 0
tcpu_begins s a next now None true = tcpu_asks s (Fetch (Asks (fetch_request next a.pc))) next fetch_port (fetch_request next a.pc)
tcpu_begins s a next now None false = tcpu_traps s a next now instruction_access a.pc

-- the data access that the word asks for
abbrev pub tcpu_demands : TimingCpuState → ℕ → ℕ → Demand → Stepped
tcpu_demands s next w (demand.Load address size) =
    let p : Packet = load_request s.common.ram next address size in tcpu_asks s (Data w (Asks p)) next data_port p
tcpu_demands s next w (demand.Store address size v) =
    let p : Packet = store_request s.common.ram next address size v in tcpu_asks s (Data w (Asks p)) next data_port p
tcpu_demands s next w demand.Nothing = stays (TimingCpu s) next
tcpu_demands s next w demand.Sleep = stays (TimingCpu s) next
tcpu_demands s next w (demand.Trap cause tval) = stays (TimingCpu s) next

-- at its event
abbrev pub tcpu_event : TimingCpuState → ℕ → ℕ → Option Arch → TimingStage → Stepped
tcpu_event s next now None stage = stays (TimingCpu s) next
tcpu_event s next now (Some a) Between =
    if a.asleep then stays (TimingCpu s) next
    else tcpu_begins s a next now (interrupt_cause a) (is_in_ram s.common.ram a.pc 4)
tcpu_event s next now (Some a) (Ready w) = tcpu_demands s next w (need a w)
tcpu_event s next now (Some a) (Fetch h) = stays (TimingCpu s) next
tcpu_event s next now (Some a) (Data w h) = stays (TimingCpu s) next

-- the word w was fetched: it is over, or it asks for an access
abbrev pub tcpu_fetched : TimingCpuState → Arch → ℕ → ℕ → ℕ → Demand → Stepped
tcpu_fetched s a next now w demand.Nothing = tcpu_retires s a next now w 0
tcpu_fetched s a next now w demand.Sleep = tcpu_retires s a next now w 0
tcpu_fetched s a next now w (demand.Load address size) = tcpu_in s a (Ready w) next now [] true
tcpu_fetched s a next now w (demand.Store address size v) = tcpu_in s a (Ready w) next now [] true
tcpu_fetched s a next now w (demand.Trap cause tval) = tcpu_traps s a next now cause tval

-- the access of the word w was served, or refused by fault
abbrev pub tcpu_accessed : TimingCpuState → Arch → ℕ → ℕ → Packet → ℕ → Demand → Bool → Stepped
tcpu_accessed s a next now p w (demand.Load address size) false = tcpu_retires s a next now w (number (take size p.bytes))
tcpu_accessed s a next now p w (demand.Load address size) true = tcpu_traps s a next now load_access address
tcpu_accessed s a next now p w (demand.Store address size v) false = tcpu_retires s a next now w 0
tcpu_accessed s a next now p w (demand.Store address size v) true = tcpu_traps s a next now store_access address
tcpu_accessed s a next now p w demand.Nothing fault = stays (TimingCpu s) next
tcpu_accessed s a next now p w demand.Sleep fault = stays (TimingCpu s) next
tcpu_accessed s a next now p w (demand.Trap cause tval) fault = stays (TimingCpu s) next

-- a response comes: that of the access that is away; any other is nobody's
abbrev pub tcpu_response : TimingCpuState → ℕ → ℕ → Packet → Option Arch → TimingStage → Stepped
tcpu_response s next now p (Some a) (Fetch Away) =
    if p.src == fetch_source then tcpu_fetched s a next now (number (take 4 p.bytes)) (need a (number (take 4 p.bytes)))
    else stays (TimingCpu s) next
tcpu_response s next now p (Some a) (Data w Away) =
    if p.src == data_source then tcpu_accessed s a next now p w (need a w) p.fault
    else stays (TimingCpu s) next
tcpu_response s next now p (Some a) Between = stays (TimingCpu s) next
tcpu_response s next now p (Some a) (Ready w) = stays (TimingCpu s) next
tcpu_response s next now p (Some a) (Fetch (Asks x)) = stays (TimingCpu s) next
tcpu_response s next now p (Some a) (Fetch (Held x)) = stays (TimingCpu s) next
tcpu_response s next now p (Some a) (Data w (Asks x)) = stays (TimingCpu s) next
tcpu_response s next now p (Some a) (Data w (Held x)) = stays (TimingCpu s) next
tcpu_response s next now p None stage = stays (TimingCpu s) next

-- the stage with another hand
abbrev pub tcpu_with : TimingCpuState → ℕ → TimingStage → List Act → Stepped
tcpu_with s next stage list = record (stays (TimingCpu (record s { stage = stage })) next) { acts = list }

-- its offer was taken, or refused; or it is called and offers again
abbrev pub tcpu_taken : TimingCpuState → ℕ → TimingStage → Stepped
tcpu_taken s next (Fetch h) = tcpu_with s next (Fetch Away) []
tcpu_taken s next (Data w h) = tcpu_with s next (Data w Away) []
tcpu_taken s next Between = stays (TimingCpu s) next
tcpu_taken s next (Ready w) = stays (TimingCpu s) next

abbrev pub tcpu_refused : TimingCpuState → ℕ → TimingStage → Stepped
tcpu_refused s next (Fetch (Asks x)) = tcpu_with s next (Fetch (Held x)) []
tcpu_refused s next (Data w (Asks x)) = tcpu_with s next (Data w (Held x)) []
tcpu_refused s next (Fetch (Held x)) = stays (TimingCpu s) next
tcpu_refused s next (Data w (Held x)) = stays (TimingCpu s) next
tcpu_refused s next (Fetch Away) = stays (TimingCpu s) next
tcpu_refused s next (Data w Away) = stays (TimingCpu s) next
tcpu_refused s next Between = stays (TimingCpu s) next
tcpu_refused s next (Ready w) = stays (TimingCpu s) next

abbrev pub tcpu_called : TimingCpuState → ℕ → TimingStage → Stepped
tcpu_called s next (Fetch (Held x)) = tcpu_with s next (Fetch (Asks x)) (offer_at fetch_port x ∷ [])
tcpu_called s next (Data w (Held x)) = tcpu_with s next (Data w (Asks x)) (offer_at data_port x ∷ [])
tcpu_called s next (Fetch (Asks x)) = stays (TimingCpu s) next
tcpu_called s next (Data w (Asks x)) = stays (TimingCpu s) next
tcpu_called s next (Fetch Away) = stays (TimingCpu s) next
tcpu_called s next (Data w Away) = stays (TimingCpu s) next
tcpu_called s next Between = stays (TimingCpu s) next
tcpu_called s next (Ready w) = stays (TimingCpu s) next

-- an interrupt line has a new level; a hart that it wakes goes on, unless it is draining
abbrev pub tcpu_lined : TimingCpuState → ℕ → ℕ → ℕ → Bool → Option Arch → Stepped
tcpu_lined s next now bit level None = stays (TimingCpu s) next
tcpu_lined s next now bit level (Some a) =
    tcpu_in s (with_line a bit level) s.stage next now (entries.Line bit level ∷ [])
    (a.asleep && not (with_line a bit level).asleep && not s.common.draining)

-- the step rule; its event isn't pending any more once it is served, and a response is always taken
abbrev pub timing_cpu_step : TimingCpuState → ℕ → Wake → ℕ → Stepped
timing_cpu_step s next (wakes.Event slot) now =
    if slot.0 == cpu_slot then tcpu_event (record s { due = false }) next now s.arch s.stage
    else stays (TimingCpu s) next
timing_cpu_step s next (wakes.Offer port p) now = record (answering p (tcpu_response s next now p s.arch s.stage)) { answer = answers.Taken }
timing_cpu_step s next (wakes.Taken port) now = tcpu_taken s next s.stage
timing_cpu_step s next (wakes.Refused port) now = tcpu_refused s next s.stage
timing_cpu_step s next (wakes.Retry port) now = tcpu_called s next s.stage
timing_cpu_step s next (wakes.Line bit level) now = tcpu_lined s next now bit level s.arch
timing_cpu_step s next (wakes.AtomicDone p latency) now = drops (TimingCpu s) next p

-- Drain and resume.

-- it stands between two instructions
abbrev pub is_between : TimingStage → Bool
is_between Between = true
is_between (Fetch h) = false
is_between (Ready w) = false
is_between (Data w h) = false

-- it is asked to drain: between two instructions its event is removed
abbrev pub tcpu_drained : TimingCpuState → Bool → Commanded
tcpu_drained s true = record { state = TimingCpu (record s { common = record s.common { draining = true }; due = false }); changes = Remove cpu_slot ∷ [] }
tcpu_drained s false = record { state = TimingCpu (record s { common = record s.common { draining = true } }); changes = [] }

-- it goes on: the active one at the next multiple of its period, unless it sleeps
abbrev pub tcpu_resumed : TimingCpuState → ℕ → Bool → Commanded
tcpu_resumed s now true = record {
  state = TimingCpu (record s { common = record s.common { draining = false }; due = true });
  changes = next_event s now ∷ [];
}
tcpu_resumed s now false = record { state = TimingCpu (record s { common = record s.common { draining = false } }); changes = [] }

-- it stands between two instructions, and has no event
abbrev pub is_tcpu_drained : TimingCpuState → Bool
is_tcpu_drained s = is_between s.stage && not s.due
