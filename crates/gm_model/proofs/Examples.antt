-- The examples, computed.
use Rattle.std.proofs.Common.{refl}
use Rattle.gm_model.specs.Example.{RunsStoreAndExit, RunsAsTheTimerWakes, RunsInTime, RunsAsTheLineRises}
use Rattle.gm_model.specs.Run.{run_to, run_on}
use Rattle.gm_model.specs.Fire.{fire}
use Rattle.gm_model.specs.Deliver.{deliver, deliver_atomic}
use Rattle.gm_model.specs.ObjectStep.{object_step, atomic_step}
use Rattle.gm_model.specs.Flows.{is_listed}
use Rattle.gm_model.specs.Xbar.{layer_for, layer_of}
use Rattle.gm_words.specs.PortUses.{used, fore, is_total, port_from, source_from}
use Rattle.rv_table.specs.Table.{decode_of}
use Rattle.rv_step.specs.Demand.{need, need_of}
use Rattle.rv_step.specs.Retire.{finish, finish_of}
use Rattle.rv_step.specs.Trap.{enter_trap, interrupt_cause}

pub runs : RunsStoreAndExit
unfolding run_to run_on fire deliver deliver_atomic object_step atomic_step layer_for port_from used need need_of decode_of finish finish_of enter_trap interrupt_cause
runs = record { events = refl; to_the_end = refl; to_a_tick = refl; to_the_budget = refl }

pub wakes : RunsAsTheTimerWakes
unfolding run_to run_on fire deliver deliver_atomic object_step atomic_step layer_for port_from used need need_of decode_of finish finish_of enter_trap interrupt_cause
wakes = record { events = refl; to_the_end = refl }

pub in_time : RunsInTime
unfolding run_to run_on fire deliver deliver_atomic object_step atomic_step layer_for layer_of port_from source_from used fore is_total is_listed need need_of decode_of finish finish_of enter_trap interrupt_cause
in_time = record { to_the_end = refl; refused = refl }

pub as_the_line_rises : RunsAsTheLineRises
unfolding run_to run_on fire deliver deliver_atomic object_step atomic_step layer_for layer_of port_from source_from used fore is_total is_listed need need_of decode_of finish finish_of enter_trap interrupt_cause
as_the_line_rises = record { as_it_rises = refl; to_the_end = refl }
