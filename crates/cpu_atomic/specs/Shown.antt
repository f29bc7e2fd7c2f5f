-- The state that an atomic CPU shows. This project's own rule.
use Rattle.std.specs.Prelude.{Option, Some, None}
use Rattle.rv_step.specs.declared.arch.Arch.{Arch}
use Rattle.gm_model.specs.ObjState.{ObjState, Blank, AtomicCpu, AtomicCpuState}
use Rattle.gm_words.specs.declared.kind.Kind.TheVariants as kinds
use Rattle.cpu_atomic.specs.Kept.{stage_of}
use Rattle.cpu_atomic.specs.declared.sequencer.Sequencer.{Sequencer}
use Rattle.cpu_atomic.specs.declared.configured.Configured.{Configured}

-- what a configured one shows with this hart
abbrev pub cpu_state : Sequencer → Option Arch → AtomicCpuState
cpu_state f a = record {
  common = record { object = f.object.0; line = f.line; ram = f.ram; timing = f.timing; draining = f.draining };
  period = f.period;
  arch = a;
  stage = stage_of f.stage;
  due = f.due;
}

-- what one shows; one that isn't configured is blank
abbrev pub shown : Option Configured → ObjState
shown None = Blank kinds.AtomicCpu
shown (Some r) = AtomicCpu (cpu_state r.sequencer r.arch)
