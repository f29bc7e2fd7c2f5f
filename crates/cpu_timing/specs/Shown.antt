-- The state that a timing CPU shows. This project's own rule.
use Rattle.std.specs.Prelude.{Option, Some, None}
use Rattle.rv_step.specs.declared.arch.Arch.{Arch}
use Rattle.gm_model.specs.ObjState.{ObjState, Blank, TimingCpu, TimingCpuState, TimingStage, Between, Fetch, Ready, Data, Hand, Asks, Held, Away}
use Rattle.gm_words.specs.declared.kind.Kind.TheVariants as kinds
use Rattle.cpu_timing.specs.declared.hand.Hand.{Hand as KeptHand}
use Rattle.cpu_timing.specs.declared.hand.Hand.TheVariants as hands
use Rattle.cpu_timing.specs.declared.stage.Stage.{Stage}
use Rattle.cpu_timing.specs.declared.stage.Stage.TheVariants as stages
use Rattle.cpu_timing.specs.declared.sequencer.Sequencer.{Sequencer}
use Rattle.cpu_timing.specs.declared.configured.Configured.{Configured}

-- what it has of its packet
abbrev pub hand_of : KeptHand → Hand
hand_of (hands.Asks p) = Asks p
hand_of (hands.Held p) = Held p
hand_of hands.Away = Away

-- where it stands
abbrev pub stage_of : Stage → TimingStage
stage_of stages.Between = Between
stage_of (stages.Fetch hand) = Fetch (hand_of hand)
stage_of (stages.Ready word) = Ready word
stage_of (stages.Data word hand) = Data word (hand_of hand)

-- what a configured one shows with this hart
abbrev pub cpu_state : Sequencer → Option Arch → TimingCpuState
cpu_state f a = record {
  common = record { object = f.object.0; line = f.line; ram = f.ram; timing = f.timing; draining = f.draining };
  period = f.period;
  arch = a;
  stage = stage_of f.stage;
  due = f.due;
}

-- what one shows; one that isn't configured is blank
abbrev pub shown : Option Configured → ObjState
shown None = Blank kinds.TimingCpu
shown (Some r) = TimingCpu (cpu_state r.sequencer r.arch)
