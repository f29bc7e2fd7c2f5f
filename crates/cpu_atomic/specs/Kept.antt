-- What a configured CPU keeps of a fetch.
use Rattle.std.specs.Prelude.{ℕ}
use Rattle.gm_model.specs.ObjState.{CpuStage, Rest, AwaitFetch, AwaitData}
use Rattle.cpu_atomic.specs.declared.stage.Stage.{Stage}
use Rattle.cpu_atomic.specs.declared.stage.Stage.TheVariants as stages

-- the latency of the fetch that is over
abbrev pub kept_latency : Stage → ℕ
kept_latency stages.Rest = 0
kept_latency stages.AwaitFetch = 0
kept_latency (stages.AwaitData word latency) = latency

-- where it stands
abbrev pub stage_of : Stage → CpuStage
stage_of stages.Rest = Rest
stage_of stages.AwaitFetch = AwaitFetch
stage_of (stages.AwaitData word latency) = AwaitData word latency
