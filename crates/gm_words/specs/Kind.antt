-- The kinds of parts, and the names that they are reported by. This project's own rules.
use Rattle.std.specs.Prelude.{ℕ, List, codes}
use Rattle.gm_words.specs.declared.kind.Kind.{Kind}
use Rattle.gm_words.specs.declared.kind.Kind.TheVariants as kinds
use Rattle.gm_words.specs.declared.own.Own.{Own}
use Rattle.gm_words.specs.declared.own.Own.TheVariants as owns

-- the name of a kind, in bytes
abbrev pub kind_name : Kind → List ℕ
kind_name kinds.AtomicCpu = codes "atomic"
kind_name kinds.TimingCpu = codes "timing"
kind_name kinds.Xbar = codes "xbar"
kind_name kinds.Cache = codes "cache"
kind_name kinds.Mem = codes "mem"
kind_name kinds.Uart = codes "uart"
kind_name kinds.Timer = codes "timer"
kind_name kinds.Exit = codes "exit"
kind_name kinds.Dma = codes "dma"

-- the kind that params are for
abbrev pub kind_of_own : Own → Kind
kind_of_own (owns.AtomicCpu period) = kinds.AtomicCpu
kind_of_own (owns.TimingCpu period) = kinds.TimingCpu
kind_of_own (owns.Xbar latency ports) = kinds.Xbar
kind_of_own (owns.Cache source sets ways mshrs targets writeq latency) = kinds.Cache
kind_of_own (owns.Mem latency queue) = kinds.Mem
kind_of_own (owns.Uart latency chartime) = kinds.Uart
kind_of_own (owns.Timer latency period) = kinds.Timer
kind_of_own (owns.Exit latency) = kinds.Exit
kind_of_own (owns.Dma latency period window) = kinds.Dma
