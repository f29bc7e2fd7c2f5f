-- By which ports something may come to a part. This project's own rule.
use Rattle.std.specs.Prelude.{ℕ, ◌<◌, length}
use Rattle.gm_model.specs.ObjState.{ObjState, Blank, AtomicCpu, TimingCpu, Xbar, Server}
use Rattle.gm_words.specs.declared.wake.Wake.{Wake}
use Rattle.gm_words.specs.declared.wake.Wake.TheVariants as wakes

-- the part has the port; only a crossbar's rule looks at it
abbrev pub HasPort : ObjState → ℕ → Type 0
HasPort (Blank k) p = Unit {0}
HasPort (AtomicCpu s) p = Unit {0}
HasPort (TimingCpu s) p = Unit {0}
HasPort (Xbar s) p = p < length s.ports
HasPort (Server s) p = Unit {0}

-- what wakes the part comes by a port that it has
abbrev pub ComesWithin : ObjState → Wake → Type 0
ComesWithin o (wakes.Event slot) = Unit {0}
ComesWithin o (wakes.Offer port p) = HasPort o port.0
ComesWithin o (wakes.Taken port) = HasPort o port.0
ComesWithin o (wakes.Refused port) = HasPort o port.0
ComesWithin o (wakes.Retry port) = HasPort o port.0
ComesWithin o (wakes.Line bit level) = Unit {0}
ComesWithin o (wakes.AtomicDone p latency) = Unit {0}
