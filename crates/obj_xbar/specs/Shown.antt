-- The state that a crossbar shows. This project's own rule.
use Rattle.std.specs.Prelude.{Option, Some, None}
use Rattle.gm_model.specs.ObjState.{ObjState, Blank, Xbar, XbarState}
use Rattle.gm_words.specs.declared.kind.Kind.TheVariants as kinds
use Rattle.obj_xbar.specs.declared.layers.Layers.{Layers}

-- what a configured one shows
abbrev pub xbar_state : Layers → XbarState
xbar_state l = record {
  common = record { object = l.ports.object; line = l.line; ram = l.ram; timing = l.timing; draining = l.draining };
  latency = l.latency;
  ports = l.ports.uses;
  lanes = l.lanes.items;
  side = record { lane = l.side; ahead = l.ahead };
}

-- what one shows; one that isn't configured is blank
abbrev pub shown : Option Layers → ObjState
shown None = Blank kinds.Xbar
shown (Some l) = Xbar (xbar_state l)
