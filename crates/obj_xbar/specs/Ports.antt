-- The ports of a crossbar as contracts see them. This project's own rule.
use Rattle.std.specs.Prelude.{◌≡◌, ℕ, ◌≤◌, List, length}
use Rattle.ev_queue.specs.Handle.{Handle}
use Rattle.gm_words.specs.PortUses.{xbar_classes}
use Rattle.gm_words.specs.declared.port_use.PortUse.{PortUse}
use Rattle.obj_core.specs.Handles.{handles_from}

-- whose ports they are, and what each is for
pub record Ports : Type 0 where
  pub object : ℕ
  pub uses : List PortUse

-- there are few ports, and these are the handles of their layers
pub record AreKept (object : ℕ) (uses : List PortUse) (responses requests : List Handle) : Type 0 where
  pub few : length uses ≤ 8
  pub response : responses ≡ handles_from object 0 0 (xbar_classes uses)
  pub request : requests ≡ handles_from object 10 0 (xbar_classes uses)
