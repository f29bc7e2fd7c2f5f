-- A machine whose events are served in any order, with commands between them. This project's own rule: the theorems on runs
-- stand on no order of events.
use Rattle.std.specs.Prelude.{ℕ, ◌&&◌, nat_le, if◌then◌else◌, List, [], ◌∷◌, ◌++◌, map}
use Rattle.gc_base.specs.declared.limits.TheConstants.{TOP}
use Rattle.gm_words.specs.Moves.{Moves, no_moves, joined}
use Rattle.gm_words.specs.declared.entry.Entry.{Entry}
use Rattle.gm_model.specs.Command.{with_input}
use Rattle.gm_model.specs.Drained.{is_settled}
use Rattle.gm_model.specs.EventMoves.{fire_moves}
use Rattle.gm_model.specs.Fire.{fire}
use Rattle.gm_model.specs.Start.{drain_begun, resumed_state}
use Rattle.gm_model.specs.Sys.{Sys}

-- what is picked next: the n-th pending event, served at a tick; that all parts drain; that they go on; a byte of input.
-- A change of the mode comes with the timing mode.
pub data Pick : Type 0 where
  Fire : (n tick : ℕ) → Pick
  Drain : Pick
  Resume : Pick
  Input : (byte : ℕ) → Pick

-- a machine, what was noted on the way to it, and which packets came to be and to an end
pub record Picked : Type 0 where
  pub sys : Sys
  pub entries : List Entry
  pub moves : Moves

-- nothing happens
abbrev pub unpicked : Sys → Picked
unpicked s = record { sys = s; entries = []; moves = no_moves }

-- a command, which notes nothing
abbrev pub commanded_to : Sys → Picked
commanded_to s = record { sys = s; entries = []; moves = no_moves }

-- one pick; one whose condition fails changes nothing
abbrev pub picked : Sys → Pick → Picked
picked s (Fire n t) =
    if nat_le s.tick t && nat_le t TOP
    then record { sys = (fire s n t).sys; entries = (fire s n t).entries; moves = fire_moves s n t }
    else unpicked s
picked s Drain = commanded_to (drain_begun s)
picked s Resume = if s.draining && is_settled s then commanded_to (resumed_state s) else unpicked s
picked s (Input b) = commanded_to (record s { objects = map (with_input b) s.objects })

-- first one, and then the other
abbrev pub then_picked : Picked → Picked → Picked
then_picked a b = record { sys = b.sys; entries = a.entries ++ b.entries; moves = joined a.moves b.moves }

-- picks in order
unfoldable pub any_run : Sys → List Pick → Picked
any_run s [] = unpicked s
any_run s (p ∷ ps) = then_picked (picked s p) (any_run (picked s p).sys ps)
