-- The way of a packet that is passed at once, from part to part: each passes it on, and nothing else happens, until one serves it.
-- This project's own rule.
use Rattle.std.specs.Prelude.{ℕ, zero, suc, ◌<◌, length}
use Rattle.pkt_pool.specs.declared.packet.Packet.{Packet}
use Rattle.gm_words.specs.declared.way.Way.{Way}
use Rattle.gm_words.specs.declared.way.Way.TheVariants as ways
use Rattle.gm_model.specs.Sys.{Sys, object_at, peer_in, pass_at}
use Rattle.gm_laws.specs.Laws.{GoesOn}
use Rattle.gm_system.specs.System.{faces}

-- from the part k it goes on, and from there it has a way; or it is served
abbrev pub GoesFrom : (ℕ → Type 0) → Sys → ℕ → Packet → Way → Type 0
GoesFrom on s k x (ways.Pass port latency) = GoesOn (faces s k) (object_at s k) x (pass_at s k x) port.0 × on (peer_in s.wires k port.0).part
GoesFrom on s k x (ways.Done latency) = Unit {0}

-- from the part k on it has a way of at most n parts
unfoldable pub HasWay : ℕ → Sys → ℕ → Packet → Type 0
HasWay zero s k x = ⊥
HasWay (suc n) s k x = (k < length s.objects) × GoesFrom (λ j. HasWay n s j x) s k x (pass_at s k x).way
