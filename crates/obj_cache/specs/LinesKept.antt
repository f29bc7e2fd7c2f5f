-- How the lines of a cache are kept: in its tags. This project's own rule.
use Rattle.std.specs.Prelude.{ℕ, ◌<◌, ◌≤◌}
use Rattle.cache_tags.specs.declared.place.Place.{Place}
use Rattle.cache_tags.specs.Kept.{Kept, lines_of, written, IsSoundCache}
use Rattle.pkt_pool.specs.Packet.{carried_bytes}
use Rattle.pkt_pool.specs.declared.cmd.Cmd.{Cmd}
use Rattle.pkt_pool.specs.declared.cmd.Cmd.TheVariants as cmds
use Rattle.pkt_pool.specs.declared.packet.Packet.{Packet}
use Rattle.obj_cache.specs.Sets.{Sets}

-- what contracts see of them
abbrev pub shown : Kept → Sets
shown t = record { ways = t.ways; line = t.line; lines = lines_of t }

-- they are sound, and a line has some bytes, and 64 at most
pub record AreLines (t : Kept) : Type 0 where
  pub sound : IsSoundCache t
  pub some : 0 < t.line
  pub most : t.line ≤ 64

-- what is kept once the line at a place has served a request, of which it is written from an offset on
abbrev pub served_at : Kept → Place → ℕ → Packet → Cmd → Kept
served_at t at offset x cmds.Read = t
served_at t at offset x cmds.Write = written t at offset (carried_bytes x)
served_at t at offset x cmds.WriteBack = written t at offset (carried_bytes x)
served_at t at offset x cmds.ReadResp = t
served_at t at offset x cmds.WriteResp = t
