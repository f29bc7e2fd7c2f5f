-- The exit device: it keeps the first number that is written there. This project's own rules.
use Rattle.std.specs.Prelude.{ℕ, Bool, true, false, Option, Some, None}
use Rattle.pkt_pool.specs.Packet.{write_response}
use Rattle.gm_words.specs.Numbers.{carried_number}
use Rattle.pkt_pool.specs.declared.cmd.Cmd.{Cmd}
use Rattle.pkt_pool.specs.declared.cmd.Cmd.TheVariants as cmds
use Rattle.pkt_pool.specs.declared.packet.Packet.{Packet}
use Rattle.gm_model.specs.ObjState.{Exit}
use Rattle.gm_model.specs.Serve.{Served, served, ignored, refused}

-- Requests.

-- the number that is kept: the first that was written
abbrev pub kept_code : Option ℕ → ℕ → Option ℕ
kept_code None n = Some n
kept_code (Some m) n = Some m

-- an exit device serves a write of four bytes at offset 0
abbrev pub serve_exit : Option ℕ → Packet → Cmd → Bool → Served
serve_exit code p cmds.Write true = served (Exit (kept_code code (carried_number p))) p (write_response p) true
serve_exit code p cmds.Write false = refused (Exit code) p true
serve_exit code p cmds.Read within = refused (Exit code) p true
serve_exit code p cmds.WriteBack within = ignored (Exit code) p
serve_exit code p cmds.ReadResp within = ignored (Exit code) p
serve_exit code p cmds.WriteResp within = ignored (Exit code) p
