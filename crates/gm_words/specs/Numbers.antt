-- The numbers that packets carry, as the hart reads bytes. This project's own rules.
use Rattle.std.specs.Prelude.{ℕ}
use Rattle.rv_step.specs.Bytes.{number}
use Rattle.pkt_pool.specs.Packet.{carried_bytes}
use Rattle.pkt_pool.specs.declared.cmd.Cmd.{Cmd}
use Rattle.pkt_pool.specs.declared.cmd.Cmd.TheVariants as cmds
use Rattle.pkt_pool.specs.declared.packet.Packet.{Packet}

-- the number of the bytes that are read or written
abbrev pub carried_number : Packet → ℕ
carried_number p = number (carried_bytes p)

-- the number that a response brings to who asked: a read's, else 0
abbrev pub response_number : Packet → Cmd → ℕ
response_number p cmds.ReadResp = carried_number p
response_number p cmds.Read = 0
response_number p cmds.Write = 0
response_number p cmds.WriteBack = 0
response_number p cmds.WriteResp = 0
