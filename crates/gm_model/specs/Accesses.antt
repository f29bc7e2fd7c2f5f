-- The accesses that a hart makes, as packets. This project's own rules.
use Rattle.std.specs.Prelude.{ℕ, false, not, []}
use Rattle.rv_step.specs.Bytes.{bytes_of}
use Rattle.pkt_pool.specs.Packet.{request}
use Rattle.gm_words.specs.Platform.{is_in_ram, fetch_source, data_source}
use Rattle.pkt_pool.specs.declared.cmd.Cmd.TheVariants as cmds
use Rattle.pkt_pool.specs.declared.packet.Packet.{Packet}

-- the fetch of the word at pc
abbrev pub fetch_request : ℕ → ℕ → Packet
fetch_request n pc = request n fetch_source cmds.Read pc 4 [] false

-- the data access of a load
abbrev pub load_request : ℕ → ℕ → ℕ → ℕ → Packet
load_request ram n address size = request n data_source cmds.Read address size [] (not (is_in_ram ram address size))

-- the data access of a store of the number v
abbrev pub store_request : ℕ → ℕ → ℕ → ℕ → ℕ → Packet
store_request ram n address size v =
    request n data_source cmds.Write address size (bytes_of size v) (not (is_in_ram ram address size))
