-- Memory: RAM as one list of bytes. This project's own rules: which accesses there are, and what they answer.
use Rattle.std.specs.Prelude.{ℕ, ◌+◌, ◌-◌, nat_le, nat_lt, ◌&&◌, Bool, true, false, if◌then◌else◌, List, [], ◌∷◌, ◌++◌, take, drop, length, Option, Some, None}
use Rattle.rv_step.specs.FlatMem.{ram_put}
use Rattle.gm_words.specs.Entries.{ram_bytes}
use Rattle.gm_words.specs.Flow.{Queued}
use Rattle.pkt_pool.specs.Packet.{carried_bytes, is_write_back, read_response, write_response}
use Rattle.pkt_pool.specs.declared.cmd.Cmd.{Cmd}
use Rattle.pkt_pool.specs.declared.cmd.Cmd.TheVariants as cmds
use Rattle.pkt_pool.specs.declared.packet.Packet.{Packet}
use Rattle.gm_model.specs.ObjState.{Memory}
use Rattle.gm_model.specs.Serve.{Served, served, ignored, refused}

-- Requests.

-- RAM serves a request that lies in it, and a write-back has no response; one that doesn't is refused as a device would
abbrev pub serve_memory : List ℕ → Packet → Cmd → Bool → Served
serve_memory m p cmds.Read true = served (Memory m) p (read_response p (ram_bytes m p.addr p.size)) false
serve_memory m p cmds.Read false = refused (Memory m) p true
serve_memory m p cmds.Write true = served (Memory (ram_put m p.addr (carried_bytes p))) p (write_response p) false
serve_memory m p cmds.Write false = refused (Memory m) p true
serve_memory m p cmds.WriteBack true = ignored (Memory (ram_put m p.addr (carried_bytes p))) p
serve_memory m p cmds.WriteBack false = ignored (Memory m) p
serve_memory m p cmds.ReadResp within = ignored (Memory m) p
serve_memory m p cmds.WriteResp within = ignored (Memory m) p

-- Packets without time.

-- it is a write-back of bytes among which the address is
abbrev pub covers : Packet → ℕ → Bool
covers p address = is_write_back p.cmd && nat_le p.addr address && nat_lt address (p.addr + p.size)

-- so many bytes at an address of the newest write-back in a queue that covers it, if one does
abbrev pub queued_bytes : List Queued → ℕ → ℕ → Option (List ℕ)
queued_bytes [] address count = None
queued_bytes (q ∷ qs) address count = newer (queued_bytes qs address count) where
  newer : Option (List ℕ) → Option (List ℕ)
  newer (Some bytes) = Some bytes
  newer None =
      if covers q.packet address then Some (take count (drop (address - q.packet.addr) (carried_bytes q.packet))) else None

-- the bytes that a memory shows: those of its newest queued write-back that covers them, else RAM's
abbrev pub memory_bytes : Option (List ℕ) → List ℕ → ℕ → ℕ → List ℕ
memory_bytes (Some bytes) m address count = bytes
memory_bytes None m address count = ram_bytes m address count

-- Own bytes.

-- a list with others from a place on
abbrev pub with_bytes_at : List ℕ → ℕ → List ℕ → List ℕ
with_bytes_at m at bytes = take at m ++ bytes ++ drop (at + length bytes) m
