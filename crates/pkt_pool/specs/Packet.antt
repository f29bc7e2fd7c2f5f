-- Packets: how they are made, what they carry, and how they become responses. This project's own rules.
use Rattle.std.specs.Prelude.{ℕ, ◌+◌, ◌-◌, nat_lt, if◌then◌else◌, Bool, true, false, List, ◌++◌, length, take, drop, replicate, slice_index, slice_set}
use Rattle.pkt_pool.specs.declared.cmd.Cmd.{Cmd}
use Rattle.pkt_pool.specs.declared.cmd.Cmd.TheVariants as cmds
use Rattle.pkt_pool.specs.declared.packet.Packet.{Packet}

-- a stack of this depth with one port more; a full stack of 8 stays as it is
abbrev pub depth_with : ℕ → ℕ
depth_with depth = if nat_lt depth 8 then depth + 1 else depth

-- the packet with a port on top of its stack
abbrev pub pushed : Packet → ℕ → Packet
pushed p port = record p { stack = slice_set p.stack p.depth port; depth = depth_with p.depth }

-- the port on top of its stack
abbrev pub top_port : Packet → ℕ
top_port p = slice_index p.stack (p.depth - 1)

-- the packet without the port on top of its stack; what is above the top has no meaning
abbrev pub popped : Packet → Packet
popped p = record p { depth = p.depth - 1 }

-- the bytes that are read or written
abbrev pub carried_bytes : Packet → List ℕ
carried_bytes p = take p.size p.bytes

-- a packet's bytes with others in front
abbrev pub with_front : List ℕ → List ℕ → List ℕ
with_front bytes front = front ++ drop (length front) bytes

-- a new request with the number n, whose bytes are these in front and zeros behind
abbrev pub request : ℕ → ℕ → Cmd → ℕ → ℕ → List ℕ → Bool → Packet
request n src cmd addr size front uncached = record {
  id = record { 0 = n };
  src = src;
  cmd = cmd;
  addr = addr;
  size = size;
  bytes = with_front (replicate 64 0) front;
  uncached = uncached;
  fault = false;
  stack = replicate 8 0;
  depth = 0;
}

-- the response to a read, with the bytes that were read
abbrev pub read_response : Packet → List ℕ → Packet
read_response p data_read = record p { cmd = cmds.ReadResp; bytes = with_front p.bytes data_read }

-- the response to a write
abbrev pub write_response : Packet → Packet
write_response p = record p { cmd = cmds.WriteResp }

-- the response to a request that is refused by fault; a read gets zeros, and what has no response stays
abbrev pub fault_response : Packet → Cmd → Packet
fault_response p cmds.Read = record (read_response p (replicate p.size 0)) { fault = true }
fault_response p cmds.Write = record (write_response p) { fault = true }
fault_response p cmds.WriteBack = p
fault_response p cmds.ReadResp = p
fault_response p cmds.WriteResp = p

-- it is a response
abbrev pub is_response : Cmd → Bool
is_response cmds.Read = false
is_response cmds.Write = false
is_response cmds.WriteBack = false
is_response cmds.ReadResp = true
is_response cmds.WriteResp = true

-- it is a write-back, which has no response
abbrev pub is_write_back : Cmd → Bool
is_write_back cmds.WriteBack = true
is_write_back cmds.Read = false
is_write_back cmds.Write = false
is_write_back cmds.ReadResp = false
is_write_back cmds.WriteResp = false

-- it writes
abbrev pub is_write : Cmd → Bool
is_write cmds.Read = false
is_write cmds.Write = true
is_write cmds.WriteBack = true
is_write cmds.ReadResp = false
is_write cmds.WriteResp = true
