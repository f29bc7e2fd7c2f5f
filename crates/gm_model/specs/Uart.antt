-- The UART: it sends a byte at a time, and keeps input until it is read. This project's own rules; its registers are those of the
-- 16550 in part.
use Rattle.std.specs.Prelude.{ℕ, ◌+◌, ◌-◌, ◌==◌, nat_lt, Bool, true, false, if◌then◌else◌, List, [], ◌∷◌, ◌++◌, drop, length}
use Rattle.rv_step.specs.Flat.{uart_base}
use Rattle.gm_words.specs.Changes.{Schedule}
use Rattle.pkt_pool.specs.Packet.{read_response, write_response}
use Rattle.gm_words.specs.Platform.{device_class, own_slot}
use Rattle.pkt_pool.specs.declared.cmd.Cmd.{Cmd}
use Rattle.pkt_pool.specs.declared.cmd.Cmd.TheVariants as cmds
use Rattle.pkt_pool.specs.declared.packet.Packet.{Packet}
use Rattle.gm_model.specs.ObjState.{Uart, UartState}
use Rattle.gm_model.specs.Serve.{Served, served, ignored, refused}

-- Requests.

-- the oldest input byte, or 0
abbrev pub first_byte : List ℕ → ℕ
first_byte [] = 0
first_byte (b ∷ bs) = b

-- the line status: bit 0 says that input waits, and bit 5 that a byte can be sent
abbrev pub line_status : UartState → ℕ
line_status u = (if waits u.input then 1 else 0) + (if u.busy then 0 else 32) where
  waits : List ℕ → Bool
  waits [] = false
  waits (b ∷ bs) = true

-- a read at offset 0 takes the oldest input byte, at offset 5 it gives the line status, and else 0
abbrev pub uart_read : UartState → Packet → ℕ → Served
uart_read u p offset =
    if offset == 0 then served (Uart (record u { input = drop 1 u.input })) p (read_response p (first_byte u.input ∷ [])) true
    else if offset == 5 then served (Uart u) p (read_response p (line_status u ∷ [])) true
    else served (Uart u) p (read_response p (0 ∷ [])) true

-- a write at offset 0 sends a byte, which keeps the UART busy for a while; another does nothing
abbrev pub uart_write : UartState → Packet → ℕ → ℕ → Served
uart_write u p now offset =
    if offset == 0
    then record (served (Uart (record u { busy = true })) p (write_response p) true) { changes = Schedule own_slot device_class (now + u.chartime) ∷ [] }
    else served (Uart u) p (write_response p) true

-- a UART serves one byte at offsets 0 to 7
abbrev pub serve_uart : UartState → Packet → ℕ → Cmd → Bool → Served
serve_uart u p now cmds.Read true = uart_read u p (p.addr - uart_base)
serve_uart u p now cmds.Read false = refused (Uart u) p true
serve_uart u p now cmds.Write true = uart_write u p now (p.addr - uart_base)
serve_uart u p now cmds.Write false = refused (Uart u) p true
serve_uart u p now cmds.WriteBack within = ignored (Uart u) p
serve_uart u p now cmds.ReadResp within = ignored (Uart u) p
serve_uart u p now cmds.WriteResp within = ignored (Uart u) p

-- Own event.

-- a byte was sent, so the next can be
abbrev pub uart_sent : UartState → UartState
uart_sent u = record u { busy = false }

-- Input.

-- there is a place for a byte
abbrev pub uart_takes_input : UartState → Bool
uart_takes_input u = nat_lt (length u.input) 256

-- a byte more, behind the others
abbrev pub uart_with_input : ℕ → UartState → UartState
uart_with_input b u = record u { input = u.input ++ b ∷ [] }
