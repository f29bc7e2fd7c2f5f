-- What a UART's registers give that are read, by their offsets. This project's own rules.
use Rattle.std.specs.Prelude.{ℕ, ◌==◌, if◌then◌else◌, drop}
use Rattle.gm_model.specs.ObjState.{UartState}
use Rattle.gm_model.specs.Uart.{first_byte, line_status}

-- the oldest input byte at offset 0, the line status at 5, and else 0
abbrev pub read_value : UartState → ℕ → ℕ
read_value u offset = if offset == 0 then first_byte u.input else if offset == 5 then line_status u else 0

-- the UART afterwards: a read at offset 0 takes the oldest input byte
abbrev pub after_read : UartState → ℕ → UartState
after_read u offset = if offset == 0 then record u { input = drop 1 u.input } else u
