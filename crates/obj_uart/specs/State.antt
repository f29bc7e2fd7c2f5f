-- The state that the UART shows. This project's own rule.
use Rattle.gm_model.specs.ObjState.{UartState}
use Rattle.obj_uart.specs.declared.device.UartDevice.{UartDevice}

-- the device's state, with the input as a list
abbrev pub uart_of : UartDevice → UartState
uart_of u = record { chartime = u.chartime; busy = u.busy; input = u.input.items }
