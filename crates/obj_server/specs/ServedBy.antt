-- Who served a request, as it is noted. This project's own rule.
use Rattle.std.specs.Prelude.{Bool, true, false}
use Rattle.obj_server.specs.declared.served_by.ServedBy.{ServedBy}
use Rattle.obj_server.specs.declared.served_by.ServedBy.TheVariants as by

-- it was a device
abbrev pub is_device : ServedBy → Bool
is_device by.Ram = false
is_device by.Device = true
