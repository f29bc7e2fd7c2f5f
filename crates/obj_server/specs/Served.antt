-- The state that a served part shows. This project's own rule.
use Rattle.std.specs.Prelude.{Option, Some, None}
use Rattle.gm_model.specs.ObjState.{ObjState, Blank, Device}
use Rattle.gm_words.specs.declared.kind.Kind.{Kind}
use Rattle.obj_server.specs.Server.{server_of}
use Rattle.obj_server.specs.declared.configured.Configured.{Configured}

-- the server with the device that is shown, once it is configured; before that the part has its kind alone
abbrev pub served_state : {X : Type 0} {g : _} → Kind → (X → Device) → Option (Configured X g) → ObjState
served_state k shown None = Blank k
served_state k shown (Some c) = server_of c.server (shown c.device)
