-- What a device does when it is asked, as a relation to the rules of servers. This project's own rules.
use Rattle.std.specs.Prelude.{◌≡◌, List, [], ◌∷◌}
use Rattle.gm_words.specs.Flow.{Queued}
use Rattle.gm_model.specs.Server.{functional_read}
use Rattle.gm_model.specs.ObjState.{ServerState, Device}
use Rattle.gm_words.specs.Platform.{device_class, own_slot}
use Rattle.gm_words.specs.Changes.{Change, Schedule, Remove}
use Rattle.pkt_pool.specs.declared.packet.Packet.{Packet}
use Rattle.obj_server.specs.declared.own_event.OwnEvent.{OwnEvent}
use Rattle.obj_server.specs.declared.own_event.OwnEvent.TheVariants.{Stays, Comes, Goes}

-- the changes to own events, by what becomes of a device's own
abbrev pub own_changes : OwnEvent → List Change
own_changes Stays = []
own_changes (Comes at) = Schedule own_slot device_class at ∷ []
own_changes Goes = Remove own_slot ∷ []

-- a read without time makes the packet this one, where these requests are queued
abbrev pub ReadsAtOnce : Device → List Queued → Packet → Packet → Type 0
ReadsAtOnce d items p after = (s : ServerState) → s.flow.items ≡ items → after ≡ functional_read s p d
