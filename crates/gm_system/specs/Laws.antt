-- The theorems on machines: they start sound, they stay sound, and each event comes to an end. This project's own laws.
use Rattle.std.specs.Prelude.{◌≡◌, ℕ, ◌+◌, ◌-◌, ◌≤◌, List, [], length, map, slice_get, Some}
use Rattle.cfg_tree.specs.Valid.{IsValidConfig}
use Rattle.cfg_tree.specs.declared.config.Config.{Config}
use Rattle.ev_queue.specs.declared.due.Due.{Due}
use Rattle.ev_queue.specs.PendingList.{first}
use Rattle.ev_queue.specs.declared.slot.Slot.{Slot}
use Rattle.rv_step.specs.FlatMem.{ram_base}
use Rattle.gc_base.specs.declared.limits.TheConstants.{LAST}
use Rattle.gm_words.specs.Entries.{console_of}
use Rattle.gm_words.specs.Platform.{platform}
use Rattle.gm_words.specs.Slots.{given_table}
use Rattle.gm_model.specs.Command.{with_input}
use Rattle.gm_model.specs.Deliver.{Delivery, deliver_first, deliver, items_max}
use Rattle.gm_model.specs.Fire.{Ran, fire, fire_first, event_begun, taken_out}
use Rattle.gm_model.specs.Start.{start_state, drain_begun, resumed_state, with_raw}
use Rattle.gm_model.specs.Sys.{Sys}
use Rattle.gm_model.specs.View.{own_ram}
use Rattle.gm_system.specs.Machine.{IsSteady, IsMachineSound, IsDeliverySound, IsTimely, entries_max}

-- a machine is sound at its start, in either mode; and once it drains, goes on, gets input, or gets bytes in RAM, it still is
pub record StartsSound : Type 0 where
  pub start : (c : Config) (entry : ℕ) (ram : List ℕ) → IsValidConfig c → length ram ≤ c.system_ram
      → IsMachineSound (start_state c entry ram) (given_table 0 (platform c))
  pub drained : (s : Sys) (table : List Slot) → IsSteady s table → IsSteady (drain_begun s) table
  pub resumed : (s : Sys) (table : List Slot) → IsSteady s table → IsSteady (resumed_state s) table
  pub fed : (s : Sys) (table : List Slot) (b : ℕ) → IsSteady s table → IsSteady (record s { objects = map (with_input b) s.objects }) table
  pub put : (s : Sys) (table : List Slot) (address : ℕ) (bytes : List ℕ) → IsSteady s table
      → address - ram_base + length bytes ≤ length (own_ram s.objects) → IsSteady (with_raw address bytes s) table

-- what an event notes is little, and at most one byte of it is for the console
pub record IsSmallEvent (r : Ran) : Type 0 where
  pub entries : length r.entries ≤ entries_max
  pub console : length (console_of r.entries) ≤ 1

-- whichever event is served at whatever tick, from its owner's wake to its last delivery; and it comes to an end
pub record StaysSound : Type 0 where
  pub begun : (s : Sys) (table : List Slot) (n t : ℕ) (e : Due) → IsSteady s table → slice_get s.pending n ≡ Some e
      → IsDeliverySound (event_begun (taken_out s n t) e) table
  pub item : (d : Delivery) (table : List Slot) → IsDeliverySound d table → IsDeliverySound (deliver_first d d.items) table
  pub ends : (d : Delivery) (table : List Slot) → IsDeliverySound d table → (deliver items_max d).items ≡ []
  pub event : (s : Sys) (table : List Slot) (n t : ℕ) → IsSteady s table → IsSteady (fire s n t).sys table
  pub small : (s : Sys) (table : List Slot) (n t : ℕ) → IsSteady s table → IsSmallEvent (fire s n t)
  pub timely : (s : Sys) (table : List Slot) (d : Due) → IsSteady s table → IsTimely s → first s.pending ≡ Some d → d.tick ≤ LAST → IsTimely (fire_first s).sys
