-- The theorems, each as the contracts have it.
use Rattle.std.specs.Prelude.{slice_get}
use Rattle.std.proofs.Common.{◌≡◌, ℕ, ◌≤◌, arith, List, length, Option, Some, None, refl}
use Rattle.ev_queue.specs.declared.due.Due.{Due}
use Rattle.ev_queue.specs.declared.slot.Slot.{Slot}
use Rattle.gm_model.specs.Fire.{fire_event, fire}
use Rattle.gm_model.specs.Sys.{Sys}
use Rattle.gm_system.specs.Laws.{StartsSound, StaysSound}
use Rattle.gm_system.specs.Machine.{IsSteady}
use Rattle.gm_system.proofs.Commands.{drained_steady, resumed_steady, input_steady, put_steady}
use Rattle.gm_system.proofs.Machines.{begun_sound, first_sound, all_delivered, event_sound, fire_sound, fire_bytes}
use Rattle.gm_system.proofs.Runs.{fire_timely}
use Rattle.gm_system.proofs.Started.{start_sound}

fired_entries : (s : Sys) (table : List Slot) (n t : ℕ) (o : Option Due) → IsSteady s table → slice_get s.pending n ≡ o → length (fire_event s n t o).entries ≤ 512
fired_entries s table n t None h g = omega arith
fired_entries s table n t (Some e) h g = omega (arith, (event_sound s table n t e h g).entries)

pub fire_entries : (s : Sys) (table : List Slot) (n t : ℕ) → IsSteady s table → length (fire s n t).entries ≤ 512
unfolding fire
fire_entries s table n t h = fired_entries s table n t (slice_get s.pending n) h refl

pub starts_sound : StartsSound
starts_sound = record { start = start_sound; drained = drained_steady; resumed = resumed_steady; fed = input_steady; put = put_steady }

pub stays_sound : StaysSound
stays_sound = record {
  begun = begun_sound;
  item = first_sound;
  ends = all_delivered;
  event = fire_sound;
  small = λ s table n t h. record { entries = fire_entries s table n t h; console = fire_bytes s table n t h };
  timely = fire_timely;
}
