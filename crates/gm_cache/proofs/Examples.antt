-- The example, computed.
use Rattle.std.proofs.Common.{refl}
use Rattle.gm_cache.specs.Example.{WakesGiveRows, ReadsWithoutTime}
use Rattle.gm_cache.specs.Rule.{cache_step, is_blocked, serving_all, backs}

pub wakes_give_rows : WakesGiveRows
unfolding cache_step is_blocked serving_all backs
wakes_give_rows = record { passing = refl; filling = refl; writing_back = refl; driving_out = refl; lacking_places = refl; filling_over_dirty = refl; staying_blocked = refl; filling_over_clean = refl; ending = refl; using_registers = refl }

pub reads_without_time : ReadsWithoutTime
unfolding cache_step is_blocked serving_all backs
reads_without_time = record { of_a_write_back_that_waits = refl; of_a_line = refl; of_a_write_back_that_leaves = refl; of_nobody = refl }
