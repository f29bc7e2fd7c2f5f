use Rattle.gm_cache.proofs.Examples.{wakes_give_rows}
use Rattle.gm_cache.proofs.example.wakes_give_rows.Goals as goal

pub returns : goal.returns
returns c = wakes_give_rows
