use Rattle.gm_cache.proofs.Examples.{reads_without_time}
use Rattle.gm_cache.proofs.example.reads_without_time.Goals as goal

pub returns : goal.returns
returns c = reads_without_time
