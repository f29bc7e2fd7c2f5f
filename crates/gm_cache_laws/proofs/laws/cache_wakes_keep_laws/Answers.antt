use Rattle.gm_cache_laws.proofs.Caches.{cache_starts_ok, cache_wakes_hold}
use Rattle.gm_cache_laws.proofs.laws.cache_wakes_keep_laws.Goals as goal

pub returns-clause-start : goal.returns-clause-start
returns-clause-start c = cache_starts_ok

pub returns-clause-wakes : goal.returns-clause-wakes
returns-clause-wakes c = cache_wakes_hold
