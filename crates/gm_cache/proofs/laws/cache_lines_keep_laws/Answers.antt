use Rattle.gm_cache.proofs.Wakes.{starts_with_tags, wakes_keep_tags, wakes_move_lines}
use Rattle.gm_cache.proofs.Waiting.{wakes_move_waiting}
use Rattle.gm_cache.proofs.laws.cache_lines_keep_laws.Goals as goal

pub returns-clause-start : goal.returns-clause-start
returns-clause-start c = starts_with_tags

pub returns-clause-tags : goal.returns-clause-tags
returns-clause-tags c = wakes_keep_tags

pub returns-clause-lines : goal.returns-clause-lines
returns-clause-lines c = wakes_move_lines

pub returns-clause-waiting : goal.returns-clause-waiting
returns-clause-waiting c = wakes_move_waiting
