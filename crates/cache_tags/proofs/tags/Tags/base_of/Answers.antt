use Rattle.cache_tags.proofs.StoreLemmas.{base_picked}
use Rattle.cache_tags.proofs.tags.Tags.base_of.Goals as goal

pub returns : goal.returns
returns c = rw (← c.self.view_is) (base_picked _ _ _ _ _ c.self.invariant c.args.addr)
