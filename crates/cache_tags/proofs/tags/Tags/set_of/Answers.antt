use Rattle.cache_tags.proofs.StoreLemmas.{set_picked}
use Rattle.cache_tags.proofs.tags.Tags.set_of.Goals as goal

pub returns : goal.returns
returns c = rw (← c.self.view_is) (set_picked _ _ _ _ _ c.self.invariant c.args.addr)
