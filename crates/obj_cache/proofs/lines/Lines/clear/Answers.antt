use Rattle.obj_cache.proofs.LinesLemmas.{cleared}
use Rattle.obj_cache.proofs.lines.Lines.clear.Goals as goal

pub returns : goal.returns
returns c = rw (← c.self.view_is) (cleared c.self.inside.tags c.clear.new.self c.clear.ensures.emptied)
