use Rattle.obj_cache.proofs.LinesLemmas.{started}
use Rattle.obj_cache.proofs.lines.Lines.new.Goals as goal

pub returns : goal.returns
returns c = started c.in_ok-new.field-0 c.args.sets c.args.ways c.args.line c.in_ok-new.ensures.empty
