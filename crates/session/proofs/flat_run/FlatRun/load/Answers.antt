use Rattle.std.proofs.Common.{refl}
use Rattle.session.proofs.RunLemmas.{loaded_start}
use Rattle.session.proofs.flat_run.FlatRun.load.Goals as goal

pub returns : goal.returns
returns c = loaded_start c.args.image.now _ _ _ _ c.reset.ensures.value refl c.items.ensures c.load_pieces.ensures
