-- As the sure store tells.
use Rattle.gc_outside.proofs.Sure.{sure_begun-tells}
use Rattle.gc_outside.proofs.sure_store.SureStoreStore.begin_put.Goals as goal

pub returns-clause-empty : goal.returns-clause-empty
returns-clause-empty c = rw c.begin.ensures (sure_begun-tells c.args.name.now c.args.self.now)
