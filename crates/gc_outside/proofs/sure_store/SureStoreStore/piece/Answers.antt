-- As the sure store tells.
use Rattle.gc_outside.proofs.Sure.{pieced_into-tells}
use Rattle.gc_outside.proofs.sure_store.SureStoreStore.piece.Goals as goal

pub returns-clause-whole : goal.returns-clause-whole
returns-clause-whole c = rw c.append.ensures.exact (pieced_into-tells c.args.bytes.now c.args.self.now c.args.self.now.put c.append.ensures.counted c.requires)
