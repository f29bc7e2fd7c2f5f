-- A file that is started is empty, and the others stand.
use Rattle.std.proofs.Common.{◌≡◌, arith}
use Rattle.gc_outside.specs.KeptFiles.{with_empty}
use Rattle.gc_outside.proofs.Files.{started}
use Rattle.gc_outside.proofs.mem_store.MemStoreStore.begin_put.Goals as goal

pub returns-clause-empty : goal.returns-clause-empty
returns-clause-empty c =
    let files : c.start.new.self.files ≡ with_empty c.args.name.now c.args.self.now.kept.files = grind arith in
    rw files (started c.args.name.now c.args.self.now.kept.files)
