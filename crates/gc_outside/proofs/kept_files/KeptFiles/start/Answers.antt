-- A place is free once the old file is out.
use Rattle.std.proofs.Common.{arith, ap, ◌∙◌, sym, length}
use Rattle.gc_outside.proofs.Arena.{length-files_in, length-without_placed}
use Rattle.gc_outside.proofs.kept_files.KeptFiles.start.Goals as goal

pub insert-requires : goal.insert-requires
insert-requires c =
    let count = sym (length-files_in c.self.inside.entries.items c.self.inside.bytes.items) ∙ ap (λ k. length k.files) (c.self.view_is ∙ c.take_out.ensures.others) in
    (omega arith, (omega arith, omega (arith, count, length-without_placed c.args.name.now c.args.self.now.files c.requires c.take_out.ensures.bounded)))
