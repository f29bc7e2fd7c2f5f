use Rattle.elf_image.proofs.BlockLaws.{unmarked}
use Rattle.gc_base.specs.declared.limits.TheConstants.{PAGE}
use Rattle.std.proofs.Common.{◌/◌}
use Rattle.elf_image.proofs.written_pages.WrittenPages.new.Goals as goal

pub returns : goal.returns
returns c = λ place. unmarked 4096 (place / PAGE)
