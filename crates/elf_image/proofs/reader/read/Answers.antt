use Rattle.std.proofs.Common.{◌≡◌, ◌∙◌, sym, true, All, length}
use Rattle.std.proofs.lemmas.Result.{IfOk-weaker}
use Rattle.elf_image.specs.Header.{is_elf}
use Rattle.elf_image.specs.Image.{LiesInRam}
use Rattle.elf_image.specs.Ram.{ram_of}
use Rattle.elf_image.specs.declared.image.Image.{Image}
use Rattle.elf_image.proofs.RamLaws.{length-ram_of}
use Rattle.elf_image.proofs.reader.read.Goals as goal

pub returns-then-starts_with-clause-size : goal.returns-then-starts_with-clause-size
returns-then-starts_with-clause-size c =
    IfOk-weaker c.read_elf.result (λ (image : Image). All (LiesInRam c.args.ram) image.pieces) (λ (image : Image). length (ram_of image c.args.ram) ≡ c.args.ram)
    (λ image a. length-ram_of image c.args.ram a) c.read_elf.ensures.in_ram

pub returns-then-starts_with-clause-fault : goal.returns-then-starts_with-clause-fault
returns-then-starts_with-clause-fault c =
    let elf : is_elf c.args.file.now ≡ true = sym c.starts_with.ensures.value ∙ c.if-starts_with.true in
    rw elf c.read_elf.ensures.fault
