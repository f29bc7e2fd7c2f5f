use Rattle.std.proofs.Common.{◌≡◌, rules}
use Rattle.elf_image.specs.Written.{elf_bytes}
use Rattle.elf_image.proofs.WrittenLaws.{reads_back}
use Rattle.elf_image.proofs.writer.write.Goals as goal

pub returns-clause-back : goal.returns-clause-back
returns-clause-back c =
    let file : c.put_words.new.file.items ≡ elf_bytes c.args.p.now.words = search rules in
    λ ram s h. rw file (reads_back c.args.p.now.words ram s h)
