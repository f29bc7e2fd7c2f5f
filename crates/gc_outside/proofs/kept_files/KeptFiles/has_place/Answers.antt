-- There is an entry for each file.
use Rattle.std.proofs.Common.{◌≡◌, length, true, false, ap, ◌∙◌, sym, is_some, nat_lt}
use Rattle.std.proofs.lemmas.Bool.{le-leb}
use Rattle.std.specs.Prelude.{nat_le}
use Rattle.gc_outside.specs.KeptFiles.{file_of}
use Rattle.gc_outside.proofs.Arena.{length-files_in, is_some-copied}
use Rattle.gc_outside.proofs.kept_files.KeptFiles.has_place.Goals as goal

pub returns-else-is_some : goal.returns-else-is_some
returns-else-is_some c =
    let short : nat_le (length c.args.name.now) 64 ≡ true = le-leb _ _ c.if-name-le-LONGEST_NAME.true in
    let new : is_some (file_of c.args.self.now.files c.args.name.now) ≡ false =
    ap is_some (sym c.file.ensures) ∙ is_some-copied c.file.result ∙ sym c.is_some.ensures ∙ c.if-is_some.false in
    let count : length c.args.self.now.files ≡ c.len.result =
    ap (λ k. length k.files) (sym c.self.view_is) ∙ length-files_in c.self.inside.entries.items c.self.inside.bytes.items ∙ sym c.len.ensures.value in
    rw (short, new) (ap (λ n. nat_lt n 16) (sym count))
