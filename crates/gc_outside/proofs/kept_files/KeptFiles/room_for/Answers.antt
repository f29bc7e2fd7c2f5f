-- The other files and the one of this name have all bytes.
use Rattle.std.proofs.Common.{◌≡◌, arith, ap, ◌∙◌, sym, refl, length, []}
use Rattle.std.specs.Prelude.{unwrap_or, vec_len}
use Rattle.gc_outside.specs.KeptFiles.{file_of, total_length}
use Rattle.gc_outside.proofs.Arena.{total_length-shared, total_length-without, unwrap_or-copied}
use Rattle.gc_outside.proofs.kept_files.KeptFiles.room_for.Goals as goal
use Rattle.gc_outside.proofs.kept_files.KeptFiles.room_for.Goals.{After-len}

-- what the file of this name has
had : (c : After-len) → length c.unwrap_or-had.result.now ≡ length (unwrap_or (file_of c.args.self.now.files c.args.name.now) [])
had c =
    ap (λ r. length r.now) c.unwrap_or-had.ensures ∙ ap length (unwrap_or-copied c.file.result _ refl)
    ∙ ap (λ o. length (unwrap_or o [])) c.file.ensures

-- what all files have
all : (c : After-len) → total_length c.args.self.now.files ≡ vec_len c.self.inside.bytes
all c = ap (λ k. total_length k.files) (sym c.self.view_is) ∙ total_length-shared c.self.inside c.self.invariant

pub overflow_sub-result : goal.overflow_sub-result
overflow_sub-result c = omega (arith, had c, all c, total_length-without c.args.name.now c.args.self.now.files)

pub returns : goal.returns
returns c =
    let room = ap (λ k. k.room) c.self.view_is in
    omega (arith, had c, all c, total_length-without c.args.name.now c.args.self.now.files, room)
