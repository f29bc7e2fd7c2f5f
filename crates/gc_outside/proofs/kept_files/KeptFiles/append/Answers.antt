-- The newest file is the last in the block, so that it grows at its end.
use Rattle.std.proofs.Common.{◌≡◌, ◌+◌, ◌<◌, ◌≤◌, length-append, ◌++◌, length, ap, ◌∙◌, arith, vec_len}
use Rattle.arrayvec.proofs.ArrayVecLemmas.{items-with_items}
use Rattle.std.specs.List.{refill}
use Rattle.gc_outside.specs.Arena.{with_longer, entries_length, files_in}
use Rattle.gc_outside.specs.KeptFiles.{with_grown}
use Rattle.gc_outside.proofs.Arena.{total_length-shared, length-files_in, files_in-longer, entries_length-longer, length-longer, left_by_ok}
use Rattle.gc_outside.proofs.kept_files.KeptFiles.append.Goals as goal
use Rattle.gc_outside.proofs.kept_files.KeptFiles.append.Goals.{After-extend_from_slice}

-- the entries are those with the newest longer
entries : (c : After-extend_from_slice) → refill (length c.self.inside.entries.items) c.self.inside.entries.items c.lengthen.new.entries ≡ with_longer (length c.args.bytes.now) c.self.inside.entries.items
entries c =
    let longer = c.lengthen.ensures ∙ ap (with_longer (length c.args.bytes.now)) c.as_mut_slice.ensures.value in
    items-with_items c.self.inside.entries c.lengthen.new.entries (ap length longer ∙ length-longer c.self.inside.entries.items (length c.args.bytes.now)) ∙ longer

-- the bytes fit
fits : (c : After-extend_from_slice) → vec_len c.self.inside.bytes + length c.args.bytes.now ≤ c.self.inside.room
fits c =
    let spare = rw (← c.self.view_is) at c.requires.fits in
    omega (arith, spare, total_length-shared c.self.inside c.self.invariant, c.self.invariant.within)

-- and are put at the end
bytes : (c : After-extend_from_slice) → c.extend_from_slice.new.self.items ≡ c.self.inside.bytes.items ++ c.args.bytes.now
bytes c =
    let within = fits c in
    let ok = c.extend_from_slice.ensures.succeeds (omega (arith, within, c.self.invariant.has_memory)) in
    c.extend_from_slice.ensures.items ∙ left_by_ok c.extend_from_slice.result _ _ ok

-- there is a newest file
some : (c : After-extend_from_slice) → 0 < length c.self.inside.entries.items
some c =
    let files = rw (← c.self.view_is) at c.requires.started in
    omega (arith, files, length-files_in c.self.inside.entries.items c.self.inside.bytes.items)

pub invariant_of-self : goal.invariant_of-self
invariant_of-self c = record {
  shared =
      ap entries_length (entries c) ∙ entries_length-longer c.self.inside.entries.items (length c.args.bytes.now) (some c)
      ∙ (let same : entries_length c.self.inside.entries.items + length c.args.bytes.now ≡ vec_len c.extend_from_slice.new.self =
      omega (arith, c.self.invariant.shared, c.extend_from_slice.new.self.ok.0, c.self.inside.bytes.ok.0, ap length (bytes c), length-append c.self.inside.bytes.items c.args.bytes.now) in same);
  within = omega (arith, fits c, c.extend_from_slice.new.self.ok.0, c.self.inside.bytes.ok.0, ap length (bytes c), length-append c.self.inside.bytes.items c.args.bytes.now);
  has_memory = omega (arith, c.self.invariant.has_memory, c.extend_from_slice.ensures.capacity);
}

pub returns : goal.returns
returns c =
    let grown : files_in c.extend_from_slice.new.self.items (refill (length c.self.inside.entries.items) c.self.inside.entries.items c.lengthen.new.entries) ≡ with_grown c.args.bytes.now (files_in c.self.inside.bytes.items c.self.inside.entries.items) =
    (λ i. files_in (bytes c i) (entries c i))
    ∙ files_in-longer c.self.inside.entries.items c.self.inside.bytes.items c.args.bytes.now (omega (arith, c.self.invariant.shared, c.self.inside.bytes.ok.0)) in
    rw (← c.self.view_is) (λ i. record { files = grown i; room = c.self.inside.room })
