-- An image that a file says lies in RAM.
use Rattle.std.proofs.Common.{◌≡◌, ℕ, ◌+◌, ◌≤◌, nat_le, Bool, true, false, if◌then◌else◌, All, List, [], ◌∷◌, length, Option, Some, None, Result, Ok, Err, refl, sym, ap, ◌∙◌, subst, arith}
use Rattle.std.proofs.lemmas.List.Elements.{All-cons, All-nil}
use Rattle.std.proofs.lemmas.Bool.Decides.{nat_tests}
use Rattle.elf_image.proofs.SegmentLemmas.{pieces_in_ram}
use Rattle.elf_image.specs.Header.{is_elf, entry_of, header_fault}
use Rattle.elf_image.specs.Image.{LiesInRam, raw_image, segments_image, header_image, elf_image, image_of}
use Rattle.elf_image.specs.Segment.{faulty_segment, pieces_of}
use Rattle.elf_image.specs.declared.fault.ElfFault.{ElfFault}
use Rattle.elf_image.specs.declared.fault.ElfFault.TheVariants as faults
use Rattle.elf_image.specs.declared.image.Image.{Image}
use Rattle.elf_image.specs.declared.piece.Piece.{Piece}
use Rattle.rv_step.specs.FlatMem.{ram_base}

-- a file that is one piece
abbrev raw_piece : List ℕ → Piece
raw_piece file = record { addr = ram_base; bytes = file; zeros = 0 }

abbrev raw_whole : List ℕ → Image
raw_whole file = record { entry = ram_base; pieces = raw_piece file ∷ [] }

raw_in_ram : (file : List ℕ) (ram : ℕ) (image : Image) → raw_image file ram ≡ Ok image → All (LiesInRam ram) image.pieces
raw_in_ram file ram image e = by_size (nat_le (length file) ram) refl e where
  by_size : (b : Bool) → nat_le (length file) ram ≡ b → (if b then Ok (raw_whole file) else Err faults.Raw) ≡ Ok image → All (LiesInRam ram) image.pieces
  by_size true s f =
      let same : raw_whole file ≡ image = cc in
      let fits : length file ≤ ram = grind (arith, nat_tests) in
      subst (λ (x : Image). All (LiesInRam ram) x.pieces) same
      (All-cons (LiesInRam ram) (raw_piece file) [] (record { above = omega arith; below = omega (arith, fits) }) (All-nil (LiesInRam ram)))
  by_size false s f = absurd (cc)

segments_in_ram : (file : List ℕ) (ram : ℕ) (image : Image) (o : Option ℕ) → faulty_segment file ram ≡ o → segments_image file o ≡ Ok image → All (LiesInRam ram) image.pieces
segments_in_ram file ram image (Some i) f e = absurd (cc)
segments_in_ram file ram image None f e =
    let whole : Image = record { entry = entry_of file; pieces = pieces_of file } in
    let same : whole ≡ image = cc in
    subst (λ (x : Image). All (LiesInRam ram) x.pieces) same (pieces_in_ram file ram f)

header_in_ram : (file : List ℕ) (ram : ℕ) (image : Image) (o : Option ElfFault) → header_image file ram o ≡ Ok image → All (LiesInRam ram) image.pieces
header_in_ram file ram image (Some fault) e = absurd (cc)
header_in_ram file ram image None e = segments_in_ram file ram image (faulty_segment file ram) refl e

pub image_in_ram : (file : List ℕ) (ram : ℕ) (image : Image) → image_of file ram ≡ Ok image → All (LiesInRam ram) image.pieces
image_in_ram file ram image e = by_kind (is_elf file) e where
  by_kind : (b : Bool) → (if b then elf_image file ram else raw_image file ram) ≡ Ok image → All (LiesInRam ram) image.pieces
  by_kind true f = header_in_ram file ram image (header_fault file) f
  by_kind false f = raw_in_ram file ram image f
