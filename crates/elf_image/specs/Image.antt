-- What a file says as an image. ELF-64 object file format; that other files are raw images, and where RAM lies, are this
-- project's own rules.
use Rattle.std.specs.Prelude.{ℕ, ◌+◌, ◌≤◌, nat_le, if◌then◌else◌, Option, Some, None, Result, Ok, Err, List, [], ◌∷◌, length}
use Rattle.rv_step.specs.FlatMem.{ram_base}
use Rattle.elf_image.specs.Header.{is_elf, entry_of, header_fault}
use Rattle.elf_image.specs.Segment.{faulty_segment, pieces_of}
use Rattle.elf_image.specs.declared.fault.ElfFault.{ElfFault}
use Rattle.elf_image.specs.declared.fault.ElfFault.TheVariants as faults
use Rattle.elf_image.specs.declared.image.Image.{Image}
use Rattle.elf_image.specs.declared.piece.Piece.{Piece}

-- a raw image goes to RAM's first byte as it is, and starts there; it is refused where it is longer than RAM
abbrev pub raw_image : List ℕ → ℕ → Result Image ElfFault
raw_image file ram =
    if nat_le (length file) ram
    then Ok (record { entry = ram_base; pieces = record { addr = ram_base; bytes = file; zeros = 0 } ∷ [] })
    else Err faults.Raw

-- the image of an ELF file whose header is sound, by its first faulty segment
abbrev pub segments_image : List ℕ → Option ℕ → Result Image ElfFault
segments_image file (Some i) = Err (faults.Segment i)
segments_image file None = Ok (record { entry = entry_of file; pieces = pieces_of file })

-- the image of an ELF file, by the first fault of its header
abbrev pub header_image : List ℕ → ℕ → Option ElfFault → Result Image ElfFault
header_image file ram (Some fault) = Err fault
header_image file ram None = segments_image file (faulty_segment file ram)

-- the image of an ELF file: its header is looked at first, then its segments
abbrev pub elf_image : List ℕ → ℕ → Result Image ElfFault
elf_image file ram = header_image file ram (header_fault file)

-- the image of a file where RAM has so many bytes, or its first fault
abbrev pub image_of : List ℕ → ℕ → Result Image ElfFault
image_of file ram = if is_elf file then elf_image file ram else raw_image file ram

-- the whole piece, its zeros with it, lies in RAM of so many bytes
pub record LiesInRam (ram : ℕ) (p : Piece) : Type 0 where
  pub above : ram_base ≤ p.addr
  pub below : p.addr + length p.bytes + p.zeros ≤ ram_base + ram
