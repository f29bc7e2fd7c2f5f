-- The ELF file of a program's words: one header, one segment, the words.
-- ELF-64 object file format, "ELF header" and "Program header table"; the choice of values is this project's own.
use Rattle.std.specs.Prelude.{ℕ, ◌*◌, List, [], ◌∷◌, ◌++◌, length, replicate}
use Rattle.std.specs.List.{flat_map}
use Rattle.rv_step.specs.Bytes.{bytes_of}
use Rattle.rv_step.specs.FlatMem.{ram_base}
use Rattle.elf_image.specs.declared.image.Image.{Image}
use Rattle.elf_image.specs.declared.piece.Piece.{Piece}

-- the bytes of some words, each low byte first
abbrev pub words_bytes : List ℕ → List ℕ
words_bytes words = flat_map (bytes_of 4) words

-- what identifies the file: the four bytes of ELF, 64-bit class, low byte first, version 1
abbrev pub identification : List ℕ
identification = 0x7f ∷ 0x45 ∷ 0x4c ∷ 0x46 ∷ 2 ∷ 1 ∷ 1 ∷ replicate 9 0

-- the file header: kind, machine, version, entry, place of program headers, place of section headers, flags,
-- size of this header, size and count of program headers, size, count and names of section headers
abbrev pub file_header : List ℕ
file_header =
    identification ++ bytes_of 2 2 ++ bytes_of 2 243 ++ bytes_of 4 1 ++ bytes_of 8 ram_base ++ bytes_of 8 64
    ++ bytes_of 8 0 ++ bytes_of 4 0 ++ bytes_of 2 64 ++ bytes_of 2 56 ++ bytes_of 2 1 ++ bytes_of 2 0
    ++ bytes_of 2 0 ++ bytes_of 2 0

-- the program header of a segment of so many bytes: type, flags, place in the file, virtual and physical address,
-- size in the file and in memory, alignment
abbrev pub segment_header : ℕ → List ℕ
segment_header size =
    bytes_of 4 1 ++ bytes_of 4 7 ++ bytes_of 8 120 ++ bytes_of 8 ram_base ++ bytes_of 8 ram_base ++ bytes_of 8 size
    ++ bytes_of 8 size ++ bytes_of 8 8

-- the ELF file of some words
abbrev pub elf_bytes : List ℕ → List ℕ
elf_bytes words = file_header ++ segment_header (4 * length words) ++ words_bytes words

-- the piece of a program's words, or none where there are none
abbrev pub program_pieces : List ℕ → List Piece
program_pieces [] = []
program_pieces (w ∷ ws) = record { addr = ram_base; bytes = words_bytes (w ∷ ws); zeros = 0 } ∷ []

-- the image that a program is: its words from RAM's first byte on, where it starts
abbrev pub program_image : List ℕ → Image
program_image words = record { entry = ram_base; pieces = program_pieces words }
