-- The segments of an ELF file: which are loaded, what is asked of them, what they put into memory.
-- ELF-64 object file format, "Program header table". That a segment lies in RAM is this project's own rule.
use Rattle.std.specs.Prelude.{ℕ, ◌+◌, ◌*◌, ◌-◌, ◌==◌, nat_lt, nat_le, not, ◌&&◌, Bool, IsTrue, All, List, map, filter, take, drop, length, Option}
use Rattle.std.specs.List.{range_with_len, position_from}
use Rattle.rv_step.specs.FlatMem.{ram_base}
use Rattle.elf_image.specs.Field.{field}
use Rattle.elf_image.specs.Header.{table_of, count_of}
use Rattle.elf_image.specs.declared.piece.Piece.{Piece}
use Rattle.elf_image.specs.declared.program_header.ProgramHeader.{ProgramHeader}

-- the program header at a place
abbrev pub program_header : List ℕ → ℕ → ProgramHeader
program_header file place = record {
  kind = field file place 4;
  offset = field file (place + 8) 8;
  address = field file (place + 24) 8;
  file_size = field file (place + 32) 8;
  memory_size = field file (place + 40) 8;
}

-- all program headers of a file, in order
abbrev pub program_headers : List ℕ → List ProgramHeader
program_headers file = map (λ i. program_header file (table_of file + 56 * i)) (range_with_len 0 (count_of file))

-- the segment goes to memory
abbrev pub is_loaded : ProgramHeader → Bool
is_loaded h = (h.kind == 1) && nat_lt 0 h.memory_size

-- its bytes are no more than its memory, and lie in the file
abbrev pub lies_in_file : List ℕ → ProgramHeader → Bool
lies_in_file file h = nat_le h.file_size h.memory_size && nat_le (h.offset + h.file_size) (length file)

-- its memory lies in RAM of so many bytes
abbrev pub lies_in_ram : ℕ → ProgramHeader → Bool
lies_in_ram ram h = nat_le ram_base h.address && nat_le (h.address + h.memory_size) (ram_base + ram)

-- both hold
abbrev pub fits : List ℕ → ℕ → ProgramHeader → Bool
fits file ram h = lies_in_file file h && lies_in_ram ram h

-- the segment is to be loaded and can't be
abbrev pub is_faulty : List ℕ → ℕ → ProgramHeader → Bool
is_faulty file ram h = is_loaded h && not (fits file ram h)

-- the bytes of each segment that is loaded lie in the file
abbrev pub HasWholeSegments : List ℕ → Type 0
HasWholeSegments file = All (λ h. IsTrue (is_loaded h) → IsTrue (lies_in_file file h)) (program_headers file)

-- the number of the first program header whose segment is to be loaded and can't be
abbrev pub faulty_segment : List ℕ → ℕ → Option ℕ
faulty_segment file ram = position_from (is_faulty file ram) 0 (program_headers file)

-- what a segment puts into memory: its bytes, and zeros up to its size
abbrev pub piece_of : List ℕ → ProgramHeader → Piece
piece_of file h = record {
  addr = h.address;
  bytes = take h.file_size (drop h.offset file);
  zeros = h.memory_size - h.file_size;
}

-- the pieces of all segments that are loaded, in the order of their headers
abbrev pub pieces_of : List ℕ → List Piece
pieces_of file = map (piece_of file) (filter is_loaded (program_headers file))
