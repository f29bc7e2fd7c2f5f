-- The header of an ELF file, and what is asked of it. ELF-64 object file format, "ELF header".
use Rattle.std.specs.Prelude.{ℕ, ◌+◌, ◌*◌, ◌%◌, ◌==◌, nat_eq, nat_lt, nat_le, not, ◌&&◌, ◌||◌, Bool, if◌then◌else◌, Option, Some, None, List, [], ◌∷◌, length, slice_index}
use Rattle.std.specs.List.{starts_with}
use Rattle.elf_image.specs.Field.{field}
use Rattle.elf_image.specs.declared.fault.ElfFault.{ElfFault}
use Rattle.elf_image.specs.declared.fault.ElfFault.TheVariants as faults

-- the file begins with the four bytes of ELF
abbrev pub is_elf : List ℕ → Bool
is_elf file = starts_with nat_eq file (0x7f ∷ 0x45 ∷ 0x4c ∷ 0x46 ∷ [])

-- the address at which execution starts
abbrev pub entry_of : List ℕ → ℕ
entry_of file = field file 24 8

-- the place of the table of program headers
abbrev pub table_of : List ℕ → ℕ
table_of file = field file 32 8

-- how many program headers there are
abbrev pub count_of : List ℕ → ℕ
count_of file = field file 56 2

-- there is no program header, or each has 56 bytes and the whole table lies in the file
abbrev pub has_sound_table : List ℕ → Bool
has_sound_table file =
    (count_of file == 0) || ((field file 54 2 == 56) && nat_le (table_of file + 56 * count_of file) (length file))

-- the first fault of the header: of its length, class, order of bytes, kind, machine, table, entry
abbrev pub header_fault : List ℕ → Option ElfFault
header_fault file =
    if nat_lt (length file) 64 then Some faults.Header
    else if not (slice_index file 4 == 2) then Some faults.Class
    else if not (slice_index file 5 == 1) then Some faults.Order
    else if not (field file 16 2 == 2) then Some faults.Kind
    else if not (field file 18 2 == 243) then Some faults.Machine
    else if not (has_sound_table file) then Some faults.Header
    else if not (entry_of file % 4 == 0) then Some faults.Header
    else None
