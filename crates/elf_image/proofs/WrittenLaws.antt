-- What is written for a program reads back as the program.
use Rattle.std.proofs.Common.{◌≡◌, ℕ, zero, suc, ◌+◌, ◌-◌, ◌*◌, ◌/◌, ◌^◌, ◌<◌, ◌≤◌, refl, sym, ◌∙◌, ap, arith, true, false, cond, nat_le, nat_lt, List, [], ◌∷◌, length, take, map, filter, Some, None, Ok}
use Rattle.std.proofs.Math.Nat.{pow-suc}
use Rattle.std.proofs.Math.Seq.{take-length}
use Rattle.std.proofs.lemmas.Grind.{common_steps}
use Rattle.std.proofs.lemmas.Bool.Decides.{nat_tests}
use Rattle.rv_step.specs.Bytes.{number, bytes_of}
use Rattle.rv_step.specs.FlatMem.{ram_base}
use Rattle.elf_image.specs.Header.{header_fault}
use Rattle.elf_image.specs.Segment.{program_header, is_loaded, is_faulty, faulty_segment, piece_of, pieces_of}
use Rattle.elf_image.specs.Image.{image_of}
use Rattle.elf_image.specs.Written.{words_bytes, elf_bytes, program_image, program_pieces}
use Rattle.elf_image.specs.declared.program_header.ProgramHeader.{ProgramHeader}

-- k low bytes of a number that fits them spell it
number-bytes_of : (k n : ℕ) → n < 256 ^ k → number (bytes_of k n) ≡ n
number-bytes_of zero n h = omega arith
number-bytes_of (suc k) n h =
    let p = pow-suc 256 k in
    let rest = number-bytes_of k (n / 256) (omega arith) in
    omega arith

-- a word has four bytes
length-words_bytes : (words : List ℕ) → length (words_bytes words) ≡ 4 * length words
length-words_bytes [] = refl
length-words_bytes (w ∷ ws) = let rest = length-words_bytes ws in omega arith

length-elf_bytes : (words : List ℕ) → length (elf_bytes words) ≡ 120 + 4 * length words
length-elf_bytes words = let rest = length-words_bytes words in omega arith

-- the header that is written has no fault
header_is_sound : (words : List ℕ) → header_fault (elf_bytes words) ≡ None
header_is_sound words =
    let size = length-elf_bytes words in
    let long : nat_lt (length (elf_bytes words)) 64 ≡ false = grind (arith, nat_tests) in
    let table : nat_le 120 (length (elf_bytes words)) ≡ true = grind (arith, nat_tests) in
    rw (long, table) refl

-- the one program header that is written
abbrev written_header : ℕ → ProgramHeader
written_header n = record { kind = 1; offset = 120; address = ram_base; file_size = n; memory_size = n }

header_of_written : (words : List ℕ) → 4 * length words < 2 ^ 64 → program_header (elf_bytes words) 64 ≡ written_header (4 * length words)
header_of_written words h = ap written_header (number-bytes_of 8 (4 * length words) h)

-- its segment fits where its words do
written_fits : (words : List ℕ) (ram : ℕ) → 4 * length words ≤ ram → is_faulty (elf_bytes words) ram (written_header (4 * length words)) ≡ false
written_fits words ram h =
    let size = length-elf_bytes words in
    let file : nat_le (120 + 4 * length words) (length (elf_bytes words)) ≡ true = grind (arith, nat_tests) in
    let same : nat_le (4 * length words) (4 * length words) ≡ true = grind (arith, nat_tests) in
    let room : nat_le (ram_base + 4 * length words) (ram_base + ram) ≡ true = grind (arith, nat_tests) in
    grind (arith, common_steps, nat_tests, file, same, room)

-- no segment of it is faulty
none_is_faulty : (words : List ℕ) (ram : ℕ) → 4 * length words < 2 ^ 64 → 4 * length words ≤ ram → faulty_segment (elf_bytes words) ram ≡ None
none_is_faulty words ram s h =
    let e = header_of_written words s in
    let sound : is_faulty (elf_bytes words) ram (program_header (elf_bytes words) 64) ≡ false = ap (is_faulty (elf_bytes words) ram) e ∙ written_fits words ram h in
    ap (λ b. cond b (Some 0) None) sound

-- the bytes of its segment are the words
written_words : (words : List ℕ) → take (4 * length words) (words_bytes words) ≡ words_bytes words
written_words words =
    ap (λ k. take k (words_bytes words)) (sym (length-words_bytes words)) ∙ take-length (words_bytes words)

-- its segment puts the words at RAM's first byte
piece_of_written : (words : List ℕ) →
    piece_of (elf_bytes words) (written_header (4 * length words)) ≡ record { addr = ram_base; bytes = words_bytes words; zeros = 0 }
piece_of_written words =
    let n = 4 * length words in
    let left : n - n ≡ 0 = omega arith in
    rw (written_words words, left) refl

-- its pieces are the words
pieces_of_written : (words : List ℕ) → 4 * length words < 2 ^ 64 → pieces_of (elf_bytes words) ≡ program_pieces words
pieces_of_written [] s = refl
pieces_of_written (w ∷ ws) s =
    let n = 4 * length (w ∷ ws) in
    let some : nat_lt 0 n ≡ true = grind (arith, nat_tests) in
    let one = ap (λ b. map (piece_of (elf_bytes (w ∷ ws))) (cond b (written_header n ∷ []) [])) some in
    ap (λ h. map (piece_of (elf_bytes (w ∷ ws))) (filter is_loaded (h ∷ []))) (header_of_written (w ∷ ws) s)
    ∙ (one ∙ ap (λ p. p ∷ []) (piece_of_written (w ∷ ws)))

-- the file of words that fit in RAM is the image of the words
pub reads_back : (words : List ℕ) (ram : ℕ) → ram < 2 ^ 32 → 4 * length words ≤ ram → image_of (elf_bytes words) ram ≡ Ok (program_image words)
reads_back words ram s h =
    let small : 4 * length words < 2 ^ 64 = omega arith in
    let sound = header_is_sound words in
    let fits = none_is_faulty words ram small h in
    let pieces = pieces_of_written words small in
    rw (sound, fits, pieces) refl
