-- Program headers one after another, and what the search for a faulty one says of the others.
use Rattle.std.proofs.Common.{◌≡◌, ℕ, suc, ◌+◌, ◌-◌, ◌*◌, ◌<◌, ◌≤◌, refl, sym, ◌∙◌, ap, arith, Bool, true, false, cond, IsTrue, All, List, [], ◌∷◌, ◌++◌, length, drop, map, filter, Some, None, length-drop, append_assoc}
use Rattle.std.specs.List.{range_with_len, position_from}
use Rattle.std.proofs.lemmas.List.Elements.{All-nil, All-cons, All-head, All-tail, All-rest, All-same, All-weaker}
use Rattle.std.proofs.lemmas.List.{length-take-le}
use Rattle.std.proofs.lemmas.Grind.{common_steps}
use Rattle.std.proofs.lemmas.Bool.Decides.{nat_tests}
use Rattle.rv_step.specs.FlatMem.{ram_base}
use Rattle.elf_image.specs.Header.{table_of, count_of}
use Rattle.elf_image.specs.Segment.{program_header, program_headers, is_loaded, is_faulty, lies_in_file, lies_in_ram, faulty_segment, piece_of, pieces_of, HasWholeSegments}
use Rattle.elf_image.specs.Image.{LiesInRam}
use Rattle.elf_image.specs.declared.program_header.ProgramHeader.{ProgramHeader}
use Rattle.elf_image.specs.declared.piece.Piece.{Piece}

-- n program headers of a file, from the i-th on
abbrev pub headers_from : List ℕ → ℕ → ℕ → List ProgramHeader
headers_from file i n = map (λ k. program_header file (table_of file + 56 * k)) (range_with_len i n)

-- the pieces of those headers that are loaded
abbrev pub loaded : List ℕ → List ProgramHeader → List Piece
loaded file hs = map (piece_of file) (filter is_loaded hs)

-- the headers from the i-th on begin with it
pub headers_from-step : (file : List ℕ) (i n : ℕ) → i < n →
    headers_from file i (n - i) ≡ program_header file (table_of file + 56 * i) ∷ headers_from file (i + 1) (n - (i + 1))
headers_from-step file i n h =
    let e : n - i ≡ suc (n - (i + 1)) = omega arith in
    rw e refl

-- where no element passes a test, each fails it
pub position_from-none : {X : Type 0} (p : X → Bool) (k : ℕ) (xs : List X) → position_from p k xs ≡ None → All (λ x. p x ≡ false) xs
position_from-none {X} p k [] e = All-nil (λ x. p x ≡ false)
position_from-none {X} p k (x ∷ xs) e =
    let step : (b : Bool) → cond b (Some k) (position_from p (k + 1) xs) ≡ None → (b ≡ false) × (position_from p (k + 1) xs ≡ None) =
    λ b. elim b as (λ c. cond c (Some k) (position_from p (k + 1) xs) ≡ None → (c ≡ false) × (position_from p (k + 1) xs ≡ None)) [ true ↦ λ h. cc | false ↦ λ h. (refl, h) ] in
    let both = step (p x) e in
    All-cons (λ y. p y ≡ false) x xs both.0 (position_from-none p (k + 1) xs both.1)

-- a segment that isn't faulty fits where it is loaded
not_faulty : (file : List ℕ) (ram : ℕ) (h : ProgramHeader) → is_faulty file ram h ≡ false → is_loaded h ≡ true →
    (lies_in_file file h ≡ true) × (lies_in_ram ram h ≡ true)
not_faulty file ram h e l = (grind (arith, common_steps, nat_tests), grind (arith, common_steps, nat_tests))

-- where no segment is faulty, the bytes of each that is loaded lie in the file
pub whole_from_none : (file : List ℕ) (ram : ℕ) → faulty_segment file ram ≡ None → HasWholeSegments file
whole_from_none file ram e =
    All-weaker (λ h. is_faulty file ram h ≡ false) (λ h. IsTrue (is_loaded h) → IsTrue (lies_in_file file h))
    (λ h f l. (not_faulty file ram h f l).0) (program_headers file)
    (position_from-none (is_faulty file ram) 0 (program_headers file) e)

-- a segment that fits puts a piece into RAM
piece_in_ram : (file : List ℕ) (ram : ℕ) (h : ProgramHeader) → lies_in_file file h ≡ true → lies_in_ram ram h ≡ true → LiesInRam ram (piece_of file h)
piece_in_ram file ram h f r =
    let small : h.file_size ≤ h.memory_size = grind (arith, common_steps, nat_tests) in
    let inside : h.offset + h.file_size ≤ length file = grind (arith, common_steps, nat_tests) in
    let above : ram_base ≤ h.address = grind (arith, common_steps, nat_tests) in
    let below : h.address + h.memory_size ≤ ram_base + ram = grind (arith, common_steps, nat_tests) in
    let room = length-drop h.offset file in
    let long = length-take-le h.file_size (drop h.offset file) (omega arith) in
    record { above = above; below = omega arith }

-- the pieces of headers that aren't faulty lie in RAM
pub loaded_in_ram : (file : List ℕ) (ram : ℕ) (hs : List ProgramHeader) → All (λ h. is_faulty file ram h ≡ false) hs →
    All (LiesInRam ram) (loaded file hs)
loaded_in_ram file ram [] a = All-nil (LiesInRam ram)
loaded_in_ram file ram (h ∷ hs) a =
    let first = All-head (λ x. is_faulty file ram x ≡ false) h hs a in
    let rest = loaded_in_ram file ram hs (All-tail (λ x. is_faulty file ram x ≡ false) h hs a) in
    let step : (b : Bool) → is_loaded h ≡ b → All (LiesInRam ram) (map (piece_of file) (cond b (h ∷ filter is_loaded hs) (filter is_loaded hs))) =
    λ b. elim b as (λ v. is_loaded h ≡ v → All (LiesInRam ram) (map (piece_of file) (cond v (h ∷ filter is_loaded hs) (filter is_loaded hs)))) [
      | true ↦ λ l. let both = not_faulty file ram h first l in
          All-cons (LiesInRam ram) (piece_of file h) (loaded file hs) (piece_in_ram file ram h both.0 both.1) rest
      | false ↦ λ l. rest
    ] in
    step (is_loaded h) refl

-- an accepted ELF file's pieces lie in RAM
pub pieces_in_ram : (file : List ℕ) (ram : ℕ) → faulty_segment file ram ≡ None → All (LiesInRam ram) (pieces_of file)
pieces_in_ram file ram e =
    loaded_in_ram file ram (program_headers file) (position_from-none (is_faulty file ram) 0 (program_headers file) e)

-- the search has come to the i-th of n headers, and no header before it is faulty
pub record IsSearched (file : List ℕ) (ram i n : ℕ) : Type 0 where
  pub count : n ≡ count_of file
  pub same : position_from (is_faulty file ram) i (headers_from file i (n - i)) ≡ faulty_segment file ram

-- the search ends at a faulty header
pub search_found : (file : List ℕ) (ram i n : ℕ) (h : ProgramHeader) → i < n → h ≡ program_header file (table_of file + 56 * i) →
    is_faulty file ram h ≡ true → IsSearched file ram i n → Some i ≡ faulty_segment file ram
search_found file ram i n h lt e t s =
    let step = headers_from-step file i n lt in
    let here : is_faulty file ram (program_header file (table_of file + 56 * i)) ≡ true = sym (ap (is_faulty file ram) e) ∙ t in
    rw (step, here) at s.same

-- and goes on at another
pub search_goes_on : (file : List ℕ) (ram i n : ℕ) (h : ProgramHeader) → i < n → h ≡ program_header file (table_of file + 56 * i) →
    is_faulty file ram h ≡ false → IsSearched file ram i n → IsSearched file ram (i + 1) n
search_goes_on file ram i n h lt e t s =
    let step = headers_from-step file i n lt in
    let here : is_faulty file ram (program_header file (table_of file + 56 * i)) ≡ false = sym (ap (is_faulty file ram) e) ∙ t in
    record { count = s.count; same = rw (step, here) at s.same }

-- these pieces, and those of the headers from the i-th of n on, are the file's
pub record IsCollected (file : List ℕ) (pieces : List Piece) (i n : ℕ) : Type 0 where
  pub count : n ≡ count_of file
  pub whole : All (λ h. IsTrue (is_loaded h) → IsTrue (lies_in_file file h)) (headers_from file i (n - i))
  pub same : pieces ++ loaded file (headers_from file i (n - i)) ≡ pieces_of file

-- before the first header none is collected
pub collected_none : (file : List ℕ) (n : ℕ) → n ≡ count_of file → HasWholeSegments file → IsCollected file [] 0 n
collected_none file n e w =
    let all : n - 0 ≡ count_of file = omega arith in
    record { count = e; whole = rw all w; same = rw all refl }

-- the bytes of the next segment lie in the file
pub next_lies_in_file : (file : List ℕ) (pieces : List Piece) (i n : ℕ) (h : ProgramHeader) → i < n →
    h ≡ program_header file (table_of file + 56 * i) → is_loaded h ≡ true → IsCollected file pieces i n →
    (h.file_size ≤ h.memory_size) × (h.offset + h.file_size ≤ length file)
next_lies_in_file file pieces i n h lt e l s =
    let P : ProgramHeader → Type 0 = λ x. IsTrue (is_loaded x) → IsTrue (lies_in_file file x) in
    let next = program_header file (table_of file + 56 * i) in
    let rest = headers_from file (i + 1) (n - (i + 1)) in
    let here = All-head P next rest (All-same P (next ∷ rest) (headers_from file i (n - i)) (sym (headers_from-step file i n lt)) s.whole) in
    let moved : lies_in_file file h ≡ true = ap (lies_in_file file) e ∙ here (sym (ap is_loaded e) ∙ l) in
    (grind (arith, common_steps, nat_tests), grind (arith, common_steps, nat_tests))

-- the next segment, which is loaded, is collected
pub collected_loaded : (file : List ℕ) (pieces : List Piece) (i n : ℕ) (h : ProgramHeader) → i < n →
    h ≡ program_header file (table_of file + 56 * i) → is_loaded h ≡ true → IsCollected file pieces i n →
    IsCollected file (pieces ++ piece_of file h ∷ []) (i + 1) n
collected_loaded file pieces i n h lt e l s =
    let P : ProgramHeader → Type 0 = λ x. IsTrue (is_loaded x) → IsTrue (lies_in_file file x) in
    let next = program_header file (table_of file + 56 * i) in
    let rest = headers_from file (i + 1) (n - (i + 1)) in
    let step = headers_from-step file i n lt in
    let here : is_loaded next ≡ true = sym (ap is_loaded e) ∙ l in
    record {
      count = s.count;
      whole = All-rest P next rest (headers_from file i (n - i)) step s.whole;
      same = append_assoc pieces (piece_of file h ∷ []) (loaded file rest) ∙ rw e (rw (step, here) at s.same);
    }

-- the next segment, which isn't loaded, is passed over
pub collected_other : (file : List ℕ) (pieces : List Piece) (i n : ℕ) (h : ProgramHeader) → i < n →
    h ≡ program_header file (table_of file + 56 * i) → is_loaded h ≡ false → IsCollected file pieces i n →
    IsCollected file pieces (i + 1) n
collected_other file pieces i n h lt e l s =
    let P : ProgramHeader → Type 0 = λ x. IsTrue (is_loaded x) → IsTrue (lies_in_file file x) in
    let next = program_header file (table_of file + 56 * i) in
    let rest = headers_from file (i + 1) (n - (i + 1)) in
    let step = headers_from-step file i n lt in
    let here : is_loaded next ≡ false = sym (ap is_loaded e) ∙ l in
    record {
      count = s.count;
      whole = All-rest P next rest (headers_from file i (n - i)) step s.whole;
      same = rw (step, here) at s.same;
    }
