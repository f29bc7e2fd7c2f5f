-- Pieces that are loaded block by block: what a block, zeros that are passed over, and the end of a piece make of RAM.
use Rattle.std.proofs.Common.{◌≡◌, ◌≢◌, ◌⊎◌, ℕ, ◌+◌, ◌-◌, ◌/◌, ◌%◌, ◌<◌, ◌≤◌, refl, sym, ◌∙◌, ap, subst, inl, inr, arith, All, Bool, true, false, List, ◌++◌, Option, Some, None, length, take, drop, get_or, fold, replicate}
use Rattle.std.specs.Prelude.{slice_get, sum_by}
use Rattle.std.proofs.lemmas.List.{ext_get_or, get_or-replicate, get_or_past, get_or-take, get_or_append_left, get_or-append_right, get_or-drop, length-append, length-take, length-take-le, length-drop, length-replicate, take_all, take-replicate, drop-replicate, drop_at, drop-drop}
use Rattle.std.proofs.lemmas.List.Elements.{All-get_or, All-take}
use Rattle.std.proofs.lemmas.List.Sums.{fold_more, sum_by-drop_more}
use Rattle.std.proofs.lemmas.Option.{slice_get_within, get_or_from_slice_get, slice_get_cases}
use Rattle.std.proofs.lemmas.Bool.{cases_lt, both_ways}
use Rattle.gc_base.specs.declared.limits.TheConstants.{PAGE, RAM_MAX}
use Rattle.rv_step.specs.FlatMem.{ram_base, ram_put, zeroed}
use Rattle.elf_image.specs.Image.{LiesInRam}
use Rattle.elf_image.specs.Ram.{bytes_of_piece, with_piece, ram_of}
use Rattle.elf_image.specs.WrittenPages.{is_written}
use Rattle.elf_image.specs.Loading.{Loading, unloaded, with_front, ram_so_far, bytes_left, PutsBlock, SameRam, next_size, IsTracked}
use Rattle.elf_image.specs.declared.image.Image.{Image}
use Rattle.elf_image.specs.declared.piece.Piece.{Piece}
use Rattle.elf_image.proofs.RamLaws.{length-bytes_of_piece, length-ram_put, ram_put-nothing, ram_put-more, length-loaded}

-- the bytes with others at a place
abbrev put_at : List ℕ → ℕ → List ℕ → List ℕ
put_at m at bytes = take at m ++ bytes ++ drop (at + length bytes) m

-- they stand there
put_at-inside : (m : List ℕ) (at i : ℕ) (bytes : List ℕ) → at + length bytes ≤ length m → at ≤ i → i < at + length bytes
    → get_or (put_at m at bytes) i 0 ≡ get_or bytes (i - at) 0
put_at-inside m at i bytes fits least most =
    let front : List ℕ = take at m in
    let size : length front ≡ at = length-take-le at m (omega arith) in
    get_or_append_left (front ++ bytes) (drop (at + length bytes) m) 0 i (omega (arith, length-append front bytes))
    ∙ get_or-append_right front bytes at i 0 size least

-- and what stands before and behind them stays
put_at-outside : (m : List ℕ) (at i : ℕ) (bytes : List ℕ) → at + length bytes ≤ length m → (i < at) ⊎ (at + length bytes ≤ i)
    → get_or (put_at m at bytes) i 0 ≡ get_or m i 0
put_at-outside m at i bytes fits out =
    let front : List ℕ = take at m in
    let n : ℕ = at + length bytes in
    let size : length front ≡ at = length-take-le at m (omega arith) in
    let both : length (front ++ bytes) ≡ n = omega (arith, length-append front bytes) in
    elim out [
      | inl before ↦
          get_or_append_left (front ++ bytes) (drop n m) 0 i (omega arith) ∙ get_or_append_left front bytes 0 i (omega arith) ∙ get_or-take at m i 0 before
      | inr behind ↦
          let same : n + (i - n) ≡ i = omega arith in
          get_or-append_right (front ++ bytes) (drop n m) n i 0 both behind ∙ get_or-drop n m (i - n) 0 ∙ ap (λ (j : ℕ). get_or m j 0) same
    ]

-- zeros have no byte but zero
zeros_are_zero : (n i : ℕ) → ◌≡◌ {A = ℕ} (get_or (replicate n 0) i 0) 0
zeros_are_zero n i =
    let z : ℕ = 0 in
    elim (cases_lt i n) [
      | inl within ↦ get_or-replicate n i z z within
      | inr past ↦ get_or_past (replicate n z) i z (omega (arith, past, length-replicate n z))
    ]

-- zeros that are put where zeros are change nothing
put_at-zeros : (m : List ℕ) (at n : ℕ) → at + n ≤ length m → ((i : ℕ) → at ≤ i → i < at + n → get_or m i 0 ≡ 0)
    → put_at m at (replicate n 0) ≡ m
put_at-zeros m at n fits zeros =
    let bytes : List ℕ = replicate n 0 in
    let size : length bytes ≡ n = length-replicate n (let z : ℕ = 0 in z) in
    let front : length (take at m) ≡ at = length-take-le at m (omega arith) in
    let whole : length (put_at m at bytes) ≡ length m =
    omega (arith, length-append (take at m ++ bytes) (drop (at + length bytes) m), length-append (take at m) bytes, length-drop (at + length bytes) m) in
    let same : (i : ℕ) → get_or (put_at m at bytes) i 0 ≡ get_or m i 0 = λ i. elim (cases_lt i at) [
      | inl before ↦ put_at-outside m at i bytes (omega arith) (inl before)
      | inr least ↦ elim (cases_lt i (at + n)) [
        | inl most ↦
            let there : get_or (put_at m at bytes) i 0 ≡ get_or bytes (i - at) 0 = put_at-inside m at i bytes (omega arith) least (omega arith) in
            there ∙ zeros_are_zero n (i - at) ∙ sym (zeros i least most)
        | inr behind ↦ put_at-outside m at i bytes (omega arith) (inr (omega arith))
      ]
    ] in
    ext_get_or 0 (put_at m at bytes) m whole (λ i within. same i)

-- where no page is marked none counts as written
pub unmarked : (n i : ℕ) → get_or (replicate n false) i false ≡ false
unmarked n i = elim (cases_lt i n) [
  | inl within ↦ get_or-replicate n i false false within
  | inr past ↦ get_or_past (replicate n false) i false (omega (arith, past, length-replicate n false))
]

-- behind its own bytes a piece has zeros
zero_part : (p : Piece) (done k : ℕ) → length p.bytes ≤ done → done + k ≤ length (bytes_of_piece p) → take k (drop done (bytes_of_piece p)) ≡ replicate k 0
zero_part p done k own within =
    let z : ℕ = 0 in
    let n : ℕ = length p.bytes in
    let more : ℕ = done - n in
    let all : List ℕ = bytes_of_piece p in
    let apart : n + more ≡ done = omega arith in
    let behind : drop n all ≡ replicate p.zeros z = drop_at p.bytes (replicate p.zeros z) n refl in
    let left : drop done all ≡ replicate (p.zeros - more) z =
    ap (λ (i : ℕ). drop i all) (sym apart) ∙ sym (drop-drop more n all) ∙ ap (λ (xs : List ℕ). drop more xs) behind ∙ drop-replicate more p.zeros z in
    ap (λ (xs : List ℕ). take k xs) left ∙ take-replicate k (p.zeros - more) z (omega (arith, own, within, length-bytes_of_piece p))

-- so many zeros are those that come next
pub zeros_are_part : (p : Piece) (done k : ℕ) → length p.bytes ≤ done → done + k ≤ length (bytes_of_piece p)
    → replicate k 0 ≡ take (length (replicate {A = ℕ} k 0)) (drop done (bytes_of_piece p))
zeros_are_part p done k own within =
    let z : ℕ = 0 in
    sym (ap (λ (n : ℕ). take n (drop done (bytes_of_piece p))) (length-replicate k z) ∙ zero_part p done k own within)

-- a part of some bytes ends within them
pub part_within : (all part : List ℕ) (from : ℕ) → from ≤ length all → part ≡ take (length part) (drop from all) → from + length part ≤ length all
part_within all part from within is = omega (arith, within, ap length is, length-take (length part) (drop from all), length-drop from all)

-- a piece of which nothing is loaded leaves RAM as it is
with_front-nothing : (m : List ℕ) (o : Option Piece) → with_front m o 0 ≡ m
with_front-nothing m None = refl
with_front-nothing m (Some p) = ram_put-nothing m p.addr

-- RAM as it begins is zero
pub zeroed_is : (n : ℕ) → zeroed n ≡ replicate n 0
unfolding zeroed
zeroed_is n = refl

-- what all pieces make of it is the image's RAM
pub image_loaded : (image : Image) (ram : ℕ) → fold with_piece (zeroed ram) image.pieces ≡ ram_of image ram
image_loaded image ram = ap (λ (m : List ℕ). fold with_piece m image.pieces) (zeroed_is ram)

-- before the first block it is so
pub nothing_loaded : (pieces : List Piece) (ram : ℕ) → ram_so_far (unloaded pieces) ram ≡ zeroed ram
unfolding ram_so_far zeroed
nothing_loaded pieces ram = with_front-nothing (replicate ram 0) (slice_get pieces 0)

-- behind the last piece RAM is what all pieces make of it
pub all_loaded : (l : Loading) (ram : ℕ) → slice_get l.pieces l.whole ≡ None → ram_so_far l ram ≡ fold with_piece (zeroed ram) l.pieces
unfolding ram_so_far zeroed
all_loaded l ram none =
    let m : List ℕ = fold with_piece (replicate ram 0) (take l.whole l.pieces) in
    let past : length l.pieces ≤ l.whole = elim (slice_get_cases l.pieces l.whole).1 [
      | inl found ↦ absurd (cc (found.2, none))
      | inr behind ↦ behind.0
    ] in
    ap (λ (o : Option Piece). with_front m o l.done) none ∙ ap (λ (ps : List Piece). fold with_piece (replicate ram 0) ps) (take_all l.whole l.pieces past)

-- before the first block no byte is other than zero
pub tracked_start : (pieces : List Piece) (pages : List Bool) → All (LiesInRam RAM_MAX) pieces → IsTracked (unloaded pieces) pages
tracked_start pieces pages fits = record {
  fits = fits;
  within = omega arith;
  zero = λ ram _ place _. ap (λ (m : List ℕ). get_or m place 0) (nothing_loaded pieces ram ∙ zeroed_is ram) ∙ zeros_are_zero ram place;
}

-- where RAM stays the same, so do the pages that count as written
tracked_same : (l new : Loading) (pages : List Bool) → IsTracked l pages → new.pieces ≡ l.pieces → new.done ≤ next_size (slice_get new.pieces new.whole)
    → SameRam l new → IsTracked new pages
tracked_same l new pages t pieces within same = record {
  fits = subst (All (LiesInRam RAM_MAX)) (sym pieces) t.fits;
  within = within;
  zero = λ ram fits place unwritten.
      let old : All (LiesInRam ram) l.pieces = subst (All (LiesInRam ram)) pieces fits in
      ap (λ (m : List ℕ). get_or m place 0) (same ram old) ∙ t.zero ram old place unwritten;
}

module _ (l : Loading) (p : Piece) (next : slice_get l.pieces l.whole ≡ Some p) where
  -- some bytes of the next piece are loaded
  abbrev at : ℕ → Loading
  at n = record l { done = n }

  -- how many bytes are left then
  left_at : (n : ℕ) → bytes_left (at n) ≡ length (bytes_of_piece p) + sum_by (λ q. length (bytes_of_piece q)) (drop (l.whole + 1) l.pieces) - n
  unfolding bytes_left
  left_at n =
      let size : Piece → ℕ = λ q. length (bytes_of_piece q) in
      let first : get_or l.pieces l.whole p ≡ p = get_or_from_slice_get l.pieces l.whole p p next in
      let all : sum_by size (drop l.whole l.pieces) ≡ size p + sum_by size (drop (l.whole + 1) l.pieces) =
      sum_by-drop_more size l.pieces l.whole p (slice_get_within l.pieces l.whole p next) ∙ ap (λ (q : Piece). size q + sum_by size (drop (l.whole + 1) l.pieces)) first in
      ap (λ (i : ℕ). i - n) all

  -- fewer are left as more are loaded
  pub fewer_left : (n : ℕ) → l.done < n → n ≤ length (bytes_of_piece p) → bytes_left (at n) < bytes_left l
  fewer_left n more most = omega (arith, left_at n, left_at l.done)

  pub no_more_left : (n : ℕ) → l.done ≤ n → bytes_left (at n) ≤ bytes_left l
  no_more_left n more = omega (arith, left_at n, left_at l.done)

  -- and none fewer at the end of a piece
  pub left_behind : l.done ≡ length (bytes_of_piece p) → bytes_left (record l { whole = l.whole + 1; done = 0 }) ≡ bytes_left l
  unfolding bytes_left
  left_behind end = omega (arith, left_at l.done)

  module _ (ram : ℕ) (fits : All (LiesInRam ram) l.pieces) where
    -- RAM with the pieces before it
    abbrev before : List ℕ
    before = fold with_piece (replicate ram 0) (take l.whole l.pieces)

    before_size : length before ≡ ram
    before_size = length-loaded ram (replicate ram 0) (take l.whole l.pieces) (length-replicate ram (let z : ℕ = 0 in z)) (All-take (LiesInRam ram) l.whole l.pieces fits)

    -- it lies in RAM
    pub next_lies : LiesInRam ram p
    next_lies = subst (LiesInRam ram) (get_or_from_slice_get l.pieces l.whole p p next) (All-get_or (LiesInRam ram) l.pieces l.whole p (slice_get_within l.pieces l.whole p next) fits)

    ram_at : (n : ℕ) → ram_so_far (at n) ram ≡ ram_put before p.addr (take n (bytes_of_piece p))
    unfolding ram_so_far
    ram_at n = ap (λ (o : Option Piece). with_front before o n) next

    -- RAM has its size
    size_at : (n : ℕ) → n ≤ length (bytes_of_piece p) → length (ram_so_far (at n) ram) ≡ ram
    size_at n within =
        let few = length-take-le n (bytes_of_piece p) within in
        ap length (ram_at n)
        ∙ length-ram_put before p.addr (take n (bytes_of_piece p)) next_lies.above (omega (arith, few, before_size, next_lies.below, length-bytes_of_piece p)) ∙ before_size

    -- some of its bytes are put behind those that are loaded
    ram_more : (k : ℕ) → l.done + k ≤ length (bytes_of_piece p)
        → ram_so_far (at (l.done + k)) ram ≡ ram_put (ram_so_far l ram) (p.addr + l.done) (take k (drop l.done (bytes_of_piece p)))
    ram_more k within =
        let all : List ℕ = bytes_of_piece p in
        let few : k ≤ length (drop l.done all) = omega (arith, length-drop l.done all) in
        let more = ram_put-more before p.addr l.done k all next_lies.above (omega (arith, before_size, next_lies.below, length-bytes_of_piece p)) (omega arith) few in
        ram_at (l.done + k) ∙ sym more ∙ ap (λ (m : List ℕ). ram_put m (p.addr + l.done) (take k (drop l.done all))) (sym (ram_at l.done))

    -- zeros that are passed over change nothing where RAM is zero
    ram_skipped : (n : ℕ) → length p.bytes ≤ l.done → l.done ≤ n → n ≤ length (bytes_of_piece p)
        → ((place : ℕ) → p.addr - ram_base + l.done ≤ place → place < p.addr - ram_base + n → get_or (ram_so_far l ram) place 0 ≡ 0)
        → ram_so_far (at n) ram ≡ ram_so_far l ram
    ram_skipped n own least most zero =
        let k : ℕ = n - l.done in
        let all : List ℕ = bytes_of_piece p in
        let m : List ℕ = ram_so_far l ram in
        let place : ℕ = p.addr + l.done - ram_base in
        let same : l.done + k ≡ n = omega arith in
        let zeros : take k (drop l.done all) ≡ replicate k 0 = zero_part p l.done k own (omega arith) in
        let size = size_at l.done (omega arith) in
        let more : ram_so_far (at n) ram ≡ ram_put m (p.addr + l.done) (replicate k 0) =
        ap (λ (i : ℕ). ram_so_far (at i) ram) (sym same) ∙ ram_more k (omega arith) ∙ ap (λ (b : List ℕ). ram_put m (p.addr + l.done) b) zeros in
        more ∙ put_at-zeros m place k (omega (arith, size, next_lies.above, next_lies.below, length-bytes_of_piece p))
        (λ i low high. zero i (omega (arith, next_lies.above)) (omega (arith, next_lies.above)))

    -- a block of its bytes is a step
    pub puts : (address : ℕ) (bytes : List ℕ) → address ≡ p.addr + l.done → l.done ≤ length (bytes_of_piece p)
        → bytes ≡ take (length bytes) (drop l.done (bytes_of_piece p)) → PutsBlock ram address bytes l (at (l.done + length bytes))
    puts address bytes place within is =
        let all : List ℕ = bytes_of_piece p in
        let few = part_within all bytes l.done within is in
        let P : ℕ → Type 0 = λ a. ram_so_far (at (l.done + length bytes)) ram ≡ ram_put (ram_so_far l ram) a bytes in
        record {
          size = size_at l.done within;
          above = omega (arith, place, next_lies.above);
          below = omega (arith, place, few, next_lies.below, length-bytes_of_piece p);
          put = subst P (sym place) (ram_more (length bytes) few ∙ ap (λ (b : List ℕ). ram_put (ram_so_far l ram) (p.addr + l.done) b) (sym is));
        }

    -- behind its last byte the next piece is loaded whole
    passed : l.done ≡ length (bytes_of_piece p) → ram_so_far (record l { whole = l.whole + 1; done = 0 }) ram ≡ ram_so_far l ram
    unfolding ram_so_far
    passed end =
        let all : List ℕ = bytes_of_piece p in
        let zeros : List ℕ = replicate ram 0 in
        let whole : fold with_piece zeros (take (l.whole + 1) l.pieces) ≡ with_piece before p =
        fold_more with_piece zeros l.pieces l.whole p (slice_get_within l.pieces l.whole p next)
        ∙ ap (λ (q : Piece). with_piece before q) (get_or_from_slice_get l.pieces l.whole p p next) in
        let loaded : ram_so_far l ram ≡ with_piece before p =
        ram_at l.done ∙ ap (λ (b : List ℕ). ram_put before p.addr b) (take_all l.done all (omega (arith, end))) in
        with_front-nothing (fold with_piece zeros (take (l.whole + 1) l.pieces)) (slice_get l.pieces (l.whole + 1)) ∙ whole ∙ sym loaded

  -- some bytes of the next piece that are put keep the pages outside which RAM is zero: what they write outside the new ones
  -- is zero, and what they don't write was outside the old ones
  tracked_put : (pages new : List Bool) (k : ℕ) → IsTracked l pages → l.done + k ≤ length (bytes_of_piece p)
      → ((i : ℕ) → is_written new i ≡ false → p.addr + l.done - ram_base ≤ i → i < p.addr + l.done - ram_base + k
      → get_or (take k (drop l.done (bytes_of_piece p))) (i - (p.addr + l.done - ram_base)) 0 ≡ 0)
      → ((i : ℕ) → is_written new i ≡ false → (i < p.addr + l.done - ram_base) ⊎ (p.addr + l.done - ram_base + k ≤ i) → is_written pages i ≡ false)
      → IsTracked (at (l.done + k)) new
  tracked_put pages new k t few inside outside =
      let bytes : List ℕ = take k (drop l.done (bytes_of_piece p)) in
      let count : length bytes ≡ k = length-take-le k (drop l.done (bytes_of_piece p)) (omega (arith, few, length-drop l.done (bytes_of_piece p))) in
      let place : ℕ = p.addr + l.done - ram_base in
      record {
        fits = t.fits;
        within = omega (arith, few, ap next_size next);
        zero = λ ram fits i unwritten.
            let m : List ℕ = ram_so_far l ram in
            let put = ap (λ (x : List ℕ). get_or x i 0) (ram_more ram fits k few) in
            let size = size_at ram fits l.done (omega arith) in
            let lies = next_lies ram fits in
            let room : place + length bytes ≤ length m = omega (arith, count, few, size, lies.above, lies.below, length-bytes_of_piece p) in
            elim (cases_lt i place) [
              | inl low ↦ put ∙ put_at-outside m place i bytes room (inl low) ∙ t.zero ram fits i (outside i unwritten (inl low))
              | inr least ↦ elim (cases_lt i (place + k)) [
                | inl most ↦ put ∙ put_at-inside m place i bytes room least (omega arith) ∙ inside i unwritten least most
                | inr high ↦ put ∙ put_at-outside m place i bytes room (inr (omega arith)) ∙ t.zero ram fits i (outside i unwritten (inr high))
              ]
            ];
      }

  -- bytes in a page that is marked
  pub tracked_mark : (pages new : List Bool) (k : ℕ) → IsTracked l pages → l.done + k ≤ length (bytes_of_piece p)
      → k ≤ PAGE - (p.addr + l.done - ram_base) % PAGE
      → ((i : ℕ) → i / PAGE ≡ (p.addr + l.done - ram_base) / PAGE → is_written new i ≡ true)
      → ((i : ℕ) → i / PAGE ≢ (p.addr + l.done - ram_base) / PAGE → is_written new i ≡ is_written pages i)
      → IsTracked (at (l.done + k)) new
  tracked_mark pages new k t few short page others =
      let marked : (i : ℕ) → is_written new i ≡ false → i / PAGE ≢ (p.addr + l.done - ram_base) / PAGE =
      λ i unwritten here. both_ways (is_written new i) unwritten (page i here) in
      tracked_put pages new k t few
      (λ i unwritten least most. absurd (marked i unwritten (omega arith)))
      (λ i unwritten out. sym (others i (marked i unwritten)) ∙ unwritten)

  -- what stands behind a piece's own bytes is zero
  all_zero : (k i : ℕ) → length p.bytes ≤ l.done → l.done + k ≤ length (bytes_of_piece p) → get_or (take k (drop l.done (bytes_of_piece p))) i 0 ≡ 0
  all_zero k i own few = ap (λ (b : List ℕ). get_or b i 0) (zero_part p l.done k own few) ∙ zeros_are_zero k i

  -- zeros, where the pages stay as they are
  pub tracked_zeros : (pages : List Bool) (k : ℕ) → IsTracked l pages → l.done + k ≤ length (bytes_of_piece p) → length p.bytes ≤ l.done
      → IsTracked (at (l.done + k)) pages
  tracked_zeros pages k t few own =
      tracked_put pages pages k t few (λ i unwritten least most. all_zero k (i - (p.addr + l.done - ram_base)) own few) (λ i unwritten out. unwritten)

  -- zeros that fill a page, where that page is forgotten
  pub tracked_forget : (pages new : List Bool) (k : ℕ) → IsTracked l pages → l.done + k ≤ length (bytes_of_piece p) → length p.bytes ≤ l.done
      → k ≡ PAGE → k ≤ PAGE - (p.addr + l.done - ram_base) % PAGE
      → ((i : ℕ) → i / PAGE ≢ (p.addr + l.done - ram_base) / PAGE → is_written new i ≡ is_written pages i)
      → IsTracked (at (l.done + k)) new
  tracked_forget pages new k t few own full short others =
      tracked_put pages new k t few (λ i unwritten least most. all_zero k (i - (p.addr + l.done - ram_base)) own few)
      (λ i unwritten out. sym (others i (λ here. elim out [
        | inl low ↦ omega arith
        | inr high ↦ omega arith
      ])) ∙ unwritten)

  -- zeros that are passed over, in pages that don't count as written
  pub same_skipped : (pages : List Bool) (n : ℕ) → IsTracked l pages → length p.bytes ≤ l.done → l.done ≤ n → n ≤ length (bytes_of_piece p)
      → ((i : ℕ) → p.addr - ram_base + l.done ≤ i → i < p.addr - ram_base + n → is_written pages i ≡ false) → SameRam l (at n)
  same_skipped pages n t own least most unwritten = λ ram fits.
      ram_skipped ram fits n own least most (λ i low high. t.zero ram fits i (unwritten i low high))

  pub tracked_skipped : (pages : List Bool) (n : ℕ) → IsTracked l pages → length p.bytes ≤ l.done → l.done ≤ n → n ≤ length (bytes_of_piece p)
      → ((i : ℕ) → p.addr - ram_base + l.done ≤ i → i < p.addr - ram_base + n → is_written pages i ≡ false) → IsTracked (at n) pages
  tracked_skipped pages n t own least most unwritten =
      tracked_same l (at n) pages t refl (omega (arith, most, ap next_size next)) (same_skipped pages n t own least most unwritten)

  -- the end of a piece
  pub same_passed : l.done ≡ length (bytes_of_piece p) → SameRam l (record l { whole = l.whole + 1; done = 0 })
  same_passed end = λ ram fits. passed ram fits end

  pub tracked_passed : (pages : List Bool) → IsTracked l pages → l.done ≡ length (bytes_of_piece p) → IsTracked (record l { whole = l.whole + 1; done = 0 }) pages
  tracked_passed pages t end = tracked_same l (record l { whole = l.whole + 1; done = 0 }) pages t refl (omega arith) (same_passed end)

-- what is next in one state of loading is so in the same one
pub next_in : (l v : Loading) (p : Piece) → l ≡ v → slice_get v.pieces v.whole ≡ Some p → slice_get l.pieces l.whole ≡ Some p
next_in l v p same next = subst (λ (x : Loading). slice_get x.pieces x.whole ≡ Some p) (sym same) next

-- a step behind a state in which RAM is the same
pub puts_behind : (l mid new : Loading) (ram address : ℕ) (bytes : List ℕ) → ram_so_far mid ram ≡ ram_so_far l ram → PutsBlock ram address bytes mid new
    → PutsBlock ram address bytes l new
puts_behind l mid new ram address bytes same step = record {
  size = sym (ap length same) ∙ step.size;
  above = step.above;
  below = step.below;
  put = step.put ∙ ap (λ (m : List ℕ). ram_put m address bytes) same;
}
