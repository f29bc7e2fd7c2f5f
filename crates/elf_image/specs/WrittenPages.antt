-- Which pages of RAM may hold bytes other than 0. Places are counted from RAM's first byte. This project's own rule.
use Rattle.std.specs.Prelude.{◌≡◌, ℕ, ◌/◌, Bool, false, List, slice_index, slice_index_or}
use Rattle.gc_base.specs.declared.limits.TheConstants.{PAGE}

-- the page of a place counts as written
abbrev pub is_written : List Bool → ℕ → Bool
is_written pages place = slice_index_or pages (place / PAGE) false

-- each byte outside the pages that count as written is zero
abbrev pub IsZeroOutside : List Bool → List ℕ → Type 0
IsZeroOutside pages ram = (place : ℕ) → is_written pages place ≡ false → slice_index ram place ≡ 0
